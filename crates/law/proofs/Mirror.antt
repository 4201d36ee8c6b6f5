-- What a list of calls does to a bench of banks, a list of calls does to what is seen of it. Assumes nothing.
use Rattle.std.proofs.Common.{◌≡◌, ℕ, zero, suc, ◌≤◌, Bool, true, false, cond, not, ◌&&◌, eqb, ltb, List, [], ◌∷◌, ◌++◌, sym, refl, ap, ◌∙◌, subst, ap₂, arith, ltb-false, ne_eqb, le-leb}
use Rattle.bus.specs.declared.Symbol.{Symbol}
use Rattle.bus.specs.declared.Turn.{Turn}
use Rattle.bus.specs.declared.Turn.TheVariants.{Free}
use Rattle.history.specs.Contest.{turn_after, Follows, Polite}
use Rattle.bus.specs.Turns.{next, legal, busy, bus}
use Rattle.masters.specs.Standings.{Standing, placed, withdrawn, collected}
use Rattle.bus.proofs.Slots.{free_turn}
use Rattle.law.proofs.One.{all_waits, waits}
use Rattle.law.proofs.One as one
use Rattle.law.proofs.OneLaw as one-law
use Rattle.law.proofs.OneSlot.{Sound, sound_moved, always_legal}
use Rattle.law.proofs.OneServed.{sound_call, one_of}
use Rattle.bus.specs.Banks.{Bank, All}
use Rattle.bus.proofs.Banks.{all_alter, alter_same, alter_none}
use Rattle.orders.specs.declared.order.Order.{Order}
use Rattle.masters.specs.Master as m
use Rattle.masters.specs.Master.{Master, somebody_waits}
use Rattle.orders.specs.Fills.{order_of}
use Rattle.orders.proofs.Parts.{lawful_is}
use Rattle.slaves.specs.Slave as s
use Rattle.slaves.specs.Slave.{Slave, Told, Well, befallen, settle, replies}
use Rattle.law.specs.Model.{Model, carried, moved, resting, Slot, slot, run_slots, ran}
use Rattle.law.specs.Calls.{Call, Place, Withdraw, Tell, Step, Run, Collect, does, moves, final, slots, symbols_of}
use Rattle.law.specs.Law.{WithoutPlace, WithoutCollect}
use Rattle.law.proofs.Views.{standings, view, MasterAt, SlaveAt, At, alter_view, nobody_view, bank_polite, well_heard, well_tell, at_tell, carried_view, at_moved, moved_view}

pub record Good (t : Turn) (w : Model) : Type 0 where
  pub at : At t w
  pub well : All Well w.slaves
  pub sound : Sound (view t w)

-- slots as they are seen
abbrev pub see : Turn → Slot → one.Slot
see t s = record { before = view t s.before; symbol = s.symbol; after = view (next t s.symbol) s.after }

abbrev pub seen : Turn → List Slot → List one.Slot
seen t [] = []
seen t (s ∷ ss) = see t s ∷ seen (next t s.symbol) ss

abbrev pub on_to : Turn → List Slot → Turn
on_to t ss = turn_after bus t (symbols_of ss)

-- slots that lead to v, and how they are seen
pub record Mirrors (t : Turn) (ss : List Slot) (v : Model) (ss' : List one.Slot) (b : one.Bench) : Type 0 where
  pub same_slots : seen t ss ≡ ss'
  pub same_bench : view (on_to t ss) v ≡ b
  pub follows : Follows bus t (symbols_of ss)
  pub good : Good (on_to t ss) v

-- no slot is moved
still : (t : Turn) (v : Model) (b : one.Bench) → view t v ≡ b → At t v → All Well v.slaves → Sound b → Mirrors t [] v [] b
still t v b e a w s = record { same_slots = refl; same_bench = e; follows = tt; good = record { at = a; well = w; sound = subst Sound (sym e) s } }

unmoved : (t : Turn) (w : Model) → Good t w → Mirrors t [] w [] (view t w)
unmoved t w g = record { same_slots = refl; same_bench = refl; follows = tt; good = g }

-- one slot
-- the slot that a bench moves next is one that the turns allow
pub slot_allowed : (t : Turn) (w : Model) → Good t w → legal t (carried w) ≡ true
slot_allowed t w g = subst (λ (x : Symbol). legal t x ≡ true) (sym (carried_view t w g.at)) (always_legal (view t w) g.sound)

see_slot : (t : Turn) (w : Model) → Good t w → see t (slot w) ≡ one.slot (view t w)
see_slot t w g = λ i. record { before = view t w; symbol = carried_view t w g.at i; after = moved_view t w g.at (slot_allowed t w g) i }

good_moved : (t : Turn) (w : Model) → Good t w → Good (next t (carried w)) (moved w)
good_moved t w g = record {
  at = at_moved t w g.at;
  well = well_heard t (carried w) (slot_allowed t w g) w.slaves g.at.1 g.well;
  sound = subst Sound (sym (moved_view t w g.at (slot_allowed t w g))) (sound_moved (view t w) g.sound);
}

-- somebody waits while a contest is under way
pub busy_waits : (t : Turn) (w : Model) → Good t w → busy t ≡ true → 1 ≤ all_waits (standings w.masters)
busy_waits t w g e =
    let h = g.sound.held e in
    omega (arith, one_of (standings w.masters) h.0, ap waits h.2)

rest_view : (t : Turn) (w : Model) → Good t w → resting w ≡ one.at_rest (view t w)
rest_view t w g = go (busy t) refl
  where
    go : (v : Bool) → busy t ≡ v → resting w ≡ not v && eqb (all_waits (standings w.masters)) 0
    go false e = nobody_view w.masters
    go true e = nobody_view w.masters ∙ ne_eqb (all_waits (standings w.masters)) 0 (λ z. omega (arith, busy_waits t w g e))

-- a run
mirror_run : (n : ℕ) (t : Turn) (w : Model) → Good t w → Mirrors t (run_slots n w) (ran n w) (one.run_slots n (view t w)) (one.ran n (view t w))
mirror_run zero t w g = unmoved t w g
mirror_run (suc n) t w g =
    subst
    (λ (v : Bool). Mirrors t (run_slots (suc n) w) (ran (suc n) w) (cond v [] (one.slot b ∷ one.run_slots n (one.moved b))) (cond v b (one.ran n (one.moved b))))
    (rest_view t w g)
    (go (resting w) (subst (λ (b : one.Bench). Mirrors (next t (carried w)) (run_slots n (moved w)) (ran n (moved w)) (one.run_slots n b) (one.ran n b)) (moved_view t w g.at (slot_allowed t w g)) (mirror_run n (next t (carried w)) (moved w) (good_moved t w g))))
  where
    b : one.Bench
    b = view t w

    go : (v : Bool) → Mirrors (next t (carried w)) (run_slots n (moved w)) (ran n (moved w)) (one.run_slots n (one.moved b)) (one.ran n (one.moved b))
        → Mirrors t (cond v [] (slot w ∷ run_slots n (moved w))) (cond v w (ran n (moved w))) (cond v [] (one.slot b ∷ one.run_slots n (one.moved b))) (cond v b (one.ran n (one.moved b)))
    go true ih = unmoved t w g
    go false ih = record { same_slots = ap₂ (λ (s : one.Slot) (ss : List one.Slot). s ∷ ss) (see_slot t w g) ih.same_slots; same_bench = ih.same_bench; follows = (slot_allowed t w g, ih.follows); good = ih.good }

-- a call
pub record Mirrored (t : Turn) (w : Model) (c : Call) : Type 0 where
  pub call : one.Call
  pub mirrors : Mirrors t (moves c w) (does c w) (one.call_slots (view t w) call) (one.after_call (view t w) call)
  pub no_place : (cs : List Call) (ds : List one.Call) → WithoutPlace (c ∷ cs) → (WithoutPlace cs → one-law.WithoutPlace ds) → one-law.WithoutPlace (call ∷ ds)
  pub no_collect : (i : ℕ) (cs : List Call) (ds : List one.Call) → WithoutCollect i (c ∷ cs) → (WithoutCollect i cs → one-law.WithoutCollect i ds) → one-law.WithoutCollect i (call ∷ ds)

-- a call that does nothing
abbrev nothing : one.Call
nothing = one.run 1000

alter_id : (i : ℕ) (ms : List Standing) → one.alter (λ (st : Standing). st) i ms ≡ ms
alter_id i [] = refl
alter_id zero (st ∷ ms) = refl
alter_id (suc i) (st ∷ ms) = ap (λ (l : List Standing). st ∷ l) (alter_id i ms)

mirror_place : (n : ℕ) (o : Order) (t : Turn) (w : Model) → Good t w → Mirrored t w (Place n o)
mirror_place n o t w g =
    let c = one.place n (order_of o) (lawful_is (order_of o) o.kept) in
    let b = one.after_call (view t w) c in
    let e : view t (does (Place n o) w) ≡ b =
    λ i. record { turn = t; masters = alter_view (MasterAt t) (m.placing (order_of o)) (placed (order_of o)) (λ k h. refl) n w.masters g.at.0 i; rule = replies w.slaves } in
    record {
      call = c;
      mirrors = still t (does (Place n o) w) b e (all_alter (MasterAt t) (m.placing (order_of o)) (λ k h. h) n w.masters g.at.0, g.at.1) g.well (sound_call c (view t w) g.sound);
      no_place = λ cs ds h k. absurd h;
      no_collect = λ i cs ds h k. k h;
    }

mirror_withdraw : (n : ℕ) (t : Turn) (w : Model) → Good t w → Mirrored t w (Withdraw n)
mirror_withdraw n t w g = record {
  call = one.withdraw n;
  mirrors = still t v b (e ∙ go (busy t)) (all_alter (MasterAt t) m.withdrawing (λ k h. h) n w.masters g.at.0, g.at.1) g.well (sound_call (one.withdraw n) (view t w) g.sound);
  no_place = λ cs ds h k. k h;
  no_collect = λ i cs ds h k. k h;
}
  where
    v : Model
    v = does (Withdraw n) w

    b : one.Bench
    b = one.after_call (view t w) (one.withdraw n)

    ms : List Standing
    ms = standings w.masters

    e : view t v ≡ one.with_masters (view t w) (one.alter (λ (st : Standing). cond (busy t) st (withdrawn st)) n ms)
    e = λ i. record {
      turn = t;
      masters =
          alter_view (MasterAt t) m.withdrawing (λ (st : Standing). cond (busy t) st (withdrawn st)) (λ k h. ap (λ (u : Turn). cond (busy u) k.standing (withdrawn k.standing)) h) n w.masters g.at.0
          i;
      rule = replies w.slaves;
    }

    go : (p : Bool) → one.with_masters (view t w) (one.alter (λ (st : Standing). cond p st (withdrawn st)) n ms) ≡ cond p (view t w) (one.with_masters (view t w) (one.alter withdrawn n ms))
    go true = ap (one.with_masters (view t w)) (alter_id n ms)
    go false = refl

mirror_collect : (n size : ℕ) (t : Turn) (w : Model) → Good t w → Mirrored t w (Collect n size)
mirror_collect n size t w g = go (ltb size 32) refl
  where
    v : Model
    v = does (Collect n size) w

    ms : List Standing
    ms = standings w.masters

    at : At t v
    at = (all_alter (MasterAt t) (m.collecting size) (λ k h. h) n w.masters g.at.0, g.at.1)

    e : (p : Bool) → ltb size 32 ≡ p → view t v ≡ one.with_masters (view t w) (one.alter (λ (st : Standing). cond p st (collected st)) n ms)
    e p q = λ i. record {
      turn = t;
      masters =
          alter_view (MasterAt t) (m.collecting size) (λ (st : Standing). cond p st (collected st)) (λ k h. ap (λ (u : Bool). cond u k.standing (collected k.standing)) q) n w.masters g.at.0
          i;
      rule = replies w.slaves;
    }

    go : (p : Bool) → ltb size 32 ≡ p → Mirrored t w (Collect n size)
    go true q = record {
      call = nothing;
      mirrors = still t v (view t w) (e true q ∙ ap (one.with_masters (view t w)) (alter_id n ms)) at g.well g.sound;
      no_place = λ cs ds h k. k h;
      no_collect = λ i cs ds h k. k h.1;
    }
    go false q = record {
      call = one.collect n;
      mirrors = still t v (one.after_call (view t w) (one.collect n)) (e false q) at g.well (sound_call (one.collect n) (view t w) g.sound);
      no_place = λ cs ds h k. k h;
      no_collect = λ i cs ds h k. (h.0, k h.1);
    }

mirror_tell : (n p b : ℕ) (t : Turn) (w : Model) → Good t w → Mirrored t w (Tell n p b)
mirror_tell n p b t w g = go (busy t) refl
  where
    v : Model
    v = does (Tell n p b) w

    at : At t v
    at = (g.at.0, at_tell t n p b w.slaves g.at.1)

    well : All Well v.slaves
    well = well_tell n p b w.slaves g.well

    deaf : busy t ≡ true → s.tell n p b w.slaves ≡ w.slaves
    deaf e =
        alter_same (SlaveAt t) (settle p b) (λ k. k) (λ k h. ap (λ (u : Bool). cond u k (cond (ltb p k.size) (befallen (Told p b) k) k)) (ap busy h ∙ e)) n w.slaves g.at.1
        ∙ alter_none (λ k. k) (λ k. refl) n w.slaves

    go : (u : Bool) → busy t ≡ u → Mirrored t w (Tell n p b)
    go true e = record {
      call = nothing;
      mirrors = still t v (view t w) (ap (λ (ss : Bank Slave). view t (record { masters = w.masters; slaves = ss })) (deaf e)) at well g.sound;
      no_place = λ cs ds h k. k h;
      no_collect = λ i cs ds h k. k h;
    }
    go false e =
        let r = replies v.slaves in
        let polite : Polite bus Free r = subst (λ (u : Turn). Polite bus u r) (free_turn t e) (bank_polite t v.slaves at.1 well) in
        let c = one.tell r polite in
        record {
          call = c;
          mirrors = still t v (one.after_call (view t w) c) (sym (ap (λ (u : Bool). cond u (view t w) (one.with_rule (view t w) r)) e)) at well (sound_call c (view t w) g.sound);
          no_place = λ cs ds h k. k h;
          no_collect = λ i cs ds h k. k h;
        }

mirror_step : (t : Turn) (w : Model) → Good t w → Mirrored t w Step
mirror_step t w g = record {
  call = one.step;
  mirrors = record { same_slots = ap (λ (s : one.Slot). s ∷ []) (see_slot t w g); same_bench = moved_view t w g.at (slot_allowed t w g); follows = (slot_allowed t w g, tt); good = good_moved t w g };
  no_place = λ cs ds h k. k h;
  no_collect = λ i cs ds h k. k h;
}

mirror_runs : (n left : ℕ) (t : Turn) (w : Model) → Good t w → Mirrored t w (Run n left)
mirror_runs n left t w g = record {
  call = call (ltb 999 n) (ltb left n);
  mirrors = go (ltb 999 n) (ltb left n) refl;
  no_place = λ cs ds h k. placeless (ltb 999 n) (ltb left n) ds (k h);
  no_collect = λ i cs ds h k. collectless (ltb 999 n) (ltb left n) i ds (k h);
}
  where
    b : one.Bench
    b = view t w

    call : Bool → Bool → one.Call
    call true q = nothing
    call false true = nothing
    call false false = one.run n

    go : (p q : Bool) → ltb 999 n ≡ p → Mirrors t (cond p [] (cond q [] (run_slots n w))) (cond p w (cond q w (ran n w))) (one.call_slots b (call p q)) (one.after_call b (call p q))
    go true q e = unmoved t w g
    go false true e = unmoved t w g
    go false false e =
        subst (λ (u : Bool). Mirrors t (run_slots n w) (ran n w) (cond u (one.run_slots n b) []) (cond u (one.ran n b) b)) (sym (le-leb n 999 (ltb-false 999 n e))) (mirror_run n t w g)

    placeless : (p q : Bool) (ds : List one.Call) → one-law.WithoutPlace ds → one-law.WithoutPlace (call p q ∷ ds)
    placeless true q ds h = h
    placeless false true ds h = h
    placeless false false ds h = h

    collectless : (p q : Bool) (i : ℕ) (ds : List one.Call) → one-law.WithoutCollect i ds → one-law.WithoutCollect i (call p q ∷ ds)
    collectless true q i ds h = h
    collectless false true i ds h = h
    collectless false false i ds h = h

pub mirror_call : (c : Call) (t : Turn) (w : Model) → Good t w → Mirrored t w c
mirror_call (Place n o) t w g = mirror_place n o t w g
mirror_call (Withdraw n) t w g = mirror_withdraw n t w g
mirror_call (Tell n p b) t w g = mirror_tell n p b t w g
mirror_call Step t w g = mirror_step t w g
mirror_call (Run n left) t w g = mirror_runs n left t w g
mirror_call (Collect n size) t w g = mirror_collect n size t w g

-- lists of slots
pub seen_append : (xs ys : List Slot) (t : Turn) → seen t (xs ++ ys) ≡ seen t xs ++ seen (on_to t xs) ys
seen_append [] ys t = refl
seen_append (s ∷ xs) ys t = ap (λ (l : List one.Slot). see t s ∷ l) (seen_append xs ys (next t s.symbol))

pub on_to_append : (xs ys : List Slot) (t : Turn) → on_to t (xs ++ ys) ≡ on_to (on_to t xs) ys
on_to_append [] ys t = refl
on_to_append (s ∷ xs) ys t = on_to_append xs ys (next t s.symbol)

follows_append : (xs ys : List Slot) (t : Turn) → Follows bus t (symbols_of xs) → Follows bus (on_to t xs) (symbols_of ys) → Follows bus t (symbols_of (xs ++ ys))
follows_append [] ys t f g = g
follows_append (s ∷ xs) ys t f g = (f.0, follows_append xs ys (next t s.symbol) f.1 g)

-- a list of calls
pub record Mirror (t : Turn) (w : Model) (cs : List Call) : Type 0 where
  pub calls : List one.Call
  pub mirrors : Mirrors t (slots w cs) (final w cs) (one.slots (view t w) calls) (one.final (view t w) calls)
  pub no_place : WithoutPlace cs → one-law.WithoutPlace calls
  pub no_collect : (i : ℕ) → WithoutCollect i cs → one-law.WithoutCollect i calls

join : (t : Turn) (xs ys : List Slot) (v u : Model) (b : one.Bench) (xs' : List one.Slot) (cs : List one.Call)
    → Mirrors t xs v xs' b → Mirrors (on_to t xs) ys u (one.slots (view (on_to t xs) v) cs) (one.final (view (on_to t xs) v) cs)
    → Mirrors t (xs ++ ys) u (xs' ++ one.slots b cs) (one.final b cs)
join t xs ys v u b xs' cs k l = record {
  same_slots =
      seen_append xs ys t ∙ ap₂ (λ (p q : List one.Slot). p ++ q) k.same_slots l.same_slots ∙ ap (λ (b : one.Bench). xs' ++ one.slots b cs) k.same_bench;
  same_bench = ap (λ (t : Turn). view t u) (on_to_append xs ys t) ∙ l.same_bench ∙ ap (λ (b : one.Bench). one.final b cs) k.same_bench;
  follows = follows_append xs ys t k.follows l.follows;
  good = subst (λ (t : Turn). Good t u) (sym (on_to_append xs ys t)) l.good;
}

pub mirror : (cs : List Call) (t : Turn) (w : Model) → Good t w → Mirror t w cs
mirror [] t w g = record { calls = []; mirrors = unmoved t w g; no_place = λ h. h; no_collect = λ i h. h }
mirror (c ∷ cs) t w g =
    let k = mirror_call c t w g in
    let l = mirror cs (on_to t (moves c w)) (does c w) k.mirrors.good in
    record {
      calls = k.call ∷ l.calls;
      mirrors = join t (moves c w) (slots (does c w) cs) (does c w) (final (does c w) cs) (one.after_call (view t w) k.call) (one.call_slots (view t w) k.call) l.calls k.mirrors l.mirrors;
      no_place = λ h. k.no_place cs l.calls h l.no_place;
      no_collect = λ i h. k.no_collect i cs l.calls h (l.no_collect i);
    }
