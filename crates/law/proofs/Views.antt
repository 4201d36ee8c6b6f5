-- A bench of banks seen as one turn, a list of standings and one reply rule. Assumes nothing.
use Rattle.std.proofs.Common.{◌≡◌, ℕ, zero, suc, ◌+◌, ◌≤◌, Bool, true, false, cond, not, ◌||◌, eqb, ltb, List, [], ◌∷◌, ◌++◌, map, Some, None, Option, sym, refl, ap, ◌∙◌, subst, arith, ne_eqb}
use mathlib.Core.Path.{fun_ext}
use mathlib.Core.List.{map-append}
use Rattle.bus.specs.declared.Symbol.{Symbol}
use Rattle.bus.specs.declared.Symbol.TheVariants.{One}
use Rattle.bus.specs.declared.Turn.{Turn}
use Rattle.bus.specs.declared.Turn.TheVariants.{Free}
use Rattle.history.specs.Marks.{least}
use Rattle.history.specs.Contest.{Rule, on, turn_after, Polite, stays}
use mathlib.Core.Option as maybe
use Rattle.scripts.specs.Scripts.{offer}
use Rattle.bus.proofs.Slots.{slaves_legal, slaves_bits}
use Rattle.history.specs.Contest as game
use Rattle.bus.specs.Symbols.{symbols, rank, is_bit, is_stop}
use Rattle.bus.specs.Turns.{next, masters_slot, legal, busy, bus}
use Rattle.masters.specs.Standings.{Contender, keeps, becomes, hears, hears_as, Standing, idle, waiting, contending, answered, contender_in, offered, is_waiting}
use Rattle.law.proofs.One.{least_offer, waits, all_waits}
use Rattle.law.proofs.One as one
use Rattle.history.proofs.General.{least_left}
use Rattle.law.proofs.OneBanks.{polite_both, least_offer_append, all_waits_append, alter_left, alter_right}
use Rattle.bus.specs.Banks.{Bank, Single, Both, each, All, least_of, beyond, alter, listed}
use Rattle.bus.proofs.Banks.{all_each, all_made, all_alter, Lies, lies}
use Rattle.masters.specs.Master as m
use Rattle.masters.specs.Master.{Master, offers, somebody_waits}
use Rattle.slaves.specs.Slave as s
use Rattle.slaves.specs.Slave.{Slave, Event, Heard, Freed, Told, Well, Meek, befallen, settle, replies, turns_after, Follows}
use Rattle.law.specs.Model.{Model, assembled, carried, moved}
use Rattle.law.specs.Law.{waiting_in}

abbrev pub standings : Bank Master → List Standing
standings ms = listed (λ (m : Master). m.standing) ms

abbrev pub view : Turn → Model → one.Bench
view t w = record { turn = t; masters = standings w.masters; rule = replies w.slaves }

abbrev pub MasterAt : Turn → Master → Type 0
MasterAt t k = k.turn ≡ t

abbrev pub SlaveAt : Turn → Slave → Type 0
SlaveAt t k = k.turn ≡ t

-- all count the turns alike
abbrev pub At : Turn → Model → Type 0
At t w = All (MasterAt t) w.masters × All (SlaveAt t) w.slaves

-- the masters
offers_view : (t : Turn) (ms : Bank Master) → All (MasterAt t) ms → m.offered ms ≡ least_offer t (standings ms)
offers_view t (Single k) e =
    ap (λ (u : Turn). offered (contender_in u k.standing)) e
    ∙ sym (least_left symbols (offered (contender_in t k.standing)) One (symbols.greatest (offered (contender_in t k.standing))))
offers_view t (Both a b) e =
    ap (λ (x : Symbol). least symbols x (m.offered b)) (offers_view t a e.0)
    ∙ ap (λ (x : Symbol). least symbols (least_offer t (standings a)) x) (offers_view t b e.1)
    ∙ sym (least_offer_append t (standings a) (standings b))

-- of a symbol that the turns allow, a master makes what the contest does
same_keeps : (t : Turn) (x a : Symbol) → legal t x ≡ true → keeps t x a ≡ stays bus t x a
same_keeps t x a ok = go (masters_slot t) refl
  where
    go : (b : Bool) → masters_slot t ≡ b → cond b (eqb (rank a) (rank x)) (is_bit x) ≡ cond b (eqb (rank a) (rank x)) true
    go true e = refl
    go false e = slaves_legal t x e ok

same_hears : (t : Turn) (x : Symbol) (st : Standing) → legal t x ≡ true → hears t x st ≡ one.hears t x st
same_hears t x st ok = go (contender_in t st)
  where
    go : (o : maybe.Option Contender) → hears_as t x o st ≡ one.told t x o st
    go maybe.none = refl
    go (maybe.some k) = ap (λ (b : Bool). becomes b (is_stop x) k x) (same_keeps t x (offer k.progress.todo) ok)

heard_view : (t : Turn) (x : Symbol) → legal t x ≡ true → (ms : Bank Master) → All (MasterAt t) ms → standings (each (m.heard x) ms) ≡ map (one.hears t x) (standings ms)
heard_view t x ok (Single k) e = ap (λ (u : Turn). hears u x k.standing ∷ []) e ∙ ap (λ (st : Standing). st ∷ []) (same_hears t x k.standing ok)
heard_view t x ok (Both a b) e =
    ap (λ (l : List Standing). l ++ standings (each (m.heard x) b)) (heard_view t x ok a e.0)
    ∙ ap (λ (l : List Standing). map (one.hears t x) (standings a) ++ l) (heard_view t x ok b e.1)
    ∙ sym (map-append (one.hears t x) (standings a) (standings b))

-- one master altered
module _ (P : Master → Type 0) (f : Master → Master) (g : Standing → Standing) (same : (k : Master) → P k → (f k).standing ≡ g k.standing) where
  pub alter_view : (n : ℕ) (ms : Bank Master) → All P ms → standings (alter f n ms) ≡ one.alter g n (standings ms)
  alter_view zero (Single k) h = ap (λ (st : Standing). st ∷ []) (same k h)
  alter_view (suc n) (Single k) h = refl
  alter_view n (Both a b) h = go (beyond n a) (lies (λ (m : Master). m.standing) n a) (alter_view n a h.0) (λ k. alter_view k b h.1)
    where
      go : (o : Option ℕ) → Lies (λ (m : Master). m.standing) n a o → standings (alter f n a) ≡ one.alter g n (standings a)
          → ((k : ℕ) → standings (alter f k b) ≡ one.alter g k (standings b))
          → standings (elim o [ None ↦ Both (alter f n a) b | Some k ↦ Both a (alter f k b) ]) ≡ one.alter g n (standings a ++ standings b)
      go None i l r = ap (λ (v : List Standing). v ++ standings b) l ∙ sym (alter_left g n (standings a) (standings b) i)
      go (Some k) i l r =
          ap (λ (v : List Standing). standings a ++ v) (r k) ∙ sym (alter_right g k (standings a) (standings b))
          ∙ ap (λ (j : ℕ). one.alter g j (standings a ++ standings b)) (sym i)

-- who waits
count_one : (st : Standing) → cond (is_waiting st) 1 0 ≡ waits st
count_one idle = refl
count_one (waiting k) = refl
count_one (contending k) = refl
count_one (answered a) = refl

pub waiting_view : (ms : Bank Master) → waiting_in ms ≡ all_waits (standings ms)
waiting_view (Single k) = let e = count_one k.standing in omega arith
waiting_view (Both a b) = omega (arith, waiting_view a, waiting_view b, all_waits_append (standings a) (standings b))

-- a test and the number that it tests
abbrev Tells : Bool → ℕ → Type 0
Tells true n = 1 ≤ n
Tells false n = n ≡ 0

tells_one : (st : Standing) → Tells (is_waiting st) (waits st)
tells_one idle = refl
tells_one (waiting k) = omega arith
tells_one (contending k) = omega arith
tells_one (answered a) = refl

tells_either : (p q : Bool) (m n : ℕ) → Tells p m → Tells q n → Tells (p || q) (m + n)
tells_either true q m n h k = omega arith
tells_either false true m n h k = omega arith
tells_either false false m n h k = omega arith

tells_waits : (ms : Bank Master) → Tells (somebody_waits ms) (waiting_in ms)
tells_waits (Single k) = subst (Tells (is_waiting k.standing)) (sym (count_one k.standing)) (tells_one k.standing)
tells_waits (Both a b) = tells_either (somebody_waits a) (somebody_waits b) (waiting_in a) (waiting_in b) (tells_waits a) (tells_waits b)

tells_test : (p : Bool) (n : ℕ) → Tells p n → not p ≡ eqb n 0
tells_test true n h = sym (ne_eqb n 0 (λ z. omega arith))
tells_test false n h = rw h

-- nobody waits
pub nobody_view : (ms : Bank Master) → not (somebody_waits ms) ≡ eqb (all_waits (standings ms)) 0
nobody_view ms = tells_test (somebody_waits ms) (waiting_in ms) (tells_waits ms) ∙ ap (λ (n : ℕ). eqb n 0) (waiting_view ms)

pub somebody_true : (ms : Bank Master) → 1 ≤ all_waits (standings ms) → somebody_waits ms ≡ true
somebody_true ms h = go (somebody_waits ms) (tells_waits ms)
  where
    go : (p : Bool) → Tells p (waiting_in ms) → p ≡ true
    go true k = refl
    go false k = absurd (omega (arith, waiting_view ms))

-- the slaves
least_of_each : {X : Type 0} (f : X → Symbol) (g : X → X) (b : Bank X) → least_of f (each g b) ≡ least_of (λ x. f (g x)) b
least_of_each f g (Single x) = refl
least_of_each f g (Both a b) =
    ap (λ (x : Symbol). least symbols x (least_of f (each g b))) (least_of_each f g a)
    ∙ ap (λ (x : Symbol). least symbols (least_of (λ x. f (g x)) a) x) (least_of_each f g b)

replies_view : (x : Symbol) (ss : Bank Slave) → replies (each (befallen (Heard x)) ss) ≡ on x (replies ss)
replies_view x ss = fun_ext (λ (l : List Symbol). least_of_each (λ (s : Slave). s.reply (map Heard l)) (befallen (Heard x)) ss)

follows_heard : (l : List Symbol) (t : Turn) → game.Follows bus t l → Follows t (map Heard l)
follows_heard [] t f = tt
follows_heard (x ∷ l) t f = (f.0, follows_heard l (next t x) f.1)

turns_heard : (l : List Symbol) (t : Turn) → turns_after t (map Heard l) ≡ turn_after bus t l
turns_heard [] t = refl
turns_heard (x ∷ l) t = turns_heard l (next t x)

well_polite : (t : Turn) (k : Slave) → k.turn ≡ t → Well k → Polite bus t (λ (l : List Symbol). k.reply (map Heard l))
well_polite t k e w = record {
  quiet = λ l f o. rw o at (meek l f);
  sound = λ l f o. slaves_bits (turn_after bus t l) (k.reply (map Heard l)) o (rw o at (meek l f));
}
  where
    meek : (l : List Symbol) → game.Follows bus t l → Meek (masters_slot (turn_after bus t l)) (k.reply (map Heard l))
    meek l f =
        subst (λ (u : Turn). Meek (masters_slot u) (k.reply (map Heard l)))
        (ap (λ (u : Turn). turns_after u (map Heard l)) e ∙ turns_heard l t)
        (w (map Heard l) (subst (λ (u : Turn). Follows u (map Heard l)) (sym e) (follows_heard l t f)))

pub bank_polite : (t : Turn) (ss : Bank Slave) → All (SlaveAt t) ss → All Well ss → Polite bus t (replies ss)
bank_polite t (Single k) e w = well_polite t k e w
bank_polite t (Both a b) e w = polite_both bus t (replies a) (replies b) (bank_polite t a e.0 w.0) (bank_polite t b e.1 w.1)

pub well_heard : (t : Turn) (x : Symbol) → legal t x ≡ true → (ss : Bank Slave) → All (SlaveAt t) ss → All Well ss → All Well (each (befallen (Heard x)) ss)
well_heard t x h (Single k) e w = λ l f. w (Heard x ∷ l) (subst (λ (u : Turn). legal u x ≡ true) (sym e) h, f)
well_heard t x h (Both a b) e w = (well_heard t x h a e.0 w.0, well_heard t x h b e.1 w.1)

pub well_freed : (ss : Bank Slave) → All Well ss → All Well (each (befallen Freed) ss)
well_freed ss w = all_each Well Well (befallen Freed) (λ k h l f. h (Freed ∷ l) (tt, f)) ss w

well_settle : (p b : ℕ) (k : Slave) → Well k → Well (settle p b k)
well_settle p b k w = go (busy k.turn) (ltb p k.size) refl
  where
    go : (v u : Bool) → busy k.turn ≡ v → Well (cond v k (cond u (befallen (Told p b) k) k))
    go true u e = w
    go false true e = λ l f. w (Told p b ∷ l) (e, f)
    go false false e = w

pub well_tell : (n p b : ℕ) (ss : Bank Slave) → All Well ss → All Well (s.tell n p b ss)
well_tell n p b ss w = all_alter Well (settle p b) (well_settle p b) n ss w

settle_turn : (p b : ℕ) (k : Slave) → (settle p b k).turn ≡ k.turn
settle_turn p b k = go (busy k.turn) (ltb p k.size)
  where
    go : (v u : Bool) → (cond v k (cond u (befallen (Told p b) k) k)).turn ≡ k.turn
    go true u = refl
    go false true = refl
    go false false = refl

pub at_tell : (t : Turn) (n p b : ℕ) (ss : Bank Slave) → All (SlaveAt t) ss → All (SlaveAt t) (s.tell n p b ss)
at_tell t n p b ss e = all_alter (SlaveAt t) (settle p b) (λ k h. settle_turn p b k ∙ h) n ss e

-- a slot
pub carried_view : (t : Turn) (w : Model) → At t w → carried w ≡ one.carried (view t w)
carried_view t w e = ap (λ (x : Symbol). least symbols (s.offered w.slaves) x) (offers_view t w.masters e.0)

pub at_moved : (t : Turn) (w : Model) → At t w → At (next t (carried w)) (moved w)
at_moved t w e =
    let x = carried w in (
      all_each (MasterAt t) (MasterAt (next t x)) (m.heard x) (λ k h. ap (λ (u : Turn). next u x) h) w.masters e.0,
      all_each (SlaveAt t) (SlaveAt (next t x)) (befallen (Heard x)) (λ k h. ap (λ (u : Turn). next u x) h) w.slaves e.1,
    )

abbrev shifted : Turn → Model → Symbol → one.Bench
shifted t w x = record { turn = next t x; masters = map (one.hears t x) (standings w.masters); rule = on x (replies w.slaves) }

pub moved_view : (t : Turn) (w : Model) → At t w → legal t (carried w) ≡ true → view (next t (carried w)) (moved w) ≡ one.moved (view t w)
moved_view t w e ok =
    let x = carried w in
    let here : view (next t x) (moved w) ≡ shifted t w x = λ i. record { turn = next t x; masters = heard_view t x ok w.masters e.0 i; rule = replies_view x w.slaves i } in
    here ∙ ap (shifted t w) (carried_view t w e)

pub at_first : (ms : Bank Master) (ss : Bank Slave) → At Free (assembled ms ss)
at_first ms ss = (all_made (MasterAt Free) m.freed (λ k. refl) ms, all_made (SlaveAt Free) (befallen Freed) (λ k. refl) ss)
