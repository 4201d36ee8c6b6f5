-- Finished contests are fair. Assumes nothing.
use Rattle.std.proofs.Common.{◌≡◌, ℕ, zero, suc, Bool, true, false, cond, leb, ◌⊎◌, List, [], ◌∷◌, ◌++◌, map, get_or, replicate, sym, refl, ap, ◌∙◌, subst, ap₂, inl, inr, arith}
use mathlib.Core.Path.{subst₃, fun_ext}
use mathlib.Core.Option.{Option, none, some}
use borrow.Author.Tests.{clash}
use Rattle.history.specs.Marks.{Less}
use Rattle.history.specs.Contest.{Rule, on, stays, Survives, Polite, Then, Alone, heard, Contest, Fair}
use Rattle.bus.specs.declared.Symbol.{Symbol}
use Rattle.bus.specs.declared.Symbol.TheVariants.{Start, One}
use Rattle.bus.specs.Symbols.{symbols, is_stop}
use Rattle.bus.specs.declared.Turn.{Turn}
use Rattle.bus.specs.declared.Turn.TheVariants.{Free}
use Rattle.bus.specs.Turns.{next, busy, bus}
use Rattle.orders.specs.Orders.{Order, Lawful}
use Rattle.orders.specs.declared.Outcome.{Outcome}
use Rattle.scripts.specs.Scripts.{begin, offer, after, script, answer}
use Rattle.masters.specs.Standings.{Request, Contender, Standing, idle, waiting, contending, answered, starting, contender_in, lost, becomes, placed, withdrawn, collected}
use Rattle.bus.proofs.Slots.{free_turn}
use Rattle.law.proofs.One.{Bench, hears, carried, moved, Call, place, withdraw, tell, step, run, collect, alter, with_masters, with_rule, at_rest, ran, after_call, Slot, slot, run_slots, call_slots, slots, assembled}
use Rattle.scripts.specs.Alone.{AloneHistory, answer_of}
use Rattle.law.proofs.OneLaw.{Closes, ended, Finished, FairContest}
use Rattle.history.proofs.General.{fair}
use Rattle.scripts.proofs.Tells.{tells}
use Rattle.law.proofs.OneSlot.{at, Holds, Sound, Somebody, family, as_script, as_script_is, staked_is, staked_free, staked_busy, hears_staked, hears_unstaked, at_moved, slot_carried, fair_start, onward, goes_on, sound_moved, somebody, nobody_high}

-- a standing that a call other than step and run may leave, while a contest is under way
abbrev pub Rests : Standing → Type 0
Rests idle = Unit {0}
Rests (waiting w) = Unit {0}
Rests (contending k) = ⊥
Rests (answered a) = Unit {0}

abbrev pub Kept : Standing → Standing → Type 0
Kept idle st' = Rests st'
Kept (waiting w) st' = st' ≡ waiting w
Kept (contending k) st' = st' ≡ contending k
Kept (answered a) st' = Rests st'

kept_refl : (st : Standing) → Kept st st
kept_refl idle = tt
kept_refl (waiting w) = refl
kept_refl (contending k) = refl
kept_refl (answered a) = tt

rests_kept : (st st' : Standing) → Rests st → Kept st st' → Rests st'
rests_kept idle st' r k = k
rests_kept (waiting w) st' r k = rw k tt
rests_kept (contending q) st' r k = absurd r
rests_kept (answered a) st' r k = k

kept_trans : (st st' st'' : Standing) → Kept st st' → Kept st' st'' → Kept st st''
kept_trans idle st' st'' k h = rests_kept st' st'' k h
kept_trans (waiting w) st' st'' k h = rw k at h
kept_trans (contending q) st' st'' k h = rw k at h
kept_trans (answered a) st' st'' k h = rests_kept st' st'' k h

-- what stands between two slots: calls that move none
pub record Quiet (b b' : Bench) : Type 0 where
  pub sound : Sound b → Sound b'
  pub same_turn : b'.turn ≡ b.turn
  pub same_rule : busy b.turn ≡ true → b'.rule ≡ b.rule
  pub kept : busy b.turn ≡ true → (i : ℕ) → Kept (at b i) (at b' i)

pub quiet_refl : (b : Bench) → Quiet b b
quiet_refl b = record { sound = λ s. s; same_turn = refl; same_rule = λ e. refl; kept = λ e i. kept_refl (at b i) }

pub quiet_trans : (b b' b'' : Bench) → Quiet b b' → Quiet b' b'' → Quiet b b''
quiet_trans b b' b'' q q' = record {
  sound = λ s. q'.sound (q.sound s);
  same_turn = q'.same_turn ∙ q.same_turn;
  same_rule = λ e. q'.same_rule (ap busy q.same_turn ∙ e) ∙ q.same_rule e;
  kept = λ e i. kept_trans (at b i) (at b' i) (at b'' i) (q.kept e i) (q'.kept (ap busy q.same_turn ∙ e) i);
}

-- the slots follow one another from the bench on
abbrev pub Linked : Bench → List Slot → Type 0
Linked b [] = Unit {0}
Linked b (s ∷ ss) = (b' : Bench) × Quiet b b' × (s ≡ slot b') × Linked (moved b') ss

-- the family after a slot
still_none : (t : Turn) (st : Standing) (t' : Turn) → busy t' ≡ true → contender_in t st ≡ none → contender_in t' st ≡ none
still_none t idle t' e n = refl
still_none t (waiting w) t' e n = staked_busy t' w e
still_none t (contending k) t' e n = n
still_none t (answered a) t' e n = refl

follow : (t : Turn) (x : Symbol) (t' : Turn) (st : Standing) → busy t' ≡ true → is_stop x ≡ false → as_script (contender_in t' (hears t x st)) ≡ heard bus t x (as_script (contender_in t st))
follow t x t' st e p = go (contender_in t st) refl
  where
    by : (k : Contender) (a : Bool) → as_script (contender_in t' (becomes a false k x)) ≡ cond a (some (on x (script k.progress))) none
    by k true = refl
    by k false = ap as_script (staked_busy t' (lost k.request) e)

    go : (o : Option Contender) → contender_in t st ≡ o → as_script (contender_in t' (hears t x st)) ≡ heard bus t x (as_script o)
    go none q = ap (λ (st : Standing). as_script (contender_in t' st)) (hears_unstaked t x st q) ∙ ap as_script (still_none t st t' e q)
    go (some k) q =
        ap (λ (st : Standing). as_script (contender_in t' st)) (hears_staked t x st k q ∙ ap (λ (v : Bool). becomes (stays bus t x (offer k.progress.todo)) v k x) p)
        ∙ by k (stays bus t x (offer k.progress.todo))

rests_family : (t : Turn) (st : Standing) → busy t ≡ true → Rests st → contender_in t st ≡ none
rests_family t idle e r = refl
rests_family t (waiting w) e r = staked_busy t w e
rests_family t (contending k) e r = absurd r
rests_family t (answered a) e r = refl

kept_family : (t : Turn) (st st' : Standing) → busy t ≡ true → Kept st st' → contender_in t st' ≡ contender_in t st
kept_family t idle st' e k = rests_family t st' e k
kept_family t (waiting w) st' e k = rw k
kept_family t (contending q) st' e k = rw k
kept_family t (answered a) st' e k = rests_family t st' e k

-- the family at the next slot
family_next : (b b' : Bench) → Quiet (moved b) b' → busy (next b.turn (carried b)) ≡ true → is_stop (carried b) ≡ false → (i : ℕ) → family b' i ≡ heard bus b.turn (carried b) (family b i)
family_next b b' q e p i =
    let t' = next b.turn (carried b) in
    ap (λ (t : Turn). as_script (contender_in t (at b' i))) q.same_turn
    ∙ ap as_script (kept_family t' (at (moved b) i) (at b' i) e (q.kept e i))
    ∙ ap (λ (st : Standing). as_script (contender_in t' st)) (at_moved b i)
    ∙ follow b.turn (carried b) t' (at b i) e p

abbrev symbols_of : List Slot → List Symbol
symbols_of ss = map (λ (s : Slot). s.symbol) ss

-- somebody at the next slot
somebody_next : (b b' : Bench) → Quiet (moved b) b' → Sound b → busy (next b.turn (carried b)) ≡ true → Somebody b'
somebody_next b b' q s e =
    let w = (q.sound (sound_moved b s)).held (ap busy q.same_turn ∙ e) in
    (w.0, w.1, rw w.2 refl)

contest_move : (t t' : Turn) (cs cs' : ℕ → Option (Rule Symbol)) (r r' : Rule Symbol) (h h' : List Symbol)
    → t ≡ t' → ((i : ℕ) → cs i ≡ cs' i) → r ≡ r' → h ≡ h' → Contest bus t cs r h → Contest bus t' cs' r' h'
contest_move t t' cs cs' r r' h h' et ec er eh c =
    subst (λ (g : List Symbol). Contest bus t' cs' r' g) eh
    (subst₃ (λ (t : Turn) (cs : ℕ → Option (Rule Symbol)) (r : Rule Symbol). Contest bus t cs r h) et (fun_ext ec) er c)

closes_last : (s : Slot) → Closes (s ∷ []) → is_stop s.symbol ≡ true
closes_last s c = go (is_stop s.symbol) c
  where
    go : (v : Bool) → Then bus v (◌≡◌ {A = List Slot} [] []) ⊥ → v ≡ true
    go true e = refl
    go false e = absurd e

closes_more : (s s' : Slot) (rest : List Slot) → Closes (s ∷ s' ∷ rest) → (is_stop s.symbol ≡ false) × Closes (s' ∷ rest)
closes_more s s' rest c = go (is_stop s.symbol) c
  where
    go : (v : Bool) → Then bus v ((s' ∷ rest) ≡ []) (Closes (s' ∷ rest)) → (v ≡ false) × Closes (s' ∷ rest)
    go true e = absurd (let z : ◌≡◌ {A = ℕ} 0 1 = cc in omega arith)
    go false d = (refl, d)

-- from a slot of a contest that is not its last to the next
record Next (b : Bench) (s' : Slot) (rest later : List Slot) : Type 0 where
  bench : Bench
  quiet : Quiet (moved b) bench
  is : s' ≡ slot bench
  linked : Linked (moved bench) (rest ++ later)
  going : is_stop (carried b) ≡ false
  under_way : busy (next b.turn (carried b)) ≡ true
  sound : Sound bench
  somebody : Somebody bench
  closes : Closes (slot bench ∷ rest)

next_slot : (b : Bench) (s' : Slot) (rest later : List Slot) → Sound b → Somebody b → Closes (slot b ∷ s' ∷ rest) → Linked (moved b) ((s' ∷ rest) ++ later) → Next b s' rest later
next_slot b s' rest later s w c l =
    let d = closes_more (slot b) s' rest c in
    let e = goes_on b s w d.0 in
    record {
      bench = l.0;
      quiet = l.1;
      is = l.2;
      linked = l.3;
      going = d.0;
      under_way = e;
      sound = l.1.sound (sound_moved b s);
      somebody = somebody_next b l.0 l.1 s e;
      closes = subst (λ (s : Slot). Closes (s ∷ rest)) l.2 d.1;
    }

-- the slots of a contest are a contest of the family
contest_of : (rest : List Slot) (b : Bench) (later : List Slot) → Sound b → Somebody b → Closes (slot b ∷ rest) → Linked (moved b) (rest ++ later)
    → Contest bus b.turn (family b) b.rule (carried b ∷ symbols_of rest)
contest_of [] b later s w c l = (slot_carried b, rw (closes_last (slot b) c) refl)
contest_of (s' ∷ rest) b later s w c l =
    let n = next_slot b s' rest later s w c l in
    let h = contest_of rest n.bench later n.sound n.somebody n.closes n.linked in
    let h' = contest_move n.bench.turn (next b.turn (carried b)) (family n.bench) (λ i. heard bus b.turn (carried b) (family b i)) n.bench.rule (on (carried b) b.rule)
    (carried n.bench ∷ symbols_of rest) (symbols_of (s' ∷ rest))
    n.quiet.same_turn (family_next b n.bench n.quiet n.under_way n.going) (n.quiet.same_rule n.under_way) (ap (λ (s : Slot). s.symbol ∷ symbols_of rest) (sym n.is)) h in
    (slot_carried b, rw n.going h')

kept_waiting : (st st' : Standing) (w : Request) → Kept st st' → st ≡ waiting w → st' ≡ waiting w
kept_waiting st st' w k e = rw e at k

kept_contending : (st st' : Standing) (q : Contender) → Kept st st' → st ≡ contending q → st' ≡ contending q
kept_contending st st' q k e = rw e at k

-- who waits while a contest is under way waits on to its end
rest_waits : (rest : List Slot) (b : Bench) (later : List Slot) → Sound b → Somebody b → busy b.turn ≡ true → Closes (slot b ∷ rest) → Linked (moved b) (rest ++ later)
    → (i : ℕ) (v : Request) → at b i ≡ waiting v → at (ended (slot b) rest) i ≡ waiting v
rest_waits [] b later s w e c l i v q = at_moved b i ∙ hears_unstaked b.turn (carried b) (at b i) (rw q (staked_busy b.turn v e)) ∙ q
rest_waits (s' ∷ rest) b later s w e c l i v q =
    let n = next_slot b s' rest later s w c l in
    let after-it : at (moved b) i ≡ waiting v = at_moved b i ∙ hears_unstaked b.turn (carried b) (at b i) (rw q (staked_busy b.turn v e)) ∙ q in
    ap (λ (s : Slot). at (ended s rest) i) n.is
    ∙ rest_waits rest n.bench later n.sound n.somebody (ap busy n.quiet.same_turn ∙ n.under_way) n.closes n.linked i v
    (kept_waiting (at (moved b) i) (at n.bench i) v (n.quiet.kept n.under_way i) after-it)

-- how a contender comes out
abbrev Fares : (t : Turn) (k : Contender) (h : List Symbol) (st : Standing) → Type 0
Fares t k h st =
    (Survives bus t (script k.progress) h × (st ≡ answered (answer k.request.losses (after k.progress h))))
    ⊎ ((¬ Survives bus t (script k.progress) h) × (st ≡ waiting (lost k.request)))

pub after_slot : (b : Bench) (i : ℕ) (k : Contender) (a p : Bool) → contender_in b.turn (at b i) ≡ some k → stays bus b.turn (carried b) (offer k.progress.todo) ≡ a → is_stop (carried b) ≡ p
    → at (moved b) i ≡ becomes a p k (carried b)
after_slot b i k a p q ea ep =
    at_moved b i ∙ hears_staked b.turn (carried b) (at b i) k q ∙ ap (λ (a : Bool). becomes a (is_stop (carried b)) k (carried b)) ea ∙ ap (λ (p : Bool). becomes a p k (carried b)) ep

outcome_move : (t t' : Turn) (k : Contender) (h h' : List Symbol) (st st' : Standing) → t ≡ t' → h ≡ h' → st ≡ st' → Fares t k h st → Fares t' k h' st'
outcome_move t t' k h h' st st' et eh es o = subst₃ (λ (t : Turn) (h : List Symbol) (st : Standing). Fares t k h st) et eh es o

outcome_on : (b : Bench) (s' : Slot) (rest later : List Slot) (n : Next b s' rest later) (i : ℕ) (k : Contender) → contender_in b.turn (at b i) ≡ some k
    → ((k' : Contender) → contender_in n.bench.turn (at n.bench i) ≡ some k' → Fares n.bench.turn k' (carried n.bench ∷ symbols_of rest) (at (ended (slot n.bench) rest) i))
    → Fares b.turn k (carried b ∷ symbols_of (s' ∷ rest)) (at (ended s' rest) i)
outcome_on b s' rest later n i k q ih = go (stays bus b.turn (carried b) (offer k.progress.todo)) refl
  where
    last_bench : at (ended s' rest) i ≡ at (ended (slot n.bench) rest) i
    last_bench = ap (λ (s : Slot). at (ended s rest) i) n.is

    go : (a : Bool) → stays bus b.turn (carried b) (offer k.progress.todo) ≡ a → Fares b.turn k (carried b ∷ symbols_of (s' ∷ rest)) (at (ended s' rest) i)
    go true e =
        let here = kept_contending (at (moved b) i) (at n.bench i) (onward k (carried b)) (n.quiet.kept n.under_way i) (after_slot b i k true false q e n.going) in
        let o = outcome_move n.bench.turn (next b.turn (carried b)) (onward k (carried b)) (carried n.bench ∷ symbols_of rest) (symbols_of (s' ∷ rest))
        (at (ended (slot n.bench) rest) i) (at (ended s' rest) i)
        n.quiet.same_turn (ap (λ (s : Slot). s.symbol ∷ symbols_of rest) (sym n.is)) (sym last_bench) (ih (onward k (carried b)) (rw here refl)) in
        elim o [ inl v ↦ inl ((e, v.0), v.1) | inr v ↦ inr ((λ u. v.0 u.1), v.1) ]
    go false e =
        let here = kept_waiting (at (moved b) i) (at n.bench i) (lost k.request) (n.quiet.kept n.under_way i) (after_slot b i k false false q e n.going) in
        inr (
          (λ u. clash (sym e ∙ u.0)),
          last_bench ∙ rest_waits rest n.bench later n.sound n.somebody (ap busy n.quiet.same_turn ∙ n.under_way) n.closes n.linked i (lost k.request) here,
        )

outcome : (rest : List Slot) (b : Bench) (later : List Slot) → Sound b → Somebody b → Closes (slot b ∷ rest) → Linked (moved b) (rest ++ later)
    → (i : ℕ) (k : Contender) → contender_in b.turn (at b i) ≡ some k → Fares b.turn k (carried b ∷ symbols_of rest) (at (ended (slot b) rest) i)
outcome [] b later s w c l i k q = go (stays bus b.turn (carried b) (offer k.progress.todo)) refl
  where
    p : is_stop (carried b) ≡ true
    p = closes_last (slot b) c

    go : (a : Bool) → stays bus b.turn (carried b) (offer k.progress.todo) ≡ a → Fares b.turn k (carried b ∷ []) (at (moved b) i)
    go true e = inl ((e, tt), after_slot b i k true true q e p)
    go false e = inr ((λ v. clash (sym e ∙ v.0)), after_slot b i k false true q e p)
outcome (s' ∷ rest) b later s w c l i k q =
    let n = next_slot b s' rest later s w c l in
    outcome_on b s' rest later n i k q (λ k' e. outcome rest n.bench later n.sound n.somebody n.closes n.linked i k' e)

-- a contest, from the bench before its S
module _ (b : Bench) (rest later : List Slot) (s : Sound b) (w : Somebody b) (u : b.turn ≡ Free) (c : Closes (slot b ∷ rest)) (l : Linked (moved b) (rest ++ later)) where
  judged : Fair bus b.turn (family b) b.rule (carried b ∷ symbols_of rest)
  judged = fair bus b.turn (family b) b.rule (carried b ∷ symbols_of rest) (fair_start b s w) (contest_of rest b later s w c l)

  contends : (i : ℕ) (v : Request) → at b i ≡ waiting v → contender_in b.turn (at b i) ≡ some (starting v)
  contends i v e = rw e (staked_free b.turn v (ap busy u))

  pub carried_alone : (i : ℕ) × (v : Request) × (at b i ≡ waiting v) × AloneHistory v.order b.rule (carried b ∷ symbols_of rest)
  carried_alone =
      let v = judged.one in
      let q = as_script_is (contender_in b.turn (at b v.0)) v.1 v.2 in
      elim (staked_is b.turn (at b v.0) q.0 q.1) [
        | inl z ↦
            let same : v.1 ≡ script (begin z.0.order) = q.2 ∙ ap (λ (k : Contender). script k.progress) z.3 in
            (v.0, z.0, z.2, subst (λ (c : Rule Symbol). Alone bus c b.rule (carried b ∷ symbols_of rest)) same v.3)
        | inr z ↦ absurd (s.calm (ap busy u) v.0 q.0 z)
      ]

  pub none_less : (i : ℕ) (v : Request) → at b i ≡ waiting v → (g : List Symbol) → AloneHistory v.order b.rule g → ¬ Less symbols g (carried b ∷ symbols_of rest)
  none_less i v e g a = judged.none_less i (script (begin v.order)) (ap as_script (contends i v e)) g a

  pub winners_answered : (i : ℕ) (v : Request) → at b i ≡ waiting v → AloneHistory v.order b.rule (carried b ∷ symbols_of rest)
      → at (ended (slot b) rest) i ≡ answered (answer_of v.losses (carried b ∷ symbols_of rest))
  winners_answered i v e a =
      elim (outcome rest b later s w c l i (starting v) (contends i v e)) [
        | inl q ↦
            let told-so = tells v.order b.rule (rw e at (s.lawful i)) (rw u at s.polite) (carried b ∷ symbols_of rest) a in
            q.1 ∙ ap₂ (λ (f : Outcome) (bs : List ℕ). answered (record { outcome = f; losses = v.losses; bytes = bs })) told-so.1 told-so.0
        | inr q ↦ absurd (q.0 (judged.winners i (script (begin v.order)) (ap as_script (contends i v e)) a))
      ]

  pub losers_wait : (i : ℕ) (v : Request) → at b i ≡ waiting v → ¬ AloneHistory v.order b.rule (carried b ∷ symbols_of rest)
      → at (ended (slot b) rest) i ≡ waiting (lost v)
  losers_wait i v e a =
      elim (outcome rest b later s w c l i (starting v) (contends i v e)) [
        | inl q ↦ absurd (a (judged.survivors i (script (begin v.order)) (ap as_script (contends i v e)) q.0))
        | inr q ↦ q.1
      ]

-- calls that move no slot
pub alter_cases : (f : Standing → Standing) (i : ℕ) (ms : List Standing) (j : ℕ) → (get_or (alter f i ms) j idle ≡ get_or ms j idle) ⊎ (get_or (alter f i ms) j idle ≡ f (get_or ms j idle))
alter_cases f i [] j = inl refl
alter_cases f zero (st ∷ ms) zero = inr refl
alter_cases f zero (st ∷ ms) (suc j) = inl refl
alter_cases f (suc i) (st ∷ ms) zero = inl refl
alter_cases f (suc i) (st ∷ ms) (suc j) = alter_cases f i ms j

-- what f keeps, altering one master by f keeps
pub alter_kept : (P : Standing → Standing → Type 0) (f : Standing → Standing) → ((st : Standing) → P st st) → ((st : Standing) → P st (f st))
    → (i : ℕ) (ms : List Standing) (j : ℕ) → P (get_or ms j idle) (get_or (alter f i ms) j idle)
alter_kept P f same changed i ms j =
    elim (alter_cases f i ms j) [
      | inl e ↦ rw e (same (get_or ms j idle))
      | inr e ↦ rw e (changed (get_or ms j idle))
    ]

-- no contender comes or goes
abbrev pub Steady : Standing → Standing → Type 0
Steady st st' = (k : Contender) → (st ≡ contending k → st' ≡ contending k) × (st' ≡ contending k → st ≡ contending k)

sound_masters : (b : Bench) (ms : List Standing) → ((i : ℕ) → Steady (at b i) (get_or ms i idle)) → ((i : ℕ) → Holds (at b i) → Holds (get_or ms i idle)) → Sound b → Sound (with_masters b ms)
sound_masters b ms e h s = record {
  lawful = λ i. h i (s.lawful i);
  polite = s.polite;
  fits = λ i k c. s.fits i k ((e i k).1 c);
  held = λ u. let w = s.held u in (w.0, w.1, (e w.0 w.1).0 w.2);
  calm = λ u i k c. s.calm u i k ((e i k).1 c);
  short = λ i k c. s.short i k ((e i k).1 c);
}

pub same_steady : (st : Standing) → Steady st st
same_steady st k = ((λ e. e), (λ e. e))

placed_steady : (o : Order) (st : Standing) → Steady st (placed o st)
placed_steady o idle k = ((λ e. absurd (let z : ◌≡◌ {A = ℕ} 0 1 = cc in omega arith)), (λ e. absurd (let z : ◌≡◌ {A = ℕ} 0 1 = cc in omega arith)))
placed_steady o (waiting w) k = same_steady (waiting w) k
placed_steady o (contending k') k = same_steady (contending k') k
placed_steady o (answered a) k = same_steady (answered a) k

pub withdrawn_steady : (st : Standing) → Steady st (withdrawn st)
withdrawn_steady idle k = same_steady idle k
withdrawn_steady (waiting w) k = ((λ e. absurd (let z : ◌≡◌ {A = ℕ} 0 1 = cc in omega arith)), (λ e. absurd (let z : ◌≡◌ {A = ℕ} 0 1 = cc in omega arith)))
withdrawn_steady (contending k') k = same_steady (contending k') k
withdrawn_steady (answered a) k = same_steady (answered a) k

pub collected_steady : (st : Standing) → Steady st (collected st)
collected_steady idle k = same_steady idle k
collected_steady (waiting w) k = same_steady (waiting w) k
collected_steady (contending k') k = same_steady (contending k') k
collected_steady (answered a) k = ((λ e. absurd (let z : ◌≡◌ {A = ℕ} 0 1 = cc in omega arith)), (λ e. absurd (let z : ◌≡◌ {A = ℕ} 0 1 = cc in omega arith)))

abbrev HoldsOn : Standing → Standing → Type 0
HoldsOn st st' = Holds st → Holds st'

same_holds : (st : Standing) → HoldsOn st st
same_holds st h = h

placed_holds : (o : Order) → Lawful o → (st : Standing) → HoldsOn st (placed o st)
placed_holds o l idle h = l
placed_holds o l (waiting w) h = h
placed_holds o l (contending k) h = h
placed_holds o l (answered a) h = h

withdrawn_holds : (st : Standing) → HoldsOn st (withdrawn st)
withdrawn_holds idle h = h
withdrawn_holds (waiting w) h = tt
withdrawn_holds (contending k) h = h
withdrawn_holds (answered a) h = h

collected_holds : (st : Standing) → HoldsOn st (collected st)
collected_holds idle h = h
collected_holds (waiting w) h = h
collected_holds (contending k) h = h
collected_holds (answered a) h = tt

placed_kept : (o : Order) (st : Standing) → Kept st (placed o st)
placed_kept o idle = tt
placed_kept o (waiting w) = refl
placed_kept o (contending k') = refl
placed_kept o (answered a) = tt

collected_kept : (st : Standing) → Kept st (collected st)
collected_kept idle = tt
collected_kept (waiting w) = refl
collected_kept (contending k') = refl
collected_kept (answered a) = tt

pub quiet_place : (b : Bench) (i : ℕ) (o : Order) (l : Lawful o) → Quiet b (after_call b (place i o l))
quiet_place b i o l = record {
  sound = sound_masters b (alter (placed o) i b.masters) (alter_kept Steady (placed o) same_steady (placed_steady o) i b.masters) (alter_kept HoldsOn (placed o) same_holds (placed_holds o l) i b.masters);
  same_turn = refl;
  same_rule = λ e. refl;
  kept = λ e. alter_kept Kept (placed o) kept_refl (placed_kept o) i b.masters;
}

pub quiet_collect : (b : Bench) (i : ℕ) → Quiet b (after_call b (collect i))
quiet_collect b i = record {
  sound = sound_masters b (alter collected i b.masters) (alter_kept Steady collected same_steady collected_steady i b.masters) (alter_kept HoldsOn collected same_holds collected_holds i b.masters);
  same_turn = refl;
  same_rule = λ e. refl;
  kept = λ e. alter_kept Kept collected kept_refl collected_kept i b.masters;
}

pub quiet_withdraw : (b : Bench) (i : ℕ) → Quiet b (after_call b (withdraw i))
quiet_withdraw b i = go (busy b.turn) refl
  where
    go : (v : Bool) → busy b.turn ≡ v → Quiet b (cond v b (with_masters b (alter withdrawn i b.masters)))
    go true e = quiet_refl b
    go false e = record {
      sound = sound_masters b (alter withdrawn i b.masters) (alter_kept Steady withdrawn same_steady withdrawn_steady i b.masters) (alter_kept HoldsOn withdrawn same_holds withdrawn_holds i b.masters);
      same_turn = refl;
      same_rule = λ u. refl;
      kept = λ u. absurd (clash (sym e ∙ u));
    }

pub quiet_tell : (b : Bench) (r : Rule Symbol) (p : Polite bus Free r) → Quiet b (after_call b (tell r p))
quiet_tell b r p = go (busy b.turn) refl
  where
    go : (v : Bool) → busy b.turn ≡ v → Quiet b (cond v b (with_rule b r))
    go true e = quiet_refl b
    go false e = record {
      sound = λ s. record { polite = rw (free_turn b.turn e) p; lawful = s.lawful; fits = s.fits; held = s.held; calm = s.calm; short = s.short };
      same_turn = refl;
      same_rule = λ u. absurd (clash (sym e ∙ u));
      kept = λ u. absurd (clash (sym e ∙ u));
    }

-- the slots of a list of calls are linked
linked_quiet : (b b' : Bench) (ss : List Slot) → Quiet b b' → Linked b' ss → Linked b ss
linked_quiet b b' [] q l = tt
linked_quiet b b' (s ∷ ss) q l = (l.0, quiet_trans b b' l.0 q l.1, l.2, l.3)

linked_run : (n : ℕ) (b : Bench) (ss : List Slot) → Linked (ran n b) ss → Linked b (run_slots n b ++ ss)
linked_run zero b ss l = l
linked_run (suc n) b ss l = go (at_rest b) l (linked_run n (moved b) ss)
  where
    go : (v : Bool) → Linked (cond v b (ran n (moved b))) ss → (Linked (ran n (moved b)) ss → Linked (moved b) (run_slots n (moved b) ++ ss))
        → Linked b (cond v [] (slot b ∷ run_slots n (moved b)) ++ ss)
    go true l ih = l
    go false l ih = (b, quiet_refl b, refl, ih l)

linked_call : (c : Call) (b : Bench) (ss : List Slot) → Linked (after_call b c) ss → Linked b (call_slots b c ++ ss)
linked_call (place i o w) b ss l = linked_quiet b (after_call b (place i o w)) ss (quiet_place b i o w) l
linked_call (withdraw i) b ss l = linked_quiet b (after_call b (withdraw i)) ss (quiet_withdraw b i) l
linked_call (tell r p) b ss l = linked_quiet b (after_call b (tell r p)) ss (quiet_tell b r p) l
linked_call step b ss l = (b, quiet_refl b, refl, l)
linked_call (run n) b ss l = go (leb n 999) l
  where
    go : (v : Bool) → Linked (cond v (ran n b) b) ss → Linked b (cond v (run_slots n b) [] ++ ss)
    go true l = linked_run n b ss l
    go false l = l
linked_call (collect i) b ss l = linked_quiet b (after_call b (collect i)) ss (quiet_collect b i) l

pub linked_calls : (cs : List Call) (b : Bench) → Linked b (slots b cs)
linked_calls [] b = tt
linked_calls (c ∷ cs) b = linked_call c b (slots (after_call b c) cs) (linked_calls cs (after_call b c))

-- past earlier slots
linked_drop : (earlier : List Slot) (b : Bench) (ss : List Slot) → Sound b → Linked b (earlier ++ ss) → (b' : Bench) × Sound b' × Linked b' ss
linked_drop [] b ss s l = (b, s, l)
linked_drop (e ∷ earlier) b ss s l = linked_drop earlier (moved l.0) ss (sound_moved l.0 (l.1.sound s)) l.3

at_first : (n i : ℕ) → get_or (replicate n idle) i idle ≡ idle
at_first zero i = refl
at_first (suc n) zero = refl
at_first (suc n) (suc i) = at_first n i

pub sound_assembled : (n : ℕ) (r : Rule Symbol) → Polite bus Free r → Sound (assembled n r)
sound_assembled n r p = record {
  polite = p;
  lawful = λ i. rw (at_first n i) tt;
  fits = λ i k e. absurd (never i k e);
  held = λ u. absurd (clash u);
  calm = λ u i k e. never i k e;
  short = λ i k e. absurd (never i k e);
}
  where
    never : (i : ℕ) (k : Contender) → get_or (replicate n idle) i idle ≡ contending k → ⊥
    never i k e = let f = at_first n i in let z : ◌≡◌ {A = ℕ} 0 1 = cc in omega arith

not_start : (x : Symbol) → x ≡ One → x ≡ Start → ⊥
not_start x p q = let z : ◌≡◌ {A = ℕ} 0 1 = cc in omega arith

fair_at : (b : Bench) (rest later : List Slot) → Sound b → b.turn ≡ Free → carried b ≡ Start → Closes (slot b ∷ rest) → Linked (moved b) (rest ++ later) → FairContest (slot b) rest
fair_at b rest later s u o c l =
    elim (somebody b) [
      | inl w ↦ record {
        carried_alone = carried_alone b rest later s w u c l;
        none_less = none_less b rest later s w u c l;
        winners_answered = winners_answered b rest later s w u c l;
        losers_wait = losers_wait b rest later s w u c l;
      }
      | inr n ↦ absurd (not_start (carried b) (nobody_high b s n) o)
    ]

-- finished contests among linked slots are fair
pub fair_contest : (b : Bench) (ss : List Slot) → Sound b → Linked b ss → (f : Finished ss) → FairContest f.first f.rest
fair_contest b ss s l f =
    let d = linked_drop f.earlier b ((f.first ∷ f.rest) ++ f.later) s (subst (λ (ss : List Slot). Linked b ss) f.among l) in
    let k = d.2 in
    let e : f.first ≡ slot k.0 = k.2 in
    let same : f.first.before ≡ k.0 = ap (λ (s : Slot). s.before) e in
    subst (λ (s : Slot). FairContest s f.rest) (sym e)
    (fair_at k.0 f.rest f.later (k.1.sound d.1) (sym (ap (λ (b : Bench). b.turn) same) ∙ f.was_free) (sym (ap (λ (s : Slot). s.symbol) e) ∙ f.opens)
    (subst (λ (s : Slot). Closes (s ∷ f.rest)) e f.closes) k.3)
