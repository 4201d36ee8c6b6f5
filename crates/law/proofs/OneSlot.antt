-- What every bench keeps, slot by slot. Assumes nothing.
use Rattle.std.proofs.Common.{◌≡◌, ℕ, zero, suc, ◌≤◌, Bool, true, false, cond, ◌⊎◌, List, [], ◌∷◌, length, get_or, sym, refl, ap, ◌∙◌, inl, inr, arith}
use mathlib.Core.Option.{Option, none, some}
use lib.ListN.{get_or-map}
use borrow.Author.Tests.{clash}
use Rattle.history.specs.Contest.{Rule, stays, Polite, Carried, FairStart}
use Rattle.bus.specs.declared.Symbol.{Symbol}
use Rattle.bus.specs.declared.Symbol.TheVariants.{Start, One}
use Rattle.bus.specs.Symbols.{rank, symbols, is_stop}
use Rattle.bus.specs.declared.Turn.{Turn}
use Rattle.bus.specs.declared.Turn.TheVariants.{Free}
use Rattle.bus.specs.Turns.{next, legal, busy, bus}
use Rattle.orders.specs.Orders.{Segment, Order, Lawful, Answer}
use Rattle.scripts.specs.Alone.{longest}
use Rattle.scripts.specs.Scripts.{plan, begin, offer, hear, script, answer}
use Rattle.masters.specs.Standings.{Request, Contender, Standing, idle, waiting, contending, answered, starting, contender_in, offered, lost, becomes}
use Rattle.law.proofs.One.{Bench, told, hears, least_offer, carried, moved}
use Rattle.history.proofs.General.{least_left, least_either, least_le, polite_on, legal_slot, some_stay}
use Rattle.bus.proofs.Slots.{busy_next, free_turn, is_it_stop}
use Rattle.scripts.proofs.Plans.{Fits, plan_fits, fits_on, fits_keeps, plan_short, plan_some, nonempty, no_longer}

pub not_some : {A : Type 0} (o : Option A) (a : A) → o ≡ none → o ≡ some a → ⊥
not_some o a p q = let z : ◌≡◌ {A = ℕ} 0 1 = cc in omega arith

pub same_some : {A : Type 0} (o : Option A) (a b : A) → o ≡ some a → o ≡ some b → a ≡ b
same_some o a b p q = cc

abbrev pub at : Bench → ℕ → Standing
at b i = get_or b.masters i idle

-- who has a stake
pub staked_free : (t : Turn) (w : Request) → busy t ≡ false → contender_in t (waiting w) ≡ some (starting w)
staked_free t w e = rw e

pub staked_busy : (t : Turn) (w : Request) → busy t ≡ true → contender_in t (waiting w) ≡ none
staked_busy t w e = rw e

-- a fresh ticket on a free bus
abbrev pub Starts : Turn → Standing → Contender → Type 0
Starts t st k = (w : Request) × (busy t ≡ false) × (st ≡ waiting w) × (k ≡ starting w)

pub staked_is : (t : Turn) (st : Standing) (k : Contender) → contender_in t st ≡ some k → Starts t st k ⊎ (st ≡ contending k)
staked_is t idle k e = absurd (not_some none k refl e)
staked_is t (waiting w) k e = go (busy t) refl e
  where
    go : (b : Bool) → busy t ≡ b → cond b none (some (starting w)) ≡ some k → Starts t (waiting w) k ⊎ (waiting w ≡ contending k)
    go true q r = absurd (not_some none k refl r)
    go false q r = inl (w, q, refl, same_some (some k) k (starting w) refl (sym r))
staked_is t (contending k') k e = inr (ap contending (same_some (some k') k' k refl e))
staked_is t (answered a) k e = absurd (not_some none k refl e)

pub hears_staked : (t : Turn) (x : Symbol) (st : Standing) (k : Contender) → contender_in t st ≡ some k
    → hears t x st ≡ becomes (stays bus t x (offer k.progress.todo)) (is_stop x) k x
hears_staked t x st k e = rw e

pub hears_unstaked : (t : Turn) (x : Symbol) (st : Standing) → contender_in t st ≡ none → hears t x st ≡ st
hears_unstaked t x st e = rw e

pub at_moved : (b : Bench) (i : ℕ) → at (moved b) i ≡ hears b.turn (carried b) (at b i)
at_moved b i = get_or-map (hears b.turn (carried b)) b.masters i idle

-- the contenders' scripts
abbrev pub as_script : Option Contender → Option (Rule Symbol)
as_script none = none
as_script (some k) = some (script k.progress)

abbrev pub family : Bench → ℕ → Option (Rule Symbol)
family b i = as_script (contender_in b.turn (at b i))

pub as_script_is : (o : Option Contender) (s : Rule Symbol) → as_script o ≡ some s → (k : Contender) × (o ≡ some k) × (s ≡ script k.progress)
as_script_is none s e = absurd (not_some none s refl e)
as_script_is (some k) s e = (k, refl, same_some (some s) s (script k.progress) refl (sym e))

-- an order that is held is lawful
abbrev pub Holds : Standing → Type 0
Holds idle = Unit {0}
Holds (waiting w) = Lawful w.order
Holds (contending k) = Lawful k.request.order
Holds (answered a) = Unit {0}

-- what every bench keeps
pub record Sound (b : Bench) : Type 0 where
  pub polite : Polite bus b.turn b.rule
  pub lawful : (i : ℕ) → Holds (at b i)
  pub fits : (i : ℕ) (k : Contender) → at b i ≡ contending k → Fits b.turn k.progress.todo
  pub held : busy b.turn ≡ true → (i : ℕ) × (k : Contender) × (at b i ≡ contending k)
  pub calm : busy b.turn ≡ false → (i : ℕ) (k : Contender) → at b i ≡ contending k → ⊥
  pub short : (i : ℕ) (k : Contender) → at b i ≡ contending k → length k.progress.todo ≤ longest

-- the least offer
someone : (t : Turn) (ms : List Standing) → ((i : ℕ) × (k : Contender) × (contender_in t (get_or ms i idle) ≡ some k)) ⊎ ((i : ℕ) → contender_in t (get_or ms i idle) ≡ none)
someone t [] = inr (λ i. refl)
someone t (st ∷ ms) = go (contender_in t st) refl (someone t ms)
  where
    go : (o : Option Contender) → contender_in t st ≡ o → ((i : ℕ) × (k : Contender) × (contender_in t (get_or ms i idle) ≡ some k)) ⊎ ((i : ℕ) → contender_in t (get_or ms i idle) ≡ none)
        → ((i : ℕ) × (k : Contender) × (contender_in t (get_or (st ∷ ms) i idle) ≡ some k)) ⊎ ((i : ℕ) → contender_in t (get_or (st ∷ ms) i idle) ≡ none)
    go (some k) e w = inl (zero, k, e)
    go none e (inl w) = inl (suc w.0, w.1, w.2)
    go none e (inr w) = inr (elim [ zero ↦ e | suc i ↦ w i ])

least_below : (t : Turn) (ms : List Standing) (i : ℕ) (k : Contender) → contender_in t (get_or ms i idle) ≡ some k → rank (least_offer t ms) ≤ rank (offer k.progress.todo)
least_below t [] i k e = absurd (not_some none k refl e)
least_below t (st ∷ ms) zero k e =
    let own : rank (offered (contender_in t st)) ≡ rank (offer k.progress.todo) = rw e in
    omega (arith, (least_le symbols (offered (contender_in t st)) (least_offer t ms)).0)
least_below t (st ∷ ms) (suc i) k e =
    omega (arith, (least_le symbols (offered (contender_in t st)) (least_offer t ms)).1, least_below t ms i k e)

least_attained : (t : Turn) (ms : List Standing) → (least_offer t ms ≡ One) ⊎ ((i : ℕ) × (k : Contender) × (contender_in t (get_or ms i idle) ≡ some k) × (least_offer t ms ≡ offer k.progress.todo))
least_attained t [] = inl refl
least_attained t (st ∷ ms) = go (contender_in t st) refl (least_either symbols (offered (contender_in t st)) (least_offer t ms)) (least_attained t ms)
  where
    Here : Type 0
    Here = (least_offer t (st ∷ ms) ≡ One) ⊎ ((i : ℕ) × (k : Contender) × (contender_in t (get_or (st ∷ ms) i idle) ≡ some k) × (least_offer t (st ∷ ms) ≡ offer k.progress.todo))

    go : (o : Option Contender) → contender_in t st ≡ o
        → (least_offer t (st ∷ ms) ≡ offered (contender_in t st)) ⊎ (least_offer t (st ∷ ms) ≡ least_offer t ms)
        → (least_offer t ms ≡ One) ⊎ ((i : ℕ) × (k : Contender) × (contender_in t (get_or ms i idle) ≡ some k) × (least_offer t ms ≡ offer k.progress.todo))
        → Here
    go none e (inl q) w = inl (q ∙ ap offered e)
    go (some k) e (inl q) w = inr (zero, k, e, q ∙ ap offered e)
    go none e (inr q) (inl w) = inl (q ∙ w)
    go none e (inr q) (inr w) = inr (suc w.0, w.1, w.2, q ∙ w.3)
    go (some k) e (inr q) (inl w) = inl (q ∙ w)
    go (some k) e (inr q) (inr w) = inr (suc w.0, w.1, w.2, q ∙ w.3)

-- the slot that a bench moves is a slot of the family
pub slot_carried : (b : Bench) → Carried bus (family b) b.rule (carried b)
slot_carried b =
    let low-enough = least_le symbols (b.rule []) (least_offer b.turn b.masters) in
    record {
      offered = from (least_either symbols (b.rule []) (least_offer b.turn b.masters)) (least_attained b.turn b.masters);
      below_reply = low-enough.0;
      below = λ i s e.
          let w = as_script_is (contender_in b.turn (at b i)) s e in
          omega (arith, low-enough.1, least_below b.turn b.masters i w.0 w.1, ap (λ (s : Rule Symbol). rank (s [])) w.2);
    }
  where
    from : (carried b ≡ b.rule []) ⊎ (carried b ≡ least_offer b.turn b.masters)
        → (least_offer b.turn b.masters ≡ One) ⊎ ((i : ℕ) × (k : Contender) × (contender_in b.turn (at b i) ≡ some k) × (least_offer b.turn b.masters ≡ offer k.progress.todo))
        → (carried b ≡ b.rule []) ⊎ ((i : ℕ) × (s : Rule Symbol) × (family b i ≡ some s) × (carried b ≡ s []))
    from (inl e) w = inl e
    from (inr e) (inl w) = inl (least_left symbols (b.rule []) (least_offer b.turn b.masters) (rw w (symbols.greatest (b.rule []))))
    from (inr e) (inr w) = inr (w.0, script w.1.progress, ap as_script w.2, e ∙ w.3)

-- somebody has a stake in the next slot
abbrev pub Somebody : Bench → Type 0
Somebody b = (i : ℕ) × (k : Contender) × (contender_in b.turn (at b i) ≡ some k)

pub fits_staked : (b : Bench) → Sound b → (i : ℕ) (k : Contender) → contender_in b.turn (at b i) ≡ some k → Fits b.turn k.progress.todo
fits_staked b s i k e = go (staked_is b.turn (at b i) k e)
  where
    holds : (w : Request) → at b i ≡ waiting w → Lawful w.order
    holds w e = rw e at (s.lawful i)

    go : Starts b.turn (at b i) k ⊎ (at b i ≡ contending k) → Fits b.turn k.progress.todo
    go (inl w) = rw (free_turn b.turn w.1, w.3) (plan_fits w.0.order (holds w.0 w.2))
    go (inr c) = s.fits i k c

pub short_staked : (b : Bench) → Sound b → (i : ℕ) (k : Contender) → contender_in b.turn (at b i) ≡ some k → length k.progress.todo ≤ longest
short_staked b s i k e = go (staked_is b.turn (at b i) k e)
  where
    holds : (w : Request) → at b i ≡ waiting w → Lawful w.order
    holds w e = rw e at (s.lawful i)

    go : Starts b.turn (at b i) k ⊎ (at b i ≡ contending k) → length k.progress.todo ≤ longest
    go (inl w) = rw w.3 (plan_short w.0.order (holds w.0 w.2))
    go (inr c) = s.short i k c

pub staked_nonempty : (b : Bench) → Sound b → (i : ℕ) (k : Contender) → contender_in b.turn (at b i) ≡ some k → 1 ≤ length k.progress.todo
staked_nonempty b s i k e = go (staked_is b.turn (at b i) k e) (busy b.turn) refl
  where
    go : Starts b.turn (at b i) k ⊎ (at b i ≡ contending k) → (v : Bool) → busy b.turn ≡ v → 1 ≤ length k.progress.todo
    go (inl w) v u = rw w.3 (plan_some w.0.order)
    go (inr c) true u = nonempty k.progress.todo b.turn (s.fits i k c) u
    go (inr c) false u = absurd (s.calm u i k c)

pub fair_start : (b : Bench) → Sound b → Somebody b → FairStart bus b.turn (family b) b.rule
fair_start b s w = record {
  polite = s.polite;
  keeps = λ i c e.
      let v = as_script_is (contender_in b.turn (at b i)) c e in
      rw v.2 (fits_keeps v.0.progress b.turn (fits_staked b s i v.0 v.1));
  someone = (w.0, script w.1.progress, ap as_script w.2);
}

-- a contender that stays in
abbrev pub onward : Contender → Symbol → Contender
onward k x = record { request = k.request; progress = hear k.progress x }

pub not_waiting : (w : Request) (k : Contender) → waiting w ≡ contending k → ⊥
not_waiting w k e = let z : ◌≡◌ {A = ℕ} 0 1 = cc in omega arith

not_answered : (a : Answer) (k : Contender) → answered a ≡ contending k → ⊥
not_answered a k e = let z : ◌≡◌ {A = ℕ} 0 1 = cc in omega arith

-- who contends after a slot had a stake in it, stayed in, and heard no P
pub contending_after : (t : Turn) (x : Symbol) (st : Standing) (k' : Contender) → hears t x st ≡ contending k'
    → (k : Contender) × (contender_in t st ≡ some k) × (stays bus t x (offer k.progress.todo) ≡ true) × (is_stop x ≡ false) × (k' ≡ onward k x)
contending_after t x st k' e = go (contender_in t st) refl
  where
    Got : Type 0
    Got = (k : Contender) × (contender_in t st ≡ some k) × (stays bus t x (offer k.progress.todo) ≡ true) × (is_stop x ≡ false) × (k' ≡ onward k x)

    by : (k : Contender) → contender_in t st ≡ some k → (a p : Bool) → stays bus t x (offer k.progress.todo) ≡ a → is_stop x ≡ p → becomes a p k x ≡ contending k' → Got
    by k q true true ea ep h = absurd (not_answered (answer k.request.losses (hear k.progress x)) k' h)
    by k q true false ea ep h = (k, q, ea, ep, cc)
    by k q false p ea ep h = absurd (not_waiting (lost k.request) k' h)

    go : (o : Option Contender) → contender_in t st ≡ o → Got
    go none q =
        let same : st ≡ contending k' = sym (hears_unstaked t x st q) ∙ e in
        absurd (not_some (contender_in t st) k' q (rw same refl))
    go (some k) q = by k q (stays bus t x (offer k.progress.todo)) (is_stop x) refl refl (sym (hears_staked t x st k q) ∙ e)

-- slots of a sound bench
first_offer : (o : Order) → Lawful o → offer (begin o).todo ≡ Start
first_offer o l = go o l.some_segment
  where
    go : (ss : List Segment) → 1 ≤ length ss → offer (plan 0 ss) ≡ Start
    go [] h = absurd (omega arith)
    go (s ∷ ss) h = refl

free_offer : (b : Bench) → Sound b → busy b.turn ≡ false → (i : ℕ) (k : Contender) → contender_in b.turn (at b i) ≡ some k → offer k.progress.todo ≡ Start
free_offer b s f i k e = go (staked_is b.turn (at b i) k e)
  where
    holds : (w : Request) → at b i ≡ waiting w → Lawful w.order
    holds w e = rw e at (s.lawful i)

    go : Starts b.turn (at b i) k ⊎ (at b i ≡ contending k) → offer k.progress.todo ≡ Start
    go (inl w) = rw w.3 (first_offer w.0.order (holds w.0 w.2))
    go (inr c) = absurd (s.calm f i k c)

free_quiet : (b : Bench) → Sound b → busy b.turn ≡ false → b.rule [] ≡ One
free_quiet b s f = s.polite.quiet [] tt (rw (free_turn b.turn f) refl)

-- on a free bus, where somebody waits, S is carried
pub free_start : (b : Bench) → Sound b → Somebody b → busy b.turn ≡ false → carried b ≡ Start
free_start b s w f = go (slot_carried b).offered
  where
    go : (carried b ≡ b.rule []) ⊎ ((i : ℕ) × (c : Rule Symbol) × (family b i ≡ some c) × (carried b ≡ c [])) → carried b ≡ Start
    go (inl e) =
        let x = ap rank (e ∙ free_quiet b s f) in
        let y = (slot_carried b).below w.0 (script w.1.progress) (ap as_script w.2) in
        let z : rank (offer w.1.progress.todo) ≡ 2 = ap rank (free_offer b s f w.0 w.1 w.2) in
        absurd (omega arith)
    go (inr v) =
        let u = as_script_is (contender_in b.turn (at b v.0)) v.1 v.2 in
        v.3 ∙ ap (λ (c : Rule Symbol). c []) u.2 ∙ free_offer b s f v.0 u.0 u.1

pub slot_legal : (b : Bench) → Sound b → Somebody b → legal b.turn (carried b) ≡ true
slot_legal b s w = legal_slot bus b.turn (family b) b.rule (carried b) (fair_start b s w) (slot_carried b)

-- without a P the contest is under way afterwards
pub goes_on : (b : Bench) → Sound b → Somebody b → is_stop (carried b) ≡ false → busy (next b.turn (carried b)) ≡ true
goes_on b s w p = go (busy b.turn) refl
  where
    go : (v : Bool) → busy b.turn ≡ v → busy (next b.turn (carried b)) ≡ true
    go true e = busy_next b.turn (carried b) e p
    go false e = ap (λ (x : Symbol). busy (next b.turn x)) (free_start b s w e)

-- where nobody has a stake the bus is free, and stays so
abbrev pub Nobody : Bench → Type 0
Nobody b = (i : ℕ) → contender_in b.turn (at b i) ≡ none

pub somebody : (b : Bench) → Somebody b ⊎ Nobody b
somebody b = someone b.turn b.masters

pub nobody_free : (b : Bench) → Sound b → Nobody b → busy b.turn ≡ false
nobody_free b s n = go (busy b.turn) refl
  where
    go : (v : Bool) → busy b.turn ≡ v → v ≡ false
    go true e = let w = s.held e in absurd (not_some (contender_in b.turn (at b w.0)) w.1 (n w.0) (rw w.2 refl))
    go false e = refl

pub nobody_high : (b : Bench) → Sound b → Nobody b → carried b ≡ One
nobody_high b s n = go (slot_carried b).offered
  where
    go : (carried b ≡ b.rule []) ⊎ ((i : ℕ) × (c : Rule Symbol) × (family b i ≡ some c) × (carried b ≡ c [])) → carried b ≡ One
    go (inl e) = e ∙ free_quiet b s (nobody_free b s n)
    go (inr v) = let u = as_script_is (contender_in b.turn (at b v.0)) v.1 v.2 in absurd (not_some (contender_in b.turn (at b v.0)) u.0 (n v.0) u.1)

-- somebody stays in
pub stayer : (b : Bench) → Sound b → Somebody b → (i : ℕ) × (k : Contender) × (contender_in b.turn (at b i) ≡ some k) × (stays bus b.turn (carried b) (offer k.progress.todo) ≡ true)
stayer b s w =
    let v = some_stay bus b.turn (family b) b.rule (carried b) (fair_start b s w) (slot_carried b) in
    let u = as_script_is (contender_in b.turn (at b v.0)) v.1 v.2 in
    (v.0, u.0, u.1, rw u.2 at v.3)

pub freed : (b : Bench) → Sound b → Somebody b → is_stop (carried b) ≡ true → next b.turn (carried b) ≡ Free
freed b s w e = let p = is_it_stop (carried b) e in ap (next b.turn) p

no_stop : (b : Bench) → Sound b → Somebody b → busy (next b.turn (carried b)) ≡ true → is_stop (carried b) ≡ false
no_stop b s w u = go (is_stop (carried b)) refl
  where
    go : (v : Bool) → is_stop (carried b) ≡ v → v ≡ false
    go true e = absurd (clash (sym (ap busy (freed b s w e)) ∙ u))
    go false e = refl

-- orders stay lawful
hears_holds : (t : Turn) (x : Symbol) (st : Standing) → Holds st → Holds (hears t x st)
hears_holds t x st h = go (contender_in t st) refl
  where
    by : (k : Contender) (a p : Bool) → Lawful k.request.order → Holds (becomes a p k x)
    by k true true l = tt
    by k true false l = l
    by k false p l = l

    go : (o : Option Contender) → contender_in t st ≡ o → Holds (told t x o st)
    go none e = h
    go (some k) e = by k (stays bus t x (offer k.progress.todo)) (is_stop x) (elim (staked_is t st k e) [ inl w ↦ rw w.3 (rw w.2 at h) | inr c ↦ rw c at h ])

-- a slot keeps a bench sound
pub sound_moved : (b : Bench) → Sound b → Sound (moved b)
sound_moved b s = go (somebody b)
  where
    was : (i : ℕ) (k' : Contender) → at (moved b) i ≡ contending k'
        → (k : Contender) × (contender_in b.turn (at b i) ≡ some k) × (stays bus b.turn (carried b) (offer k.progress.todo) ≡ true) × (is_stop (carried b) ≡ false) × (k' ≡ onward k (carried b))
    was i k' e = contending_after b.turn (carried b) (at b i) k' (sym (at_moved b i) ∙ e)

    go : Somebody b ⊎ ((i : ℕ) → contender_in b.turn (at b i) ≡ none) → Sound (moved b)
    go (inl w) = record {
      polite = polite_on bus b.turn b.rule (carried b) (slot_legal b s w) s.polite;
      lawful = λ i. rw (at_moved b i) (hears_holds b.turn (carried b) (at b i) (s.lawful i));
      fits = λ i k' e.
          let v = was i k' e in
          rw v.4 (fits_on v.0.progress b.turn (carried b) (fits_staked b s i v.0 v.1) (slot_legal b s w) v.2);
      held = λ u.
          let v = stayer b s w in
          (v.0, onward v.1 (carried b), at_moved b v.0 ∙ hears_staked b.turn (carried b) (at b v.0) v.1 v.2 ∙ ap (λ (a : Bool). becomes a (is_stop (carried b)) v.1 (carried b)) v.3 ∙ ap (λ (p : Bool). becomes true p v.1 (carried b)) (no_stop b s w u));
      calm = λ u i k' e. clash (sym u ∙ goes_on b s w (was i k' e).3);
      short = λ i k' e.
          let v = was i k' e in
          rw v.4 (omega (arith, no_longer v.0.progress (carried b), short_staked b s i v.0 v.1));
    }
    go (inr n) =
        let f = nobody_free b s n in
        let h = nobody_high b s n in
        let same : next b.turn (carried b) ≡ Free = rw (h, free_turn b.turn f) refl in
        record {
          polite = polite_on bus b.turn b.rule (carried b) (rw (h, free_turn b.turn f) refl) s.polite;
          lawful = λ i. rw (at_moved b i) (hears_holds b.turn (carried b) (at b i) (s.lawful i));
          fits = λ i k' e. let v = was i k' e in absurd (not_some (contender_in b.turn (at b i)) v.0 (n i) v.1);
          held = λ u. absurd (clash (sym (ap busy same) ∙ u));
          calm = λ u i k' e. let v = was i k' e in not_some (contender_in b.turn (at b i)) v.0 (n i) v.1;
          short = λ i k' e. let v = was i k' e in absurd (not_some (contender_in b.turn (at b i)) v.0 (n i) v.1);
        }

-- whatever a sound bench carries follows the turns
pub always_legal : (b : Bench) → Sound b → legal b.turn (carried b) ≡ true
always_legal b s = elim (somebody b) [ inl w ↦ slot_legal b s w | inr n ↦ rw (nobody_high b s n, free_turn b.turn (nobody_free b s n)) refl ]
