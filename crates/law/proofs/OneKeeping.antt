-- An answer stands until it is collected. Assumes nothing.
use Rattle.std.proofs.Common.{◌≡◌, ℕ, zero, suc, Bool, true, false, cond, leb, List, [], ◌∷◌, get_or, refl, ap, ◌∙◌, arith}
use Rattle.bus.specs.Turns.{busy}
use Rattle.orders.specs.Orders.{Answer}
use Rattle.masters.specs.Standings.{Standing, idle, waiting, contending, answered, placed, withdrawn, collected}
use Rattle.law.proofs.One.{Bench, hears, carried, moved, Call, place, withdraw, tell, step, run, collect, alter, with_masters, with_rule, at_rest, ran, after_call, final}
use Rattle.law.proofs.OneLaw.{WithoutCollect}
use Rattle.law.proofs.OneSlot.{at, at_moved}
use Rattle.law.proofs.OneFair.{alter_kept}

alter_other : (f : Standing → Standing) (j i : ℕ) (ms : List Standing) → (j ≡ i → ⊥) → get_or (alter f j ms) i idle ≡ get_or ms i idle
alter_other f j i [] n = refl
alter_other f zero zero (st ∷ ms) n = absurd (n refl)
alter_other f zero (suc i) (st ∷ ms) n = refl
alter_other f (suc j) zero (st ∷ ms) n = refl
alter_other f (suc j) (suc i) (st ∷ ms) n = alter_other f j i ms (λ e. n (ap suc e))

module _ (a : Answer) where
  abbrev Stands : Standing → Standing → Type 0
  Stands st st' = st ≡ answered a → st' ≡ answered a

  same : (st : Standing) → Stands st st
  same st e = e

  placed_stands : (st : Standing) (o : _) → Stands st (placed o st)
  placed_stands idle o e = let z : ◌≡◌ {A = ℕ} 0 1 = cc in absurd (omega arith)
  placed_stands (waiting w) o e = e
  placed_stands (contending k) o e = e
  placed_stands (answered c) o e = e

  withdrawn_stands : (st : Standing) → Stands st (withdrawn st)
  withdrawn_stands idle e = e
  withdrawn_stands (waiting w) e = let z : ◌≡◌ {A = ℕ} 0 1 = cc in absurd (omega arith)
  withdrawn_stands (contending k) e = e
  withdrawn_stands (answered c) e = e

  moved_stands : (b : Bench) (i : ℕ) → at b i ≡ answered a → at (moved b) i ≡ answered a
  moved_stands b i e = at_moved b i ∙ ap (hears b.turn (carried b)) e

  ran_stands : (n : ℕ) (b : Bench) (i : ℕ) → at b i ≡ answered a → at (ran n b) i ≡ answered a
  ran_stands zero b i e = e
  ran_stands (suc n) b i e = go (at_rest b) (ran_stands n (moved b) i (moved_stands b i e))
    where
      go : (v : Bool) → at (ran n (moved b)) i ≡ answered a → at (cond v b (ran n (moved b))) i ≡ answered a
      go true ih = e
      go false ih = ih

  call_stands : (c : Call) (cs : List Call) (b : Bench) (i : ℕ) → WithoutCollect i (c ∷ cs) → at b i ≡ answered a → (at (after_call b c) i ≡ answered a) × WithoutCollect i cs
  call_stands (place j o l) cs b i n e = (alter_kept Stands (placed o) same (λ st. placed_stands st o) j b.masters i e, n)
  call_stands (withdraw j) cs b i n e = (go (busy b.turn), n)
    where
      go : (v : Bool) → at (cond v b (with_masters b (alter withdrawn j b.masters))) i ≡ answered a
      go true = e
      go false = alter_kept Stands withdrawn same withdrawn_stands j b.masters i e
  call_stands (tell r p) cs b i n e = (go (busy b.turn), n)
    where
      go : (v : Bool) → at (cond v b (with_rule b r)) i ≡ answered a
      go true = e
      go false = e
  call_stands step cs b i n e = (moved_stands b i e, n)
  call_stands (run m) cs b i n e = (go (leb m 999), n)
    where
      go : (v : Bool) → at (cond v (ran m b) b) i ≡ answered a
      go true = ran_stands m b i e
      go false = e
  call_stands (collect j) cs b i n e = (alter_other collected j i b.masters n.0 ∙ e, n.1)

pub answers_keep : (b : Bench) (i : ℕ) (a : Answer) → at b i ≡ answered a → (cs : List Call) → WithoutCollect i cs → at (final b cs) i ≡ answered a
answers_keep b i a e [] n = e
answers_keep b i a e (c ∷ cs) n = let w = call_stands a c cs b i n e in answers_keep (after_call b c) i a w.0 cs w.1
