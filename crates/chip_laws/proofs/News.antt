-- New chips. Assumes nothing.
use Rattle.std.proofs.Common.{◌≡◌, ℕ, zero, suc, ◌≤◌, Bool, true, false, cond, ◌&&◌, leb, replicate, refl, arith, leb-true}
use lib.ListN.{length-replicate}
use Rattle.orders.specs.Orders.{AllBytes}
use Rattle.chips.specs.States.{making}
use Rattle.chip_laws.specs.Laws.{NewChipsAreReady}

addressable : (a : ℕ) → making a ≡ 0 → (8 ≤ a) × (a ≤ 119)
addressable a e = go (leb 8 a) (leb a 119) refl refl e
  where
    go : (v u : Bool) → leb 8 a ≡ v → leb a 119 ≡ u → ◌≡◌ {A = ℕ} (cond (v && u) 0 2) 0 → (8 ≤ a) × (a ≤ 119)
    go true true p q e = (leb-true 8 a p, leb-true a 119 q)
    go true false p q e = absurd (let z : ◌≡◌ {A = ℕ} 2 0 = e in omega arith)
    go false u p q e = absurd (let z : ◌≡◌ {A = ℕ} 2 0 = e in omega arith)

zeros : (n : ℕ) → AllBytes (replicate n 0)
zeros zero = tt
zeros (suc n) = (omega arith, zeros n)

pub ready : NewChipsAreReady
ready = record {
  gauges = λ a registers e four small.
      let w = addressable a e in
      record { free = refl; lowest = w.0; highest = w.1; count = four; all_bytes = small; within = omega arith };
  memories = λ a e.
      let w = addressable a e in
      record { free = refl; lowest = w.0; highest = w.1; count = length-replicate {A = ℕ} 256 0; all_bytes = zeros 256; within = omega arith };
}
