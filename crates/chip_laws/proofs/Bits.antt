-- A number by its bits, highest first: as a chip gathers them, and as a contender notes them. Assumes nothing.
use Rattle.std.proofs.Common.{◌≡◌, ℕ, zero, suc, ◌+◌, ◌*◌, ◌/◌, ◌%◌, ◌^◌, ◌<◌, ◌≤◌, Bool, true, false, cond, eqb, sym, refl, ap, ◌∙◌, mul_assoc, add-mul, pow-suc, arith, shr-shr, eqb-true}
use lib.Pow.{shr_le}
use borrow.Author.Tests.{eqb-false}
use Rattle.scripts.proofs.Framing.{bit_split}
use Rattle.bus.specs.declared.Symbol.TheVariants.{Zero, One}
use Rattle.bus.specs.Symbols.{bit, value, shifted}

pub value_bit : (q : ℕ) → value (bit q) ≡ q % 2
value_bit q = go (eqb (q % 2) 0) refl
  where
    go : (v : Bool) → eqb (q % 2) 0 ≡ v → value (cond v Zero One) ≡ q % 2
    go true e = sym (eqb-true (q % 2) 0 e)
    go false e =
        let ne = eqb-false (q % 2) 0 e in
        omega (arith, ne)

half : (b m : ℕ) → b / 2 ^ suc m ≡ b / 2 ^ m / 2
half b m = ap (λ (k : ℕ). b / 2 ^ k) (let q : suc m ≡ m + 1 = omega arith in q) ∙ sym (shr-shr b m 1)

-- what the bits of b from the m-th down make of v, as a chip gathers them
abbrev pub gathered : ℕ → ℕ → ℕ → ℕ
gathered zero b v = v
gathered (suc m) b v = gathered m b (shifted v (bit (b / 2 ^ m)))

one_more : (m b : ℕ) → b < 256 → shifted (b / 2 ^ suc m) (bit (b / 2 ^ m)) ≡ b / 2 ^ m
one_more m b small =
    let q = b / 2 ^ m in
    let h : b / 2 ^ suc m ≡ q / 2 = half b m in
    let v : value (bit q) ≡ q % 2 = value_bit q in
    let l : q ≤ b = shr_le b m in
    omega (arith, h, v, l)

pub gathered_all : (m b : ℕ) → b < 256 → gathered m b (b / 2 ^ m) ≡ b
gathered_all zero b small = let e : b / 1 ≡ b = omega arith in e
gathered_all (suc m) b small = ap (gathered m b) (one_more m b small) ∙ gathered_all m b small

pub gathered_address : (b : ℕ) → b < 128 → gathered 7 b 0 ≡ b
gathered_address b small =
    let none : 0 ≡ b / 2 ^ 7 = (let q : 0 ≡ b / 128 = omega arith in q) in
    ap (gathered 7 b) none ∙ gathered_all 7 b (omega arith)

-- and as a contender notes them
abbrev pub collected : ℕ → ℕ → ℕ → ℕ
collected zero b v = v
collected (suc m) b v = collected m b (2 * v + value (bit (b / 2 ^ m)))

pub collected_all : (m b v : ℕ) → collected m b v ≡ v * 2 ^ m + b % 2 ^ m
collected_all zero b v = let e : v ≡ v * 1 + b % 1 = omega arith in e
collected_all (suc m) b v =
    let p = 2 ^ m in
    let d = b / 2 ^ m % 2 in
    let ih : collected m b (2 * v + d) ≡ (2 * v + d) * p + b % p = collected_all m b (2 * v + d) in
    let e : collected m b (2 * v + value (bit (b / 2 ^ m))) ≡ collected m b (2 * v + d) = ap (λ (x : ℕ). collected m b (2 * v + x)) (value_bit (b / 2 ^ m)) in
    let s : b % 2 ^ suc m ≡ d * p + b % p = bit_split b m in
    let a : (2 * v + d) * p ≡ 2 * v * p + d * p = add-mul (2 * v) d p in
    let c : 2 * v * p ≡ 2 * (v * p) = mul_assoc 2 v p in
    let t : v * 2 ^ suc m ≡ 2 * (v * p) = ap (λ (x : ℕ). v * x) (pow-suc 2 m) ∙ sym (mul_assoc v p 2) ∙ (let z : v * p * 2 ≡ 2 * (v * p) = omega arith in z) in
    e ∙ omega (arith, ih, s, a, c, t)
