use Rattle.std.proofs.Common.{◌≡◌, ℕ, ◌/◌, ◌^◌, ◌<◌, ◌≤◌, refl, arith, pow_mono}
use native.Mathlib.Nat.{div-eq_of_lt}
use Rattle.bus.specs.declared.Symbol.TheVariants.{Zero}
use Rattle.bus.specs.Symbols.{bit}
use Rattle.bus.proofs.Symbol.of_bit.Goals as goal

-- past the highest bit
beyond : (byte place : ℕ) → byte < 256 → 7 < place → Zero ≡ bit (byte / 2 ^ place)
beyond byte place small past =
    let high : 2 ^ 8 ≤ 2 ^ place = pow_mono past in
    let none : byte / 2 ^ place ≡ 0 = div-eq_of_lt (omega arith) in
    rw none refl

pub returns-then-place-gt7 : goal.returns-then-place-gt7
returns-then-place-gt7 c = beyond c.args.byte c.args.place c.ranges.byte.fits c.if-place-gt7.true
