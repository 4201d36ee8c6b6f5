-- Bytes as marks, in their order as numbers. Assumes nothing.
use Rattle.std.specs.Prelude.{◌≡◌, ◌<◌}
use mathlib.Core.HLevel.{is_prop→PathP}
use Rattle.std.proofs.Math.Bridge.{le_prop}
use Rattle.std.proofs.Common.{arith, lit<, nat_cmp, Ordering, Less, Equal, Greater}
use Rattle.std.specs.Cmp.{ranks}
use Rattle.std.specs.Ordering.{MatchOrdering}
use Rattle.history.specs.declared.bytes.Byte.{Byte}
use Rattle.history.specs.Marks.{Marks}

pub same_value : (a b : Byte) → a.value ≡ b.value → a ≡ b
same_value a b e = λ i. record { value = e i; small = is_prop→PathP (λ j. e j < 256) (λ j. le_prop) a.small b.small i }

abbrev pub bytes : Marks Byte
bytes = record {
  rank = λ b. b.value;
  apart = same_value;
  top = record { value = 255; small = lit< tt };
  greatest = λ b. let s = b.small in omega arith;
}

-- bytes compare as their values do
pub byte_ranked : (a b : Byte) → MatchOrdering (nat_cmp a.value b.value) (a.value < b.value) (a ≡ b) (b.value < a.value)
byte_ranked a b = go (nat_cmp a.value b.value) (ranks a.value b.value)
  where
    go : (r : Ordering) → MatchOrdering r (a.value < b.value) (a.value ≡ b.value) (b.value < a.value) → MatchOrdering r (a.value < b.value) (a ≡ b) (b.value < a.value)
    go Less h = h
    go Equal h = same_value a b h
    go Greater h = h
