use Rattle.std.proofs.Common.{map}
use Rattle.array_vec.specs.Items.{items_of}
use Rattle.numerals.proofs.Words.{Spells}
use Rattle.numerals.proofs.reading.split_numbers.Given as goal

abbrev pub invariant-loop-word : goal.invariant-loop-word
invariant-loop-word l = Spells (map (λ w. w.now) l.yielded) (items_of l.numbers)
