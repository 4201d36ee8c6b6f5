use Rattle.std.proofs.Common.{◌≡◌, ◌++◌, string_bytes, decimal}
use Rattle.numerals.specs.Lines.{further}
use Rattle.numerals.proofs.writing.text.Given as goal

abbrev pub invariant-loop-n : goal.invariant-loop-n
invariant-loop-n l = string_bytes l.out ≡ decimal l.fn.first ++ further l.yielded
