use Rattle.numerals.proofs.Words.{long_lines_are_wrong}
use Rattle.numerals.proofs.kept.ops.long_lines_are_wrong.Goals as goal

pub returns : goal.returns
returns c = long_lines_are_wrong
