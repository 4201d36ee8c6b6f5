use Rattle.numerals.proofs.Words.{one_list}
use Rattle.numerals.proofs.reading.one_list.Goals as goal

pub returns : goal.returns
returns c = one_list
