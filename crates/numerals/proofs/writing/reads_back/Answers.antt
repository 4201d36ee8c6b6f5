use Rattle.numerals.proofs.Texts.{reads_back}
use Rattle.numerals.proofs.writing.reads_back.Goals as goal

pub returns : goal.returns
returns c = reads_back
