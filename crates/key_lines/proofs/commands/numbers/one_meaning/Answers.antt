use Rattle.key_lines.proofs.Spelling.{one_meaning}
use Rattle.key_lines.proofs.commands.numbers.one_meaning.Goals as goal

pub returns : goal.returns
returns c = one_meaning
