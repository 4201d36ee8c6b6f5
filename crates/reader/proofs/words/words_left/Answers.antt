use Rattle.std.proofs.Common.{◌∙◌}
use Rattle.reader.proofs.Cursors.{all_taken}
use Rattle.reader.proofs.words.words_left.Goals as goal

pub returns : goal.returns
returns c = λ ws l. c.count.ensures.ran.2 ∙ all_taken c.args.words c.count.ensures.ran.0 ws c.count.ensures.ran.1 l
