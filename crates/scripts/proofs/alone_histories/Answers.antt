use Rattle.scripts.proofs.Plans.{one_history}
use Rattle.scripts.proofs.alone_histories.Goals as goal

pub returns : goal.returns
returns c = one_history
