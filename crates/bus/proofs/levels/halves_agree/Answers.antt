use Rattle.bus.proofs.Halves.{agree}
use Rattle.bus.proofs.levels.halves_agree.Goals as goal

pub returns : goal.returns
returns c = agree
