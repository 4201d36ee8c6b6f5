use Rattle.scripts.proofs.Frames.{orders_are_framed}
use Rattle.scripts.proofs.orders_are_framed.Goals as goal

pub returns : goal.returns
returns c = orders_are_framed
