use Rattle.chip_laws.proofs.Serving.{served}
use Rattle.chip_laws.proofs.orders_are_served.Goals as goal

pub returns : goal.returns
returns c = served
