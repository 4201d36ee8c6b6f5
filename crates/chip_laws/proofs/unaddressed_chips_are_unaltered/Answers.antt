use Rattle.chip_laws.proofs.Unaddressed.{unaltered}
use Rattle.chip_laws.proofs.unaddressed_chips_are_unaltered.Goals as goal

pub returns : goal.returns
returns c = unaltered
