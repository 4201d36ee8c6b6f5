use Rattle.chip_laws.proofs.Unaddressed.{as_if_alone}
use Rattle.chip_laws.proofs.unaddressed_chips_are_silent.Goals as goal

pub returns : goal.returns
returns c = as_if_alone
