use Rattle.std.proofs.Common.{refl}
use Rattle.slaves.specs.Slave.{Freed}
use Rattle.chips.specs.Chips.{chip_step}
use Rattle.chip_laws.proofs.Serving.{served}
use Rattle.chip_laws.proofs.assembly_alters_none.Goals as goal

pub returns : goal.returns
returns c = λ r s o l. served r (chip_step r s Freed) o refl l
