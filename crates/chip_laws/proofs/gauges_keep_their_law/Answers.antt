use Rattle.chip_laws.proofs.Gauges.{gauge_law}
use Rattle.chip_laws.proofs.gauges_keep_their_law.Goals as goal

pub returns : goal.returns
returns c = gauge_law
