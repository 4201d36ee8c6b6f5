use Rattle.chip_laws.proofs.News.{ready}
use Rattle.chip_laws.proofs.new_chips_are_ready.Goals as goal

pub returns : goal.returns
returns c = ready
