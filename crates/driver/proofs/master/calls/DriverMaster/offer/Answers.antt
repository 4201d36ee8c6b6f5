use Rattle.std.proofs.Common.{◌∙◌}
use Rattle.driver.proofs.Keeps.{driver_offers}
use Rattle.driver.proofs.master.calls.DriverMaster.offer.Goals as goal

pub returns : goal.returns
returns c = c.block_offer.ensures ∙ driver_offers c.args.self.now
