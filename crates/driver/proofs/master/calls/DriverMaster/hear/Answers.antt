use Rattle.std.proofs.Common.{ap}
use Rattle.bus.specs.Symbols.{is_stop}
use Rattle.driver.proofs.Keeps.{slot_heard}
use Rattle.driver.proofs.master.calls.DriverMaster.hear.Goals as goal

pub invariant_of-self : goal.invariant_of-self
invariant_of-self c =
    let w = slot_heard c.args.self.now c.args.carried c.is_starting-tried.result c.hear.new.self c.respond.new.self c.clear_loss.new.self c.retry.new.self
    c.is_starting-tried.ensures c.hear.ensures c.respond.ensures c.clear_loss.ensures c.retry.ensures in
    record { sound = w.sound; room = w.few }

pub returns : goal.returns
returns c =
    let w = slot_heard c.args.self.now c.args.carried c.is_starting-tried.result c.hear.new.self c.respond.new.self c.clear_loss.new.self c.retry.new.self
    c.is_starting-tried.ensures c.hear.ensures c.respond.ensures c.clear_loss.ensures c.retry.ensures in
    record { after = w.master_is; renewed = λ q. w.clears (ap is_stop q) }
