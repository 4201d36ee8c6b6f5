use Rattle.std.proofs.Common.{rules}
use Rattle.orders.specs.Fills.{order_of}
use Rattle.progress.proofs.Room.{come_plan}
use Rattle.progress.proofs.script.Progress.begin.Goals as goal

pub invariant_of-result : goal.invariant_of-result
invariant_of-result c =
    let come = come_plan 0 (order_of c.args.order) in
    search rules
