use Rattle.std.proofs.Common.{◌≡◌, ◌+◌, ◌≤◌, ◌++◌, length, take, drop}
use Rattle.orders.specs.Held.{held}
use Rattle.orders.specs.Tables.{meaning}
use Rattle.progress.specs.Plans.{read_total}
use Rattle.progress.proofs.finished.Finished.hand_over.Given as goal

abbrev pub invariant-loop-segment : goal.invariant-loop-segment
invariant-loop-segment l =
    (l.at ≤ length (held l.self.bytes))
    × (length (held l.self.bytes) ≤ l.at + read_total (meaning (drop l.segment-index l.segment-items) (held l.self.order.bytes)))
    × (l.buffer ≡ take l.at (held l.self.bytes) ++ drop l.at l.initial.buffer)
