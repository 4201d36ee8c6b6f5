use Rattle.std.proofs.Common.{◌≡◌, ◌+◌, ◌≤◌, ◌++◌, length, take, drop}
use Rattle.orders.specs.Fills.{counts, tabled}
use Rattle.orders.proofs.order.Order.fill.Given as goal

abbrev pub invariant-loop-i : goal.invariant-loop-i
invariant-loop-i l =
    (length l.copy ≡ 4)
    × (l.at + counts (drop l.i l.segments) ≤ 32)
    × (take l.i l.copy ++ tabled (drop l.i l.segments) l.at ≡ tabled l.segments 0)
