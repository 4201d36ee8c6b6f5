use Rattle.std.proofs.Common.{◌≡◌, ℕ, ◌<◌}
use Rattle.history.specs.Marks.{mark}
use Rattle.history.proofs.ended_against.Given as goal

-- up to here the history goes on with the greatest mark
abbrev pub invariant-loop-m : goal.invariant-loop-m
invariant-loop-m g l = let m = g.M.Mark.marks in (k : ℕ) → k < l.m-index → mark m l.rest k ≡ m.top
