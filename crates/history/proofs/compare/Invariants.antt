use Rattle.std.proofs.Common.{◌≡◌, ℕ, ◌<◌}
use Rattle.history.specs.Marks.{mark}
use Rattle.history.proofs.compare.Given as goal

-- up to here they do not differ
abbrev pub invariant-loop-i : goal.invariant-loop-i
invariant-loop-i g l = let m = g.M.Mark.marks in (k : ℕ) → k < l.i → mark m l.a k ≡ mark m l.b k
