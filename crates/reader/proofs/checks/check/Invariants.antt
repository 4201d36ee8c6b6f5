use Rattle.std.proofs.Common.{length}
use Rattle.reader.proofs.Checking.{Checked}
use Rattle.reader.proofs.checks.check.Given as goal

-- what is read so far follows the turns
abbrev pub invariant-loop-left : goal.invariant-loop-left
invariant-loop-left l = Checked l.slots l.left l.turn

abbrev pub decreases-loop-left : goal.decreases-loop-left
decreases-loop-left l = length l.left
