use Rattle.std.proofs.Common.{sym, subst}
use Rattle.law.specs.Calls.{moves, ranks, grown}
use Rattle.law.specs.Law.{Always}
use Rattle.law.proofs.Law.{always, continues}
use Rattle.law.proofs.Running.{grown_by}
use Rattle.law.proofs.holds.Goals as goal

pub returns : goal.returns
returns c = record {
  always = λ ms ss w well e. subst Always (sym e) (always ms ss well);
  continues = continues;
  marks = λ c w v before after e m. continues c w v (grown before after) e (grown_by before (ranks (moves c w)) after m);
}
