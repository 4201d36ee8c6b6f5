use Rattle.std.proofs.Common.{arith}
use Rattle.std.proofs.lemmas.Bool.Decides.{nat_tests}
use Rattle.block_laws.proofs.Holds.{loss_stays}
use Rattle.block_laws.proofs.after_accesses.Goals as goal

pub returns-clause-lost : goal.returns-clause-lost
returns-clause-lost c = loss_stays

pub returns-clause-control : goal.returns-clause-control
returns-clause-control c b = record {
  iice0 = grind (arith, nat_tests);
  lrel0 = grind (arith, nat_tests);
  wrel0 = grind (arith, nat_tests);
  spie0 = grind (arith, nat_tests);
  wtim0 = grind (arith, nat_tests);
  acke0 = grind (arith, nat_tests);
  stt0 = grind (arith, nat_tests);
  spt0 = grind (arith, nat_tests);
}

pub returns-clause-status : goal.returns-clause-status
returns-clause-status c b = record {
  msts0 = grind (arith, nat_tests);
  ald0 = grind (arith, nat_tests);
  exc0 = grind (arith, nat_tests);
  coi0 = grind (arith, nat_tests);
  trc0 = grind (arith, nat_tests);
  ackd0 = grind (arith, nat_tests);
  std0 = grind (arith, nat_tests);
  spd0 = grind (arith, nat_tests);
}
