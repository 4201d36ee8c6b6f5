use Rattle.driving_laws.proofs.Main.{offers_all, hears_all}
use Rattle.driving_laws.proofs.registers_agree.Goals as goal

pub returns : goal.returns
returns c = record { offering = offers_all; hearing = hears_all }
