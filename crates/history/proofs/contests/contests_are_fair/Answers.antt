use Rattle.history.proofs.General.{fair}
use Rattle.history.proofs.contests.contests_are_fair.Goals as goal

pub returns : goal.returns
returns g c = λ G t cs r h. fair G t cs r h
