use Rattle.history.proofs.Dropped.{fair_to_kept}
use Rattle.history.proofs.contests.contests_are_fair_to_the_kept.Goals as goal

pub returns : goal.returns
returns g c = λ G t K cs r h p d i s k e v. fair_to_kept G K h t cs r p i s k e v d
