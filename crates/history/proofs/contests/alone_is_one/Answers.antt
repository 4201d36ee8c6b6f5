use Rattle.history.proofs.General.{alone_one}
use Rattle.history.proofs.Words.{to_words, from_words}
use Rattle.history.proofs.contests.alone_is_one.Goals as goal

pub returns : goal.returns
returns g c = record { one = λ G s r h k. alone_one G s r h k; grows = λ G s r h. (to_words G h s r, from_words G h s r) }
