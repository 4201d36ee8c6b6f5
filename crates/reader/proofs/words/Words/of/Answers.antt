use Rattle.reader.proofs.Records.{whole_words}
use Rattle.reader.proofs.words.Words.of.Goals as goal

pub returns-clause-cases : goal.returns-clause-cases
returns-clause-cases c =
    let w = whole_words c.args.slots.now c.in_ok-check.ensures.cases in
    (w.0, w.1, w.1.reads)
