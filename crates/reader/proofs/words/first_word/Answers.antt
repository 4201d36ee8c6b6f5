use Rattle.std.proofs.Common.{rules}
use Rattle.reader.proofs.Fronts.{take_nine}
use Rattle.reader.proofs.words.first_word.Goals as goal

pub returns-in_ok-slots-in_default-clause-takes : goal.returns-in_ok-slots-in_default-clause-takes
returns-in_ok-slots-in_default-clause-takes c =
    let chunk = c.in_ok-slots-in_default in
    let e = chunk.ensures.cases in
    take_nine c.args.slots.now chunk.slots.now c.args.place e.enough e.same (λ some q. search rules) (λ some q. search rules)
