use mathlib.Core.Option.{some}
use Rattle.std.proofs.lemmas.Result.{IfOk-weaker}
use Rattle.key_lines.proofs.session.Session.answer.Goals as goal

pub returns-in-Some-clause-answer : goal.returns-in-Some-clause-answer
returns-in-Some-clause-answer g c =
    let asks = c.in-Some.ensures in
    IfOk-weaker c.carry_out.result _ _ (λ s h. (some asks.0, asks.1, h asks.0 asks.2)) c.carry_out.ensures.answer

pub returns-in-Some-clause-after : goal.returns-in-Some-clause-after
returns-in-Some-clause-after g c = let asks = c.in-Some.ensures in (some asks.0, asks.1, c.carry_out.ensures.after asks.0 asks.2)
