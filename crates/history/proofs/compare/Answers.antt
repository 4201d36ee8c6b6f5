use Rattle.std.proofs.Common.{length, ◌∙◌, arith}
use Rattle.std.proofs.lemmas.Slice.{between_to_end}
use Rattle.history.proofs.Differences.{ends}
use Rattle.history.proofs.compare.Goals as goal

pub returns-in-Some : goal.returns-in-Some
returns-in-Some g c =
    let reached = c.loop-i-test.false in
    let rest = c.in-Some.ensures.lookup.0.2 ∙ between_to_end c.args.b.now (length c.args.a.now) (length c.args.b.now) (omega arith) in
    ends g.M.Mark.marks c.ended_against.result c.args.a.now c.args.b.now c.in-Some.rest.now rest (λ j l. c.loop-i.invariant j (omega arith)) c.ended_against.ensures
