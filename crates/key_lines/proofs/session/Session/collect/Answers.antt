use Rattle.std.proofs.Common.{◌≡◌, ℕ, List, IfOk, Ok, Err, string_bytes, refl, subst}
use Rattle.numerals.specs.Lines.{text}
use Rattle.bench.specs.Benches.{model}
use Rattle.key_lines.proofs.Collecting.{collected}
use Rattle.key_lines.proofs.session.Session.collect.Goals as goal

pub returns-in-Ok-clause-answer : goal.returns-in-Ok-clause-answer
returns-in-Ok-clause-answer g c =
    let did = c.collect.ensures in
    let line = collected (model g.M.Masters g.S.Slaves c.args.self.now.bench) c.args.number c.from.result _ c.collect.new.buffer c.collect.result (Ok c.in-Ok.answer) refl c.from.ensures did.answer c.in-Ok.is did.bytes in
    subst (λ (l : List ℕ). IfOk c.answer_reply.result (λ s. string_bytes s ≡ text l)) line.1 c.answer_reply.ensures

pub returns-in-Err-clause-answer : goal.returns-in-Err-clause-answer
returns-in-Err-clause-answer g c =
    let did = c.collect.ensures in
    let line = collected (model g.M.Masters g.S.Slaves c.args.self.now.bench) c.args.number c.from.result _ c.collect.new.buffer c.collect.result (Err c.in-Err.refusal) refl c.from.ensures did.answer c.in-Err.is did.bytes in
    subst (λ (l : List ℕ). IfOk c.short_reply.result (λ s. string_bytes s ≡ text l)) line c.short_reply.ensures
