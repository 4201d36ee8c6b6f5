use Rattle.std.proofs.Common.{◌≡◌, get_or, rules, subst}
use Rattle.key_lines.specs.Kinds.{Names}
use Rattle.key_lines.proofs.Spelling.{no_kind}
use Rattle.key_lines.proofs.commands.Command.of_numbers.Goals as goal

pub returns-in_err-ok : goal.returns-in_err-ok
returns-in_err-ok c =
    let first : get_or c.in_ok-kind.field-0-0.now 0 0 ≡ get_or c.args.numbers.now 0 0 = search rules in
    no_kind c.args.numbers.now c.try_from.result c.ok.result _ (subst (λ k. Names k c.try_from.result) first c.try_from.ensures) c.ok.ensures.variant c.in_err-ok.was c.from_residual-in_err-ok.ensures
