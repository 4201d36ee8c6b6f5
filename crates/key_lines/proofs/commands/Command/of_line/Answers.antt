use Rattle.std.proofs.Common.{ℕ, List, subst}
use Rattle.key_lines.specs.Readings.{Reads}
use Rattle.key_lines.proofs.Spelling.{line_means}
use Rattle.key_lines.proofs.commands.Command.of_line.Goals as goal

pub returns : goal.returns
returns c =
    line_means c.args.line.now _ c.of_numbers.result c.in_ok-numbers.ensures
    (subst (λ (q : List ℕ). Reads q c.of_numbers.result) c.as_slice.ensures c.of_numbers.ensures)
