use Rattle.std.proofs.Common.{◌≡◌, ◌++◌, length}
use Rattle.array_vec.specs.Items.{items_of}
use Rattle.key_lines.specs.Commands.{segment_numbers}
use Rattle.key_lines.proofs.commands.segments.read_segments.Given as goal

abbrev pub invariant-loop : goal.invariant-loop
invariant-loop l = (length (items_of l.segments) ≡ l.counter) × (l.numbers ≡ segment_numbers (items_of l.segments) ++ l.left)
