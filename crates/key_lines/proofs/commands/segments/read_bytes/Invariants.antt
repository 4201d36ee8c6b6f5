use Rattle.std.proofs.Common.{◌≡◌, true, take}
use Rattle.array_vec.specs.Items.{items_of}
use Rattle.orders.specs.Tests.{every, is_byte}
use Rattle.key_lines.proofs.commands.segments.read_bytes.Given as goal

abbrev pub invariant-loop-n : goal.invariant-loop-n
invariant-loop-n l = (items_of l.bytes ≡ take l.n-index l.numbers) × (every is_byte (take l.n-index l.numbers) ≡ true)
