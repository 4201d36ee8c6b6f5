-- The block after a slot. Assumes nothing.
--     stands_on     an unanswered wait stands on: a 1 in it belongs to no byte
--     shift_after   the bits of the byte so far
--     iic0_after    IIC0, the last byte moved: a byte is moved with its ninth slot
--     task_after    what the block is about next
--     heard         the block after a slot that carries the symbol
use Rattle.std.specs.Prelude.{ℕ, Bool, cond, not, ◌&&◌}
use Rattle.bus.specs.declared.Symbol.{Symbol}
use Rattle.bus.specs.declared.Symbol.TheVariants.{One}
use Rattle.bus.specs.Symbols.{is_bit, shifted}
use Rattle.bus.specs.Turns.{next, busy}
use Rattle.block.specs.declared.Block.{Block}
use Rattle.block.specs.declared.Task.{Task}
use Rattle.block.specs.declared.Task.TheVariants as task
use Rattle.block.specs.Slots.{same, is_ninth}
use Rattle.block.specs.Tasks.{waits}
use Rattle.block.specs.Flags.{own_start, loss, status_after}

abbrev pub stands_on : Block → Symbol → Bool
stands_on b x = same x One && waits b.task

abbrev pub shift_after : Block → Symbol → ℕ
shift_after b x = cond (is_bit x && (busy b.turn && not (is_ninth b.turn))) (shifted b.shift x) 0

abbrev pub iic0_after : Block → Symbol → ℕ
iic0_after b x = cond (is_bit x && is_ninth b.turn) b.shift b.iic0

-- a bit inside a byte: a byte goes on, STT0 and SPT0 fall once tried, a wait ends where a slave begins the byte
abbrev pub bit_passed : Task → Task
bit_passed task.Rest = task.Rest
bit_passed task.StartWait = task.Rest
bit_passed task.NinthWait = task.Rest
bit_passed (task.Send v) = task.Send v
bit_passed task.Receive = task.Receive
bit_passed task.Start = task.Rest
bit_passed task.Stop = task.Rest

-- while MSTS0 = 1 a wait stands after an S of its own and after each ninth slot
abbrev pub task_after : Block → Symbol → Task
task_after b x =
    cond (loss b x) task.Rest
    (cond (own_start b x) task.StartWait
    (cond (not (is_bit x)) task.Rest
    (cond (is_ninth b.turn) (cond b.status.msts0 task.NinthWait task.Rest)
    (bit_passed b.task))))

abbrev pub moved_on : Block → Symbol → Block
moved_on b x = record {
  turn = next b.turn x;
  shift = shift_after b x;
  task = task_after b x;
  control = b.control;
  status = status_after b x;
  iic0 = iic0_after b x;
  sva0 = b.sva0;
  iiccl0 = b.iiccl0;
  iicf0 = b.iicf0;
}

abbrev pub heard : Block → Symbol → Block
heard b x = cond (stands_on b x) b (moved_on b x)
