-- The registers: what an access returns, and the block after it. Assumes nothing.
--     IIC0 ..         the offsets
--     offset_of       the offset of a register
--     Decodes         what an offset is read as
--     reset_block     the block after reset: every register 0000H, the bus free
--     word_of         the bits of a word written into IICC0
--     control_value   what IICC0 reads as: LREL0 and WREL0 as 0, STT0 and SPT0 as 1 until tried
--     status_value    what IICSE0 reads as: the flags in bits 15 to 8
--     byte_moves      from the answer to a wait, or a byte's first slot, until its ninth was heard
--     read_number     what a read returns, down the table of refusals
--     read_value      the value that a register reads as
--     write_number    what a write returns, down the table of refusals
--     written         the block after a write: a refusal alters nothing
use Rattle.std.specs.Prelude.{◌≡◌, ℕ, ◌+◌, ◌*◌, ◌/◌, ◌%◌, ◌^◌, ◌≤◌, Bool, false, cond, not, ◌&&◌, ◌||◌, Ok, Err, Result, MatchResult, ◌==◌, nat_lt}
use Rattle.bus.specs.declared.Turn.TheVariants.{Free}
use Rattle.bus.specs.Turns.{busy}
use Rattle.refusals.specs.declared.Refusal.{Refusal}
use Rattle.block.specs.declared.Block.{Block}
use Rattle.refusals.specs.declared.Refusal.TheVariants.{NoSuchRegister}
use Rattle.block.specs.declared.Register.{Register}
use Rattle.block.specs.declared.Register.TheVariants.{Iic0, Iicc0, Sva0, Iiccl0, Iicse0, Iicf0}
use Rattle.block.specs.declared.Status.{Status}
use Rattle.block.specs.declared.Task.{Task}
use Rattle.block.specs.declared.Task.TheVariants as task
use Rattle.block.specs.declared.registers.Word.{Word}
use Rattle.block.specs.Slots.{in_byte}
use Rattle.block.specs.Tasks.{waits, waits_ninth, has_byte, starts, stops}
use Rattle.block.specs.Flags.{leaves, no_flags, status_written}

abbrev pub IIC0 : ℕ
IIC0 = 0

abbrev pub IICC0 : ℕ
IICC0 = 8

abbrev pub SVA0 : ℕ
SVA0 = 12

abbrev pub IICCL0 : ℕ
IICCL0 = 16

abbrev pub IICSE0 : ℕ
IICSE0 = 28

abbrev pub IICF0 : ℕ
IICF0 = 40

abbrev pub offset_of : Register → ℕ
offset_of Iic0 = IIC0
offset_of Iicc0 = IICC0
offset_of Sva0 = SVA0
offset_of Iiccl0 = IICCL0
offset_of Iicse0 = IICSE0
offset_of Iicf0 = IICF0

abbrev pub reset_block : Block
reset_block = record {
  turn = Free;
  shift = 0;
  task = task.Rest;
  control = record { iice0 = false; spie0 = false; wtim0 = false; acke0 = false };
  status = no_flags;
  iic0 = 0;
  sva0 = 0;
  iiccl0 = 0;
  iicf0 = 0;
}

-- bit n of a number
abbrev pub has : ℕ → ℕ → Bool
has v n = v / 2 ^ n % 2 == 1

abbrev pub word_of : ℕ → Word
word_of v = record {
  control = record { iice0 = has v 7; spie0 = has v 4; wtim0 = has v 3; acke0 = has v 2 };
  lrel0 = has v 6;
  wrel0 = has v 5;
  stt0 = has v 1;
  spt0 = has v 0;
}

-- eight bits as a number, the highest first
abbrev pub packed : (a b c d e f g h : Bool) → ℕ
packed a b c d e f g h = cond a 128 0 + (cond b 64 0 + (cond c 32 0 + (cond d 16 0 + (cond e 8 0 + (cond f 4 0 + (cond g 2 0 + cond h 1 0))))))

abbrev pub control_value : Block → ℕ
control_value b = packed b.control.iice0 false false b.control.spie0 b.control.wtim0 b.control.acke0 (starts b.task) (stops b.task)

abbrev pub status_value : Status → ℕ
status_value s = 256 * packed s.msts0 s.ald0 s.exc0 s.coi0 s.trc0 s.ackd0 s.std0 s.spd0

abbrev pub byte_moves : Block → Bool
byte_moves b = in_byte b.turn || has_byte b.task

-- the registers that may be written; IICSE0 is read only
abbrev pub is_writable : ℕ → Bool
is_writable o = o == IIC0 || (o == IICC0 || (o == SVA0 || (o == IICCL0 || o == IICF0)))

-- the register at an offset, or the refusal of an offset of none
abbrev pub Decodes : ℕ → Result Register Refusal → Type 0
Decodes o r = MatchResult r (λ k. offset_of k ≡ o) (λ e. (e ≡ NoSuchRegister) × ((is_writable o || o == IICSE0) ≡ false))

abbrev pub read_number : Block → ℕ → ℕ
read_number b o = cond (not (is_writable o || o == IICSE0)) 15 (cond (o == IIC0 && byte_moves b) 17 0)

abbrev pub read_value : Block → ℕ → ℕ
read_value b o =
    cond (o == IIC0) b.iic0
    (cond (o == IICC0) (control_value b)
    (cond (o == SVA0) b.sva0
    (cond (o == IICCL0) b.iiccl0
    (cond (o == IICSE0) (status_value b.status) b.iicf0))))

-- the value that is read; every register but IICSE0 has eight bits
abbrev pub reads : Block → ℕ → Result ℕ Refusal → Type 0
reads b o (Ok v) = (v ≡ read_value b o) × (v ≤ cond (o == IICSE0) 65535 255)
reads b o (Err e) = Unit

-- IIC0 is written in a wait
abbrev pub refuses_byte : Block → Bool
refuses_byte b = not (b.control.iice0 && waits b.task)

-- WREL0, STT0 and SPT0 are set in a wait after a ninth slot, STT0 on a free bus too, and none of them with IICE0 = 0
abbrev pub refuses_word : Block → Word → Bool
refuses_word b w =
    ((w.wrel0 || (w.stt0 || w.spt0)) && not w.control.iice0)
    || (((w.wrel0 || w.spt0) && not (waits_ninth b.task))
    || (w.stt0 && (busy b.turn && not (waits_ninth b.task))))

abbrev pub two_at_once : Word → Bool
two_at_once w =
    (w.lrel0 && (w.wrel0 || (w.stt0 || w.spt0))) || ((w.wrel0 && (w.stt0 || w.spt0)) || (w.stt0 && w.spt0))

abbrev pub write_number : Block → ℕ → ℕ → ℕ
write_number b o v =
    cond (not (is_writable o)) 15
    (cond (nat_lt 255 v || (o == IICC0 && ((word_of v).control.iice0 && not (word_of v).control.wtim0))) 16
    (cond ((o == IIC0 && refuses_byte b) || (o == IICC0 && refuses_word b (word_of v))) 17
    (cond (o == IICC0 && two_at_once (word_of v)) 18 0)))

-- what is asked for takes the place of a wait; no written 0 alters what is asked for
abbrev pub task_written : Task → Word → Task
task_written t w =
    cond (leaves w) task.Rest
    (cond w.wrel0 task.Receive
    (cond w.stt0 task.Start
    (cond w.spt0 task.Stop t)))

abbrev pub word_written : Block → Word → Block
word_written b w = record {
  turn = b.turn;
  shift = b.shift;
  task = task_written b.task w;
  control = w.control;
  status = status_written b.status w;
  iic0 = b.iic0;
  sva0 = b.sva0;
  iiccl0 = b.iiccl0;
  iicf0 = b.iicf0;
}

abbrev pub byte_written : Block → ℕ → Block
byte_written b v = record {
  turn = b.turn;
  shift = b.shift;
  task = task.Send v;
  control = b.control;
  status = b.status;
  iic0 = b.iic0;
  sva0 = b.sva0;
  iiccl0 = b.iiccl0;
  iicf0 = b.iicf0;
}

-- SVA0, IICCL0 and IICF0 keep what is written
abbrev pub stored : Block → ℕ → ℕ → Block
stored b o v = record {
  turn = b.turn;
  shift = b.shift;
  task = b.task;
  control = b.control;
  status = b.status;
  iic0 = b.iic0;
  sva0 = cond (o == SVA0) v b.sva0;
  iiccl0 = cond (o == IICCL0) v b.iiccl0;
  iicf0 = cond (o == IICF0) v b.iicf0;
}

abbrev pub accepted : Block → ℕ → ℕ → Block
accepted b o v = cond (o == IIC0) (byte_written b v) (cond (o == IICC0) (word_written b (word_of v)) (stored b o v))

abbrev pub written : Block → ℕ → ℕ → Block
written b o v = cond (write_number b o v == 0) (accepted b o v) b
