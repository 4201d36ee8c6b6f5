-- The eight flags of IICSE0: what sets and what clears each, in a slot and by an access. Assumes nothing.
--     loss             the block is in a contest of its own, and the slot does not carry what it offered: in a masters'
--                      slot anything else, in a slaves' slot an S or a P
--     own_start        the slot carries the S that the block offered
--     own_write_ninth  the ninth slot of its own address byte, of direction 0; own_read_ninth, of direction 1
--     extension        the 8th address slot completes a byte whose top four bits are 0000 or 1111
--     own_address      the 8th address slot completes the seven bits in SVA0
--     flag             a flag afterwards: a set condition wins over a clear one
--     flags_after      the table for a slot that carries the symbol
--     status_after     the status after it: IICE0 = 0 holds all eight at 0
--     status_written   the table for a word written into IICC0, which sets none
use Rattle.std.specs.Prelude.{ℕ, ◌/◌, Bool, true, false, cond, not, ◌&&◌, ◌||◌, ◌==◌, nat_lt}
use Rattle.bus.specs.declared.Symbol.{Symbol}
use Rattle.bus.specs.declared.Symbol.TheVariants.{Zero, Stop, Start}
use Rattle.bus.specs.Symbols.{is_bit, shifted}
use Rattle.bus.specs.Turns.{masters_slot}
use Rattle.block.specs.declared.Block.{Block}
use Rattle.block.specs.declared.Status.{Status}
use Rattle.block.specs.declared.registers.Word.{Word}
use Rattle.block.specs.Slots.{same, is_ninth, first_of_address, first_of_data, eighth_of_address, after_write, after_read}
use Rattle.block.specs.Tasks.{offers}

abbrev pub loss : Block → Symbol → Bool
loss b x = b.status.msts0 && (not (same (offers b) x) && (masters_slot b.turn || not (is_bit x)))

abbrev pub own_start : Block → Symbol → Bool
own_start b x = same x Start && same (offers b) Start

abbrev pub own_write_ninth : Block → Symbol → Bool
own_write_ninth b x = is_bit x && (b.status.msts0 && after_write b.turn)

abbrev pub own_read_ninth : Block → Symbol → Bool
own_read_ninth b x = is_bit x && (b.status.msts0 && after_read b.turn)

-- an address byte whose top four bits are 0000 or 1111
abbrev pub is_extension : ℕ → Bool
is_extension a = nat_lt a 16 || nat_lt 239 a

abbrev pub extension : Block → Symbol → Bool
extension b x = is_bit x && (eighth_of_address b.turn && is_extension (shifted b.shift x))

abbrev pub own_address : Block → Symbol → Bool
own_address b x = is_bit x && (eighth_of_address b.turn && shifted b.shift x / 2 == b.sva0 / 2)

abbrev pub acknowledges : Block → Symbol → Bool
acknowledges b x = same x Zero && is_ninth b.turn

abbrev pub first_address_slot : Block → Symbol → Bool
first_address_slot b x = is_bit x && first_of_address b.turn

abbrev pub first_data_slot : Block → Symbol → Bool
first_data_slot b x = is_bit x && first_of_data b.turn

abbrev pub flag : Bool → Bool → Bool → Bool
flag set clear before = cond set true (cond clear false before)

-- each flag: what sets it, what clears it, what it was
abbrev pub flags_after : Block → Symbol → Status
flags_after b x = record {
  msts0 = flag (own_start b x) (same x Stop || loss b x) b.status.msts0;
  ald0 = flag (loss b x) false b.status.ald0;
  exc0 = flag (extension b x) (same x Start || same x Stop) b.status.exc0;
  coi0 = flag (own_address b x) (same x Start || same x Stop) b.status.coi0;
  trc0 = flag (own_start b x || own_write_ninth b x) (own_read_ninth b x || (same x Stop || loss b x)) b.status.trc0;
  ackd0 = flag (acknowledges b x) (first_address_slot b x || (first_data_slot b x || same x Stop)) b.status.ackd0;
  std0 = flag (same x Start) (first_data_slot b x || same x Stop) b.status.std0;
  spd0 = flag (same x Stop) (first_address_slot b x) b.status.spd0;
}

abbrev pub no_flags : Status
no_flags = record { msts0 = false; ald0 = false; exc0 = false; coi0 = false; trc0 = false; ackd0 = false; std0 = false; spd0 = false }

abbrev pub status_after : Block → Symbol → Status
status_after b x = cond b.control.iice0 (flags_after b x) no_flags

-- the word switches the block off, or has it leave the contest
abbrev pub leaves : Word → Bool
leaves w = not w.control.iice0 || w.lrel0

abbrev pub status_written : Status → Word → Status
status_written s w = record {
  msts0 = flag false (leaves w) s.msts0;
  ald0 = flag false (not w.control.iice0) s.ald0;
  exc0 = flag false (leaves w) s.exc0;
  coi0 = flag false (leaves w) s.coi0;
  trc0 = flag false (leaves w || w.wrel0) s.trc0;
  ackd0 = flag false (leaves w) s.ackd0;
  std0 = flag false (leaves w) s.std0;
  spd0 = flag false (not w.control.iice0) s.spd0;
}
