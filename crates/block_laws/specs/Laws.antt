-- What holds of every block, whatever it hears and whatever is written. Assumes nothing.
--     Event     a write of a register, or a slot
--     came      the block after it; ran, after a list of them
--     Always    of a block since reset, whatever came
use Rattle.std.specs.Prelude.{◌≡◌, ℕ, Bool, true, false, cond, not, ◌&&◌, List, [], ◌∷◌, ◌==◌}
use Rattle.bus.specs.declared.Symbol.{Symbol}
use Rattle.bus.specs.declared.Symbol.TheVariants.{Stop, Start, One}
use Rattle.bus.specs.Symbols.{is_bit}
use Rattle.bus.specs.Turns.{masters_slot, busy}
use Rattle.block.specs.declared.Block.{Block}
use Rattle.block.specs.declared.Status.{Status}
use Rattle.block.specs.Slots.{same, after_write, after_read, in_byte}
use Rattle.block.specs.Tasks.{waits, starts, stops, offers}
use Rattle.block.specs.Flags.{no_flags}
use Rattle.block.specs.Heard.{heard}
use Rattle.block.specs.Access.{IICC0, IICSE0, has, read_value, write_number, written, reset_block}

pub data Event : Type 0 where
  Write : (offset value : ℕ) → Event
  Slot : Symbol → Event

abbrev pub came : Block → Event → Block
came b (Write o v) = written b o v
came b (Slot x) = heard b x

abbrev pub ran : Block → List Event → Block
ran b [] = b
ran b (e ∷ l) = ran (came b e) l

abbrev pub Always : (Block → Type 0) → Type 0
Always P = (l : List Event) → P (ran reset_block l)

-- ALD0 falls only where IICE0 is 0: by no slot, so not by P, and by no other write
abbrev pub LossStays : Type 0
LossStays = (b : Block) (e : Event) → (came b e).control.iice0 ≡ true → b.status.ald0 ≡ true → (came b e).status.ald0 ≡ true

-- P leaves SPD0, and of the others ALD0 at most
abbrev pub stopped : Bool → Status
stopped ald0 = record { msts0 = false; ald0 = ald0; exc0 = false; coi0 = false; trc0 = false; ackd0 = false; std0 = false; spd0 = true }

abbrev pub AfterStop : Type 0
AfterStop = (b : Block) → (heard b Stop).status ≡ cond b.control.iice0 (stopped (heard b Stop).status.ald0) no_flags

-- any S sets STD0 and clears EXC0 and COI0; MSTS0 then says whether it was the block's own
pub record Started (b : Block) (s : Status) : Type 0 where
  pub std0 : s.std0 ≡ true
  pub exc0 : s.exc0 ≡ false
  pub coi0 : s.coi0 ≡ false
  pub msts0 : s.msts0 ≡ same (offers b) Start

abbrev pub AfterStart : Type 0
AfterStart = (b : Block) → b.control.iice0 ≡ true → Started b (heard b Start).status

-- who does not hear its own offer in a masters' slot has lost, and takes no further part
pub record Lost (b : Block) : Type 0 where
  pub msts0 : b.status.msts0 ≡ false
  pub ald0 : b.status.ald0 ≡ true
  pub trc0 : b.status.trc0 ≡ false
  pub silent : offers b ≡ One

abbrev pub Loses : Type 0
Loses = (b : Block) (x : Symbol) → b.control.iice0 ≡ true → b.status.msts0 ≡ true → masters_slot b.turn ≡ true → same (offers b) x ≡ false → Lost (heard b x)

-- by a bit in a slaves' slot nobody loses
abbrev pub SlavesSpare : Type 0
SlavesSpare = (b : Block) (x : Symbol) → b.control.iice0 ≡ true → masters_slot b.turn ≡ false → is_bit x ≡ true → ((heard b x).status.msts0 ≡ b.status.msts0) × ((heard b x).status.ald0 ≡ b.status.ald0)

-- a 1 in an unanswered wait alters nothing
abbrev pub WaitsOn : Type 0
WaitsOn = (b : Block) → waits b.task ≡ true → heard b One ≡ b

-- after the ninth slot of its own address byte, acknowledged or not, TRC0 is 1 to write and 0 to read
abbrev pub Directed : Type 0
Directed = (b : Block) (x : Symbol) → b.control.iice0 ≡ true → b.status.msts0 ≡ true → is_bit x ≡ true → waits b.task ≡ false →
    (after_write b.turn ≡ true → (heard b x).status.trc0 ≡ true) × (after_read b.turn ≡ true → (heard b x).status.trc0 ≡ false)

-- a refused write alters nothing
abbrev pub Refused : Type 0
Refused = (b : Block) (o v : ℕ) → (write_number b o v == 0) ≡ false → written b o v ≡ b

-- what IICC0 reads as, bit by bit
pub record ReadsBack (b : Block) (v : ℕ) : Type 0 where
  pub iice0 : has v 7 ≡ b.control.iice0
  pub lrel0 : has v 6 ≡ false
  pub wrel0 : has v 5 ≡ false
  pub spie0 : has v 4 ≡ b.control.spie0
  pub wtim0 : has v 3 ≡ b.control.wtim0
  pub acke0 : has v 2 ≡ b.control.acke0
  pub stt0 : has v 1 ≡ starts b.task
  pub spt0 : has v 0 ≡ stops b.task

abbrev pub ControlReads : Type 0
ControlReads = (b : Block) → ReadsBack b (read_value b IICC0)

-- what IICSE0 reads as, bit by bit
pub record Shows (s : Status) (v : ℕ) : Type 0 where
  pub msts0 : has v 15 ≡ s.msts0
  pub ald0 : has v 14 ≡ s.ald0
  pub exc0 : has v 13 ≡ s.exc0
  pub coi0 : has v 12 ≡ s.coi0
  pub trc0 : has v 11 ≡ s.trc0
  pub ackd0 : has v 10 ≡ s.ackd0
  pub std0 : has v 9 ≡ s.std0
  pub spd0 : has v 8 ≡ s.spd0

abbrev pub StatusReads : Type 0
StatusReads = (b : Block) → Shows b.status (read_value b IICSE0)

-- while IICE0 = 0 all eight flags are 0
abbrev pub Off : Type 0
Off = Always (λ b. b.control.iice0 ≡ false → b.status ≡ no_flags)

-- TRC0 = 1 only while MSTS0 = 1, and so with waits
abbrev pub Sends : Type 0
Sends = Always (λ b. b.status.trc0 ≡ true → b.status.msts0 ≡ true)

abbrev pub Waits : Type 0
Waits = Always (λ b. waits b.task ≡ true → b.status.msts0 ≡ true)

-- with MSTS0 = 0 it offers S where STT0 is set and the bus is free, and else 1
abbrev pub Silent : Type 0
Silent = Always (λ b. b.status.msts0 ≡ false → offers b ≡ cond (starts b.task && not (busy b.turn)) Start One)

-- inside a byte ACKD0 = 0, so that after the ninth slot it tells whether that one carried 0
abbrev pub Unacknowledged : Type 0
Unacknowledged = Always (λ b. in_byte b.turn ≡ true → b.status.ackd0 ≡ false)
