-- How the block stands, by where the register master is in its order. Assumes nothing.
--     tied       the block, with what the standing settles: turn, task, ACKE0, MSTS0 and TRC0
--     turned     the turns that a phase can meet
--     real       the segment and the byte are there, and of the phase's kind
--     unacked    ACKD0 = 0 inside a byte that is sent
use Rattle.std.specs.Prelude.{ℕ, ◌+◌, ◌-◌, ◌^◌, Bool, true, false, cond, not, ◌&&◌, length, nat_lt, slice_index}
use Rattle.bus.specs.declared.Turn.{Turn}
use Rattle.bus.specs.declared.Turn.TheVariants as turn
use Rattle.bus.specs.Symbols.{heading_bit}
use Rattle.bus.specs.Turns.{busy}
use Rattle.orders.specs.Orders.{Segment, Order, reads, bytes_of, count}
use Rattle.progress.specs.Positions.{here, heading}
use Rattle.block.specs.declared.Block.{Block}
use Rattle.block.specs.declared.Task.{Task}
use Rattle.block.specs.declared.Task.TheVariants as task
use Rattle.block.specs.Slots.{same, in_byte}
use Rattle.driving.specs.declared.Phase.{Phase}
use Rattle.driving.specs.declared.Phase.TheVariants.{Opening, Address, Write, Read, Stopping}
use Rattle.driving.specs.declared.Standing.{Standing}
use Rattle.driving.specs.declared.Standing.TheVariants.{Idle, Waiting, Contending, Answered}
use Rattle.driving.specs.Driving.{address_byte_of}

-- a block with IICE0 = 1, its turn, task, ACKE0, MSTS0 and TRC0 as given, and else as it is
abbrev pub patched : Block → Turn → Task → (acke0 msts0 trc0 : Bool) → Block
patched b t k a m r = record {
  turn = t;
  shift = b.shift;
  task = k;
  control = record { iice0 = true; spie0 = false; wtim0 = true; acke0 = a };
  status = record { msts0 = m; ald0 = b.status.ald0; exc0 = b.status.exc0; coi0 = b.status.coi0; trc0 = r; ackd0 = b.status.ackd0; std0 = b.status.std0; spd0 = b.status.spd0 };
  iic0 = b.iic0;
  sva0 = b.sva0;
  iiccl0 = b.iiccl0;
  iicf0 = b.iicf0;
}

module _ (ss : Order) where
  abbrev pub phase_task : Phase → ℕ → ℕ → Task
  phase_task Opening i j = task.Start
  phase_task Address i j = task.Send (address_byte_of (here ss i))
  phase_task Write i j = task.Send (slice_index (bytes_of (here ss i)) j)
  phase_task Read i j = task.Receive
  phase_task Stopping i j = task.Stop

  -- who waits has STT0 set on a free bus
  abbrev pub task_of : Standing → Turn → Task
  task_of Idle t = task.Rest
  task_of Waiting t = cond (busy t) task.Rest task.Start
  task_of (Contending p i j) t = phase_task p i j
  task_of Answered t = task.Rest

  -- ACKE0 while a byte is read: more are wanted
  abbrev pub phase_acks : Phase → ℕ → ℕ → Bool → Bool
  phase_acks Opening i j a = a
  phase_acks Address i j a = a
  phase_acks Write i j a = a
  phase_acks Read i j a = nat_lt (j + 1) (count (here ss i))
  phase_acks Stopping i j a = a

  abbrev pub acks_of : Standing → Bool → Bool
  acks_of Idle a = a
  acks_of Waiting a = a
  acks_of (Contending p i j) a = phase_acks p i j a
  acks_of Answered a = a

abbrev pub is_contending : Standing → Bool
is_contending Idle = false
is_contending Waiting = false
is_contending (Contending p i j) = true
is_contending Answered = false

abbrev pub phase_sends : Phase → Bool → Bool
phase_sends Opening r = r
phase_sends Address r = true
phase_sends Write r = true
phase_sends Read r = false
phase_sends Stopping r = r

abbrev pub sends_of : Standing → Bool → Bool
sends_of Idle r = false
sends_of Waiting r = false
sends_of (Contending p i j) r = phase_sends p r
sends_of Answered r = false

abbrev pub tied : Order → Standing → Turn → Block → Block
tied ss st t b = patched b t (task_of ss st t) (acks_of ss st b.control.acke0) (is_contending st) (sends_of st b.status.trc0)

abbrev pub at_border : Turn → Bool
at_border turn.Free = false
at_border (turn.Address n) = false
at_border (turn.AddressNinth d) = false
at_border turn.Border = true
at_border (turn.Write n) = false
at_border turn.WriteNinth = false
at_border (turn.Read n) = false
at_border turn.ReadNinth = false
at_border turn.ClosingBorder = true

abbrev pub in_address : Segment → Turn → Bool
in_address s turn.Free = false
in_address s (turn.Address n) = nat_lt n 8
in_address s (turn.AddressNinth d) = same (heading s) (heading_bit d)
in_address s turn.Border = false
in_address s (turn.Write n) = false
in_address s turn.WriteNinth = false
in_address s (turn.Read n) = false
in_address s turn.ReadNinth = false
in_address s turn.ClosingBorder = false

abbrev pub in_write : Turn → Bool
in_write turn.Free = false
in_write (turn.Address n) = false
in_write (turn.AddressNinth d) = false
in_write turn.Border = true
in_write (turn.Write n) = nat_lt n 7
in_write turn.WriteNinth = true
in_write (turn.Read n) = false
in_write turn.ReadNinth = false
in_write turn.ClosingBorder = false

-- with what the bits of the byte come to so far
abbrev pub in_read : ℕ → Turn → Bool
in_read s turn.Free = false
in_read s (turn.Address n) = false
in_read s (turn.AddressNinth d) = false
in_read s turn.Border = false
in_read s (turn.Write n) = false
in_read s turn.WriteNinth = false
in_read s (turn.Read n) = nat_lt n 8 && nat_lt s (2 ^ (7 - n))
in_read s turn.ReadNinth = true
in_read s turn.ClosingBorder = false

module _ (ss : Order) where
  abbrev pub phase_turned : Phase → ℕ → ℕ → Turn → Bool
  phase_turned Opening i s t = at_border t
  phase_turned Address i s t = in_address (here ss i) t
  phase_turned Write i s t = in_write t
  phase_turned Read i s t = in_read s t
  phase_turned Stopping i s t = at_border t

  abbrev pub turned : Standing → ℕ → Turn → Bool
  turned Idle s t = true
  turned Waiting s t = true
  turned (Contending p i j) s t = phase_turned p i s t
  turned Answered s t = true

  abbrev pub phase_real : Phase → ℕ → ℕ → Bool
  phase_real Opening i j = nat_lt i (length ss)
  phase_real Address i j = nat_lt i (length ss)
  phase_real Write i j = nat_lt i (length ss) && (not (reads (here ss i)) && nat_lt j (count (here ss i)))
  phase_real Read i j = nat_lt i (length ss) && (reads (here ss i) && nat_lt j (count (here ss i)))
  phase_real Stopping i j = true

  abbrev pub real : Standing → Bool
  real Idle = true
  real Waiting = true
  real (Contending p i j) = phase_real p i j
  real Answered = true

-- the first slot of the byte cleared it
abbrev pub phase_unacked : Phase → Turn → Bool → Bool
phase_unacked Opening t a = true
phase_unacked Address t a = not (in_byte t && a)
phase_unacked Write t a = not (in_byte t && a)
phase_unacked Read t a = true
phase_unacked Stopping t a = true

abbrev pub unacked : Standing → Turn → Bool → Bool
unacked Idle t a = true
unacked Waiting t a = true
unacked (Contending p i j) t a = phase_unacked p t a
unacked Answered t a = true
