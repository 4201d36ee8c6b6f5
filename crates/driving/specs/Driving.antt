-- What each step of the register master does: the seam between the code, which is searched for, and the theorem about it. It is no promise. Assumes nothing.
use Rattle.std.specs.Prelude.{ℕ, ◌+◌, ◌*◌, ◌%◌, min, Bool, true, false, cond, ◌&&◌, List, [], ◌∷◌, ◌++◌, length, Some, None, Option, nat_lt, slice_index}
use Rattle.bus.specs.declared.Symbol.{Symbol}
use Rattle.bus.specs.declared.Symbol.TheVariants.{Stop}
use Rattle.bus.specs.Symbols.{value}
use Rattle.orders.specs.declared.Outcome.{Outcome}
use Rattle.orders.specs.declared.Outcome.TheVariants.{Done, NoAddress, NoByte}
use Rattle.orders.specs.Orders.{Segment, Order, address_of, reads, bytes_of, count}
use Rattle.progress.specs.Positions.{here, heading}
use Rattle.block.specs.declared.Block.{Block}
use Rattle.block.specs.declared.Status.{Status}
use Rattle.block.specs.Slots.{same}
use Rattle.block.specs.Access.{IICC0, reset_block, control_value, written, refuses_byte, byte_written, byte_moves}
use Rattle.driving.specs.declared.access.Flag.{Flag}
use Rattle.driving.specs.declared.access.Flag.TheVariants.{Msts0, Ald0, Ackd0}
use Rattle.driving.specs.declared.Phase.{Phase}
use Rattle.driving.specs.declared.Phase.TheVariants.{Opening, Address, Write, Read, Stopping}
use Rattle.driving.specs.declared.Standing.{Standing}
use Rattle.driving.specs.declared.Standing.TheVariants.{Idle, Waiting, Contending, Answered}
use Rattle.driving.specs.States.{Known}

-- the address byte: seven bits, then the direction
abbrev pub address_byte_of : Segment → ℕ
address_byte_of s = 2 * address_of s + value (heading s)

-- a flag of IICSE0
abbrev pub shown : Flag → Status → Bool
shown Msts0 s = s.msts0
shown Ald0 s = s.ald0
shown Ackd0 s = s.ackd0

-- the block at assembly: reset, then 88H in IICC0
abbrev pub assembled : Block
assembled = written reset_block IICC0 136

-- IICC0: 88H, with STT0, SPT0 or LREL0
abbrev pub begun : Block → Block
begun b = written b IICC0 138

abbrev pub ended : Block → Block
ended b = written b IICC0 137

abbrev pub released : Block → Block
released b = written b IICC0 200

-- IICE0 0, then 1, and no other bit altered
abbrev pub renewed : Block → Block
renewed b = written (written b IICC0 (control_value b % 128)) IICC0 (control_value b % 128 + 128)

-- ACKE0, then WREL0
abbrev pub received : Bool → Block → Block
received false b = written (written b IICC0 136) IICC0 168
received true b = written (written b IICC0 140) IICC0 172

abbrev pub sent : ℕ → Block → Block
sent v b = cond (refuses_byte b) b (byte_written b v)

-- IIC0, unless a byte moves
abbrev pub moved_byte : Block → Option ℕ
moved_byte b = cond (byte_moves b) None (Some b.iic0)

module _ (ss : Order) where
  -- after a segment: an S before the next one, or P
  abbrev pub block_past : ℕ → Block → Block
  block_past i b = cond (nat_lt (i + 1) (length ss)) (begun b) (ended b)

  abbrev pub standing_past : ℕ → Standing
  standing_past i = cond (nat_lt (i + 1) (length ss)) (Contending Opening (i + 1) 0) (Contending Stopping i 0)

  -- the wait is answered: a byte more, or what comes after the segment
  abbrev pub block_on : ℕ → ℕ → Block → Block
  block_on i j b =
      cond (nat_lt j (count (here ss i)))
      (cond (reads (here ss i)) (received (nat_lt (j + 1) (count (here ss i))) b) (sent (slice_index (bytes_of (here ss i)) j) b))
      (block_past i b)

  abbrev pub standing_on : ℕ → ℕ → Standing
  standing_on i j = cond (nat_lt j (count (here ss i))) (cond (reads (here ss i)) (Contending Read i j) (Contending Write i j)) (standing_past i)

abbrev pub pushed : ℕ → List ℕ → List ℕ
pushed v bs = cond (nat_lt (length bs) 32) (bs ++ (v ∷ [])) bs

abbrev pub with_standing : Known → Standing → Known
with_standing r st = record { standing = st; losses = r.losses; outcome = r.outcome; bytes = r.bytes }

abbrev pub with_byte : Known → ℕ → Known
with_byte r v = record { standing = r.standing; losses = r.losses; outcome = r.outcome; bytes = pushed v r.bytes }

abbrev pub failed : Known → Outcome → ℕ → Known
failed r o i = record { standing = Contending Stopping i 0; losses = r.losses; outcome = o; bytes = r.bytes }

-- one loss more; 999 stay 999
abbrev pub lost : Known → Known
lost r = record { standing = Waiting; losses = min 999 (r.losses + 1); outcome = r.outcome; bytes = r.bytes }

abbrev pub entered : Known → Known
entered r = record { standing = Contending Address 0 0; losses = r.losses; outcome = Done; bytes = [] }

-- whether its P was carried
abbrev pub ends : Phase → Symbol → Bool
ends Opening x = false
ends Address x = false
ends Write x = false
ends Read x = false
ends Stopping x = same x Stop

abbrev pub out_known : Phase → Symbol → Known → Known
out_known p x r = cond (ends p x) (with_standing r Answered) (lost r)

module _ (ss : Order) where
  -- a ninth slot was heard
  abbrev pub ninth_block : Phase → ℕ → ℕ → Block → Block
  ninth_block Opening i j b = b
  ninth_block Address i j b = cond b.status.ackd0 (block_on ss i 0 b) (ended b)
  ninth_block Write i j b = cond b.status.ackd0 (block_on ss i (j + 1) b) (ended b)
  ninth_block Read i j b = block_on ss i (j + 1) b
  ninth_block Stopping i j b = b

  abbrev pub ninth_known : Phase → ℕ → ℕ → Block → Known → Known
  ninth_known Opening i j b r = r
  ninth_known Address i j b r = cond b.status.ackd0 (with_standing r (standing_on ss i 0)) (failed r (NoAddress i) i)
  ninth_known Write i j b r = cond b.status.ackd0 (with_standing r (standing_on ss i (j + 1))) (failed r (NoByte i j) i)
  ninth_known Read i j b r = with_standing (with_byte r b.iic0) (standing_on ss i (j + 1))
  ninth_known Stopping i j b r = r

  -- MSTS0 = 1 still: its S was carried, or a slot of a byte
  abbrev pub going_block : Phase → ℕ → ℕ → Block → Block
  going_block Opening i j b = sent (address_byte_of (here ss i)) b
  going_block Address i j b = cond (byte_moves b) b (ninth_block Address i j b)
  going_block Write i j b = cond (byte_moves b) b (ninth_block Write i j b)
  going_block Read i j b = cond (byte_moves b) b (ninth_block Read i j b)
  going_block Stopping i j b = b

  abbrev pub going_known : Phase → ℕ → ℕ → Block → Known → Known
  going_known Opening i j b r = with_standing r (Contending Address i 0)
  going_known Address i j b r = cond (byte_moves b) r (ninth_known Address i j b r)
  going_known Write i j b r = cond (byte_moves b) r (ninth_known Write i j b r)
  going_known Read i j b r = cond (byte_moves b) r (ninth_known Read i j b r)
  going_known Stopping i j b r = r

  -- a slot was heard; the flag says whether STT0 was tried in it
  abbrev pub heard_block : Bool → Symbol → Standing → Block → Block
  heard_block tried x Idle b = b
  heard_block tried x Waiting b = cond (tried && b.status.msts0) (sent (address_byte_of (here ss 0)) b) b
  heard_block tried x (Contending p i j) b = cond b.status.msts0 (going_block p i j b) b
  heard_block tried x Answered b = b

  abbrev pub heard_known : Bool → Symbol → Standing → Block → Known → Known
  heard_known tried x Idle b r = r
  heard_known tried x Waiting b r = cond tried (cond b.status.msts0 (entered r) (lost r)) r
  heard_known tried x (Contending p i j) b r = cond b.status.msts0 (going_known p i j b r) (out_known p x r)
  heard_known tried x Answered b r = r

abbrev pub is_waiting : Standing → Bool
is_waiting Idle = false
is_waiting Waiting = true
is_waiting (Contending p i j) = false
is_waiting Answered = false

-- at a P that finds ALD0 = 1 IICE0 is written 0, then 1
abbrev pub loss_cleared : Symbol → Block → Block
loss_cleared x b = cond (same x Stop && b.status.ald0) (renewed b) b

-- who waits tries STT0, which a busy bus refuses
abbrev pub retried : Standing → Block → Block
retried st b = cond (is_waiting st) (begun b) b
