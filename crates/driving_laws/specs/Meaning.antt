-- How a register master stands, told by its state and its block. Assumes nothing.
--     stage_at       where in a segment: the block counts the bits
--     progress_at    how far a contender has come
--     standing_of    the standing
--     read_most      how many bytes it has read and is to read
use Rattle.std.specs.Prelude.{ℕ, zero, suc, ◌+◌, List, [], ◌∷◌, ◌++◌, length}
use Rattle.bus.specs.declared.Turn.{Turn}
use Rattle.bus.specs.declared.Turn.TheVariants as turn
use Rattle.orders.specs.declared.Outcome.{Outcome}
use Rattle.orders.specs.Orders.{Order}
use Rattle.scripts.specs.Scripts as script
use Rattle.progress.specs.declared.Stage.{Stage}
use Rattle.progress.specs.declared.Stage.TheVariants as stage
use Rattle.progress.specs.Plans.{todo_at, to_come}
use Rattle.masters.specs.Standings as masters
use Rattle.block.specs.declared.Block.{Block}
use Rattle.driving.specs.declared.Phase.{Phase}
use Rattle.driving.specs.declared.Phase.TheVariants.{Opening, Address, Write, Read, Stopping}
use Rattle.driving.specs.declared.Standing.{Standing}
use Rattle.driving.specs.declared.Standing.TheVariants.{Idle, Waiting, Contending, Answered}
use Rattle.driving.specs.States.{Known}

abbrev pub address_stage : Turn → Stage
address_stage turn.Free = stage.Opening
address_stage (turn.Address zero) = stage.Direction
address_stage (turn.Address (suc n)) = stage.Address n
address_stage (turn.AddressNinth d) = stage.AddressNinth
address_stage turn.Border = stage.Opening
address_stage (turn.Write n) = stage.Opening
address_stage turn.WriteNinth = stage.Opening
address_stage (turn.Read n) = stage.Opening
address_stage turn.ReadNinth = stage.Opening
address_stage turn.ClosingBorder = stage.Opening

abbrev pub write_stage : ℕ → Turn → Stage
write_stage j turn.Free = stage.Opening
write_stage j (turn.Address n) = stage.Opening
write_stage j (turn.AddressNinth d) = stage.Opening
write_stage j turn.Border = stage.Write j 7
write_stage j (turn.Write n) = stage.Write j n
write_stage j turn.WriteNinth = stage.WriteNinth j
write_stage j (turn.Read n) = stage.Opening
write_stage j turn.ReadNinth = stage.Opening
write_stage j turn.ClosingBorder = stage.Opening

abbrev pub read_stage : ℕ → Turn → Stage
read_stage j turn.Free = stage.Opening
read_stage j (turn.Address n) = stage.Opening
read_stage j (turn.AddressNinth d) = stage.Opening
read_stage j turn.Border = stage.Opening
read_stage j (turn.Write n) = stage.Opening
read_stage j turn.WriteNinth = stage.Opening
read_stage j (turn.Read n) = stage.Read j n
read_stage j turn.ReadNinth = stage.ReadNinth j
read_stage j turn.ClosingBorder = stage.Opening

abbrev pub stage_at : Phase → ℕ → Turn → Stage
stage_at Opening j t = stage.Opening
stage_at Address j t = address_stage t
stage_at Write j t = write_stage j t
stage_at Read j t = read_stage j t
stage_at Stopping j t = stage.Closing

-- the byte under way: its bits so far; a byte whose ninth is due is read already
abbrev pub read_notes : Turn → List ℕ → ℕ → Outcome → script.Notes
read_notes turn.Free bs s o = record { bytes = bs; part = 0; outcome = o }
read_notes (turn.Address n) bs s o = record { bytes = bs; part = 0; outcome = o }
read_notes (turn.AddressNinth d) bs s o = record { bytes = bs; part = 0; outcome = o }
read_notes turn.Border bs s o = record { bytes = bs; part = 0; outcome = o }
read_notes (turn.Write n) bs s o = record { bytes = bs; part = 0; outcome = o }
read_notes turn.WriteNinth bs s o = record { bytes = bs; part = 0; outcome = o }
read_notes (turn.Read n) bs s o = record { bytes = bs; part = s; outcome = o }
read_notes turn.ReadNinth bs s o = record { bytes = bs ++ (s ∷ []); part = 0; outcome = o }
read_notes turn.ClosingBorder bs s o = record { bytes = bs; part = 0; outcome = o }

abbrev pub notes_at : Phase → Turn → List ℕ → ℕ → Outcome → script.Notes
notes_at Opening t bs s o = record { bytes = bs; part = 0; outcome = o }
notes_at Address t bs s o = record { bytes = bs; part = 0; outcome = o }
notes_at Write t bs s o = record { bytes = bs; part = 0; outcome = o }
notes_at Read t bs s o = read_notes t bs s o
notes_at Stopping t bs s o = record { bytes = bs; part = 0; outcome = o }

abbrev pub progress_at : Order → Phase → ℕ → ℕ → Turn → ℕ → Known → script.Progress
progress_at ss p i j t s r = record { todo = todo_at ss i (stage_at p j t); notes = notes_at p t r.bytes s r.outcome }

abbrev pub standing_at : Order → Standing → Turn → ℕ → Known → masters.Standing
standing_at ss Idle t s r = masters.idle
standing_at ss Waiting t s r = masters.waiting (record { order = ss; losses = r.losses })
standing_at ss (Contending p i j) t s r = masters.contending (record { request = record { order = ss; losses = r.losses }; progress = progress_at ss p i j t s r })
standing_at ss Answered t s r = masters.answered (record { outcome = r.outcome; losses = r.losses; bytes = r.bytes })

abbrev pub standing_of : Order → Known → Block → masters.Standing
standing_of ss r b = standing_at ss r.standing b.turn b.shift r

abbrev pub read_most : masters.Standing → ℕ
read_most masters.idle = 0
read_most (masters.waiting w) = 0
read_most (masters.contending k) = length k.progress.notes.bytes + to_come k.progress.todo
read_most (masters.answered a) = length a.bytes
