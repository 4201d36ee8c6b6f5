-- What the block is about, and what it offers. Assumes nothing.
--     waits          a wait stands, after its own S or after a ninth slot
--     waits_ninth    the wait after a ninth slot
--     has_byte       a wait was answered by IIC0 or WREL0, and that byte is not through its ninth
--     starts         STT0 is set and not yet tried; stops, SPT0
--     offers         the symbol that the block offers to the next slot
use Rattle.std.specs.Prelude.{◌/◌, ◌^◌, Bool, true, false, cond}
use Rattle.bus.specs.declared.Symbol.{Symbol}
use Rattle.bus.specs.declared.Symbol.TheVariants.{Zero, Stop, Start, One}
use Rattle.bus.specs.Symbols.{bit}
use Rattle.block.specs.declared.Block.{Block}
use Rattle.block.specs.declared.Task.{Task}
use Rattle.block.specs.declared.Task.TheVariants as task
use Rattle.block.specs.Slots.{is_ninth, bits_left}

abbrev pub waits : Task → Bool
waits task.Rest = false
waits task.StartWait = true
waits task.NinthWait = true
waits (task.Send v) = false
waits task.Receive = false
waits task.Start = false
waits task.Stop = false

abbrev pub waits_ninth : Task → Bool
waits_ninth task.Rest = false
waits_ninth task.StartWait = false
waits_ninth task.NinthWait = true
waits_ninth (task.Send v) = false
waits_ninth task.Receive = false
waits_ninth task.Start = false
waits_ninth task.Stop = false

abbrev pub has_byte : Task → Bool
has_byte task.Rest = false
has_byte task.StartWait = false
has_byte task.NinthWait = false
has_byte (task.Send v) = true
has_byte task.Receive = true
has_byte task.Start = false
has_byte task.Stop = false

abbrev pub starts : Task → Bool
starts task.Rest = false
starts task.StartWait = false
starts task.NinthWait = false
starts (task.Send v) = false
starts task.Receive = false
starts task.Start = true
starts task.Stop = false

abbrev pub stops : Task → Bool
stops task.Rest = false
stops task.StartWait = false
stops task.NinthWait = false
stops (task.Send v) = false
stops task.Receive = false
stops task.Start = false
stops task.Stop = true

-- the ninth slot gets 0 if TRC0 = 0 and ACKE0 = 1
abbrev pub ninth_offer : Block → Symbol
ninth_offer b = cond b.status.trc0 One (cond b.control.acke0 Zero One)

-- a byte goes out only if TRC0 = 1
abbrev pub byte_offer : Block → Task → Symbol
byte_offer b task.Rest = One
byte_offer b task.StartWait = One
byte_offer b task.NinthWait = One
byte_offer b (task.Send v) = cond b.status.trc0 (bit (v / 2 ^ bits_left b.turn)) One
byte_offer b task.Receive = One
byte_offer b task.Start = One
byte_offer b task.Stop = One

-- in a contest of its own it takes part in the byte
abbrev pub contest_offer : Block → Task → Symbol
contest_offer b t = cond b.status.msts0 (cond (is_ninth b.turn) (ninth_offer b) (byte_offer b t)) One

abbrev pub task_offer : Block → Task → Symbol
task_offer b task.Rest = contest_offer b task.Rest
task_offer b task.StartWait = One
task_offer b task.NinthWait = One
task_offer b (task.Send v) = contest_offer b (task.Send v)
task_offer b task.Receive = contest_offer b task.Receive
task_offer b task.Start = Start
task_offer b task.Stop = Stop

abbrev pub offers : Block → Symbol
offers b = cond b.control.iice0 (task_offer b b.task) One
