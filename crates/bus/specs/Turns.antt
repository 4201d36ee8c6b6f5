-- The turns of the bus. Assumes nothing.
--     next            where a slot that carries the symbol leads
--     masters_slot    the next slot is the masters'; else it is the slaves'
--     legal           the next slot may carry the symbol
--     busy            a contest is under way: from S on a free bus to P
use Rattle.std.specs.Prelude.{zero, suc, Bool, true, false}
use Rattle.history.specs.Contest.{Turns}
use Rattle.bus.specs.declared.Symbol.{Symbol}
use Rattle.bus.specs.declared.Symbol.TheVariants.{Zero, Stop, Start, One}
use Rattle.bus.specs.declared.Direction.{Direction}
use Rattle.bus.specs.declared.Direction.TheVariants as direction
use Rattle.bus.specs.declared.Turn.{Turn}
use Rattle.bus.specs.declared.Turn.TheVariants.{Free, Address, AddressNinth, Border, Write, WriteNinth, Read, ReadNinth, ClosingBorder}
use Rattle.bus.specs.Symbols.{symbols, is_bit, is_stop, heading}

-- after a ninth slot: 0 acknowledges
abbrev pub acknowledged : Turn → Symbol → Turn
acknowledged t Zero = t
acknowledged t Stop = ClosingBorder
acknowledged t Start = ClosingBorder
acknowledged t One = ClosingBorder

-- what an acknowledged address of that direction opens
abbrev pub opened : Direction → Turn
opened direction.Write = Border
opened direction.Read = Read 7

-- where a 0 or a 1 leads
abbrev pub onward : Turn → Symbol → Turn
onward Free x = Free
onward (Address zero) x = AddressNinth (heading x)
onward (Address (suc n)) x = Address n
onward (AddressNinth d) x = acknowledged (opened d) x
onward Border x = Write 6
onward (Write zero) x = WriteNinth
onward (Write (suc n)) x = Write n
onward WriteNinth x = acknowledged Border x
onward (Read zero) x = ReadNinth
onward (Read (suc n)) x = Read n
onward ReadNinth x = acknowledged (Read 7) x
onward ClosingBorder x = ClosingBorder

-- S begins an address byte and P frees the bus, wherever they come
abbrev pub next : Turn → Symbol → Turn
next t Zero = onward t Zero
next t Stop = Free
next t Start = Address 7
next t One = onward t One

abbrev pub masters_slot : Turn → Bool
masters_slot Free = true
masters_slot (Address n) = true
masters_slot (AddressNinth d) = false
masters_slot Border = true
masters_slot (Write n) = true
masters_slot WriteNinth = false
masters_slot (Read n) = false
masters_slot ReadNinth = true
masters_slot ClosingBorder = true

abbrev pub legal : Turn → Symbol → Bool
legal Free Zero = false
legal Free Stop = false
legal Free Start = true
legal Free One = true
legal (Address n) x = is_bit x
legal (AddressNinth d) x = is_bit x
legal Border x = true
legal (Write n) x = is_bit x
legal WriteNinth x = is_bit x
legal (Read n) x = is_bit x
legal ReadNinth x = is_bit x
legal ClosingBorder Zero = false
legal ClosingBorder Stop = true
legal ClosingBorder Start = true
legal ClosingBorder One = false

abbrev pub busy : Turn → Bool
busy Free = false
busy (Address n) = true
busy (AddressNinth d) = true
busy Border = true
busy (Write n) = true
busy WriteNinth = true
busy (Read n) = true
busy ReadNinth = true
busy ClosingBorder = true

-- the bus as an instance of turns in general: the masters contend, the slaves reply, and P ends a contest
abbrev pub bus : Turns Symbol Turn
bus = record { marks = symbols; next = next; contended = masters_slot; legal = legal; ends = is_stop }
