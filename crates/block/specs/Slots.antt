-- Where in a byte the next slot is, as the flags need it. Assumes nothing.
--     same                 two symbols are one
--     is_ninth             a ninth slot
--     first_of_address     the first slot of an address byte
--     eighth_of_address    the last slot of an address byte before its ninth
--     first_of_data        the first slot of any other byte
--     after_write          the ninth slot of an address byte of direction 0; after_read, of direction 1
--     in_byte              a slot of the byte has passed, and its ninth has not
--     bits_left            how many bits of the byte come after the next one
use Rattle.std.specs.Prelude.{ℕ, Bool, true, false, ◌==◌, nat_lt}
use Rattle.bus.specs.declared.Symbol.{Symbol}
use Rattle.bus.specs.declared.Direction.TheVariants as direction
use Rattle.bus.specs.declared.Turn.{Turn}
use Rattle.bus.specs.declared.Turn.TheVariants.{Free, Address, AddressNinth, Border, Write, WriteNinth, Read, ReadNinth, ClosingBorder}
use Rattle.bus.specs.Symbols.{rank}

abbrev pub same : Symbol → Symbol → Bool
same x y = rank x == rank y

abbrev pub is_ninth : Turn → Bool
is_ninth Free = false
is_ninth (Address n) = false
is_ninth (AddressNinth d) = true
is_ninth Border = false
is_ninth (Write n) = false
is_ninth WriteNinth = true
is_ninth (Read n) = false
is_ninth ReadNinth = true
is_ninth ClosingBorder = false

abbrev pub first_of_address : Turn → Bool
first_of_address Free = false
first_of_address (Address n) = n == 7
first_of_address (AddressNinth d) = false
first_of_address Border = false
first_of_address (Write n) = false
first_of_address WriteNinth = false
first_of_address (Read n) = false
first_of_address ReadNinth = false
first_of_address ClosingBorder = false

abbrev pub eighth_of_address : Turn → Bool
eighth_of_address Free = false
eighth_of_address (Address n) = n == 0
eighth_of_address (AddressNinth d) = false
eighth_of_address Border = false
eighth_of_address (Write n) = false
eighth_of_address WriteNinth = false
eighth_of_address (Read n) = false
eighth_of_address ReadNinth = false
eighth_of_address ClosingBorder = false

-- at a border, where it is a bit and neither P nor S
abbrev pub first_of_data : Turn → Bool
first_of_data Free = false
first_of_data (Address n) = false
first_of_data (AddressNinth d) = false
first_of_data Border = true
first_of_data (Write n) = false
first_of_data WriteNinth = false
first_of_data (Read n) = n == 7
first_of_data ReadNinth = false
first_of_data ClosingBorder = true

abbrev pub after_write : Turn → Bool
after_write Free = false
after_write (Address n) = false
after_write (AddressNinth direction.Write) = true
after_write (AddressNinth direction.Read) = false
after_write Border = false
after_write (Write n) = false
after_write WriteNinth = false
after_write (Read n) = false
after_write ReadNinth = false
after_write ClosingBorder = false

abbrev pub after_read : Turn → Bool
after_read Free = false
after_read (Address n) = false
after_read (AddressNinth direction.Write) = false
after_read (AddressNinth direction.Read) = true
after_read Border = false
after_read (Write n) = false
after_read WriteNinth = false
after_read (Read n) = false
after_read ReadNinth = false
after_read ClosingBorder = false

abbrev pub in_byte : Turn → Bool
in_byte Free = false
in_byte (Address n) = nat_lt n 7
in_byte (AddressNinth d) = true
in_byte Border = false
in_byte (Write n) = true
in_byte WriteNinth = true
in_byte (Read n) = nat_lt n 7
in_byte ReadNinth = true
in_byte ClosingBorder = false

abbrev pub bits_left : Turn → ℕ
bits_left Free = 7
bits_left (Address n) = n
bits_left (AddressNinth d) = 7
bits_left Border = 7
bits_left (Write n) = n
bits_left WriteNinth = 7
bits_left (Read n) = n
bits_left ReadNinth = 7
bits_left ClosingBorder = 7
