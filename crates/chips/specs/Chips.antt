-- A slave with a seven-bit address over any device. Assumes nothing.
--     Port        what it keeps of the bus: its address, where the turns are, whether it was addressed, whether no byte was written since, the bits so far
--     Chip        a port and its device's bytes
--     chip_offer  what it offers: an acknowledge of its address and of each accepted byte, and the byte at its place, highest bit first
--     chip_step   what an event makes of it
use Rattle.std.specs.Prelude.{◌≡◌, ℕ, ◌/◌, ◌%◌, ◌^◌, Bool, true, false, cond, ◌&&◌, length, ◌==◌, slice_index, refl}
use Rattle.std.proofs.Common.{length-set}
use Rattle.bus.specs.declared.Symbol.{Symbol}
use Rattle.bus.specs.declared.Symbol.TheVariants.{Zero, Stop, Start, One}
use Rattle.bus.specs.declared.Turn.{Turn}
use Rattle.bus.specs.declared.Turn.TheVariants.{Free, Address, AddressNinth, Border, Write, WriteNinth, Read, ReadNinth, ClosingBorder}
use Rattle.bus.specs.Symbols.{is_bit, bit, value, shifted, acknowledge}
use Rattle.bus.specs.Turns.{next, masters_slot}
use Rattle.slaves.specs.Slave.{Event, Heard, Freed, Told, turn_after, Meek}
use Rattle.slaves.specs.Machine.{Machine}
use Rattle.chips.specs.Store.{Store, Rule, stored}

pub record Port : Type 0 where
  pub address : ℕ
  pub turn : Turn
  pub addressed : Bool
  pub fresh : Bool
  pub bits : ℕ

pub record Chip : Type 0 where
  pub port : Port
  pub store : Store

-- after a slot that carries a bit; with the last slot of an address byte its seven bits are compared
abbrev pub port_bit : Turn → Symbol → Port → Port
port_bit Free x p = p
port_bit (Address n) x p = record {
  address = p.address;
  turn = p.turn;
  addressed = cond (n == 0) (p.bits == p.address) p.addressed;
  fresh = p.fresh;
  bits = shifted p.bits x;
}
port_bit (AddressNinth d) x p = p
port_bit Border x p = record { address = p.address; turn = p.turn; addressed = p.addressed; fresh = p.fresh; bits = value x }
port_bit (Write n) x p = record { address = p.address; turn = p.turn; addressed = p.addressed; fresh = p.fresh; bits = shifted p.bits x }
port_bit WriteNinth x p = record { address = p.address; turn = p.turn; addressed = p.addressed; fresh = false; bits = p.bits }
port_bit (Read n) x p = p
port_bit ReadNinth x p = p
port_bit ClosingBorder x p = p

-- at S, P and assembly
abbrev pub cleared : Port → Port
cleared p = record { address = p.address; turn = p.turn; addressed = false; fresh = true; bits = 0 }

abbrev pub at_turn : Turn → Port → Port
at_turn t p = record { address = p.address; turn = t; addressed = p.addressed; fresh = p.fresh; bits = p.bits }

abbrev pub port_heard : Symbol → Port → Port
port_heard Zero p = port_bit p.turn Zero p
port_heard Stop p = cleared p
port_heard Start p = cleared p
port_heard One p = port_bit p.turn One p

module _ (r : Rule) where
  abbrev pub takes : Port → Bool
  takes p = p.addressed && r.accepts p.fresh p.bits

  abbrev pub chip_offer : Turn → Port → Store → Symbol
  chip_offer Free p s = One
  chip_offer (Address n) p s = One
  chip_offer (AddressNinth d) p s = acknowledge p.addressed
  chip_offer Border p s = One
  chip_offer (Write n) p s = One
  chip_offer WriteNinth p s = acknowledge (takes p)
  chip_offer (Read n) p s = cond p.addressed (bit (slice_index s.bytes s.place / 2 ^ n)) One
  chip_offer ReadNinth p s = One
  chip_offer ClosingBorder p s = One

  -- a byte takes effect with its ninth slot
  abbrev pub store_bit : Turn → Port → Store → Store
  store_bit Free p s = s
  store_bit (Address n) p s = s
  store_bit (AddressNinth d) p s = s
  store_bit Border p s = s
  store_bit (Write n) p s = s
  store_bit WriteNinth p s = cond p.addressed (r.wrote p.fresh p.bits s) s
  store_bit (Read n) p s = s
  store_bit ReadNinth p s = cond p.addressed (r.sent s) s
  store_bit ClosingBorder p s = s

  abbrev pub store_heard : Symbol → Port → Store → Store
  store_heard Zero p s = store_bit p.turn p s
  store_heard Stop p s = s
  store_heard Start p s = s
  store_heard One p s = store_bit p.turn p s

  abbrev pub chip_step : Chip → Event → Chip
  chip_step c (Heard x) = record { port = at_turn (next c.port.turn x) (port_heard x c.port); store = store_heard x c.port c.store }
  chip_step c Freed = record { port = at_turn Free (cleared c.port); store = c.store }
  chip_step c (Told p b) = record { port = c.port; store = stored p b c.store }

  pub chip_turns : (c : Chip) (e : Event) → (chip_step c e).port.turn ≡ turn_after c.port.turn e
  chip_turns c (Heard x) = refl
  chip_turns c Freed = refl
  chip_turns c (Told p b) = refl

  size_if : (b : Bool) (s t : Store) → length t.bytes ≡ length s.bytes → length (cond b t s).bytes ≡ length s.bytes
  size_if true s t h = h
  size_if false s t h = refl

  bit_size : (t : Turn) (p : Port) (s : Store) → length (store_bit t p s).bytes ≡ length s.bytes
  bit_size Free p s = refl
  bit_size (Address n) p s = refl
  bit_size (AddressNinth d) p s = refl
  bit_size Border p s = refl
  bit_size (Write n) p s = refl
  bit_size WriteNinth p s = size_if p.addressed s (r.wrote p.fresh p.bits s) (r.wrote_size p.fresh p.bits s)
  bit_size (Read n) p s = refl
  bit_size ReadNinth p s = size_if p.addressed s (r.sent s) (r.sent_size s)
  bit_size ClosingBorder p s = refl

  heard_size : (x : Symbol) (p : Port) (s : Store) → length (store_heard x p s).bytes ≡ length s.bytes
  heard_size Zero p s = bit_size p.turn p s
  heard_size Stop p s = refl
  heard_size Start p s = refl
  heard_size One p s = bit_size p.turn p s

  pub chip_sizes : (c : Chip) (e : Event) → length (chip_step c e).store.bytes ≡ length c.store.bytes
  chip_sizes c (Heard x) = heard_size x c.port c.store
  chip_sizes c Freed = refl
  chip_sizes c (Told p b) = length-set c.store.bytes p b

  acknowledge_bit : (b : Bool) → is_bit (acknowledge b) ≡ true
  acknowledge_bit true = refl
  acknowledge_bit false = refl

  sent_bit : (a b : Bool) → is_bit (cond a (cond b Zero One) One) ≡ true
  sent_bit true true = refl
  sent_bit true false = refl
  sent_bit false b = refl

  pub chip_polite : (t : Turn) (p : Port) (s : Store) → Meek (masters_slot t) (chip_offer t p s)
  chip_polite Free p s = refl
  chip_polite (Address n) p s = refl
  chip_polite (AddressNinth d) p s = acknowledge_bit p.addressed
  chip_polite Border p s = refl
  chip_polite (Write n) p s = refl
  chip_polite WriteNinth p s = acknowledge_bit (takes p)
  chip_polite (Read n) p s = sent_bit p.addressed (slice_index s.bytes s.place / 2 ^ n % 2 == 0)
  chip_polite ReadNinth p s = refl
  chip_polite ClosingBorder p s = refl

  abbrev pub chip : Machine Chip
  chip = record {
    turn = λ c. c.port.turn;
    size = λ c. length c.store.bytes;
    offer = λ c. chip_offer c.port.turn c.port c.store;
    step = chip_step;
    turns = chip_turns;
    sizes = chip_sizes;
    polite = λ c. chip_polite c.port.turn c.port c.store;
  }
