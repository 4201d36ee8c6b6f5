-- What orders get of a chip that is the only slave of its bus. Assumes nothing.
--     HasAnswer             the order has a history alone, and every one that it has tells this outcome and these bytes
--     Gives                 what comes of an order at a chip: its answer, and how it leaves the chip
--     OrdersAreServed       every lawful order gets of every chip what it is due, and leaves it so
--     AssemblyAltersNone    and so of a chip that is put on a bench, wherever the turns were: it holds what it held
--     Ready                 a chip on a free bus, with so many bytes and its place among them
--     NewChipsAreReady      gauges and memories are, as they are made
--     Brings                an order is done, with these bytes
use Rattle.std.specs.Prelude.{◌≡◌, ℕ, zero, suc, ◌<◌, ◌≤◌, List, [], ◌∷◌, map, length, replicate}
use Rattle.bus.specs.declared.Symbol.{Symbol}
use Rattle.bus.specs.declared.Turn.TheVariants.{Free}
use Rattle.bus.specs.Banks.{Bank, Single}
use Rattle.orders.specs.declared.Outcome.{Outcome}
use Rattle.orders.specs.declared.Outcome.TheVariants.{Done}
use Rattle.orders.specs.Orders.{Order, writing, reading, Lawful, AllBytes}
use Rattle.scripts.specs.Alone.{AloneHistory, answer_of}
use Rattle.slaves.specs.Slave.{Slave, Heard, Freed, replies}
use Rattle.slaves.specs.Machine.{ends, slave_of}
use Rattle.chips.specs.Store.{Store, Rule}
use Rattle.chips.specs.Chips.{Chip, chip, chip_step}
use Rattle.chips.specs.States.{made, making}
use Rattle.chip_laws.specs.Served.{Served, serves}

-- of a bank of slaves, with however many losses before
pub record HasAnswer (ss : Bank Slave) (o : Order) (f : Outcome) (bs : List ℕ) : Type 0 where
  pub history : (h : List Symbol) × AloneHistory o (replies ss) h
  pub answers : (h : List Symbol) → AloneHistory o (replies ss) h → (l : ℕ) → answer_of l h ≡ record { outcome = f; losses = l; bytes = bs }

-- a chip as the only slave
abbrev pub only : Rule → Chip → Bank Slave
only r c = Single (slave_of (chip r) c)

-- a chip after the slots of a history
abbrev pub after : Rule → Chip → List Symbol → Chip
after r c h = ends (chip_step r) c (map Heard h)

-- the chip is then as one newly made at its address, with what the order left in it
pub record Gives (r : Rule) (c : Chip) (o : Order) (v : Served) : Type 0 where
  pub answer : HasAnswer (only r c) o v.outcome v.bytes
  pub leaves : (h : List Symbol) → AloneHistory o (replies (only r c)) h → after r c h ≡ made c.port.address v.store

abbrev pub OrdersAreServed : Type 0
OrdersAreServed =
    (r : Rule) (c : Chip) (o : Order) → c.port.turn ≡ Free → Lawful o → Gives r c o (serves r c.port.address 0 o c.store)

abbrev pub AssemblyAltersNone : Type 0
AssemblyAltersNone = (r : Rule) (c : Chip) (o : Order) → Lawful o → Gives r (chip_step r c Freed) o (serves r c.port.address 0 o c.store)

pub record Ready (size : ℕ) (c : Chip) : Type 0 where
  pub free : c.port.turn ≡ Free
  pub lowest : 8 ≤ c.port.address
  pub highest : c.port.address ≤ 119
  pub count : length c.store.bytes ≡ size
  pub all_bytes : AllBytes c.store.bytes
  pub within : c.store.place < size

pub record NewChipsAreReady : Type 0 where
  pub gauges : (a : ℕ) (registers : List ℕ) → making a ≡ 0 → length registers ≡ 4 → AllBytes registers → Ready 4 (made a (record { bytes = registers; place = 0 }))
  pub memories : (a : ℕ) → making a ≡ 0 → Ready 256 (made a (record { bytes = replicate 256 0; place = 0 }))

-- done, with these bytes
abbrev pub Brings : Bank Slave → Order → List ℕ → Type 0
Brings ss o bs = HasAnswer ss o Done bs

-- the same bytes, and this place
abbrev pub at_place : ℕ → Store → Store
at_place p s = record { bytes = s.bytes; place = p }

-- the order that sets the place at an address to q and then reads n bytes
abbrev pub read_from : ℕ → ℕ → ℕ → Order
read_from a q n = writing a (q ∷ []) ∷ (reading a n ∷ [])

-- f 0, f 1 and so on, n of them
abbrev pub counted : ℕ → (ℕ → ℕ) → List ℕ
counted zero f = []
counted (suc n) f = f 0 ∷ counted n (λ k. f (suc k))
