-- An order at a slave that shares the bus with others. Assumes nothing.
--     Elsewhere                       no segment of the order has this address
--     Unaddressed                     the slave is a chip on a free bus, with an address that the order does not have
--     Among                           the slaves are this one and unaddressed chips
--     AsIfAlone                       the order has of them the histories, and so the answer, that it has of the one slave
--     UnaddressedChipsAreSilent       among unaddressed chips an order fares as if the slave were alone
--     UnaddressedChipsAreUnaltered    whatever slaves there are, an order leaves an unaddressed chip as one newly made with the same contents
use Rattle.std.specs.Prelude.{◌≡◌, ℕ, ◌⊎◌, ◌↔◌, List}
use Rattle.history.specs.Contest as contest
use Rattle.bus.specs.declared.Symbol.{Symbol}
use Rattle.bus.specs.declared.Turn.TheVariants.{Free}
use Rattle.bus.specs.Turns.{bus}
use Rattle.bus.specs.Banks.{Bank, Single, Both, All}
use Rattle.orders.specs.declared.Outcome.{Outcome}
use Rattle.orders.specs.Orders.{Order, Each, Lawful, address_of}
use Rattle.scripts.specs.Alone.{AloneHistory}
use Rattle.slaves.specs.Slave.{Slave, Well, replies}
use Rattle.slaves.specs.Machine.{slave_of}
use Rattle.chips.specs.Store.{Rule}
use Rattle.chips.specs.Chips.{Chip, chip}
use Rattle.chips.specs.States.{made}
use Rattle.chip_laws.specs.Laws.{HasAnswer, after}

abbrev pub Elsewhere : Order → ℕ → Type 0
Elsewhere o a = Each (λ s. ¬ (address_of s ≡ a)) o

pub record Unaddressed (o : Order) (k : Slave) : Type 0 where
  pub rule : Rule
  pub state : Chip
  pub is : k ≡ slave_of (chip rule) state
  pub free : state.port.turn ≡ Free
  pub elsewhere : Elsewhere o state.port.address

abbrev pub Among : Order → Bank Slave → Slave → Type 0
Among o (Single x) k = x ≡ k
Among o (Both a b) k = (Among o a k × All (Unaddressed o) b) ⊎ (All (Unaddressed o) a × Among o b k)

pub record AsIfAlone (o : Order) (ss : Bank Slave) (k : Slave) : Type 0 where
  pub histories : (h : List Symbol) → AloneHistory o (replies ss) h ↔ AloneHistory o (replies (Single k)) h
  pub answers : (f : Outcome) (bs : List ℕ) → HasAnswer (Single k) o f bs → HasAnswer ss o f bs

abbrev pub UnaddressedChipsAreSilent : Type 0
UnaddressedChipsAreSilent = (o : Order) (ss : Bank Slave) (k : Slave) → Lawful o → k.turn ≡ Free → Well k → Among o ss k → AsIfAlone o ss k

abbrev pub UnaddressedChipsAreUnaltered : Type 0
UnaddressedChipsAreUnaltered =
    (r : Rule) (c : Chip) (o : Order) (others : contest.Rule Symbol) → c.port.turn ≡ Free → Lawful o → Elsewhere o c.port.address
    → contest.Polite bus Free others → (h : List Symbol) → AloneHistory o others h → after r c h ≡ made c.port.address c.store
