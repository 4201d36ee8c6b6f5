-- What an order has alone: its history, and the answer that the turns tell of that history. Assumes nothing.
--     AloneHistory    the history that an order has against a reply rule, with no other contender
--     read_bytes      what each read byte's eight slaves' slots come to
--     outcome_in      the first slaves' ninth of 1 tells the outcome; without one it is done
--     answer_of       the answer that a history gives to an order
use Rattle.std.specs.Prelude.{◌≡◌, ℕ, zero, suc, pred, ◌+◌, ◌*◌, ◌≤◌, Bool, true, false, cond, List, [], ◌∷◌, length}
use Rattle.std.proofs.Math.Option.{Option, none, some}
use Rattle.history.specs.Contest.{Rule, Polite, Alone, GrowsAlone}
use Rattle.bus.specs.declared.Symbol.{Symbol}
use Rattle.bus.specs.declared.Symbol.TheVariants.{Zero, Stop, Start, One}
use Rattle.bus.specs.declared.Turn.{Turn}
use Rattle.bus.specs.declared.Turn.TheVariants.{Free, Address, AddressNinth, Border, ClosingBorder, Write, WriteNinth, Read, ReadNinth}
use Rattle.bus.specs.Symbols.{value}
use Rattle.bus.specs.Turns.{next, bus}
use Rattle.orders.specs.declared.Outcome.{Outcome}
use Rattle.orders.specs.declared.Outcome.TheVariants.{Done, NoAddress, NoByte}
use Rattle.orders.specs.Orders.{Order, Lawful, total, Answer}
use Rattle.scripts.specs.Scripts.{begin, script}

abbrev pub AloneHistory : Order → Rule Symbol → List Symbol → Type 0
AloneHistory o r h = Alone bus (script (begin o)) r h

-- the slaves' slots of a read byte
abbrev pub is_read : Turn → Bool
is_read Free = false
is_read (Address n) = false
is_read (AddressNinth d) = false
is_read Border = false
is_read (Write n) = false
is_read WriteNinth = false
is_read (Read n) = true
is_read ReadNinth = false
is_read ClosingBorder = false

-- its last slot
abbrev pub is_eighth : Turn → Bool
is_eighth Free = false
is_eighth (Address n) = false
is_eighth (AddressNinth d) = false
is_eighth Border = false
is_eighth (Write n) = false
is_eighth WriteNinth = false
is_eighth (Read zero) = true
is_eighth (Read (suc n)) = false
is_eighth ReadNinth = false
is_eighth ClosingBorder = false

-- v is what the bits of the byte under way come to
abbrev pub read_bytes : ℕ → Turn → List Symbol → List ℕ
read_bytes v t [] = []
read_bytes v t (x ∷ h) =
    cond (is_eighth t) ((2 * v + value x) ∷ read_bytes 0 (next t x) h) (read_bytes (cond (is_read t) (2 * v + value x) v) (next t x) h)

-- a slaves' ninth of 1, in segment i at byte j
abbrev pub missed : Turn → Symbol → ℕ → ℕ → Option Outcome
missed (AddressNinth d) One i j = some (NoAddress i)
missed (AddressNinth d) Zero i j = none
missed (AddressNinth d) Stop i j = none
missed (AddressNinth d) Start i j = none
missed WriteNinth One i j = some (NoByte i j)
missed WriteNinth Zero i j = none
missed WriteNinth Stop i j = none
missed WriteNinth Start i j = none
missed Free x i j = none
missed (Address n) x i j = none
missed Border x i j = none
missed (Write n) x i j = none
missed (Read n) x i j = none
missed ReadNinth x i j = none
missed ClosingBorder x i j = none

-- how many S were carried
abbrev pub starts : Symbol → ℕ → ℕ
starts Zero i = i
starts Stop i = i
starts Start i = suc i
starts One i = i

-- how many bytes were written since the last address
abbrev pub written : Turn → ℕ → ℕ
written Free j = j
written (Address n) j = j
written (AddressNinth d) j = 0
written Border j = j
written (Write n) j = j
written WriteNinth j = suc j
written (Read n) j = j
written ReadNinth j = j
written ClosingBorder j = j

abbrev pub or_else : Option Outcome → Outcome → Outcome
or_else none g = g
or_else (some f) g = f

-- after i symbols S and j bytes written
abbrev pub outcome_in : ℕ → ℕ → Turn → List Symbol → Outcome
outcome_in i j t [] = Done
outcome_in i j t (x ∷ h) = or_else (missed t x (pred i) j) (outcome_in (starts x i) (written t j) (next t x) h)

-- with those losses
abbrev pub answer_of : ℕ → List Symbol → Answer
answer_of l h = record { outcome = outcome_in 0 0 Free h; losses = l; bytes = read_bytes 0 Free h }

-- the longest contest: 10 k + 9 N + 1 slots at k = 4 segments and N = 32 bytes
abbrev pub longest : ℕ
longest = 329

-- each order has one history alone, of at most 10 k + 9 N + 1 slots, so at most 329; it begins with S, and until it ends in P
-- it grows by the least of what the order's contender and the slaves offer for the history so far
pub record OneHistory (o : Order) (r : Rule Symbol) : Type 0 where
  pub history : List Symbol
  pub alone : AloneHistory o r history
  pub short : length history ≤ 10 * length o + 9 * total o + 1
  pub bounded : length history ≤ longest
  pub only : (g : List Symbol) → AloneHistory o r g → g ≡ history
  pub starts_with : (later : List Symbol) × (history ≡ Start ∷ later)
  pub grows : GrowsAlone bus (script (begin o)) r history

abbrev pub AloneHistories : Type 0
AloneHistories = (o : Order) (r : Rule Symbol) → Lawful o → Polite bus Free r → OneHistory o r
