-- The 7-bit format of UM10204: a grammar of what an order is on the bus, and how each of its items is spelt in slots. Assumes nothing.
--     Item               START, ADDRESS a direction k, DATA byte k, or STOP; k tells whether the ninth slot acknowledges (A) or not (N)
--     Frame              the items in which segments go over the bus, the outcome that they show and the bytes that are read in them
--     Bits               so many slots of 0 and 1 that come to a value, highest bit first
--     Slots              the slots of an item: one for START and STOP, nine for a byte
--     Spelt              the slots of one item after the other
--     OrdersAreFramed    each order's history alone is a frame, and shows what the turns tell of it
use Rattle.std.specs.Prelude.{◌≡◌, ℕ, suc, ◌+◌, ◌^◌, Bool, true, false, cond, List, [], ◌∷◌, ◌++◌, length}
use Rattle.history.specs.Contest.{Rule, Polite}
use Rattle.bus.specs.declared.Symbol.{Symbol}
use Rattle.bus.specs.declared.Symbol.TheVariants.{Zero, Stop, Start, One}
use Rattle.bus.specs.declared.Direction.{Direction}
use Rattle.bus.specs.declared.Direction.TheVariants.{Write as W, Read as R}
use Rattle.bus.specs.declared.Turn.TheVariants.{Free}
use Rattle.bus.specs.Symbols.{heading_bit}
use Rattle.bus.specs.Turns.{bus}
use Rattle.orders.specs.declared.Outcome.{Outcome}
use Rattle.orders.specs.declared.Outcome.TheVariants.{Done, NoAddress, NoByte}
use Rattle.orders.specs.Orders.{Segment, writing, reading, address_of, direction_of, Order, Lawful}
use Rattle.scripts.specs.Alone.{AloneHistory, read_bytes, outcome_in}

abbrev pub A : Bool
A = true

abbrev pub N : Bool
N = false

pub data Item : Type 0 where
  START : Item
  ADDRESS : ℕ → Direction → Bool → Item
  DATA : ℕ → Bool → Item
  STOP : Item

-- bytes written, each acknowledged by a slave
abbrev pub data_written : List ℕ → List Item
data_written [] = []
data_written (b ∷ bs) = DATA b A ∷ data_written bs

-- bytes read, each acknowledged by the master but for the last
abbrev pub data_read : List ℕ → List Item
data_read [] = []
data_read (b ∷ []) = DATA b N ∷ []
data_read (b ∷ (c ∷ bs)) = DATA b A ∷ data_read (c ∷ bs)

-- `Frame i segments items outcome bytes`: the segments, the first of which is segment i, each after a START (from the second on a
-- repeated START), and STOP at the end; cut short at the first address or write byte that no slave acknowledges
pub data Frame : ℕ → List Segment → List Item → Outcome → List ℕ → Type 0 where
  done : {i : ℕ} → Frame i [] (STOP ∷ []) Done []
  wrote : {i a : ℕ} {bs : List ℕ} {ss : List Segment} {is : List Item} {f : Outcome} {got : List ℕ} → Frame (suc i) ss is f got
      → Frame i (writing a bs ∷ ss) (START ∷ (ADDRESS a W A ∷ (data_written bs ++ is))) f got
  gave : {i a n : ℕ} {ss : List Segment} {is : List Item} {f : Outcome} {got : List ℕ} (bs : List ℕ) → length bs ≡ n → Frame (suc i) ss is f got
      → Frame i (reading a n ∷ ss) (START ∷ (ADDRESS a R A ∷ (data_read bs ++ is))) f (bs ++ got)
  no_address : {i : ℕ} {s : Segment} {ss : List Segment}
      → Frame i (s ∷ ss) (START ∷ (ADDRESS (address_of s) (direction_of s) N ∷ (STOP ∷ []))) (NoAddress i) []
  no_byte : {i a : ℕ} {ss : List Segment} (front : List ℕ) (b : ℕ) (later : List ℕ)
      → Frame i (writing a (front ++ (b ∷ later)) ∷ ss) (START ∷ (ADDRESS a W A ∷ (data_written front ++ (DATA b N ∷ (STOP ∷ []))))) (NoByte i (length front)) []

pub data Bits : ℕ → ℕ → List Symbol → Type 0 where
  no_bits : Bits 0 0 []
  zero_bit : {n v : ℕ} {xs : List Symbol} → Bits n v xs → Bits (suc n) v (Zero ∷ xs)
  one_bit : {n v : ℕ} {xs : List Symbol} → Bits n v xs → Bits (suc n) (2 ^ n + v) (One ∷ xs)

-- the ninth slot of a byte
abbrev pub ninth : Bool → Symbol
ninth k = cond k Zero One

pub data Slots : Item → List Symbol → Type 0 where
  start_slot : Slots START (Start ∷ [])
  stop_slot : Slots STOP (Stop ∷ [])
  address_slots : {a : ℕ} {d : Direction} {k : Bool} {xs : List Symbol} → Bits 7 a xs → Slots (ADDRESS a d k) (xs ++ (heading_bit d ∷ (ninth k ∷ [])))
  data_slots : {b : ℕ} {k : Bool} {xs : List Symbol} → Bits 8 b xs → Slots (DATA b k) (xs ++ (ninth k ∷ []))

pub data Spelt : List Item → List Symbol → Type 0 where
  no_items : Spelt [] []
  item : {i : Item} {is : List Item} {xs h : List Symbol} → Slots i xs → Spelt is h → Spelt (i ∷ is) (xs ++ h)

-- a history is a frame of the order, and the frame shows the outcome and the bytes that the turns tell of the history
pub record Framed (o : Order) (h : List Symbol) : Type 0 where
  pub items : List Item
  pub frame : Frame 0 o items (outcome_in 0 0 Free h) (read_bytes 0 Free h)
  pub spelt : Spelt items h

abbrev pub OrdersAreFramed : Type 0
OrdersAreFramed = (o : Order) (r : Rule Symbol) (h : List Symbol) → Lawful o → Polite bus Free r → AloneHistory o r h → Framed o h
