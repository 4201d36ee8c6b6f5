-- Orders and answers. Assumes nothing.
--     Segment    a write of some bytes to an address, or a read of so many bytes from it
--     Lawful     one to four segments, each with an address of 8 to 119, a read of at least one byte; at most 32 bytes in all
--     Answer     what became of an order: the outcome, the losses it had, and the bytes read
use Rattle.std.specs.Prelude.{ℕ, ◌+◌, ◌<◌, ◌≤◌, Bool, true, false, List, [], ◌∷◌, length}
use Rattle.bus.specs.declared.Direction.{Direction}
use Rattle.bus.specs.declared.Direction.TheVariants.{Write, Read}
use Rattle.orders.specs.declared.Outcome.{Outcome}

pub data Segment : Type 0 where
  writing : ℕ → List ℕ → Segment
  reading : ℕ → ℕ → Segment

abbrev pub Order : Type 0
Order = List Segment

abbrev pub address_of : Segment → ℕ
address_of (writing a bs) = a
address_of (reading a n) = a

abbrev pub direction_of : Segment → Direction
direction_of (writing a bs) = Write
direction_of (reading a n) = Read

abbrev pub read_of : Direction → Bool
read_of Write = false
read_of Read = true

abbrev pub reads : Segment → Bool
reads s = read_of (direction_of s)

abbrev pub bytes_of : Segment → List ℕ
bytes_of (writing a bs) = bs
bytes_of (reading a n) = []

abbrev pub count : Segment → ℕ
count (writing a bs) = length bs
count (reading a n) = n

-- counts of all segments together
abbrev pub total : List Segment → ℕ
total [] = 0
total (s ∷ ss) = count s + total ss

-- the empty write to address 8, which an order is at first
abbrev pub nothing : Segment
nothing = writing 8 []

abbrev pub AllBytes : List ℕ → Type 0
AllBytes [] = Unit {0}
AllBytes (b ∷ bs) = (b < 256) × AllBytes bs

abbrev pub LawfulSegment : Segment → Type 0
LawfulSegment (writing a bs) = (8 ≤ a) × (a ≤ 119) × AllBytes bs
LawfulSegment (reading a n) = (8 ≤ a) × (a ≤ 119) × (1 ≤ n)

abbrev pub Each : (Segment → Type 0) → List Segment → Type 0
Each P [] = Unit {0}
Each P (s ∷ ss) = P s × Each P ss

pub record Lawful (o : Order) : Type 0 where
  pub some_segment : 1 ≤ length o
  pub few_segments : length o ≤ 4
  pub each : Each LawfulSegment o
  pub few_bytes : total o ≤ 32

pub record Answer : Type 0 where
  pub outcome : Outcome
  pub losses : ℕ
  pub bytes : List ℕ
