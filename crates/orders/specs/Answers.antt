-- An answer in numbers, and what of it is handed over beside the bytes. Assumes nothing.
use Rattle.std.specs.Prelude.{ℕ, length}
use Rattle.orders.specs.declared.Outcome.{Outcome}
use Rattle.orders.specs.declared.Outcome.TheVariants.{Done, NoAddress, NoByte}
use Rattle.orders.specs.declared.Answer as code
use Rattle.orders.specs.Orders.{Answer}

abbrev pub outcome_number : Outcome → ℕ
outcome_number Done = 0
outcome_number (NoAddress i) = 1
outcome_number (NoByte i j) = 2

abbrev pub segment_at_fault : Outcome → ℕ
segment_at_fault Done = 0
segment_at_fault (NoAddress i) = i
segment_at_fault (NoByte i j) = i

abbrev pub byte_at_fault : Outcome → ℕ
byte_at_fault Done = 0
byte_at_fault (NoAddress i) = 0
byte_at_fault (NoByte i j) = j

-- the answer but for its bytes, of which the count is told
abbrev pub handed : Answer → code.Answer
handed a = record { outcome = a.outcome; losses = a.losses; count = length a.bytes }
