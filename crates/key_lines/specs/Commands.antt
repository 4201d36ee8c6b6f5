-- What a line asks of a bench. Assumes nothing.
--     Command       a call by its numbers: an order by its segments and write bytes
--     spelt         the numbers of the command's line
--     proper        its bytes are bytes
--     Asks          the line asks for this command
--     Means         the line asks for this command, or for none
--     OneMeaning    no line means two things
use Rattle.std.specs.Prelude.{◌≡◌, ℕ, Bool, true, List, [], ◌∷◌, ◌++◌, length}
use Rattle.std.proofs.Math.Option.{Option, none, some}
use Rattle.orders.specs.declared.RawSegment.{RawSegment}
use Rattle.orders.specs.Tests.{every, is_byte}
use Rattle.numerals.specs.Lines.{Is}

pub data Command : Type 0 where
  place : ℕ → List RawSegment → List ℕ → Command
  withdraw : ℕ → Command
  tell : ℕ → ℕ → ℕ → Command
  run : ℕ → Command
  collect : ℕ → Command

-- three numbers a segment
abbrev pub segment_numbers : List RawSegment → List ℕ
segment_numbers [] = []
segment_numbers (s ∷ ss) = s.address ∷ (s.direction ∷ (s.count ∷ segment_numbers ss))

-- kind, number, and the rest
abbrev pub spelt : Command → List ℕ
spelt (place n ss bs) = 1 ∷ (n ∷ (length ss ∷ (segment_numbers ss ++ bs)))
spelt (withdraw n) = 2 ∷ (n ∷ [])
spelt (tell n p b) = 3 ∷ (n ∷ (p ∷ (b ∷ [])))
spelt (run n) = 4 ∷ (n ∷ [])
spelt (collect n) = 5 ∷ (n ∷ [])

abbrev pub proper : Command → Bool
proper (place n ss bs) = every is_byte bs
proper (withdraw n) = true
proper (tell n p b) = is_byte b
proper (run n) = true
proper (collect n) = true

abbrev pub Asks : List ℕ → Command → Type 0
Asks line c = Is line (spelt c) × (proper c ≡ true)

abbrev pub Means : List ℕ → Option Command → Type 0
Means line none = (c : Command) → Asks line c → ⊥
Means line (some c) = Asks line c

abbrev pub OneMeaning : Type 0
OneMeaning = (line : List ℕ) (m k : Option Command) → Means line m → Means line k → m ≡ k
