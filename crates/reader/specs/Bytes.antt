-- What the nine slots of a byte say, as ranks. Assumes nothing.
--     value_of        what its eight bits come to, highest first
--     acknowledges    its ninth slot carries 0
--     address_of      of an address byte: what the first seven bits come to
--     direction_of    of an address byte: what the eighth bit tells
use Rattle.std.specs.Prelude.{ℕ, ◌+◌, ◌*◌, ◌^◌, Bool, cond, List, [], ◌∷◌, length, take, ◌==◌, slice_index}
use Rattle.bus.specs.declared.Direction.{Direction}
use Rattle.bus.specs.declared.Direction.TheVariants.{Write, Read}

-- rank 3 is a 1
abbrev pub bit : ℕ → ℕ
bit x = cond (x == 3) 1 0

-- a number by its bits, highest first
abbrev pub number_of : List ℕ → ℕ
number_of [] = 0
number_of (x ∷ xs) = bit x * 2 ^ length xs + number_of xs

abbrev pub value_of : List ℕ → ℕ
value_of s = number_of (take 8 s)

abbrev pub acknowledges : List ℕ → Bool
acknowledges s = slice_index s 8 == 0

abbrev pub address_of : List ℕ → ℕ
address_of s = number_of (take 7 s)

abbrev pub direction_of : List ℕ → Direction
direction_of s = cond (slice_index s 7 == 3) Read Write
