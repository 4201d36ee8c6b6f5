-- How the parts of the bus are printed, as bytes of ASCII. Assumes nothing.
use Rattle.std.specs.Prelude.{ℕ, List, [], ◌∷◌, ◌++◌, decimal}
use Rattle.bus.specs.declared.Symbol.{Symbol}
use Rattle.bus.specs.declared.Symbol.TheVariants.{Zero, Stop, Start, One}
use Rattle.bus.specs.declared.NoSymbol.{NoSymbol}
use Rattle.bus.specs.declared.Level.{Level}
use Rattle.bus.specs.declared.Level.TheVariants.{Low, High}
use Rattle.bus.specs.declared.Direction.{Direction}
use Rattle.bus.specs.declared.Direction.TheVariants.{Write, Read}

-- 0, P, S, 1
abbrev pub letter : Symbol → List ℕ
letter Zero = 48 ∷ []
letter Stop = 80 ∷ []
letter Start = 83 ∷ []
letter One = 49 ∷ []

-- low, high
abbrev pub level_word : Level → List ℕ
level_word Low = 108 ∷ 111 ∷ 119 ∷ []
level_word High = 104 ∷ 105 ∷ 103 ∷ 104 ∷ []

-- write, read
abbrev pub direction_word : Direction → List ℕ
direction_word Write = 119 ∷ 114 ∷ 105 ∷ 116 ∷ 101 ∷ []
direction_word Read = 114 ∷ 101 ∷ 97 ∷ 100 ∷ []

-- "no symbol has rank " and the rank
abbrev pub no_symbol : NoSymbol → List ℕ
no_symbol e = (110 ∷ 111 ∷ 32 ∷ 115 ∷ 121 ∷ 109 ∷ 98 ∷ 111 ∷ 108 ∷ 32 ∷ 104 ∷ 97 ∷ 115 ∷ 32 ∷ 114 ∷ 97 ∷ 110 ∷ 107 ∷ 32 ∷ []) ++ decimal e.rank
