-- A slot as two half-slot levels of SDA, early and late in SCL's high time. Assumes nothing.
--     levels         levels as marks: low below high
--     early, late    the two levels of a symbol
--     halves         a history slot by slot, as the levels of its half-slots
use Rattle.std.specs.Prelude.{◌≡◌, ℕ, ◌↔◌, List, [], ◌∷◌}
use Rattle.std.proofs.Common.{arith, lit≤}
use Rattle.history.specs.Marks.{Marks, Less}
use Rattle.bus.specs.declared.Symbol.{Symbol}
use Rattle.bus.specs.declared.Symbol.TheVariants.{Zero, Stop, Start, One}
use Rattle.bus.specs.declared.Level.{Level}
use Rattle.bus.specs.declared.Level.TheVariants.{Low, High}
use Rattle.bus.specs.Symbols.{symbols}

abbrev pub height : Level → ℕ
height Low = 0
height High = 1

pub same_height : (a b : Level) → height a ≡ height b → a ≡ b
same_height a b e = grind arith

abbrev pub levels : Marks Level
levels = record { rank = height; apart = same_height; top = High; greatest = elim [ Low ↦ lit≤ tt | High ↦ lit≤ tt ] }

abbrev pub early : Symbol → Level
early Zero = Low
early Stop = Low
early Start = High
early One = High

abbrev pub late : Symbol → Level
late Zero = Low
late Stop = High
late Start = Low
late One = High

abbrev pub halves : List Symbol → List Level
halves [] = []
halves (x ∷ h) = early x ∷ late x ∷ halves h

-- slots and half-slot levels compare alike, so what is least by the one is least by the other
abbrev pub HalvesAgree : Type 0
HalvesAgree = (g h : List Symbol) → Less symbols g h ↔ Less levels (halves g) (halves h)
