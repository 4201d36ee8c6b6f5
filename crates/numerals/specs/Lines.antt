-- Which list of numbers a line of bytes is, and a list's text. Assumes nothing.
--     Digit, Numeral       the value of a digit; of one to three digits, none of them a leading zero
--     Line                 numerals with one space between
--     Is, Wrong            the line is this list of at most 47 numbers; it is none
--     text                 decimal numbers with one space between
--     OneList              a line is at most one list
--     ReadsBack            the text of numbers to 999 is a line of these numbers
--     LongLinesAreWrong    what follows the first 188 bytes of a line cannot matter
use Rattle.std.specs.Prelude.{◌≡◌, ℕ, ◌+◌, ◌*◌, ◌<◌, ◌≤◌, List, [], ◌∷◌, ◌++◌, length, take, decimal}

-- the byte b is the digit d
abbrev pub Digit : ℕ → ℕ → Type 0
Digit b d = (b ≡ 48 + d) × (d < 10)

abbrev pub Numeral : List ℕ → ℕ → Type 0
Numeral [] n = ⊥
Numeral (a ∷ []) n = Digit a n
Numeral (a ∷ (b ∷ [])) n = (x y : ℕ) × Digit a x × Digit b y × (1 ≤ x) × (n ≡ 10 * x + y)
Numeral (a ∷ (b ∷ (c ∷ []))) n = (x y z : ℕ) × Digit a x × Digit b y × Digit c z × (1 ≤ x) × (n ≡ 100 * x + 10 * y + z)
Numeral (a ∷ (b ∷ (c ∷ (d ∷ ds)))) n = ⊥

-- 32 is the space
pub data Line : List ℕ → List ℕ → Type 0 where
  last : {ds : List ℕ} {n : ℕ} → Numeral ds n → Line ds (n ∷ [])
  more : {line : List ℕ} {n : ℕ} {ns : List ℕ} (ds rest : List ℕ) → line ≡ ds ++ (32 ∷ rest) → Numeral ds n → Line rest ns → Line line (n ∷ ns)

abbrev pub Is : List ℕ → List ℕ → Type 0
Is line ns = Line line ns × (length ns ≤ 47)

abbrev pub Wrong : List ℕ → Type 0
Wrong line = (ns : List ℕ) → Is line ns → ⊥

-- each after one space
abbrev pub further : List ℕ → List ℕ
further [] = []
further (n ∷ ns) = 32 ∷ (decimal n ++ further ns)

abbrev pub text : List ℕ → List ℕ
text [] = []
text (n ∷ ns) = decimal n ++ further ns

abbrev pub OneList : Type 0
OneList = (line ns ms : List ℕ) → Line line ns → Line line ms → ns ≡ ms

abbrev pub EachTo999 : List ℕ → Type 0
EachTo999 [] = Unit {0}
EachTo999 (n ∷ ns) = (n ≤ 999) × EachTo999 ns

abbrev pub ReadsBack : Type 0
ReadsBack = (ns : List ℕ) → 0 < length ns → EachTo999 ns → Line (text ns) ns

abbrev pub LongLinesAreWrong : Type 0
LongLinesAreWrong = (line : List ℕ) → 187 < length line → Wrong line × Wrong (take 188 line)
