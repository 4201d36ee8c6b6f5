-- Records of ranks that follow the turns, and what their words are. Assumes nothing.
--     Whole         the record is the ranks of a history that follows the turns and ends on a free bus
--     Unfinished    it follows the turns, and ends in a contest
--     Offends       up to a place it follows the turns, and what stands there is the rank of no symbol that may stand there
--     used          a history without its free slots: without the 1s on a free bus
--     InOrder       each word stands at its place, one after the other
--     WordsOf       the words of a whole record: the only list that it reads as, and exactly its used slots in order
use Rattle.std.specs.Prelude.{◌≡◌, ℕ, ◌+◌, ◌≤◌, Bool, true, false, cond, not, List, [], ◌∷◌, ◌++◌, map, length, take, drop}
use Rattle.history.specs.Contest.{Follows, turn_after}
use Rattle.bus.specs.declared.Symbol.{Symbol}
use Rattle.bus.specs.declared.Symbol.TheVariants.{Zero, Stop, Start, One}
use Rattle.bus.specs.declared.Turn.{Turn}
use Rattle.bus.specs.declared.Turn.TheVariants.{Free}
use Rattle.bus.specs.Symbols.{rank}
use Rattle.bus.specs.Turns.{next, legal, busy, bus}
use Rattle.reader.specs.Words.{Meaning, place, slots_of, joined, Reads}

abbrev pub ranks : List Symbol → List ℕ
ranks h = map rank h

-- the record is the ranks of this history, which follows the turns
pub record Recorded (slots : List ℕ) (h : List Symbol) : Type 0 where
  pub same : slots ≡ ranks h
  pub follows : Follows bus Free h

abbrev pub Whole : List ℕ → Type 0
Whole slots = (h : List Symbol) × Recorded slots h × (busy (turn_after bus Free h) ≡ false)

abbrev pub Unfinished : List ℕ → Type 0
Unfinished slots = (h : List Symbol) × Recorded slots h × (busy (turn_after bus Free h) ≡ true)

-- a slot of rank n at turn t: no symbol of that rank may stand there, or one does and leads on to u
abbrev pub Against : Turn → ℕ → Type 0
Against t n = (x : Symbol) → rank x ≡ n → legal t x ≡ false

abbrev pub Leads : Turn → ℕ → Turn → Type 0
Leads t n u = (x : Symbol) × (rank x ≡ n) × (legal t x ≡ true) × (u ≡ next t x)

pub record Offends (slots : List ℕ) (p : ℕ) : Type 0 where
  pub before : List Symbol
  pub here : ℕ
  pub later : List ℕ
  pub same : slots ≡ ranks before ++ (here ∷ later)
  pub at : p ≡ length before
  pub follows : Follows bus Free before
  pub against : Against (turn_after bus Free before) here

-- a 1 on a free bus
abbrev pub unused : Turn → Symbol → Bool
unused t Zero = false
unused t Stop = false
unused t Start = false
unused t One = not (busy t)

abbrev pub used : Turn → List Symbol → List Symbol
used t [] = []
used t (x ∷ h) = cond (unused t x) (used (next t x) h) (x ∷ used (next t x) h)

-- the slots of the word stand at its place
abbrev pub Stands : List ℕ → Meaning → Type 0
Stands slots w = take (length (slots_of w)) (drop (place w) slots) ≡ slots_of w

-- each at place p or later, and the next one after it
abbrev pub InOrder : List ℕ → ℕ → List Meaning → Type 0
InOrder slots p [] = Unit {0}
InOrder slots p (w ∷ ws) = (p ≤ place w) × Stands slots w × InOrder slots (place w + length (slots_of w)) ws

pub record WordsOf (slots : List ℕ) (ws : List Meaning) : Type 0 where
  pub history : List Symbol
  pub recorded : Recorded slots history
  pub ends_free : busy (turn_after bus Free history) ≡ false
  pub reads : Reads false slots 0 ws
  pub only : (vs : List Meaning) → Reads false slots 0 vs → vs ≡ ws
  pub same_slots : joined ws ≡ ranks (used Free history)
  pub in_order : InOrder slots 0 ws
