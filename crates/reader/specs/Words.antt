-- The words of a record of ranks. Assumes nothing.
--     Meaning        what a word is: S, P, or nine slots of the record, at its place; places count from 0
--     meant          the meaning of a word of the code, whose slots are borrowed
--     long           how many slots a word takes; busy_after: whether a contest is under way after it
--     listed         what is marked of a word: its kind and place
--     kind_number    the number of each kind: 0 a start, 1 a stop, 2 a byte
--     joined         the slots of the words, one word after the other
--     Reads          the slots are these words, and free slots between them
use Rattle.std.specs.Prelude.{◌≡◌, ℕ, ◌+◌, Bool, true, false, ◌⊎◌, List, [], ◌∷◌, ◌++◌, length, ◌≢◌, slice_index}
use Rattle.reader.specs.declared.Kind.{Kind}
use Rattle.reader.specs.declared.Kind.TheVariants as kind
use Rattle.reader.specs.declared.Listed.{Listed}
use Rattle.reader.specs.declared.Word.{Word}
use Rattle.reader.specs.declared.Word.TheVariants as word

pub data Meaning : Type 0 where
  start : ℕ → Meaning
  stop : ℕ → Meaning
  byte : ℕ → List ℕ → Meaning

abbrev pub meant : Word → Meaning
meant (word.Start p) = start p
meant (word.Stop p) = stop p
meant (word.Byte p s) = byte p s.now

abbrev pub place : Meaning → ℕ
place (start p) = p
place (stop p) = p
place (byte p s) = p

abbrev pub slots_of : Meaning → List ℕ
slots_of (start p) = 2 ∷ []
slots_of (stop p) = 1 ∷ []
slots_of (byte p s) = s

abbrev pub long : Meaning → ℕ
long (start p) = 1
long (stop p) = 1
long (byte p s) = 9

abbrev pub busy_after : Meaning → Bool
busy_after (start p) = true
busy_after (stop p) = false
busy_after (byte p s) = true

abbrev pub listed : Meaning → Listed
listed (start p) = record { kind = kind.Start; place = p }
listed (stop p) = record { kind = kind.Stop; place = p }
listed (byte p s) = record { kind = kind.Byte; place = p }

abbrev pub kind_number : Kind → ℕ
kind_number kind.Start = 0
kind_number kind.Stop = 1
kind_number kind.Byte = 2

abbrev pub joined : List Meaning → List ℕ
joined [] = []
joined (w ∷ ws) = slots_of w ++ joined ws

-- a slot of a byte carries 0 or 1
abbrev pub Bit : ℕ → Type 0
Bit x = (x ≡ 0) ⊎ (x ≡ 3)

abbrev pub Bits : List ℕ → Type 0
Bits [] = Unit {0}
Bits (x ∷ xs) = Bit x × Bits xs

-- `Reads busy slots p words`: from place p on, on a busy or a free bus
pub data Reads : Bool → List ℕ → ℕ → List Meaning → Type 0 where
  end : {p : ℕ} → Reads false [] p []
  free : {xs : List ℕ} {p : ℕ} {ws : List Meaning} → Reads false xs (p + 1) ws → Reads false (3 ∷ xs) p ws
  begins : {b : Bool} {xs : List ℕ} {p : ℕ} {ws : List Meaning} → Reads true xs (p + 1) ws → Reads b (2 ∷ xs) p (start p ∷ ws)
  ends : {xs : List ℕ} {p : ℕ} {ws : List Meaning} → Reads false xs (p + 1) ws → Reads true (1 ∷ xs) p (stop p ∷ ws)
  nine : {slots xs : List ℕ} {p : ℕ} {ws : List Meaning} (s : List ℕ) → slots ≡ s ++ xs → length s ≡ 9 → Bits s → Reads true xs (p + 9) ws → Reads true slots p (byte p s ∷ ws)

-- no word is left
abbrev pub Ended : Bool → List ℕ → ℕ → Type 0
Ended b slots p = (ws : List Meaning) → Reads b slots p ws → ws ≡ []

-- w is the first word, and the others are read on from there
abbrev pub Takes : Bool → List ℕ → ℕ → Meaning → Bool → List ℕ → ℕ → Type 0
Takes b slots p w b' slots' p' = (ws : List Meaning) → Reads b slots p ws → (later : List Meaning) × (ws ≡ w ∷ later) × Reads b' slots' p' later

abbrev pub NoFreeFirst : Bool → List ℕ → Type 0
NoFreeFirst b slots = (b ≡ false) → slice_index slots 0 ≢ 3
