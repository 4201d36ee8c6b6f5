-- What is left of a record whose words are taken one by one. Assumes nothing.
--     still        the slots that are left
--     Left         the words that are left
--     Exhausted    no word is left
--     Moves        w was the next word, and the others are left after it
--     Gives        the next word is taken, if one is left; else nothing changes
use Rattle.std.specs.Prelude.{◌≡◌, ℕ, List, [], ◌∷◌, drop, Option, MatchOption}
use Rattle.reader.specs.declared.words.Words.{Words}
use Rattle.reader.specs.declared.Word.{Word}
use Rattle.reader.specs.Words.{Meaning, meant, Reads}

abbrev pub still : Words → List ℕ
still w = drop w.place w.slots.now

abbrev pub Left : Words → List Meaning → Type 0
Left w ws = Reads w.busy (still w) w.place ws

abbrev pub Exhausted : Words → Type 0
Exhausted a = (ws : List Meaning) → Left a ws → ws ≡ []

abbrev pub Moves : Words → Meaning → Words → Type 0
Moves a w b = (ws : List Meaning) → Left a ws → (later : List Meaning) × (ws ≡ w ∷ later) × Left b later

abbrev pub Gives : Words → Option Word → Words → Type 0
Gives a r b = MatchOption r (Exhausted a × (b ≡ a)) (λ w. Moves a (meant w) b)
