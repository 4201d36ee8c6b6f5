-- When the reader refuses a record, each refusal with its number. Assumes nothing.
--     Wrong      what is wrong with the record itself
--     Refused    what is wrong with it for a book that has so many places left
use Rattle.std.specs.Prelude.{ℕ, ◌<◌, List, length}
use Rattle.refusals.specs.declared.Refusal.{Refusal}
use Rattle.refusals.specs.declared.Refusal.TheVariants as why
use Rattle.reader.specs.Words.{Meaning}
use Rattle.reader.specs.Records.{Unfinished, Offends, WordsOf}

pub data Wrong (slots : List ℕ) : Refusal → ℕ → Type 0 where
  against : (p : ℕ) → Offends slots p → Wrong slots (why.AgainstTurns p) 20
  unfinished : Unfinished slots → Wrong slots why.Unfinished 21

pub data Refused (slots : List ℕ) (room : ℕ) : Refusal → ℕ → Type 0 where
  wrong : {e : Refusal} {n : ℕ} → Wrong slots e n → Refused slots room e n
  full : (ws : List Meaning) → WordsOf slots ws → room < length ws → Refused slots room why.FullBook 22
