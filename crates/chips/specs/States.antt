-- A chip of the code as the state of its machine, and the one that is made. Assumes nothing.
--     making    0 for an address of a chip, and else the number of the refusal
--     IsMade    what making one answers: the new chip, or why there is none
use Rattle.std.specs.Prelude.{◌≡◌, ℕ, true, false, cond, Result, MatchResult}
use Rattle.refusals.specs.declared.Refusal.{Refusal}
use Rattle.refusals.specs.Numbers.{number}
use Rattle.bus.specs.declared.Turn.TheVariants.{Free}
use Rattle.bus.specs.Addresses.{is_address}
use Rattle.chips.specs.declared.Chip as code
use Rattle.chips.specs.Store.{Store}
use Rattle.chips.specs.Chips.{Chip}
use Rattle.chips.specs.Parts.{port_of}

abbrev pub chip_of : {D : Type 0} → (D → Store) → code.Chip D → Chip
chip_of f c = record { port = port_of c.plug; store = f c.device }

-- a new chip at an address, on a free bus
abbrev pub made : ℕ → Store → Chip
made a s = record { port = record { address = a; turn = Free; addressed = false; fresh = true; bits = 0 }; store = s }

abbrev pub making : ℕ → ℕ
making a = cond (is_address a) 0 2

abbrev pub IsMade : {D : Type 0} → (D → Store) → ℕ → Store → Result (code.Chip D) Refusal → Type 0
IsMade f a s r = MatchResult r (λ c. (making a ≡ 0) × (chip_of f c ≡ made a s)) (λ e. making a ≡ number e)
