-- The kinds of commands by number. Assumes nothing.
--     kind_number    the number that lines of this kind begin with
--     Names          the number is that of this kind, or of none
use Rattle.std.specs.Prelude.{◌≡◌, ℕ, Result, MatchResult, ◌≢◌}
use Rattle.refusals.specs.declared.Refusal.{Refusal}
use Rattle.key_lines.specs.declared.commands.kind.Kind.{Kind}
use Rattle.key_lines.specs.declared.commands.kind.Kind.TheVariants.{Place, Withdraw, Tell, Run, Collect}

abbrev pub kind_number : Kind → ℕ
kind_number Place = 1
kind_number Withdraw = 2
kind_number Tell = 3
kind_number Run = 4
kind_number Collect = 5

abbrev pub Names : ℕ → Result Kind Refusal → Type 0
Names n r = MatchResult r (λ kind. kind_number kind ≡ n) (λ _. (kind : Kind) → kind_number kind ≢ n)
