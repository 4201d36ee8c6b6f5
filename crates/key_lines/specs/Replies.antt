-- What a line gets, and what it makes of the bench. Assumes nothing.
--     reply, after       the numbers that a command gets, and the bench after it
--     output, leaves     the same of what a line means
--     Answers, Alters    a text is what a line gets; a bench is what the line makes of a bench
--     ByACall            at most one call of the bench leads from one bench to another
use Rattle.std.specs.Prelude.{◌≡◌, ℕ, zero, suc, ◌≤◌, cond, List, [], ◌∷◌, length, ◌==◌}
use Rattle.std.proofs.Math.Option.{Option, none, some}
use Rattle.refusals.specs.Numbers.{returned}
use Rattle.orders.specs.Answers.{outcome_number, segment_at_fault, byte_at_fault}
use Rattle.orders.specs.Fills.{refused, asked}
use Rattle.slaves.specs.Slave.{told}
use Rattle.masters.specs.Standings.{Standing, idle, waiting, contending, answered}
use Rattle.masters.specs.Master as m
use Rattle.law.specs.Model.{Model, standing}
use Rattle.law.specs.Calls.{Call, Withdraw, Tell, Run, Collect, does, final, moves, ranks, run_answer, with_masters}
use Rattle.numerals.specs.Lines.{text}
use Rattle.key_lines.specs.Commands.{Command, place, withdraw, tell, run, collect, Means}

-- of two numbers returned, the first that is a refusal's
abbrev pub first_refusal : ℕ → ℕ → ℕ
first_refusal zero b = b
first_refusal (suc a) b = suc a

-- outcome, segment and byte at fault, losses, count of bytes read, the bytes
abbrev pub answer_numbers : Standing → List ℕ
answer_numbers idle = []
answer_numbers (waiting w) = []
answer_numbers (contending k) = []
answer_numbers (answered a) = outcome_number a.outcome ∷ (segment_at_fault a.outcome ∷ (byte_at_fault a.outcome ∷ (a.losses ∷ (length a.bytes ∷ a.bytes))))

-- kind, number, returned, and the rest; a run has a book of 999 places, a collect a buffer of 32 bytes
abbrev pub reply : Command → Model → List ℕ
reply (place n ss bs) w = 1 ∷ (n ∷ (first_refusal (refused ss bs) (returned (m.place_answer n w.masters)) ∷ []))
reply (withdraw n) w = 2 ∷ (n ∷ (returned (m.withdraw_answer n w.masters) ∷ []))
reply (tell n p b) w = 3 ∷ (n ∷ (returned (told n p w.slaves) ∷ []))
reply (run n) w = 4 ∷ (n ∷ (returned (run_answer n 999 w) ∷ ranks (moves (Run n 999) w)))
reply (collect n) w = 5 ∷ (n ∷ (returned (m.collect_answer n 32 w.masters) ∷ answer_numbers (standing n w)))

-- an order that is refused is not placed
abbrev pub after : Command → Model → Model
after (place n ss bs) w = cond (refused ss bs == 0) (with_masters w (m.place n (asked ss bs) w.masters)) w
after (withdraw n) w = does (Withdraw n) w
after (tell n p b) w = does (Tell n p b) w
after (run n) w = does (Run n 999) w
after (collect n) w = does (Collect n 32) w

abbrev pub output : Option Command → Model → List ℕ
output none w = 0 ∷ (0 ∷ (19 ∷ []))
output (some c) w = reply c w

abbrev pub leaves : Option Command → Model → Model
leaves none w = w
leaves (some c) w = after c w

abbrev pub Answers : List ℕ → Model → List ℕ → Type 0
Answers line w out = (c : Option Command) × Means line c × (out ≡ text (output c w))

abbrev pub Alters : List ℕ → Model → Model → Type 0
Alters line w w' = (c : Option Command) × Means line c × (w' ≡ leaves c w)

abbrev pub ByACall : Model → Model → Type 0
ByACall w w' = (cs : List Call) × (length cs ≤ 1) × (w' ≡ final w cs)
