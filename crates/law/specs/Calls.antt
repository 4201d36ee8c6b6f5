-- The six calls, and lists of them. Assumes nothing.
--     Call            a call with all that it depends on: a run with the places left in its book, a collect with those of its buffer
--     does, moves     the bench after a call, and the slots that the call moves
--     final, slots    the same of a list of calls
--     run_answer      what a run returns
use Rattle.std.specs.Prelude.{ℕ, cond, List, [], ◌∷◌, ◌++◌, map, length, drop, Ok, Err, Result, nat_lt}
use Rattle.refusals.specs.declared.Refusal.{Refusal}
use Rattle.refusals.specs.declared.Refusal.TheVariants.{LongRun, FullBook}
use Rattle.bus.specs.declared.Symbol.{Symbol}
use Rattle.bus.specs.Symbols.{rank}
use Rattle.bus.specs.Banks.{Bank}
use Rattle.orders.specs.declared.order.Order.{Order}
use Rattle.orders.specs.Fills.{order_of}
use Rattle.masters.specs.Master as m
use Rattle.masters.specs.Master.{Master}
use Rattle.slaves.specs.Slave as s
use Rattle.law.specs.Model.{Model, moved, Slot, slot, run_slots, ran}

-- an order that a caller holds is always lawful
pub data Call : Type 0 where
  Place : ℕ → Order → Call
  Withdraw : ℕ → Call
  Tell : ℕ → ℕ → ℕ → Call
  Step : Call
  Run : ℕ → ℕ → Call
  Collect : ℕ → ℕ → Call

abbrev pub with_masters : Model → Bank Master → Model
with_masters w ms = record { masters = ms; slaves = w.slaves }

-- a run of more than 999 slots, or of more than the book has places left for, is refused
abbrev pub run_if : {R : Type 0} → ℕ → ℕ → R → R → R → R
run_if n left long full r = cond (nat_lt 999 n) long (cond (nat_lt left n) full r)

abbrev pub run_answer : ℕ → ℕ → Model → Result ℕ Refusal
run_answer n left w = run_if n left (Err LongRun) (Err FullBook) (Ok (length (run_slots n w)))

abbrev pub does : Call → Model → Model
does (Place n o) w = with_masters w (m.place n (order_of o) w.masters)
does (Withdraw n) w = with_masters w (m.withdraw n w.masters)
does (Tell n p b) w = record { masters = w.masters; slaves = s.tell n p b w.slaves }
does Step w = moved w
does (Run n left) w = run_if n left w w (ran n w)
does (Collect n size) w = with_masters w (m.collect n size w.masters)

abbrev pub moves : Call → Model → List Slot
moves (Place n o) w = []
moves (Withdraw n) w = []
moves (Tell n p b) w = []
moves Step w = slot w ∷ []
moves (Run n left) w = run_if n left [] [] (run_slots n w)
moves (Collect n size) w = []

abbrev pub final : Model → List Call → Model
final w [] = w
final w (c ∷ cs) = final (does c w) cs

abbrev pub slots : Model → List Call → List Slot
slots w [] = []
slots w (c ∷ cs) = moves c w ++ slots (does c w) cs

abbrev pub symbols_of : List Slot → List Symbol
symbols_of ss = map (λ (s : Slot). s.symbol) ss

abbrev pub ranks : List Slot → List ℕ
ranks ss = map (λ (s : Slot). rank s.symbol) ss

-- what a list has grown by at its end
abbrev pub grown : List ℕ → List ℕ → List ℕ
grown before after = drop (length before) after
