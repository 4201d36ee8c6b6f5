-- What is seen of a bench whose parts all stand at one turn: that turn, a list of standings and one reply rule; and calls on it.
-- The contest argument goes by this; Views ties it to the banks of a bench. Assumes nothing.
use Rattle.std.proofs.Common.{ℕ, zero, suc, ◌+◌, Bool, cond, not, ◌&&◌, eqb, leb, List, [], ◌∷◌, ◌++◌, map, replicate}
use mathlib.Core.Option.{Option, none, some}
use Rattle.history.specs.Marks.{least}
use Rattle.history.specs.Contest.{Rule, on, stays, Polite}
use Rattle.bus.specs.declared.Symbol.{Symbol}
use Rattle.bus.specs.declared.Symbol.TheVariants.{One}
use Rattle.bus.specs.Symbols.{symbols, is_stop}
use Rattle.bus.specs.declared.Turn.{Turn}
use Rattle.bus.specs.declared.Turn.TheVariants.{Free}
use Rattle.bus.specs.Turns.{next, busy, bus}
use Rattle.orders.specs.Orders.{Order, Lawful}
use Rattle.scripts.specs.Scripts.{offer}
use Rattle.masters.specs.Standings.{Contender, Standing, idle, waiting, contending, answered, contender_in, offered, becomes, placed, withdrawn, collected}

pub record Bench : Type 0 where
  pub turn : Turn
  pub masters : List Standing
  pub rule : Rule Symbol

abbrev pub told : Turn → Symbol → Option Contender → Standing → Standing
told t x none st = st
told t x (some k) st = becomes (stays bus t x (offer k.progress.todo)) (is_stop x) k x

abbrev pub hears : Turn → Symbol → Standing → Standing
hears t x st = told t x (contender_in t st) st

-- a slot carries the least symbol offered
abbrev pub least_offer : Turn → List Standing → Symbol
least_offer t [] = One
least_offer t (st ∷ ms) = least symbols (offered (contender_in t st)) (least_offer t ms)

abbrev pub carried : Bench → Symbol
carried b = least symbols (b.rule []) (least_offer b.turn b.masters)

abbrev pub moved : Bench → Bench
moved b =
    let x : Symbol = carried b in
    record { turn = next b.turn x; masters = map (hears b.turn x) b.masters; rule = on x b.rule }

-- how many orders wait; a contender counts as waiting
abbrev pub waits : Standing → ℕ
waits idle = 0
waits (waiting w) = 1
waits (contending k) = 1
waits (answered a) = 0

abbrev pub all_waits : List Standing → ℕ
all_waits [] = 0
all_waits (st ∷ ms) = waits st + all_waits ms

abbrev pub orders_waiting : Bench → ℕ
orders_waiting b = all_waits b.masters

pub data Call : Type 0 where
  place : ℕ → (o : Order) → Lawful o → Call
  withdraw : ℕ → Call
  tell : (r : Rule Symbol) → Polite bus Free r → Call
  step : Call
  run : ℕ → Call
  collect : ℕ → Call

-- one master altered; no such number, nothing altered
abbrev pub alter : (Standing → Standing) → ℕ → List Standing → List Standing
alter f i [] = []
alter f zero (st ∷ ms) = f st ∷ ms
alter f (suc i) (st ∷ ms) = st ∷ alter f i ms

abbrev pub with_masters : Bench → List Standing → Bench
with_masters b ms = record { turn = b.turn; masters = ms; rule = b.rule }

abbrev pub with_rule : Bench → Rule Symbol → Bench
with_rule b r = record { turn = b.turn; masters = b.masters; rule = r }

-- the bus is free and nobody waits
abbrev pub at_rest : Bench → Bool
at_rest b = not (busy b.turn) && eqb (orders_waiting b) 0

abbrev pub ran : ℕ → Bench → Bench
ran zero b = b
ran (suc n) b = cond (at_rest b) b (ran n (moved b))

abbrev pub after_call : Bench → Call → Bench
after_call b (place i o l) = with_masters b (alter (placed o) i b.masters)
after_call b (withdraw i) = cond (busy b.turn) b (with_masters b (alter withdrawn i b.masters))
after_call b (tell r p) = cond (busy b.turn) b (with_rule b r)
after_call b step = moved b
after_call b (run n) = cond (leb n 999) (ran n b) b
after_call b (collect i) = with_masters b (alter collected i b.masters)

-- a slot that was moved, with the bench before it and after it
pub record Slot : Type 0 where
  pub before : Bench
  pub symbol : Symbol
  pub after : Bench

abbrev pub slot : Bench → Slot
slot b = record { before = b; symbol = carried b; after = moved b }

abbrev pub run_slots : ℕ → Bench → List Slot
run_slots zero b = []
run_slots (suc n) b = cond (at_rest b) [] (slot b ∷ run_slots n (moved b))

abbrev pub call_slots : Bench → Call → List Slot
call_slots b (place i o l) = []
call_slots b (withdraw i) = []
call_slots b (tell r p) = []
call_slots b step = slot b ∷ []
call_slots b (run n) = cond (leb n 999) (run_slots n b) []
call_slots b (collect i) = []

-- the slots that a list of calls moves, and the bench that it leaves
abbrev pub slots : Bench → List Call → List Slot
slots b [] = []
slots b (c ∷ cs) = call_slots b c ++ slots (after_call b c) cs

abbrev pub final : Bench → List Call → Bench
final b [] = b
final b (c ∷ cs) = final (after_call b c) cs

-- at first: a free bus, every master idle
abbrev pub assembled : ℕ → Rule Symbol → Bench
assembled n r = record { turn = Free; masters = replicate n idle; rule = r }
