-- How a master stands, and what a slot makes of it. Assumes nothing.
--     Request                         an order that waits, and how often it has lost
--     Contender                       a request in a contest, and how far it has come
--     Standing                        idle; waiting; contending; or answered
--     hears                           what a slot that carries a symbol makes of a standing
--     placed, withdrawn, collected    what these calls make of it
use Rattle.std.specs.Prelude.{ℕ, ◌+◌, min, Bool, true, false, cond, ◌==◌}
use Rattle.std.proofs.Math.Option.{Option, none, some}
use Rattle.bus.specs.declared.Symbol.{Symbol}
use Rattle.bus.specs.declared.Symbol.TheVariants.{One}
use Rattle.bus.specs.declared.Turn.{Turn}
use Rattle.bus.specs.Symbols.{rank, is_bit, is_stop}
use Rattle.bus.specs.Turns.{masters_slot, busy}
use Rattle.orders.specs.Orders.{Order, Answer}
use Rattle.scripts.specs.Scripts.{Progress, begin, offer, hear, answer}

pub record Request : Type 0 where
  pub order : Order
  pub losses : ℕ

pub record Contender : Type 0 where
  pub request : Request
  pub progress : Progress

pub data Standing : Type 0 where
  idle : Standing
  waiting : Request → Standing
  contending : Contender → Standing
  answered : Answer → Standing

-- at the start of a contest
abbrev pub starting : Request → Contender
starting w = record { request = w; progress = begin w.order }

-- who contends for the next slot: contenders, and on a free bus who waits
abbrev pub contender_in : Turn → Standing → Option Contender
contender_in t idle = none
contender_in t (waiting w) = cond (busy t) none (some (starting w))
contender_in t (contending k) = some k
contender_in t (answered a) = none

-- by the script of its order, and else 1
abbrev pub offered : Option Contender → Symbol
offered none = One
offered (some k) = offer k.progress.todo

-- one loss more; 999 stay 999
abbrev pub lost : Request → Request
lost w = record { order = w.order; losses = min 999 (w.losses + 1) }

-- a contender that offered a stays in where x is carried: in a masters' slot if x is its own offer, in a slaves' if x is 0 or 1
abbrev pub keeps : Turn → Symbol → Symbol → Bool
keeps t x a = cond (masters_slot t) (rank a == rank x) (is_bit x)

-- by whether it stays in, and whether the slot carries P
abbrev pub becomes : Bool → Bool → Contender → Symbol → Standing
becomes true true k x = answered (answer k.request.losses (hear k.progress x))
becomes true false k x = contending (record { request = k.request; progress = hear k.progress x })
becomes false p k x = waiting (lost k.request)

abbrev pub hears_as : Turn → Symbol → Option Contender → Standing → Standing
hears_as t x none st = st
hears_as t x (some k) st = becomes (keeps t x (offer k.progress.todo)) (is_stop x) k x

abbrev pub hears : Turn → Symbol → Standing → Standing
hears t x st = hears_as t x (contender_in t st) st

-- an order waits; a contender counts as waiting
abbrev pub is_waiting : Standing → Bool
is_waiting idle = false
is_waiting (waiting w) = true
is_waiting (contending k) = true
is_waiting (answered a) = false

abbrev pub placed : Order → Standing → Standing
placed o idle = waiting (record { order = o; losses = 0 })
placed o (waiting w) = waiting w
placed o (contending k) = contending k
placed o (answered a) = answered a

abbrev pub withdrawn : Standing → Standing
withdrawn idle = idle
withdrawn (waiting w) = idle
withdrawn (contending k) = contending k
withdrawn (answered a) = answered a

abbrev pub collected : Standing → Standing
collected idle = idle
collected (waiting w) = waiting w
collected (contending k) = contending k
collected (answered a) = idle
