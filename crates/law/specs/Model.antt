-- A bench as its two banks, and a slot of it. Assumes nothing.
--     Model             what a bench means: what its masters and its slaves mean
--     assembled         at first: each slave counts the bus as free, each master is idle
--     carried           the next slot carries the least symbol offered; moved: and all hear it
--     standing          how the master with a number stands
--     run_slots, ran    steps until n slots are moved, or nobody waits: the slots, and the bench after them
use Rattle.std.specs.Prelude.{ℕ, zero, suc, Bool, cond, not, List, [], ◌∷◌}
use Rattle.history.specs.Marks.{least}
use Rattle.bus.specs.declared.Symbol.{Symbol}
use Rattle.bus.specs.Symbols.{symbols}
use Rattle.bus.specs.Banks.{Bank, each, ask}
use Rattle.masters.specs.Standings.{Standing, idle}
use Rattle.masters.specs.Master as m
use Rattle.masters.specs.Master.{Master, somebody_waits}
use Rattle.slaves.specs.Slave as s
use Rattle.slaves.specs.Slave.{Slave, Heard, Freed}

pub record Model : Type 0 where
  pub masters : Bank Master
  pub slaves : Bank Slave

abbrev pub assembled : Bank Master → Bank Slave → Model
assembled ms ss = record { masters = each m.freed ms; slaves = each (s.befallen Freed) ss }

abbrev pub carried : Model → Symbol
carried w = least symbols (s.offered w.slaves) (m.offered w.masters)

abbrev pub heard : Symbol → Model → Model
heard x w = record { masters = each (m.heard x) w.masters; slaves = each (s.befallen (Heard x)) w.slaves }

abbrev pub moved : Model → Model
moved w = heard (carried w) w

-- nobody waits. A contender counts as waiting, so that the bus is free then
abbrev pub resting : Model → Bool
resting w = not (somebody_waits w.masters)

abbrev pub standing : ℕ → Model → Standing
standing i w = ask idle (λ (m : Master). m.standing) i w.masters

-- a slot that was moved, with the bench before it and after it
pub record Slot : Type 0 where
  pub before : Model
  pub symbol : Symbol
  pub after : Model

abbrev pub slot : Model → Slot
slot w = record { before = w; symbol = carried w; after = moved w }

abbrev pub run_slots : ℕ → Model → List Slot
run_slots zero w = []
run_slots (suc n) w = cond (resting w) [] (slot w ∷ run_slots n (moved w))

abbrev pub ran : ℕ → Model → Model
ran zero w = w
ran (suc n) w = cond (resting w) w (ran n (moved w))
