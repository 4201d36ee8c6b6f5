-- A slave by its states. Assumes nothing.
--     Machine    states with where the turns are, the count of bytes, the offer and the step at an event; polite in every state
--     slave_of   the slave that a state of a machine is
use Rattle.std.specs.Prelude.{◌≡◌, ℕ, List, [], ◌∷◌}
use Rattle.bus.specs.declared.Symbol.{Symbol}
use Rattle.bus.specs.declared.Turn.{Turn}
use Rattle.bus.specs.Turns.{masters_slot}
use Rattle.slaves.specs.Slave.{Event, Slave, turn_after, Meek}

pub record Machine (S : Type 0) : Type 0 where
  pub turn : S → Turn
  pub size : S → ℕ
  pub offer : S → Symbol
  pub step : S → Event → S
  pub turns : (s : S) (e : Event) → turn (step s e) ≡ turn_after (turn s) e
  pub sizes : (s : S) (e : Event) → size (step s e) ≡ size s
  pub polite : (s : S) → Meek (masters_slot (turn s)) (offer s)

-- the state after a list of events
abbrev pub ends : {S : Type 0} → (S → Event → S) → S → List Event → S
ends step s [] = s
ends step s (e ∷ es) = ends step (step s e) es

abbrev pub slave_of : {S : Type 0} → Machine S → S → Slave
slave_of m s = record { turn = m.turn s; size = m.size s; reply = λ l. m.offer (ends m.step s l) }
