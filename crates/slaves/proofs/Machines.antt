-- A machine that is polite in every state is a slave that keeps the interface's meaning. Assumes nothing.
use Rattle.std.proofs.Common.{◌≡◌, List, [], ◌∷◌, subst}
use Rattle.bus.specs.Turns.{masters_slot}
use Rattle.slaves.specs.Slave.{Event, turns_after, befallen, Meek, Well}
use Rattle.slaves.specs.Machine.{Machine, ends, slave_of}

module _ {S : Type 0} (m : Machine S) where
  -- an event moves the slave as it moves its state
  pub moves : (s : S) (e : Event) → slave_of m (m.step s e) ≡ befallen e (slave_of m s)
  moves s e = λ i. record { turn = m.turns s e i; size = m.sizes s e i; reply = λ l. m.offer (ends m.step (m.step s e) l) }

  ends_turn : (s : S) (l : List Event) → m.turn (ends m.step s l) ≡ turns_after (m.turn s) l
  ends_turn s [] = λ i. m.turn s
  ends_turn s (e ∷ es) = subst (λ t. m.turn (ends m.step (m.step s e) es) ≡ turns_after t es) (m.turns s e) (ends_turn (m.step s e) es)

  pub well : (s : S) → Well (slave_of m s)
  well s l follows = subst (λ t. Meek (masters_slot t) (m.offer (ends m.step s l))) (ends_turn s l) (m.polite (ends m.step s l))
