-- What a slave means, and what a bank of slaves does. Assumes nothing.
--     Event       what may befall a slave: a symbol is carried, a bench is put together, one of its bytes is set
--     Slave       where the turns are, how many bytes can be set, and its reply rule: for every list of events, the symbol that it then offers
--     Well        along every list that follows the turns it offers 1 outside the slaves' slots, and never P or S
--     offered     what a bank offers: the least of its slaves' offers
--     replies     the reply rule of a bank, for every list of symbols that it may yet hear
--     told, tell  setting a byte of the slave with a number: what is returned, and the bank afterwards
use Rattle.std.specs.Prelude.{◌≡◌, ℕ, Bool, true, false, cond, List, [], ◌∷◌, map, Ok, Err, Result, nat_lt}
use Rattle.history.specs.Contest.{Rule}
use Rattle.refusals.specs.declared.Refusal.{Refusal}
use Rattle.refusals.specs.declared.Refusal.TheVariants.{NoSuchNumber, BusNotFree, NoSuchPlace}
use Rattle.bus.specs.declared.Symbol.{Symbol}
use Rattle.bus.specs.declared.Symbol.TheVariants.{One}
use Rattle.bus.specs.declared.Turn.{Turn}
use Rattle.bus.specs.declared.Turn.TheVariants.{Free}
use Rattle.bus.specs.Symbols.{is_bit}
use Rattle.bus.specs.Turns.{next, masters_slot, legal, busy}
use Rattle.bus.specs.Banks.{Bank, least_of, ask, alter}

pub data Event : Type 0 where
  Heard : Symbol → Event
  Freed : Event
  Told : ℕ → ℕ → Event

abbrev pub turn_after : Turn → Event → Turn
turn_after t (Heard x) = next t x
turn_after t Freed = Free
turn_after t (Told p b) = t

abbrev pub turns_after : Turn → List Event → Turn
turns_after t [] = t
turns_after t (e ∷ es) = turns_after (turn_after t e) es

-- a symbol may be carried where the turns allow it, and a byte may be set on a free bus
abbrev pub Possible : Turn → Event → Type 0
Possible t (Heard x) = legal t x ≡ true
Possible t Freed = Unit {0}
Possible t (Told p b) = busy t ≡ false

abbrev pub Follows : Turn → List Event → Type 0
Follows t [] = Unit {0}
Follows t (e ∷ es) = Possible t e × Follows (turn_after t e) es

-- what a slave may offer in a masters' slot, and in a slaves'
abbrev pub Meek : Bool → Symbol → Type 0
Meek true x = x ≡ One
Meek false x = is_bit x ≡ true

pub record Slave : Type 0 where
  pub turn : Turn
  pub size : ℕ
  pub reply : List Event → Symbol

-- after an event
abbrev pub befallen : Event → Slave → Slave
befallen e s = record { turn = turn_after s.turn e; size = s.size; reply = λ l. s.reply (e ∷ l) }

abbrev pub Well : Slave → Type 0
Well s = (l : List Event) → Follows s.turn l → Meek (masters_slot (turns_after s.turn l)) (s.reply l)

abbrev pub offered : Bank Slave → Symbol
offered = least_of (λ s. s.reply [])

abbrev pub replies : Bank Slave → Rule Symbol
replies ss = λ l. least_of (λ s. s.reply (map Heard l)) ss

-- setting the byte at place p of one slave to b: what is returned, and the slave afterwards
abbrev pub settled : ℕ → Slave → Result (Unit {0}) Refusal
settled p s = cond (busy s.turn) (Err BusNotFree) (cond (nat_lt p s.size) (Ok tt) (Err NoSuchPlace))

abbrev pub settle : ℕ → ℕ → Slave → Slave
settle p b s = cond (busy s.turn) s (cond (nat_lt p s.size) (befallen (Told p b) s) s)

abbrev pub told : ℕ → ℕ → Bank Slave → Result (Unit {0}) Refusal
told n p = ask (Err NoSuchNumber) (settled p) n

abbrev pub tell : ℕ → ℕ → ℕ → Bank Slave → Bank Slave
tell n p b = alter (settle p b) n
