-- What a contender with an order offers, for every history that it may yet hear. Assumes nothing.
--     Act         what it does in one slot
--     plan        the acts of an order, to the P at its end
--     Notes       what it has noted so far
--     Progress    how far it has come: the acts still to do, and its notes
--     script      the rule: its offer after each list of symbols
use Rattle.std.specs.Prelude.{ℕ, zero, suc, ◌+◌, ◌*◌, ◌/◌, ◌^◌, Bool, true, false, List, [], ◌∷◌, ◌++◌}
use Rattle.history.specs.Contest.{Rule}
use Rattle.bus.specs.declared.Symbol.{Symbol}
use Rattle.bus.specs.declared.Symbol.TheVariants.{Zero, Stop, Start, One}
use Rattle.bus.specs.Symbols.{bit, value}
use Rattle.orders.specs.declared.Outcome.{Outcome}
use Rattle.orders.specs.declared.Outcome.TheVariants.{Done, NoAddress, NoByte}
use Rattle.orders.specs.Orders.{Segment, writing, reading, Order, Answer}

-- say: offer a symbol of its own in a masters' slot; ask: wait for a slaves' ninth, whose 1 is that outcome;
-- listen: hear a slaves' bit, the last of its byte or not
pub data Act : Type 0 where
  say : Symbol → Act
  ask : Outcome → Act
  listen : Bool → Act

-- the n low bits of a number, highest first, before what follows
abbrev pub spell : ℕ → ℕ → List Act → List Act
spell zero b k = k
spell (suc n) b k = say (bit (b / 2 ^ n)) ∷ spell n b k

-- write bytes from byte j of segment i on
abbrev pub send : ℕ → ℕ → List ℕ → List Act → List Act
send i j [] k = k
send i j (b ∷ bs) k = spell 8 b (ask (NoByte i j) ∷ send i (suc j) bs k)

-- the masters' ninth where n bytes more are wanted: 0, or 1 after the last
abbrev pub more : ℕ → Symbol
more zero = One
more (suc n) = Zero

abbrev pub is_last : ℕ → Bool
is_last zero = true
is_last (suc n) = false

-- n bits to hear
abbrev pub hark : ℕ → List Act → List Act
hark zero k = k
hark (suc n) k = listen (is_last n) ∷ hark n k

-- n bytes to read
abbrev pub receive : ℕ → List Act → List Act
receive zero k = k
receive (suc n) k = hark 8 (say (more n) ∷ receive n k)

-- segment i after its S
abbrev pub body : ℕ → Segment → List Act → List Act
body i (writing a bs) k = spell 7 a (say Zero ∷ ask (NoAddress i) ∷ send i 0 bs k)
body i (reading a n) k = spell 7 a (say One ∷ ask (NoAddress i) ∷ receive n k)

-- segments from the i-th on, then P
abbrev pub plan : ℕ → List Segment → List Act
plan i [] = say Stop ∷ []
plan i (s ∷ ss) = say Start ∷ body i s (plan (suc i) ss)

-- the bytes read, what the bits of a byte under way come to, and the outcome
pub record Notes : Type 0 where
  pub bytes : List ℕ
  pub part : ℕ
  pub outcome : Outcome

pub record Progress : Type 0 where
  pub todo : List Act
  pub notes : Notes

abbrev pub no_notes : Notes
no_notes = record { bytes = []; part = 0; outcome = Done }

abbrev pub begin : Order → Progress
begin o = record { todo = plan 0 o; notes = no_notes }

abbrev pub offer : List Act → Symbol
offer [] = One
offer (say x ∷ k) = x
offer (ask f ∷ k) = One
offer (listen z ∷ k) = One

-- one bit more
abbrev pub noted : Bool → Notes → Symbol → Notes
noted false n x = record { bytes = n.bytes; part = 2 * n.part + value x; outcome = n.outcome }
noted true n x = record { bytes = n.bytes ++ ((2 * n.part + value x) ∷ []); part = 0; outcome = n.outcome }

abbrev pub blamed : Outcome → Notes → Notes
blamed f n = record { bytes = n.bytes; part = n.part; outcome = f }

-- after a slaves' ninth of 1 it has only P to offer
abbrev pub answered_ninth : Outcome → List Act → Notes → Symbol → Progress
answered_ninth f k n Zero = record { todo = k; notes = n }
answered_ninth f k n Stop = record { todo = k; notes = n }
answered_ninth f k n Start = record { todo = k; notes = n }
answered_ninth f k n One = record { todo = say Stop ∷ []; notes = blamed f n }

abbrev pub moved_on : List Act → Notes → Symbol → Progress
moved_on [] n x = record { todo = []; notes = n }
moved_on (say y ∷ k) n x = record { todo = k; notes = n }
moved_on (ask f ∷ k) n x = answered_ninth f k n x
moved_on (listen z ∷ k) n x = record { todo = k; notes = noted z n x }

abbrev pub hear : Progress → Symbol → Progress
hear p x = moved_on p.todo p.notes x

abbrev pub after : Progress → List Symbol → Progress
after p [] = p
after p (x ∷ l) = after (hear p x) l

abbrev pub script : Progress → Rule Symbol
script p = λ l. offer (after p l).todo

abbrev pub answer : ℕ → Progress → Answer
answer l p = record { outcome = p.notes.outcome; losses = l; bytes = p.notes.bytes }
