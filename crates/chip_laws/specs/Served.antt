-- What an order gets of a chip, and how it leaves the chip's device: segment by segment and byte by byte, with no slot in it. Assumes nothing.
--     Served    the outcome, the bytes read, and the device's bytes and place afterwards
--     serves    what comes of the segments from the i-th on, at a chip with that address
use Rattle.std.specs.Prelude.{ℕ, zero, suc, ◌%◌, Bool, true, false, cond, List, [], ◌∷◌, ◌++◌, ◌==◌, slice_index}
use Rattle.orders.specs.declared.Outcome.{Outcome}
use Rattle.orders.specs.declared.Outcome.TheVariants.{Done, NoAddress, NoByte}
use Rattle.orders.specs.Orders.{Segment, writing, reading}
use Rattle.chips.specs.Store.{Store, Rule}

pub record Served : Type 0 where
  pub outcome : Outcome
  pub bytes : List ℕ
  pub store : Store

-- eight slots carry the low eight bits of what stands at the place
abbrev pub current : Store → ℕ
current s = slice_index s.bytes s.place % 256

-- the order ends here
abbrev pub ended : Outcome → Store → Served
ended f s = record { outcome = f; bytes = []; store = s }

-- these bytes were read before
abbrev pub preceded : List ℕ → Served → Served
preceded bs v = record { outcome = v.outcome; bytes = bs ++ v.bytes; store = v.store }

module _ (r : Rule) where
  -- n bytes are read, and the device moves on after each
  abbrev pub brought : ℕ → Store → List ℕ
  brought zero s = []
  brought (suc n) s = current s ∷ brought n (r.sent s)

  abbrev pub moved_past : ℕ → Store → Store
  moved_past zero s = s
  moved_past (suc n) s = moved_past n (r.sent s)

  -- bytes are written from byte j of segment i on; the first that is not accepted ends the order, else the rest follows
  abbrev pub takes_in : ℕ → ℕ → Bool → List ℕ → (Store → Served) → Store → Served
  takes_in i j first [] rest s = rest s
  takes_in i j first (b ∷ bs) rest s =
      cond (r.accepts first b) (takes_in i (suc j) false bs rest (r.wrote first b s)) (ended (NoByte i j) (r.wrote first b s))

module _ (r : Rule) (address : ℕ) where
  -- a segment to another address ends the order
  abbrev pub serves : ℕ → List Segment → Store → Served
  serves i [] s = ended Done s
  serves i (writing a bs ∷ ss) s = cond (a == address) (takes_in r i 0 true bs (serves (suc i) ss) s) (ended (NoAddress i) s)
  serves i (reading a n ∷ ss) s = cond (a == address) (preceded (brought r n s) (serves (suc i) ss (moved_past r n s))) (ended (NoAddress i) s)
