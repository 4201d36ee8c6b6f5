-- What the words of an order's history say. Assumes nothing.
--     items_of             words as items of the 7-bit format; the byte after a start is an address byte
--     OrdersAreReadBack    each order's history alone is a whole record, whose words say exactly the items of its frame
use Rattle.std.specs.Prelude.{Bool, true, false, List, [], ◌∷◌}
use Rattle.history.specs.Contest.{Rule, Polite}
use Rattle.bus.specs.declared.Symbol.{Symbol}
use Rattle.bus.specs.declared.Turn.TheVariants.{Free}
use Rattle.bus.specs.Turns.{bus}
use Rattle.orders.specs.Orders.{Order, Lawful}
use Rattle.scripts.specs.Alone.{AloneHistory, read_bytes, outcome_in}
use Rattle.scripts.specs.Frames.{Item, START, ADDRESS, DATA, STOP, Frame}
use Rattle.reader.specs.Bytes.{address_of, direction_of, value_of, acknowledges}
use Rattle.reader.specs.Words.{Meaning, start, stop, byte}
use Rattle.reader.specs.Records.{ranks, WordsOf}

-- the first argument tells whether a start came right before
abbrev pub items_of : Bool → List Meaning → List Item
items_of b [] = []
items_of b (start p ∷ ws) = START ∷ items_of true ws
items_of b (stop p ∷ ws) = STOP ∷ items_of false ws
items_of true (byte p s ∷ ws) = ADDRESS (address_of s) (direction_of s) (acknowledges s) ∷ items_of false ws
items_of false (byte p s ∷ ws) = DATA (value_of s) (acknowledges s) ∷ items_of false ws

pub record ReadBack (o : Order) (h : List Symbol) : Type 0 where
  pub words : List Meaning
  pub words_of : WordsOf (ranks h) words
  pub frame : Frame 0 o (items_of false words) (outcome_in 0 0 Free h) (read_bytes 0 Free h)

abbrev pub OrdersAreReadBack : Type 0
OrdersAreReadBack = (o : Order) (r : Rule Symbol) (h : List Symbol) → Lawful o → Polite bus Free r → AloneHistory o r h → ReadBack o h
