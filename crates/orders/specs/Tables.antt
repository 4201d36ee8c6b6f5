-- What a table of segments means, and which are lawful. Assumes nothing.
--     meant      what a segment of the table means, where its order writes those bytes
--     meaning    the order that the segments and the bytes stand for
--     lawful     the order is lawful, as a test
--     inside     a segment's bytes are all there
use Rattle.std.specs.Prelude.{ℕ, ◌+◌, Bool, ◌&&◌, leb, List, map, length, take, drop, nat_le}
use Rattle.orders.specs.Orders.{writing, reading, total}
use Rattle.orders.specs.Orders as model
use Rattle.bus.specs.declared.Direction.{Direction}
use Rattle.bus.specs.declared.Direction.TheVariants.{Write, Read}
use Rattle.orders.specs.declared.Segment.{Segment}
use Rattle.orders.specs.Tests.{every, is_byte}

abbrev pub aimed : Direction → ℕ → ℕ → List ℕ → model.Segment
aimed Write a n bs = writing a bs
aimed Read a n bs = reading a n

abbrev pub meant : List ℕ → Segment → model.Segment
meant bs s = aimed s.direction s.address s.count (take s.count (drop s.at bs))

abbrev pub meaning : List Segment → List ℕ → model.Order
meaning ss bs = map (meant bs) ss

abbrev pub lawful_segment : model.Segment → Bool
lawful_segment (writing a bs) = nat_le 8 a && (nat_le a 119 && every is_byte bs)
lawful_segment (reading a n) = nat_le 8 a && (nat_le a 119 && nat_le 1 n)

abbrev pub lawful : model.Order → Bool
lawful o = nat_le 1 (length o) && (nat_le (length o) 4 && (every lawful_segment o && nat_le (total o) 32))

abbrev pub inside : ℕ → Segment → Bool
inside n s = elim s.direction [ Write ↦ leb (s.at + s.count) n | Read ↦ leb (s.at + s.count) 32 ]
