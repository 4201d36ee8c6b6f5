-- What fill returns and makes. Assumes nothing.
--     order_of    the order that a struct holds
--     refused     the first row of the table that refuses, or 0
--     asked       the order asked for
--     Filled      what filled makes of segments and bytes
use Rattle.std.specs.Prelude.{◌≡◌, ℕ, ◌+◌, Bool, true, cond, ◌&&◌, List, [], ◌∷◌, length, take, drop, ◌==◌, nat_le, Option, Some, None, Ok, Err, Result}
use Rattle.orders.specs.Orders.{writing, reading}
use Rattle.orders.specs.Orders as model
use Rattle.refusals.specs.declared.Refusal.{Refusal}
use Rattle.refusals.specs.Numbers.{number}
use Rattle.array_vec.specs.Items.{items_of}
use Rattle.orders.specs.declared.RawSegment.{RawSegment}
use Rattle.bus.specs.Addresses.{is_address}
use Rattle.bus.specs.declared.Direction.{Direction}
use Rattle.bus.specs.declared.Direction.TheVariants.{Write, Read}
use Rattle.orders.specs.declared.Segment.{Segment}
use Rattle.orders.specs.declared.order.Order.{Order}
use Rattle.orders.specs.Held.{held}
use Rattle.orders.specs.Tables.{meaning}
use Rattle.orders.specs.Tests.{every}

abbrev pub order_of : Order → model.Order
order_of o = meaning (items_of o.segments) (held o.bytes)

-- what a segment asks for
abbrev pub kind_of : RawSegment → Option Direction
kind_of s = cond (s.direction == 0) (Some Write) (cond (s.direction == 1) (Some Read) None)

-- what each row of the table asks of one segment
abbrev pub good_address : RawSegment → Bool
good_address s = is_address s.address

abbrev pub good_direction : RawSegment → Bool
good_direction s = nat_le s.direction 1

abbrev pub good_count : RawSegment → Bool
good_count s = cond (s.direction == 1) (nat_le 1 s.count) true

-- what a segment writes
abbrev pub writes : RawSegment → ℕ
writes s = cond (s.direction == 0) s.count 0

abbrev pub counts : List RawSegment → ℕ
counts [] = 0
counts (s ∷ ss) = s.count + counts ss

abbrev pub write_counts : List RawSegment → ℕ
write_counts [] = 0
write_counts (s ∷ ss) = writes s + write_counts ss

abbrev pub refused : List RawSegment → List ℕ → ℕ
refused ss bs =
    cond (nat_le 1 (length ss) && nat_le (length ss) 4)
    (cond (every good_address ss)
    (cond (every good_direction ss)
    (cond (every good_count ss)
    (cond (nat_le (counts ss) 32)
    (cond (length bs == write_counts ss) 0 6) 5) 4) 3) 2) 1

-- each segment that writes takes its bytes off the front
abbrev pub asked : List RawSegment → List ℕ → model.Order
asked [] bs = []
asked (s ∷ ss) bs =
    cond (s.direction == 0)
    (writing s.address (take s.count bs) ∷ asked ss (drop s.count bs))
    (reading s.address s.count ∷ asked ss bs)

abbrev pub Filled : Result Order Refusal → List RawSegment → List ℕ → Type 0
Filled (Ok o) ss bs = (refused ss bs ≡ 0) × (order_of o ≡ asked ss bs)
Filled (Err e) ss bs = refused ss bs ≡ number e

-- the segment that is written for one asked for, whose bytes begin at `at`
abbrev pub written : RawSegment → ℕ → Segment
written s at = record { address = s.address; direction = cond (s.direction == 0) Write Read; count = s.count; at = at }

abbrev pub tabled : List RawSegment → ℕ → List Segment
tabled [] at = []
tabled (s ∷ ss) at = written s at ∷ tabled ss (at + writes s)
