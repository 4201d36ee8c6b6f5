-- What every order has, segment by segment. Assumes nothing.
use Rattle.std.proofs.Common.{◌≡◌, ℕ, zero, suc, ◌≤◌, true, ltb, [], ◌∷◌, length, arith, lt-ltb}
use borrow.Author.Tests.{clash}
use Rattle.bus.specs.declared.Symbol.{Symbol}
use Rattle.bus.specs.declared.Symbol.TheVariants as symbol
use Rattle.bus.specs.Symbols.{value}
use Rattle.orders.specs.declared.order.Order as code
use Rattle.orders.specs.Orders.{Segment, writing, reading, Order, address_of, reads, count, Each, LawfulSegment, Lawful}
use Rattle.orders.specs.Fills.{order_of}
use Rattle.orders.proofs.Parts.{lawful_is}
use Rattle.progress.specs.Positions.{here}

pub order_lawful : (o : code.Order) → Lawful (order_of o)
order_lawful o = lawful_is (order_of o) o.kept

-- a bit is 0 or 1
pub value_le : (x : Symbol) → value x ≤ 1
value_le symbol.Zero = omega arith
value_le symbol.Stop = omega arith
value_le symbol.Start = omega arith
value_le symbol.One = omega arith

-- an address fits seven bits, and a read has a byte at least
pub record Fair (s : Segment) : Type 0 where
  pub low : address_of s ≤ 119
  pub some : reads s ≡ true → ltb 0 (count s) ≡ true

fair : (s : Segment) → LawfulSegment s → Fair s
fair (writing a bs) l = record { low = l.1; some = λ e. absurd (clash e) }
fair (reading a n) l = record { low = l.1; some = λ e. lt-ltb 0 n (omega (arith, l.2)) }

each_fair : (ss : Order) → Each LawfulSegment ss → (i : ℕ) → Fair (here ss i)
each_fair [] l zero = record { low = omega arith; some = λ e. absurd (clash e) }
each_fair [] l (suc i) = record { low = omega arith; some = λ e. absurd (clash e) }
each_fair (s ∷ ss) l zero = fair s l.0
each_fair (s ∷ ss) l (suc i) = each_fair ss l.1 i

pub fair_at : (ss : Order) → Lawful ss → (i : ℕ) → Fair (here ss i)
fair_at ss l i = each_fair ss l.each i

pub some_byte_at : (ss : Order) → Lawful ss → (i : ℕ) → reads (here ss i) ≡ true → ltb 0 (count (here ss i)) ≡ true
some_byte_at ss l i = (fair_at ss l i).some

pub some_segment : (ss : Order) → Lawful ss → ltb 0 (length ss) ≡ true
some_segment ss l = lt-ltb 0 (length ss) (omega (arith, l.some_segment))
