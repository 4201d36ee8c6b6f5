-- A contender's position in its order: the segment, and the stage in it. Assumes nothing.
--     next_at     where a slot that carries a symbol leads
--     noted_at    what is noted of that slot
--     sound       a position that an order can come to
use Rattle.std.specs.Prelude.{ℕ, zero, suc, ◌+◌, ◌-◌, ◌^◌, Bool, true, false, cond, not, ◌&&◌, length, nat_le, nat_lt, slice_index_or}
use Rattle.bus.specs.declared.Symbol.{Symbol}
use Rattle.bus.specs.declared.Symbol.TheVariants.{Zero, Stop, Start, One}
use Rattle.orders.specs.declared.Outcome.TheVariants.{NoAddress, NoByte}
use Rattle.orders.specs.Orders.{Segment, Order, direction_of, count, reads, nothing}
use Rattle.scripts.specs.Scripts.{Notes, noted, blamed}
use Rattle.bus.specs.Symbols.{heading_bit}
use Rattle.progress.specs.declared.Stage.{Stage}
use Rattle.progress.specs.declared.Stage.TheVariants.{Opening, Address, Direction, AddressNinth, Write, WriteNinth, Read, ReadNinth, Closing, Over}
use Rattle.progress.specs.declared.Position.{Position}

abbrev pub here : Order → ℕ → Segment
here ss i = slice_index_or ss i nothing

abbrev pub heading : Segment → Symbol
heading s = heading_bit (direction_of s)

-- where the n bytes of segment i, to read or to write, go on from byte j, or the next segment
abbrev pub resume : ℕ → ℕ → Bool → ℕ → Position
resume i j r n = cond (nat_lt j n) (record { segment = i; stage = cond r (Read j 7) (Write j 7) }) (record { segment = i + 1; stage = Opening })

abbrev pub unless_one : ℕ → Symbol → Position → Position
unless_one i Zero s = s
unless_one i Stop s = s
unless_one i Start s = s
unless_one i One s = record { segment = i; stage = Closing }

abbrev pub next_at : Order → ℕ → Stage → Symbol → Position
next_at ss i Opening x = cond (nat_lt i (length ss)) (record { segment = i; stage = Address 6 }) (record { segment = i; stage = Over })
next_at ss i (Address zero) x = record { segment = i; stage = Direction }
next_at ss i (Address (suc n)) x = record { segment = i; stage = Address n }
next_at ss i Direction x = record { segment = i; stage = AddressNinth }
next_at ss i AddressNinth x = unless_one i x (resume i 0 (reads (here ss i)) (count (here ss i)))
next_at ss i (Write j zero) x = record { segment = i; stage = WriteNinth j }
next_at ss i (Write j (suc n)) x = record { segment = i; stage = Write j n }
next_at ss i (WriteNinth j) x = unless_one i x (resume i (j + 1) (reads (here ss i)) (count (here ss i)))
next_at ss i (Read j zero) x = record { segment = i; stage = ReadNinth j }
next_at ss i (Read j (suc n)) x = record { segment = i; stage = Read j n }
next_at ss i (ReadNinth j) x = resume i (j + 1) (reads (here ss i)) (count (here ss i))
next_at ss i Closing x = record { segment = i; stage = Over }
next_at ss i Over x = record { segment = i; stage = Over }

abbrev pub blame_one : Symbol → Notes → Notes → Notes
blame_one Zero n m = n
blame_one Stop n m = n
blame_one Start n m = n
blame_one One n m = m

abbrev pub noted_at : ℕ → Stage → Notes → Symbol → Notes
noted_at i Opening n x = n
noted_at i (Address b) n x = n
noted_at i Direction n x = n
noted_at i AddressNinth n x = blame_one x n (blamed (NoAddress i) n)
noted_at i (Write j b) n x = n
noted_at i (WriteNinth j) n x = blame_one x n (blamed (NoByte i j) n)
noted_at i (Read j zero) n x = noted true n x
noted_at i (Read j (suc b)) n x = noted false n x
noted_at i (ReadNinth j) n x = n
noted_at i Closing n x = n
noted_at i Over n x = n

abbrev pub sound : Order → Position → Bool
sound ss s = elim s.stage [
  | Opening ↦ nat_le s.segment (length ss)
  | Address n ↦ nat_lt s.segment (length ss) && nat_le n 6
  | Direction ↦ nat_lt s.segment (length ss)
  | AddressNinth ↦ nat_lt s.segment (length ss)
  | Write j n ↦ nat_lt s.segment (length ss) && (not (reads (here ss s.segment)) && (nat_lt j (count (here ss s.segment)) && nat_le n 7))
  | WriteNinth j ↦ nat_lt s.segment (length ss) && (not (reads (here ss s.segment)) && nat_lt j (count (here ss s.segment)))
  | Read j n ↦ nat_lt s.segment (length ss) && (reads (here ss s.segment) && (nat_lt j (count (here ss s.segment)) && nat_le n 7))
  | ReadNinth j ↦ nat_lt s.segment (length ss) && (reads (here ss s.segment) && nat_lt j (count (here ss s.segment)))
  | Closing ↦ true
  | Over ↦ true
]

-- whether the next slot completes a byte
abbrev pub to_come_at : Stage → ℕ
to_come_at Opening = 0
to_come_at (Address n) = 0
to_come_at Direction = 0
to_come_at AddressNinth = 0
to_come_at (Write j n) = 0
to_come_at (WriteNinth j) = 0
to_come_at (Read j n) = 1
to_come_at (ReadNinth j) = 0
to_come_at Closing = 0
to_come_at Over = 0

-- what the bits of a byte under way stay below
abbrev pub part_limit : Stage → ℕ
part_limit Opening = 1
part_limit (Address n) = 1
part_limit Direction = 1
part_limit AddressNinth = 1
part_limit (Write j n) = 1
part_limit (WriteNinth j) = 1
part_limit (Read j n) = 2 ^ (7 - n)
part_limit (ReadNinth j) = 1
part_limit Closing = 1
part_limit Over = 1
