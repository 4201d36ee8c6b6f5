-- What a position has yet to do. Assumes nothing.
--     todo_at        the rest of its order's plan
--     progress_at    position and notes as the order's progress
--     to_come        how many bytes are yet to be read
--     read_total     how many bytes an order reads
use Rattle.std.specs.Prelude.{ℕ, suc, ◌+◌, ◌-◌, true, false, cond, List, [], ◌∷◌, drop, slice_index}
use Rattle.bus.specs.declared.Symbol.TheVariants.{Stop}
use Rattle.orders.specs.declared.Outcome.TheVariants.{NoAddress, NoByte}
use Rattle.orders.specs.Orders.{Segment, writing, reading, Order, address_of, count, reads, bytes_of}
use Rattle.scripts.specs.Scripts.{Act, say, ask, listen, spell, send, more, hark, receive, plan, Notes, Progress}
use Rattle.progress.specs.declared.Stage.{Stage}
use Rattle.progress.specs.declared.Stage.TheVariants.{Opening, Address, Direction, AddressNinth, Write, WriteNinth, Read, ReadNinth, Closing, Over}
use Rattle.progress.specs.declared.Position.{Position}
use Rattle.progress.specs.Positions.{here, heading}

-- the segments after segment i
abbrev pub others : Order → ℕ → List Act
others ss i = plan (i + 1) (drop (i + 1) ss)

abbrev pub payload : ℕ → Segment → List Act → List Act
payload i (writing a bs) k = send i 0 bs k
payload i (reading a n) k = receive n k

abbrev pub todo_at : Order → ℕ → Stage → List Act
todo_at ss i Opening = plan i (drop i ss)
todo_at ss i (Address n) = spell (suc n) (address_of (here ss i)) (say (heading (here ss i)) ∷ ask (NoAddress i) ∷ payload i (here ss i) (others ss i))
todo_at ss i Direction = say (heading (here ss i)) ∷ ask (NoAddress i) ∷ payload i (here ss i) (others ss i)
todo_at ss i AddressNinth = ask (NoAddress i) ∷ payload i (here ss i) (others ss i)
todo_at ss i (Write j n) = spell (suc n) (slice_index (bytes_of (here ss i)) j) (ask (NoByte i j) ∷ send i (j + 1) (drop (j + 1) (bytes_of (here ss i))) (others ss i))
todo_at ss i (WriteNinth j) = ask (NoByte i j) ∷ send i (j + 1) (drop (j + 1) (bytes_of (here ss i))) (others ss i)
todo_at ss i (Read j n) = hark (suc n) (say (more (count (here ss i) - (j + 1))) ∷ receive (count (here ss i) - (j + 1)) (others ss i))
todo_at ss i (ReadNinth j) = say (more (count (here ss i) - (j + 1))) ∷ receive (count (here ss i) - (j + 1)) (others ss i)
todo_at ss i Closing = say Stop ∷ []
todo_at ss i Over = []

abbrev pub progress_at : Order → Position → Notes → Progress
progress_at ss s n = record { todo = todo_at ss s.segment s.stage; notes = n }

abbrev pub to_come : List Act → ℕ
to_come [] = 0
to_come (say x ∷ k) = to_come k
to_come (ask f ∷ k) = to_come k
to_come (listen true ∷ k) = suc (to_come k)
to_come (listen false ∷ k) = to_come k

-- what a segment reads
abbrev pub share : Segment → ℕ
share s = cond (reads s) (count s) 0

abbrev pub read_total : Order → ℕ
read_total [] = 0
read_total (s ∷ ss) = share s + read_total ss
