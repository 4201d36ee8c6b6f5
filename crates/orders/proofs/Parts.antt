-- What is lawful by the test is lawful. Assumes nothing.
use Rattle.std.proofs.Common.{◌≡◌, ℕ, true, ◌&&◌, leb, List, [], ◌∷◌, length, rules}
use Rattle.std.proofs.lemmas.Bool.{leb-true, ltb-true, and_parts}
use Rattle.orders.specs.Orders.{AllBytes, Lawful, Each, LawfulSegment, writing, reading, total}
use Rattle.orders.specs.Orders as model
use Rattle.orders.specs.Tables.{lawful, lawful_segment}
use Rattle.orders.specs.Tests.{every, is_byte}

all_bytes : (bs : List ℕ) → every is_byte bs ≡ true → AllBytes bs
all_bytes [] e = tt
all_bytes (b ∷ bs) e =
    let p = and_parts (is_byte b) (every is_byte bs) e in
    (ltb-true b 256 p.0, all_bytes bs p.1)

each : (o : List model.Segment) → every lawful_segment o ≡ true → Each LawfulSegment o
each [] e = tt
each (s ∷ o) e = (one s (and_parts (lawful_segment s) (every lawful_segment o) e).0, each o (and_parts (lawful_segment s) (every lawful_segment o) e).1)
  where
    one : (s : model.Segment) → lawful_segment s ≡ true → LawfulSegment s
    one (writing a bs) h =
        let p = and_parts (leb 8 a) (leb a 119 && every is_byte bs) h in
        let q = and_parts (leb a 119) (every is_byte bs) p.1 in
        (leb-true 8 a p.0, leb-true a 119 q.0, all_bytes bs q.1)
    one (reading a n) h = search rules

pub lawful_is : (o : List model.Segment) → lawful o ≡ true → Lawful o
lawful_is o e =
    let p = and_parts (leb 1 (length o)) (leb (length o) 4 && (every lawful_segment o && leb (total o) 32)) e in
    let q = and_parts (leb (length o) 4) (every lawful_segment o && leb (total o) 32) p.1 in
    let r = and_parts (every lawful_segment o) (leb (total o) 32) q.1 in
    record { some_segment = leb-true 1 (length o) p.0; few_segments = leb-true (length o) 4 q.0; each = each o r.0; few_bytes = leb-true (total o) 32 r.1 }
