-- The bytes read have room, and the bits of one fit a byte. Assumes nothing.
use Rattle.std.proofs.Common.{◌≡◌, ℕ, zero, suc, ◌+◌, ◌-◌, ◌*◌, ◌^◌, ◌<◌, ◌≤◌, Bool, true, false, cond, ltb, List, [], ◌∷◌, length, refl, ◌∙◌, pow-suc, arith, rules}
use Rattle.std.proofs.lemmas.List.{length_push}
use Rattle.orders.specs.declared.Outcome.{Outcome}
use Rattle.bus.specs.declared.Symbol.{Symbol}
use Rattle.bus.specs.declared.Symbol.TheVariants.{Zero, Stop, Start, One}
use Rattle.orders.specs.declared.Outcome.TheVariants.{NoAddress, NoByte}
use Rattle.orders.specs.Orders.{count, reads, writing, reading, Order, Lawful, total}
use Rattle.scripts.specs.Scripts.{blamed, Act, say, ask, listen, spell, send, more, hark, receive, plan, Notes, moved_on}
use Rattle.bus.specs.Symbols.{value}
use Rattle.progress.specs.declared.Stage.{Stage}
use Rattle.progress.specs.declared.Stage.TheVariants.{Opening, Address, Direction, AddressNinth, Write, WriteNinth, Read, ReadNinth, Closing, Over}
use Rattle.progress.specs.Positions.{to_come_at, here, resume, unless_one, next_at, blame_one, noted_at, sound, part_limit}
use Rattle.progress.specs.declared.Position.{Position}
use Rattle.progress.specs.Plans.{todo_at, others, to_come, read_total}

come_spell : (n b : ℕ) (k : List Act) → to_come (spell n b k) ≡ to_come k
come_spell zero b k = refl
come_spell (suc n) b k = come_spell n b k

come_send : (i j : ℕ) (bs : List ℕ) (k : List Act) → to_come (send i j bs k) ≡ to_come k
come_send i j [] k = refl
come_send i j (b ∷ bs) k = come_spell 8 b (ask (NoByte i j) ∷ send i (suc j) bs k) ∙ come_send i (suc j) bs k

come_hark : (n : ℕ) (k : List Act) → to_come (hark (suc n) k) ≡ suc (to_come k)
come_hark zero k = refl
come_hark (suc n) k = come_hark n k

come_receive : (n : ℕ) (k : List Act) → to_come (receive n k) ≡ n + to_come k
come_receive zero k = omega arith
come_receive (suc n) k = let h = come_hark 7 (say (more n) ∷ receive n k) in let r = come_receive n k in omega arith

-- a plan reads as many bytes as its order wants
pub come_plan : (i : ℕ) (o : Order) → to_come (plan i o) ≡ read_total o
come_plan i [] = refl
come_plan i (writing a bs ∷ o) =
    let s = come_spell 7 a (say Zero ∷ ask (NoAddress i) ∷ send i 0 bs (plan (suc i) o)) in
    let r = come_send i 0 bs (plan (suc i) o) in
    let p = come_plan (suc i) o in
    omega arith
come_plan i (reading a n ∷ o) =
    let s = come_spell 7 a (say One ∷ ask (NoAddress i) ∷ receive n (plan (suc i) o)) in
    let r = come_receive n (plan (suc i) o) in
    let p = come_plan (suc i) o in
    omega arith

read_less : (o : Order) → read_total o ≤ total o
read_less [] = omega arith
read_less (writing a bs ∷ o) = let h = read_less o in omega arith
read_less (reading a n ∷ o) = let h = read_less o in omega arith

pub read_few : (o : Order) → Lawful o → read_total o ≤ 32
read_few o l = let h = read_less o in omega (arith, l.few_bytes)

-- the next slot of a read byte may complete it
pub come_at : (ss : Order) (i : ℕ) (st : Stage) → to_come_at st ≤ to_come (todo_at ss i st)
come_at ss i Opening = omega arith
come_at ss i (Address n) = omega arith
come_at ss i Direction = omega arith
come_at ss i AddressNinth = omega arith
come_at ss i (Write j n) = omega arith
come_at ss i (WriteNinth j) = omega arith
come_at ss i (Read j n) = let h = come_hark n (say (more (count (here ss i) - (j + 1))) ∷ receive (count (here ss i) - (j + 1)) (others ss i)) in omega arith
come_at ss i (ReadNinth j) = omega arith
come_at ss i Closing = omega arith
come_at ss i Over = omega arith

-- a slot adds no more than it takes away
pub come_next : (k : List Act) (n : Notes) (x : Symbol) → length (moved_on k n x).notes.bytes + to_come (moved_on k n x).todo ≤ length n.bytes + to_come k
come_next [] n x = omega arith
come_next (say y ∷ k) n x = omega arith
come_next (ask f ∷ k) n Zero = omega arith
come_next (ask f ∷ k) n Stop = omega arith
come_next (ask f ∷ k) n Start = omega arith
come_next (ask f ∷ k) n One = omega arith
come_next (listen false ∷ k) n x = omega arith
come_next (listen true ∷ k) n x = let h = length_push n.bytes (2 * n.part + value x) in omega arith

-- the bits of a byte under way
value_bit : (x : Symbol) → value x ≤ 1
value_bit Zero = omega arith
value_bit Stop = omega arith
value_bit Start = omega arith
value_bit One = omega arith

doubled : (b p v : ℕ) → suc b ≤ 7 → p < 2 ^ (7 - suc b) → v ≤ 1 → 2 * p + v < 2 ^ (7 - b)
doubled b p v l h u =
    let e : 7 - b ≡ suc (7 - suc b) = omega arith in
    let q : 2 ^ suc (7 - suc b) ≡ 2 ^ (7 - suc b) * 2 = pow-suc 2 (7 - suc b) in
    rw (e, q) (omega arith)

resume_limit : (i j n : ℕ) (r : Bool) → part_limit (resume i j r n).stage ≡ 1
resume_limit i j n r = go (ltb j n) r
  where
    go : (b r : Bool) → part_limit (cond {A = Position} b (record { segment = i; stage = cond r (Read j 7) (Write j 7) }) (record { segment = i + 1; stage = Opening })).stage ≡ 1
    go true true = refl
    go true false = refl
    go false r = refl

ninth_part : (i : ℕ) (f : Outcome) (n : Notes) (x : Symbol) (s : Position) → part_limit s.stage ≡ 1 → n.part < 1 → (blame_one x n (blamed f n)).part < part_limit (unless_one i x s).stage
ninth_part i f n Zero s e h = rw e h
ninth_part i f n Stop s e h = rw e h
ninth_part i f n Start s e h = rw e h
ninth_part i f n One s e h = h

pub stays_small : (ss : Order) (i : ℕ) (st : Stage) (n : Notes) (x : Symbol) → sound ss (record { segment = i; stage = st }) ≡ true → n.part < part_limit st
    → (noted_at i st n x).part < part_limit (next_at ss i st x).stage
stays_small ss i Opening n x k h = go (ltb i (length ss))
  where
    go : (b : Bool) → n.part < part_limit (cond {A = Position} b (record { segment = i; stage = Address 6 }) (record { segment = i; stage = Over })).stage
    go true = h
    go false = h
stays_small ss i (Address zero) n x k h = h
stays_small ss i (Address (suc b)) n x k h = h
stays_small ss i Direction n x k h = h
stays_small ss i AddressNinth n x k h = ninth_part i (NoAddress i) n x (resume i 0 (reads (here ss i)) (count (here ss i))) (resume_limit i 0 (count (here ss i)) (reads (here ss i))) h
stays_small ss i (Write j zero) n x k h = h
stays_small ss i (Write j (suc b)) n x k h = h
stays_small ss i (WriteNinth j) n x k h = ninth_part i (NoByte i j) n x (resume i (j + 1) (reads (here ss i)) (count (here ss i))) (resume_limit i (j + 1) (count (here ss i)) (reads (here ss i))) h
stays_small ss i (Read j zero) n x k h = omega arith
stays_small ss i (Read j (suc b)) n x k h = let l : suc b ≤ 7 = search rules in doubled b n.part (value x) l h (value_bit x)
stays_small ss i (ReadNinth j) n x k h = rw (resume_limit i (j + 1) (count (here ss i)) (reads (here ss i))) h
stays_small ss i Closing n x k h = h
stays_small ss i Over n x k h = h
