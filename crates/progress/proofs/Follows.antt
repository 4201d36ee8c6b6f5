-- A position follows the plan of its order. Assumes nothing.
use Rattle.std.proofs.Common.{◌≡◌, ℕ, zero, suc, ◌+◌, ◌-◌, ◌<◌, Bool, true, false, cond, ltb, List, ◌∷◌, length, drop, sym, refl, ap, ◌∙◌, add-one, arith, drop-cons, rules, ltb-false, ltb-true}
use native.Mathlib.Nat.{sub-zero}
use borrow.Author.Tests.{clash}
use Rattle.std.proofs.lemmas.List.{drop_all}
use Rattle.bus.specs.declared.Symbol.{Symbol}
use Rattle.bus.specs.declared.Symbol.TheVariants.{Zero, Stop, Start, One}
use Rattle.orders.specs.declared.Outcome.{Outcome}
use Rattle.orders.specs.declared.Outcome.TheVariants.{NoAddress, NoByte}
use Rattle.orders.specs.Orders.{Segment, writing, reading, Order, address_of, count, reads, bytes_of, nothing}
use Rattle.scripts.specs.Scripts.{Act, say, ask, spell, send, receive, body, plan, Notes, hear, moved_on, answered_ninth, blamed}
use Rattle.progress.specs.declared.Stage.{Stage}
use Rattle.progress.specs.declared.Stage.TheVariants.{Opening, Address, Direction, AddressNinth, Write, WriteNinth, Read, ReadNinth, Closing, Over}
use Rattle.progress.specs.declared.Position.{Position}
use Rattle.progress.specs.Positions.{here, heading, resume, unless_one, next_at, blame_one, noted_at, sound}
use Rattle.progress.specs.Plans.{others, payload, todo_at, progress_at}

module _ (ss : Order) where
  abbrev todo : Position → List Act
  todo s = todo_at ss s.segment s.stage

  resume_writing : (i j a : ℕ) (bs : List ℕ) → here ss i ≡ writing a bs → todo (resume i j false (length bs)) ≡ send i j (drop j bs) (others ss i)
  resume_writing i j a bs e = go (ltb j (length bs)) refl
    where
      go : (b : Bool) → ltb j (length bs) ≡ b → todo (cond b (record { segment = i; stage = Write j 7 }) (record { segment = i + 1; stage = Opening })) ≡ send i j (drop j bs) (others ss i)
      go true q = let h = ltb-true j (length bs) q in rw (e, drop-cons bs j 0 h) (rw add-one refl)
      go false q = let h = ltb-false j (length bs) q in rw (drop_all j bs h) refl

  resume_reading : (i j a n : ℕ) → here ss i ≡ reading a n → todo (resume i j true n) ≡ receive (n - j) (others ss i)
  resume_reading i j a n e = go (ltb j n) refl
    where
      go : (b : Bool) → ltb j n ≡ b → todo (cond b (record { segment = i; stage = Read j 7 }) (record { segment = i + 1; stage = Opening })) ≡ receive (n - j) (others ss i)
      go true q = let h = ltb-true j n q in let z : n - j ≡ suc (n - (j + 1)) = omega arith in rw e (rw z refl)
      go false q = let h = ltb-false j n q in let z : n - j ≡ 0 = omega arith in rw z refl

  body_is : (i : ℕ) (s : Segment) (k : List Act) → spell 7 (address_of s) (say (heading s) ∷ ask (NoAddress i) ∷ payload i s k) ≡ body i s k
  body_is i (writing a bs) k = refl
  body_is i (reading a n) k = refl

  resume_payload : (i : ℕ) (s : Segment) → here ss i ≡ s → todo (resume i 0 (reads s) (count s)) ≡ payload i s (others ss i)
  resume_payload i (writing a bs) e = resume_writing i 0 a bs e
  resume_payload i (reading a n) e = resume_reading i 0 a n e ∙ ap (λ (m : ℕ). receive m (others ss i)) (sub-zero n)

  resume_write : (i j : ℕ) (s : Segment) → here ss i ≡ s → reads s ≡ false → todo (resume i j (reads s) (count s)) ≡ send i j (drop j (bytes_of s)) (others ss i)
  resume_write i j (writing a bs) e k = resume_writing i j a bs e
  resume_write i j (reading a n) e k = absurd (clash (sym k))

  resume_read : (i j : ℕ) (s : Segment) → here ss i ≡ s → reads s ≡ true → todo (resume i j (reads s) (count s)) ≡ receive (count s - j) (others ss i)
  resume_read i j (writing a bs) e k = absurd (clash k)
  resume_read i j (reading a n) e k = resume_reading i j a n e

  -- after a slaves' ninth
  ninth : (i : ℕ) (f : Outcome) (k : List Act) (n : Notes) (s : Position) (x : Symbol) → todo s ≡ k
      → progress_at ss (unless_one i x s) (blame_one x n (blamed f n)) ≡ answered_ninth f k n x
  ninth i f k n s Zero d = rw d refl
  ninth i f k n s Stop d = rw d refl
  ninth i f k n s Start d = rw d refl
  ninth i f k n s One d = refl

  with_notes : (s : Position) (k : List Act) (n : Notes) → todo s ≡ k → progress_at ss s n ≡ record { todo = k; notes = n }
  with_notes s k n e = rw e refl

  -- it moves on, and notes, as its plan does
  pub follows : (i : ℕ) (st : Stage) (n : Notes) (x : Symbol) → sound ss (record { segment = i; stage = st }) ≡ true
      → progress_at ss (next_at ss i st x) (noted_at i st n x) ≡ hear (progress_at ss (record { segment = i; stage = st }) n) x
  follows i Opening n x k = go (ltb i (length ss)) refl
    where
      go : (b : Bool) → ltb i (length ss) ≡ b
          → progress_at ss (cond b (record { segment = i; stage = Address 6 }) (record { segment = i; stage = Over })) n ≡ moved_on (plan i (drop i ss)) n x
      go true q = let h = ltb-true i (length ss) q in rw (drop-cons ss i nothing h) (with_notes (record { segment = i; stage = Address 6 }) (body i (here ss i) (plan (suc i) (drop (suc i) ss))) n (rw (sym (add-one i)) (body_is i (here ss i) (others ss i))))
      go false q = let h = ltb-false i (length ss) q in rw (drop_all i ss h) refl
  follows i (Address zero) n x k = refl
  follows i (Address (suc b)) n x k = refl
  follows i Direction n x k = refl
  follows i AddressNinth n x k = ninth i (NoAddress i) (payload i (here ss i) (others ss i)) n (resume i 0 (reads (here ss i)) (count (here ss i))) x (resume_payload i (here ss i) refl)
  follows i (Write j zero) n x k = refl
  follows i (Write j (suc b)) n x k = refl
  follows i (WriteNinth j) n x k =
      let w : reads (here ss i) ≡ false = search rules in
      ninth i (NoByte i j) (send i (j + 1) (drop (j + 1) (bytes_of (here ss i))) (others ss i)) n (resume i (j + 1) (reads (here ss i)) (count (here ss i))) x (resume_write i (j + 1) (here ss i) refl w)
  follows i (Read j zero) n x k = refl
  follows i (Read j (suc b)) n x k = refl
  follows i (ReadNinth j) n x k =
      let w : reads (here ss i) ≡ true = search rules in
      with_notes (resume i (j + 1) (reads (here ss i)) (count (here ss i))) (receive (count (here ss i) - (j + 1)) (others ss i)) n (resume_read i (j + 1) (here ss i) refl w)
  follows i Closing n x k = refl
  follows i Over n x k = refl

  -- and stays sound
  resume_sound : (i j : ℕ) → i < length ss → sound ss (resume i j (reads (here ss i)) (count (here ss i))) ≡ true
  resume_sound i j l = go (ltb j (count (here ss i))) refl (reads (here ss i)) refl
    where
      go : (b : Bool) → ltb j (count (here ss i)) ≡ b → (r : Bool) → reads (here ss i) ≡ r
          → sound ss (cond b (record { segment = i; stage = cond r (Read j 7) (Write j 7) }) (record { segment = i + 1; stage = Opening })) ≡ true
      go true q true r = search rules
      go true q false r = search rules
      go false q r e = search rules

  ninth_sound : (i : ℕ) (x : Symbol) (s : Position) → sound ss s ≡ true → sound ss (unless_one i x s) ≡ true
  ninth_sound i Zero s h = h
  ninth_sound i Stop s h = h
  ninth_sound i Start s h = h
  ninth_sound i One s h = refl

  pub stays_sound : (i : ℕ) (st : Stage) (x : Symbol) → sound ss (record { segment = i; stage = st }) ≡ true → sound ss (next_at ss i st x) ≡ true
  stays_sound i Opening x k = go (ltb i (length ss)) refl
    where
      go : (b : Bool) → ltb i (length ss) ≡ b → sound ss (cond b (record { segment = i; stage = Address 6 }) (record { segment = i; stage = Over })) ≡ true
      go true q = search rules
      go false q = refl
  stays_sound i (Address zero) x k = search rules
  stays_sound i (Address (suc b)) x k = search rules
  stays_sound i Direction x k = k
  stays_sound i AddressNinth x k = ninth_sound i x (resume i 0 (reads (here ss i)) (count (here ss i))) (resume_sound i 0 (search rules))
  stays_sound i (Write j zero) x k = search rules
  stays_sound i (Write j (suc b)) x k = search rules
  stays_sound i (WriteNinth j) x k = ninth_sound i x (resume i (j + 1) (reads (here ss i)) (count (here ss i))) (resume_sound i (j + 1) (search rules))
  stays_sound i (Read j zero) x k = search rules
  stays_sound i (Read j (suc b)) x k = search rules
  stays_sound i (ReadNinth j) x k = resume_sound i (j + 1) (search rules)
  stays_sound i Closing x k = refl
  stays_sound i Over x k = refl
