-- The plan of an order keeps to the turns, and takes at most its length. Assumes nothing.
use Rattle.std.proofs.Common.{◌≡◌, ℕ, zero, suc, ◌+◌, ◌*◌, ◌/◌, ◌^◌, ◌≤◌, Bool, true, false, List, [], ◌∷◌, length, sym, refl, ap, ◌∙◌, suc-le-suc, zero-le, arith}
use borrow.Author.Tests.{clash}
use Rattle.history.specs.Marks.{least}
use Rattle.history.specs.Contest.{Rule, on, turn_after, Follows, stays, Survives, Polite, Keeps, Alone}
use Rattle.bus.specs.declared.Symbol.{Symbol}
use Rattle.bus.specs.declared.Symbol.TheVariants.{Zero, Stop, Start, One}
use Rattle.bus.specs.Symbols.{symbols, is_bit, is_stop, bit}
use Rattle.bus.specs.declared.Turn.{Turn}
use Rattle.bus.specs.declared.Turn.TheVariants.{Free, Address, AddressNinth, Border, ClosingBorder, Write, WriteNinth, Read, ReadNinth}
use Rattle.bus.specs.Turns.{next, masters_slot, legal, busy, bus}
use Rattle.orders.specs.Orders.{Segment, writing, reading, count, total, LawfulSegment, Each, Order, Lawful}
use Rattle.scripts.specs.Alone.{longest}
use Rattle.orders.specs.declared.Outcome.{Outcome}
use Rattle.orders.specs.declared.Outcome.TheVariants.{NoAddress, NoByte}
use Rattle.scripts.specs.Scripts.{Act, say, ask, listen, spell, send, more, hark, receive, body, plan, Notes, Progress, no_notes, noted, blamed, begin, offer, answered_ninth, moved_on, hear, after, script}
use Rattle.bus.proofs.Slots.{bit_legal, bit_next, slaves_legal, busy_next, own}
use Rattle.history.proofs.General.{least_left, least_right, polite_on, alone_one}
use Rattle.history.proofs.Words.{to_words}
use Rattle.scripts.specs.Alone.{OneHistory}

-- what a list of acts needs of the turn that it meets
abbrev pub Fits : Turn → List Act → Type 0
Fits t [] = t ≡ Free
Fits t (say x ∷ k) = (masters_slot t ≡ true) × (legal t x ≡ true) × Fits (next t x) k
Fits t (ask f ∷ k) = (masters_slot t ≡ false) × Fits (next t Zero) k × (next t One ≡ ClosingBorder)
Fits t (listen z ∷ k) = (masters_slot t ≡ false) × ((x : Symbol) → is_bit x ≡ true → Fits (next t x) k)

spell_write : (n b : ℕ) (k : List Act) → Fits WriteNinth k → Fits (Write n) (spell (suc n) b k)
spell_write zero b k f = (refl, bit_legal (b / 2 ^ 0), rw (bit_next (Write 0) (bit (b / 2 ^ 0)) (bit_legal (b / 2 ^ 0))) f)
spell_write (suc n) b k f = (refl, bit_legal (b / 2 ^ suc n), rw (bit_next (Write (suc n)) (bit (b / 2 ^ suc n)) (bit_legal (b / 2 ^ suc n))) (spell_write n b k f))

spell_byte : (b : ℕ) (k : List Act) → Fits WriteNinth k → Fits Border (spell 8 b k)
spell_byte b k f = (refl, refl, rw (bit_next Border (bit (b / 2 ^ 7)) (bit_legal (b / 2 ^ 7))) (spell_write 6 b k f))

spell_address : (n a : ℕ) (k : List Act) → Fits (Address 0) k → Fits (Address n) (spell n a k)
spell_address zero a k f = f
spell_address (suc n) a k f = (refl, bit_legal (a / 2 ^ n), rw (bit_next (Address (suc n)) (bit (a / 2 ^ n)) (bit_legal (a / 2 ^ n))) (spell_address n a k f))

hark_fits : (n : ℕ) (k : List Act) → Fits ReadNinth k → Fits (Read n) (hark (suc n) k)
hark_fits zero k f = (refl, λ x e. rw (bit_next (Read 0) x e) f)
hark_fits (suc n) k f = (refl, λ x e. rw (bit_next (Read (suc n)) x e) (hark_fits n k f))

send_fits : (i j : ℕ) (bs : List ℕ) (k : List Act) → Fits Border k → Fits Border (send i j bs k)
send_fits i j [] k f = f
send_fits i j (b ∷ bs) k f = spell_byte b (ask (NoByte i j) ∷ send i (suc j) bs k) (refl, send_fits i (suc j) bs k f, refl)

receive_fits : (n : ℕ) (k : List Act) → Fits ClosingBorder k → Fits (Read 7) (receive (suc n) k)
receive_fits zero k f = hark_fits 7 (say One ∷ k) (refl, refl, f)
receive_fits (suc n) k f = hark_fits 7 (say Zero ∷ receive (suc n) k) (refl, refl, receive_fits n k f)

body_fits : (i : ℕ) (s : Segment) (k : List Act) → LawfulSegment s → Fits Border k → Fits ClosingBorder k → Fits (Address 7) (body i s k)
body_fits i (writing a bs) k l f g = spell_address 7 a (say Zero ∷ ask (NoAddress i) ∷ send i 0 bs k) (refl, refl, (refl, send_fits i 0 bs k f, refl))
body_fits i (reading a zero) k l f g = absurd (omega arith)
body_fits i (reading a (suc n)) k l f g = spell_address 7 a (say One ∷ ask (NoAddress i) ∷ receive (suc n) k) (refl, refl, (refl, receive_fits n k g, refl))

mutual
  plan_open : (i : ℕ) (ss : List Segment) → Each LawfulSegment ss → Fits Border (plan i ss)
  plan_open i [] l = (refl, refl, refl)
  plan_open i (s ∷ ss) l = (refl, refl, body_fits i s (plan (suc i) ss) l.0 (plan_open (suc i) ss l.1) (plan_shut (suc i) ss l.1))

  plan_shut : (i : ℕ) (ss : List Segment) → Each LawfulSegment ss → Fits ClosingBorder (plan i ss)
  plan_shut i [] l = (refl, refl, refl)
  plan_shut i (s ∷ ss) l = (refl, refl, body_fits i s (plan (suc i) ss) l.0 (plan_open (suc i) ss l.1) (plan_shut (suc i) ss l.1))

-- an order's plan fits a free bus
pub plan_fits : (o : Order) → Lawful o → Fits Free (plan 0 o)
plan_fits o w = go o w.some_segment w.each
  where
    go : (ss : List Segment) → 1 ≤ length ss → Each LawfulSegment ss → Fits Free (plan 0 ss)
    go [] h l = absurd (omega arith)
    go (s ∷ ss) h l = (refl, refl, body_fits 0 s (plan 1 ss) l.0 (plan_open 1 ss l.1) (plan_shut 1 ss l.1))

-- how long a plan is
spell_length : (n b : ℕ) (k : List Act) → length (spell n b k) ≡ n + length k
spell_length zero b k = omega arith
spell_length (suc n) b k = omega (arith, spell_length n b k)

hark_length : (n : ℕ) (k : List Act) → length (hark n k) ≡ n + length k
hark_length zero k = omega arith
hark_length (suc n) k = omega (arith, hark_length n k)

send_length : (i j : ℕ) (bs : List ℕ) (k : List Act) → length (send i j bs k) ≡ 9 * length bs + length k
send_length i j [] k = omega arith
send_length i j (b ∷ bs) k = omega (arith, spell_length 8 b (ask (NoByte i j) ∷ send i (suc j) bs k), send_length i (suc j) bs k)

receive_length : (n : ℕ) (k : List Act) → length (receive n k) ≡ 9 * n + length k
receive_length zero k = omega arith
receive_length (suc n) k = omega (arith, hark_length 8 (say (more n) ∷ receive n k), receive_length n k)

body_length : (i : ℕ) (s : Segment) (k : List Act) → length (body i s k) ≡ 9 + 9 * count s + length k
body_length i (writing a bs) k = omega (arith, spell_length 7 a (say Zero ∷ ask (NoAddress i) ∷ send i 0 bs k), send_length i 0 bs k)
body_length i (reading a n) k = omega (arith, spell_length 7 a (say One ∷ ask (NoAddress i) ∷ receive n k), receive_length n k)

pub plan_length : (i : ℕ) (ss : List Segment) → length (plan i ss) ≡ 10 * length ss + 9 * total ss + 1
plan_length i [] = refl
plan_length i (s ∷ ss) = omega (arith, body_length i s (plan (suc i) ss), plan_length (suc i) ss)

-- a contender that stays in goes on to fit
fits_acts : (k : List Act) (n : Notes) (t : Turn) (x : Symbol) → Fits t k → legal t x ≡ true → stays bus t x (offer k) ≡ true → Fits (next t x) (moved_on k n x).todo
fits_acts [] n t x f l st =
    let o : masters_slot t ≡ true = rw f refl in
    let e : One ≡ x = own t x One o st in
    rw (f, ← e) refl
fits_acts (say y ∷ k) n t x f l st = rw (own t x y f.0 st) at f.2
fits_acts (ask g ∷ k) n t x f l st = go x (slaves_legal t x f.0 l)
  where
    go : (x : Symbol) → is_bit x ≡ true → Fits (next t x) (answered_ninth g k n x).todo
    go Zero e = f.1
    go Stop e = absurd (clash e)
    go Start e = absurd (clash e)
    go One e = rw f.2 (refl, refl, refl)
fits_acts (listen z ∷ k) n t x f l st = f.1 x (slaves_legal t x f.0 l)

pub fits_on : (p : Progress) (t : Turn) (x : Symbol) → Fits t p.todo → legal t x ≡ true → stays bus t x (offer p.todo) ≡ true → Fits (next t x) (hear p x).todo
fits_on p t x f l st = fits_acts p.todo p.notes t x f l st

fits_quiet : (k : List Act) (t : Turn) → Fits t k → masters_slot t ≡ false → offer k ≡ One
fits_quiet [] t f o = refl
fits_quiet (say y ∷ k) t f o = absurd (clash (sym o ∙ f.0))
fits_quiet (ask g ∷ k) t f o = refl
fits_quiet (listen z ∷ k) t f o = refl

fits_sound : (k : List Act) (t : Turn) → Fits t k → masters_slot t ≡ true → legal t (offer k) ≡ true
fits_sound [] t f o = rw f refl
fits_sound (say y ∷ k) t f o = f.1
fits_sound (ask g ∷ k) t f o = absurd (clash (sym f.0 ∙ o))
fits_sound (listen z ∷ k) t f o = absurd (clash (sym f.0 ∙ o))

fits_after : (l : List Symbol) (p : Progress) (t : Turn) → Fits t p.todo → Follows bus t l → Survives bus t (script p) l → Fits (turn_after bus t l) (after p l).todo
fits_after [] p t f fl sv = f
fits_after (x ∷ l) p t f fl sv = fits_after l (hear p x) (next t x) (fits_on p t x f fl.0 sv.0) fl.1 sv.1

-- a progress that fits the turn makes a script that keeps to the turns
pub fits_keeps : (p : Progress) (t : Turn) → Fits t p.todo → Keeps bus t (script p)
fits_keeps p t f = record {
  quiet = λ l fl sv o. fits_quiet (after p l).todo (turn_after bus t l) (fits_after l p t f fl sv) o;
  sound = λ l fl sv o. fits_sound (after p l).todo (turn_after bus t l) (fits_after l p t f fl sv) o;
}

-- a history alone, and its length
AtMost : Progress → Rule Symbol → ℕ → Type 0
AtMost p r n = (h : List Symbol) × Alone bus (script p) r h × (length h ≤ n)

abbrev pub with_todo : List Act → Notes → Progress
with_todo k n = record { todo = k; notes = n }

-- one slot, and then what follows unless it was P
slot_then : (p : Progress) (r : Rule Symbol) (x : Symbol) (n : ℕ) → x ≡ least symbols (offer p.todo) (r []) → (is_stop x ≡ false → AtMost (hear p x) (on x r) n) → AtMost p r (suc n)
unfolding AtMost
slot_then p r x n e more = go (is_stop x) refl
  where
    go : (b : Bool) → is_stop x ≡ b → (h : List Symbol) × Alone bus (script p) r h × (length h ≤ suc n)
    go true s = (x ∷ [], (e, rw s refl), omega arith)
    go false s = let w = more s in (x ∷ w.0, (e, rw s w.1), suc-le-suc w.2)

pub nonempty : (k : List Act) (t : Turn) → Fits t k → busy t ≡ true → 1 ≤ length k
nonempty [] t f b = absurd (clash (sym (ap busy f) ∙ b))
nonempty (a ∷ k) t f b = suc-le-suc zero-le

weaken : (p : Progress) (r : Rule Symbol) (m n : ℕ) → m ≤ n → AtMost p r m → AtMost p r n
unfolding AtMost
weaken p r m n le w = (w.0, w.1, omega (arith, w.2))

-- a lone P
last : (n : Notes) (r : Rule Symbol) → Polite bus ClosingBorder r → AtMost (with_todo (say Stop ∷ []) n) r 1
last n r p = slot_then (with_todo (say Stop ∷ []) n) r Stop 0 (sym (least_left symbols Stop (r []) (rw (p.quiet [] tt refl) (omega arith)))) (λ e. absurd (clash (sym e)))

-- a slaves' ninth
ask_then : (q : Outcome) (k : List Act) (n : Notes) (t : Turn) (r : Rule Symbol) → Fits t (ask q ∷ k) → busy t ≡ true → Polite bus t r
    → (x : Symbol) → r [] ≡ x → is_bit x ≡ true → (legal t Zero ≡ true → AtMost (with_todo k n) (on Zero r) (length k))
    → AtMost (with_todo (ask q ∷ k) n) r (suc (length k))
ask_then q k n t r f b p Zero e i ih =
    slot_then (with_todo (ask q ∷ k) n) r Zero (length k) (sym e ∙ sym (least_right symbols One (r []) (symbols.greatest (r []))))
    (λ s. ih (rw e at (p.sound [] tt f.0)))
ask_then q k n t r f b p Stop e i ih = absurd (clash i)
ask_then q k n t r f b p Start e i ih = absurd (clash i)
ask_then q k n t r f b p One e i ih =
    let ok : legal t One ≡ true = rw e at (p.sound [] tt f.0) in
    let more : 1 ≤ length k = nonempty k (next t Zero) f.1 (busy_next t Zero b refl) in
    slot_then (with_todo (ask q ∷ k) n) r One (length k) (sym e ∙ sym (least_right symbols One (r []) (symbols.greatest (r []))))
    (λ s. weaken (with_todo (say Stop ∷ []) (blamed q n)) (on One r) 1 (length k) more (last (blamed q n) (on One r) (rw f.2 at (polite_on bus t r One ok p))))

exists : (k : List Act) (n : Notes) (t : Turn) (r : Rule Symbol) → Fits t k → busy t ≡ true → Polite bus t r → AtMost (with_todo k n) r (length k)
exists [] n t r f b p = absurd (clash (sym (ap busy f) ∙ b))
exists (say y ∷ k) n t r f b p =
    slot_then (with_todo (say y ∷ k) n) r y (length k) (sym (least_left symbols y (r []) (rw (p.quiet [] tt f.0) (symbols.greatest y))))
    (λ e. exists k n (next t y) (on y r) f.2 (busy_next t y b e) (polite_on bus t r y f.1 p))
exists (ask q ∷ k) n t r f b p =
    let ok = p.sound [] tt f.0 in
    ask_then q k n t r f b p (r []) refl (slaves_legal t (r []) f.0 ok)
    (λ l. exists k n (next t Zero) (on Zero r) f.1 (busy_next t Zero b refl) (polite_on bus t r Zero l p))
exists (listen z ∷ k) n t r f b p =
    let ok = p.sound [] tt f.0 in
    slot_then (with_todo (listen z ∷ k) n) r (r []) (length k) (sym (least_right symbols One (r []) (symbols.greatest (r []))))
    (λ e. exists k (noted z n (r [])) (next t (r [])) (on (r []) r) (f.1 (r []) (slaves_legal t (r []) f.0 ok)) (busy_next t (r []) b e) (polite_on bus t r (r []) ok p))

-- an order on a free bus
order_alone : (o : Order) (r : Rule Symbol) → Lawful o → Polite bus Free r → AtMost (begin o) r (length (plan 0 o))
order_alone o r w p = go o w.some_segment (plan_fits o w)
  where
    go : (ss : List Segment) → 1 ≤ length ss → Fits Free (plan 0 ss) → AtMost (with_todo (plan 0 ss) no_notes) r (length (plan 0 ss))
    go [] h f = absurd (omega arith)
    go (s ∷ ss) h f =
        slot_then (with_todo (plan 0 (s ∷ ss)) no_notes) r Start (length (body 0 s (plan 1 ss))) (sym (least_left symbols Start (r []) (rw (p.quiet [] tt refl) (omega arith))))
        (λ e. exists (body 0 s (plan 1 ss)) no_notes (Address 7) (on Start r) f.2 refl (polite_on bus Free r Start refl p))

pub alone_some : (o : Order) (r : Rule Symbol) → Lawful o → Polite bus Free r → (h : List Symbol) × Alone bus (script (begin o)) r h × (length h ≤ 10 * length o + 9 * total o + 1)
unfolding AtMost
alone_some o r l p = let w = order_alone o r l p in (w.0, w.1, omega (arith, plan_length 0 o, w.2))

pub plan_short : (o : Order) → Lawful o → length (begin o).todo ≤ longest
plan_short o l = omega (arith, plan_length 0 o, l.few_segments, l.few_bytes)

-- with each slot there is less to do
no_longer_acts : (k : List Act) (p : Notes) (x : Symbol) → length (moved_on k p x).todo ≤ length k
no_longer_acts [] p x = zero-le
no_longer_acts (say y ∷ k) p x = omega arith
no_longer_acts (ask g ∷ k) p Zero = omega arith
no_longer_acts (ask g ∷ k) p Stop = omega arith
no_longer_acts (ask g ∷ k) p Start = omega arith
no_longer_acts (ask g ∷ k) p One = suc-le-suc zero-le
no_longer_acts (listen z ∷ k) p x = omega arith

pub no_longer : (p : Progress) (x : Symbol) → length (hear p x).todo ≤ length p.todo
no_longer p x = no_longer_acts p.todo p.notes x

slaves_busy : (t : Turn) → masters_slot t ≡ false → busy t ≡ true
slaves_busy Free o = absurd (clash (sym o))
slaves_busy (Address n) o = refl
slaves_busy (AddressNinth d) o = refl
slaves_busy Border o = refl
slaves_busy ClosingBorder o = refl
slaves_busy (Write n) o = refl
slaves_busy WriteNinth o = refl
slaves_busy (Read n) o = refl
slaves_busy ReadNinth o = refl

shorter_acts : (k : List Act) (p : Notes) (t : Turn) (x : Symbol) → Fits t k → 1 ≤ length k → length (moved_on k p x).todo + 1 ≤ length k
shorter_acts [] p t x f h = absurd (omega arith)
shorter_acts (say y ∷ k) p t x f h = omega arith
shorter_acts (ask g ∷ k) p t Zero f h = omega arith
shorter_acts (ask g ∷ k) p t Stop f h = omega arith
shorter_acts (ask g ∷ k) p t Start f h = omega arith
shorter_acts (ask g ∷ k) p t One f h =
    omega (arith, nonempty k (next t Zero) f.1 (busy_next t Zero (slaves_busy t f.0) refl))
shorter_acts (listen z ∷ k) p t x f h = omega arith

pub shorter : (p : Progress) (t : Turn) (x : Symbol) → Fits t p.todo → 1 ≤ length p.todo → length (hear p x).todo + 1 ≤ length p.todo
shorter p t x f h = shorter_acts p.todo p.notes t x f h

pub plan_some : (o : Order) → 1 ≤ length (begin o).todo
plan_some o = omega (arith, plan_length 0 o)

begins : (o : Order) (r : Rule Symbol) → Lawful o → Polite bus Free r → (h : List Symbol) → Alone bus (script (begin o)) r h → (later : List Symbol) × (h ≡ Start ∷ later)
begins o r w p h a = go o w.some_segment h a
  where
    go : (ss : List Segment) → 1 ≤ length ss → (h : List Symbol) → Alone bus (script (with_todo (plan 0 ss) no_notes)) r h → (later : List Symbol) × (h ≡ Start ∷ later)
    go [] n h a = absurd (omega arith)
    go (s ∷ ss) n [] a = absurd a
    go (s ∷ ss) n (x ∷ h) a =
        let e : x ≡ Start = a.0 ∙ least_left symbols Start (r []) (rw (p.quiet [] tt refl) (omega arith)) in
        (h, ap {B = List Symbol} (λ y. y ∷ h) e)

pub one_history : (o : Order) (r : Rule Symbol) → Lawful o → Polite bus Free r → OneHistory o r
one_history o r l p =
    let w = alone_some o r l p in
    let n = w.2 in
    let f = l.few_segments in
    let b = l.few_bytes in
    record {
      history = w.0;
      alone = w.1;
      short = w.2;
      bounded = omega arith;
      only = λ g a. alone_one bus (script (begin o)) r g w.0 a w.1;
      starts_with = begins o r l p w.0 w.1;
      grows = to_words bus w.0 (script (begin o)) r w.1;
    }
