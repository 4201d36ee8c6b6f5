-- Histories tell answers. Assumes nothing.
use Rattle.std.proofs.Common.{◌≡◌, ℕ, zero, suc, pred, ◌+◌, ◌*◌, ◌/◌, ◌^◌, ◌≤◌, Bool, true, false, List, [], ◌∷◌, ◌++◌, length, sym, refl, ap, ◌∙◌, subst, append_assoc, arith}
use mathlib.Core.Option.{none, some}
use borrow.Author.Tests.{clash}
use Rattle.std.proofs.lemmas.List.{append-nil}
use Rattle.history.specs.Contest.{Rule, on, Polite, Then, Alone}
use Rattle.bus.specs.declared.Symbol.{Symbol}
use Rattle.bus.specs.declared.Symbol.TheVariants.{Zero, Stop, Start, One}
use Rattle.bus.specs.Symbols.{symbols, is_bit, is_stop, bit, value}
use Rattle.bus.specs.declared.Turn.{Turn}
use Rattle.bus.specs.declared.Turn.TheVariants.{Free, Address, AddressNinth, Border, ClosingBorder, Write, WriteNinth, Read, ReadNinth}
use Rattle.bus.specs.Turns.{next, legal, busy, bus}
use Rattle.orders.specs.Orders.{Segment, writing, reading, LawfulSegment, Each, Order, Lawful}
use Rattle.orders.specs.declared.Outcome.{Outcome}
use Rattle.orders.specs.declared.Outcome.TheVariants.{Done, NoAddress, NoByte}
use Rattle.scripts.specs.Scripts.{Act, say, ask, listen, spell, send, more, hark, receive, body, plan, Notes, Progress, no_notes, noted, blamed, begin, after, script}
use Rattle.scripts.specs.Alone.{is_read, is_eighth, read_bytes, missed, starts, written, outcome_in}
use Rattle.history.proofs.General.{least_left, least_right, polite_on}
use Rattle.bus.proofs.Slots.{busy_next, slaves_legal, bit_next, bit_legal, bit_no_stop}
use Rattle.scripts.proofs.Plans.{Fits, plan_fits, with_todo}

-- the acts ask and listen where the turns have it so, and blame what the turns blame
abbrev pub Tagged : ℕ → ℕ → Turn → List Act → Type 0
Tagged i j t [] = Unit {0}
Tagged i j t (say x ∷ k) = (is_read t ≡ false) × (missed t x (pred i) j ≡ none) × Tagged (starts x i) (written t j) (next t x) k
Tagged i j t (ask f ∷ k) = (is_read t ≡ false) × (missed t One (pred i) j ≡ some f) × (missed t Zero (pred i) j ≡ none) × Tagged i (written t j) (next t Zero) k
Tagged i j t (listen z ∷ k) = (is_read t ≡ true) × (is_eighth t ≡ z) × ((x : Symbol) → is_bit x ≡ true → (missed t x (pred i) j ≡ none) × Tagged i (written t j) (next t x) k)

bit_starts : (x : Symbol) (i : ℕ) → is_bit x ≡ true → starts x i ≡ i
bit_starts Zero i e = refl
bit_starts Stop i e = absurd (clash e)
bit_starts Start i e = absurd (clash e)
bit_starts One i e = refl

tag_write : (n b i j : ℕ) (k : List Act) → Tagged i j WriteNinth k → Tagged i j (Write n) (spell (suc n) b k)
tag_write zero b i j k f = (refl, refl, rw (bit_starts (bit (b / 2 ^ 0)) i (bit_legal (b / 2 ^ 0)), bit_next (Write 0) (bit (b / 2 ^ 0)) (bit_legal (b / 2 ^ 0))) f)
tag_write (suc n) b i j k f = (refl, refl, rw (bit_starts (bit (b / 2 ^ suc n)) i (bit_legal (b / 2 ^ suc n)), bit_next (Write (suc n)) (bit (b / 2 ^ suc n)) (bit_legal (b / 2 ^ suc n))) (tag_write n b i j k f))

tag_byte : (b i j : ℕ) (k : List Act) → Tagged i j WriteNinth k → Tagged i j Border (spell 8 b k)
tag_byte b i j k f =
    (refl, refl, rw (bit_starts (bit (b / 2 ^ 7)) i (bit_legal (b / 2 ^ 7)), bit_next Border (bit (b / 2 ^ 7)) (bit_legal (b / 2 ^ 7))) (tag_write 6 b i j k f))

tag_address : (n a i j : ℕ) (k : List Act) → Tagged i j (Address 0) k → Tagged i j (Address n) (spell n a k)
tag_address zero a i j k f = f
tag_address (suc n) a i j k f = (refl, refl, rw (bit_starts (bit (a / 2 ^ n)) i (bit_legal (a / 2 ^ n)), bit_next (Address (suc n)) (bit (a / 2 ^ n)) (bit_legal (a / 2 ^ n))) (tag_address n a i j k f))

tag_hark : (n i j : ℕ) (k : List Act) → Tagged i j ReadNinth k → Tagged i j (Read n) (hark (suc n) k)
tag_hark zero i j k f = (refl, refl, λ x e. (refl, rw (bit_next (Read 0) x e) f))
tag_hark (suc n) i j k f = (refl, refl, λ x e. (refl, rw (bit_next (Read (suc n)) x e) (tag_hark n i j k f)))

-- segment m, so m + 1 symbols S
tag_send : (m j : ℕ) (bs : List ℕ) (k : List Act) → ((j : ℕ) → Tagged (suc m) j Border k) → Tagged (suc m) j Border (send m j bs k)
tag_send m j [] k f = f j
tag_send m j (b ∷ bs) k f = tag_byte b (suc m) j (ask (NoByte m j) ∷ send m (suc j) bs k) (refl, refl, refl, tag_send m (suc j) bs k f)

tag_receive : (m j n : ℕ) (k : List Act) → Tagged (suc m) j ClosingBorder k → Tagged (suc m) j (Read 7) (receive (suc n) k)
tag_receive m j zero k f = tag_hark 7 (suc m) j (say One ∷ k) (refl, refl, f)
tag_receive m j (suc n) k f = tag_hark 7 (suc m) j (say Zero ∷ receive (suc n) k) (refl, refl, tag_receive m j n k f)

tag_body : (m j : ℕ) (s : Segment) (k : List Act) → LawfulSegment s → ((j : ℕ) → Tagged (suc m) j Border k) → ((j : ℕ) → Tagged (suc m) j ClosingBorder k) → Tagged (suc m) j (Address 7) (body m s k)
tag_body m j (writing a bs) k l f g = tag_address 7 a (suc m) j (say Zero ∷ ask (NoAddress m) ∷ send m 0 bs k) (refl, refl, (refl, refl, refl, tag_send m 0 bs k f))
tag_body m j (reading a zero) k l f g = absurd (omega arith)
tag_body m j (reading a (suc n)) k l f g = tag_address 7 a (suc m) j (say One ∷ ask (NoAddress m) ∷ receive (suc n) k) (refl, refl, (refl, refl, refl, tag_receive m 0 n k (g 0)))

mutual
  tag_open : (m : ℕ) (ss : List Segment) → Each LawfulSegment ss → (j : ℕ) → Tagged m j Border (plan m ss)
  tag_open m [] l j = (refl, refl, tt)
  tag_open m (s ∷ ss) l j = (refl, refl, tag_body m j s (plan (suc m) ss) l.0 (tag_open (suc m) ss l.1) (tag_shut (suc m) ss l.1))

  tag_shut : (m : ℕ) (ss : List Segment) → Each LawfulSegment ss → (j : ℕ) → Tagged m j ClosingBorder (plan m ss)
  tag_shut m [] l j = (refl, refl, tt)
  tag_shut m (s ∷ ss) l j = (refl, refl, tag_body m j s (plan (suc m) ss) l.0 (tag_open (suc m) ss l.1) (tag_shut (suc m) ss l.1))

pub plan_tagged : (o : Order) → Lawful o → Tagged 0 0 Free (plan 0 o)
plan_tagged o w = go o w.each
  where
    go : (ss : List Segment) → Each LawfulSegment ss → Tagged 0 0 Free (plan 0 ss)
    go [] l = (refl, refl, tt)
    go (s ∷ ss) l = (refl, refl, tag_body 0 0 s (plan 1 ss) l.0 (tag_open 1 ss l.1) (tag_shut 1 ss l.1))

-- what a contender has noted by the end is what the rest of the history tells
abbrev Tells : Progress → ℕ → ℕ → Turn → List Symbol → Notes → Type 0
Tells p i j t h n = ((after p h).notes.bytes ≡ n.bytes ++ read_bytes n.part t h) × ((after p h).notes.outcome ≡ outcome_in i j t h)

not_eighth : (t : Turn) → is_read t ≡ false → is_eighth t ≡ false
not_eighth Free e = refl
not_eighth (Address n) e = refl
not_eighth (AddressNinth d) e = refl
not_eighth Border e = refl
not_eighth ClosingBorder e = refl
not_eighth (Write n) e = refl
not_eighth WriteNinth e = refl
not_eighth (Read n) e = absurd (clash (sym e))
not_eighth ReadNinth e = refl

-- a slot of no read byte that blames nothing
quiet_slot : (p : Progress) (n : Notes) (i j : ℕ) (t : Turn) (x : Symbol) (h : List Symbol) → is_read t ≡ false → missed t x (pred i) j ≡ none
    → Tells p (starts x i) (written t j) (next t x) h n
    → ((after p h).notes.bytes ≡ n.bytes ++ read_bytes n.part t (x ∷ h)) × ((after p h).notes.outcome ≡ outcome_in i j t (x ∷ h))
quiet_slot p n i j t x h e m w = (rw (not_eighth t e, e) w.0, rw m w.1)

lone_stop : (n : Notes) (r : Rule Symbol) (h : List Symbol) → Polite bus ClosingBorder r → Alone bus (script (with_todo (say Stop ∷ []) n)) r h → h ≡ Stop ∷ []
lone_stop n r [] p a = absurd a
lone_stop n r (x ∷ h) p a =
    let e : x ≡ Stop = a.0 ∙ least_left symbols Stop (r []) (rw (p.quiet [] tt refl) (omega arith)) in
    let b : Alone bus (script (with_todo (say Stop ∷ []) n)) r (Stop ∷ h) = rw e at a in
    let q : h ≡ [] = b.1 in
    cc

-- after a said symbol: the end, or what follows
said : (k : List Act) (n : Notes) (i j : ℕ) (t : Turn) (x : Symbol) (h : List Symbol) (D : Type 0) → n.outcome ≡ Done → is_read t ≡ false → missed t x (pred i) j ≡ none
    → (v : Bool) → is_stop x ≡ v → Then bus v (h ≡ []) D → (is_stop x ≡ false → D → Tells (with_todo k n) (starts x i) (written t j) (next t x) h n)
    → ((after (with_todo k n) h).notes.bytes ≡ n.bytes ++ read_bytes n.part t (x ∷ h)) × ((after (with_todo k n) h).notes.outcome ≡ outcome_in i j t (x ∷ h))
said k n i j t x h D o e m true s q more = quiet_slot (with_todo k n) n i j t x h e m (rw q (sym (append-nil n.bytes), o))
said k n i j t x h D o e m false s d more = quiet_slot (with_todo k n) n i j t x h e m (more s d)

-- after a slaves' ninth
asked : (q : Outcome) (k : List Act) (n : Notes) (t : Turn) (r : Rule Symbol) (i j : ℕ) (x : Symbol) (h : List Symbol) → Fits t (ask q ∷ k) → Tagged i j t (ask q ∷ k) → Polite bus t r
    → is_bit x ≡ true → legal t x ≡ true → Alone bus (script (with_todo (ask q ∷ k) n)) r (x ∷ h)
    → (x ≡ Zero → Alone bus (script (with_todo k n)) (on Zero r) h → Tells (with_todo k n) i (written t j) (next t Zero) h n)
    → Tells (with_todo (ask q ∷ k) n) i j t (x ∷ h) n
asked q k n t r i j Zero h f g p e ok a more = quiet_slot (with_todo k n) n i j t Zero h g.0 g.2 (more refl a.1)
asked q k n t r i j Stop h f g p e ok a more = absurd (clash e)
asked q k n t r i j Start h f g p e ok a more = absurd (clash e)
asked q k n t r i j One h f g p e ok a more =
    let only : h ≡ Stop ∷ [] = lone_stop (blamed q n) (on One r) h (rw f.2 at (polite_on bus t r One ok p)) a.1 in
    rw only (rw (not_eighth t g.0, g.0, f.2) (sym (append-nil n.bytes)), rw g.1 refl)

-- after a slaves' bit
listened : (z : Bool) (k : List Act) (n : Notes) (i j : ℕ) (t : Turn) (x : Symbol) (h : List Symbol) → is_read t ≡ true → is_eighth t ≡ z → missed t x (pred i) j ≡ none → starts x i ≡ i
    → Tells (with_todo k (noted z n x)) i (written t j) (next t x) h (noted z n x) → Tells (with_todo (listen z ∷ k) n) i j t (x ∷ h) n
listened true k n i j t x h e l m s w =
    (rw l (w.0 ∙ append_assoc n.bytes ((2 * n.part + value x) ∷ []) (read_bytes 0 (next t x) h)), rw (m, s) w.1)
listened false k n i j t x h e l m s w = (rw (l, e) w.0, rw (m, s) w.1)

noted_outcome : (z : Bool) (n : Notes) (x : Symbol) → (noted z n x).outcome ≡ n.outcome
noted_outcome true n x = refl
noted_outcome false n x = refl

walk : (h : List Symbol) (k : List Act) (n : Notes) (t : Turn) (r : Rule Symbol) (i j : ℕ) → n.outcome ≡ Done → Fits t k → Tagged i j t k → busy t ≡ true → Polite bus t r
    → Alone bus (script (with_todo k n)) r h → Tells (with_todo k n) i j t h n
walk [] k n t r i j o f g b p a = absurd a
walk (x ∷ h) [] n t r i j o f g b p a = absurd (clash (sym (ap busy f) ∙ b))
walk (x ∷ h) (say y ∷ k) n t r i j o f g b p a =
    let e : y ≡ x = sym (a.0 ∙ least_left symbols y (r []) (rw (p.quiet [] tt f.0) (symbols.greatest y))) in
    let f' : Fits t (say x ∷ k) = subst (λ (z : Symbol). Fits t (say z ∷ k)) e f in
    let g' : Tagged i j t (say x ∷ k) = subst (λ (z : Symbol). Tagged i j t (say z ∷ k)) e g in
    said k n i j t x h (Alone bus (script (with_todo k n)) (on x r) h) o g'.0 g'.1 (is_stop x) refl a.1
    (λ s d. walk h k n (next t x) (on x r) (starts x i) (written t j) o f'.2 g'.2 (busy_next t x b s) (polite_on bus t r x f'.1 p) d)
walk (x ∷ h) (ask q ∷ k) n t r i j o f g b p a =
    let e : r [] ≡ x = sym (a.0 ∙ least_right symbols One (r []) (symbols.greatest (r []))) in
    let ok : legal t x ≡ true = rw e at (p.sound [] tt f.0) in
    asked q k n t r i j x h f g p (slaves_legal t x f.0 ok) ok a
    (λ z d.
    let ok' : legal t Zero ≡ true = rw z at ok in
    walk h k n (next t Zero) (on Zero r) i (written t j) o f.1 g.3 (busy_next t Zero b refl) (polite_on bus t r Zero ok' p) d)
walk (x ∷ h) (listen z ∷ k) n t r i j o f g b p a =
    let e : r [] ≡ x = sym (a.0 ∙ least_right symbols One (r []) (symbols.greatest (r []))) in
    let ok : legal t x ≡ true = rw e at (p.sound [] tt f.0) in
    let bit-x = slaves_legal t x f.0 ok in
    listened z k n i j t x h g.0 g.1 (g.2 x bit-x).0 (bit_starts x i bit-x)
    (walk h k (noted z n x) (next t x) (on x r) i (written t j) (noted_outcome z n x ∙ o) (f.1 x bit-x) (g.2 x bit-x).1 (busy_next t x b (bit_no_stop x bit-x)) (polite_on bus t r x ok p) (rw (bit_no_stop x bit-x) at a.1))

pub tells : (o : Order) (r : Rule Symbol) → Lawful o → Polite bus Free r → (h : List Symbol) → Alone bus (script (begin o)) r h
    → ((after (begin o) h).notes.bytes ≡ read_bytes 0 Free h) × ((after (begin o) h).notes.outcome ≡ outcome_in 0 0 Free h)
tells o r w p h a = go o w.some_segment (plan_fits o w) (plan_tagged o w) h a
  where
    go : (ss : List Segment) → 1 ≤ length ss → Fits Free (plan 0 ss) → Tagged 0 0 Free (plan 0 ss) → (h : List Symbol) → Alone bus (script (with_todo (plan 0 ss) no_notes)) r h
        → ((after (with_todo (plan 0 ss) no_notes) h).notes.bytes ≡ read_bytes 0 Free h) × ((after (with_todo (plan 0 ss) no_notes) h).notes.outcome ≡ outcome_in 0 0 Free h)
    go [] n f g h a = absurd (omega arith)
    go (s ∷ ss) n f g [] a = absurd a
    go (s ∷ ss) n f g (x ∷ h) a =
        let e : x ≡ Start = a.0 ∙ least_left symbols Start (r []) (rw (p.quiet [] tt refl) (omega arith)) in
        let a' : Alone bus (script (with_todo (plan 0 (s ∷ ss)) no_notes)) r (Start ∷ h) = subst (λ (z : Symbol). Alone bus (script (with_todo (plan 0 (s ∷ ss)) no_notes)) r (z ∷ h)) e a in
        let w = walk h (body 0 s (plan 1 ss)) no_notes (Address 7) (on Start r) 1 0 refl f.2 g.2 refl (polite_on bus Free r Start refl p) a'.1 in
        rw e w
