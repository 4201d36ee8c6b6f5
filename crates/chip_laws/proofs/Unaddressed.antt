-- A chip that an order does not address offers 1 along it, and is not altered. Assumes nothing.
use Rattle.std.proofs.Common.{◌≡◌, ℕ, zero, suc, ◌/◌, ◌^◌, ◌<◌, ◌≤◌, Bool, true, false, eqb, ◌⊎◌, List, [], ◌∷◌, length, sym, refl, ap, ◌∙◌, subst, inl, inr, arith, ne_eqb}
use borrow.Author.Tests.{clash}
use Rattle.history.specs.Marks.{least}
use Rattle.history.specs.Contest as contest
use Rattle.history.specs.Contest.{on, Polite, Then, Alone}
use Rattle.history.proofs.General.{least_left, least_right, least_either, polite_on, alone_one}
use Rattle.bus.specs.declared.Symbol.{Symbol}
use Rattle.bus.specs.declared.Symbol.TheVariants.{Zero, Stop, Start, One}
use Rattle.bus.specs.Symbols.{symbols, is_bit, is_stop, bit, value, shifted, heading_bit}
use Rattle.bus.specs.declared.Direction.{Direction}
use Rattle.bus.specs.declared.Direction.TheVariants as direction
use Rattle.bus.specs.declared.Turn.{Turn}
use Rattle.bus.specs.declared.Turn.TheVariants.{Free, Address, AddressNinth, Border, Write, WriteNinth, Read, ReadNinth, ClosingBorder}
use Rattle.bus.specs.Turns.{next, masters_slot, legal, busy, opened, bus}
use Rattle.bus.specs.Banks.{Bank, Single, Both, All}
use Rattle.orders.specs.declared.Outcome.TheVariants.{NoAddress, NoByte}
use Rattle.orders.specs.Orders.{Segment, writing, reading, Order, LawfulSegment, Each, Lawful, address_of}
use Rattle.scripts.specs.Scripts.{Act, say, ask, listen, spell, send, hark, receive, body, plan, Notes, no_notes, noted, blamed, begin, script}
use Rattle.scripts.specs.Alone.{AloneHistory}
use Rattle.bus.proofs.Slots.{busy_next, slaves_legal, bit_legal, bit_no_stop}
use Rattle.scripts.proofs.Plans.{Fits, plan_fits, with_todo, one_history}
use Rattle.slaves.specs.Slave.{Slave, Well, replies}
use Rattle.slaves.specs.Machine.{slave_of}
use Rattle.slaves.proofs.Machines.{well}
use Rattle.chips.specs.Store.{Store, Rule}
use Rattle.chips.specs.Chips.{Chip, chip}
use Rattle.chips.specs.States.{made}
use Rattle.chip_laws.specs.Laws.{only, after}
use Rattle.chip_laws.specs.Unaddressed.{Elsewhere, Unaddressed, Among, AsIfAlone}
use Rattle.chip_laws.proofs.Bits.{gathered, gathered_address}
use Rattle.chip_laws.proofs.Serving.{at, offers, hears, in_address, in_border, in_write, in_read, in_direction, bit_goes, direction_goes, quiet, well_polite}

-- what acts may carry where every slave keeps to the turns
abbrev Runs : List Act → List Symbol → Type 0
Runs k [] = ⊥
Runs [] (x ∷ h) = ⊥
Runs (say y ∷ k) (x ∷ h) = (x ≡ y) × Then bus (is_stop y) (h ≡ []) (Runs k h)
Runs (ask f ∷ k) (x ∷ h) = ((x ≡ Zero) × Runs k h) ⊎ ((x ≡ One) × Runs (say Stop ∷ []) h)
Runs (listen z ∷ k) (x ∷ h) = (is_bit x ≡ true) × Runs k h

-- what holds where the history goes on
then_on : (A B C : Type 0) (v : Bool) → Then bus v A B → (v ≡ false → B → C) → Then bus v A C
then_on A B C true a f = a
then_on A B C false b f = f refl b

then_both : (A B C D : Type 0) (v : Bool) → Then bus v (Unit {0}) B → Then bus v A C → (B → C → D) → Then bus v A D
then_both A B C D true b c f = c
then_both A B C D false b c f = f b c

then_quiet : (A B C : Type 0) (v : Bool) → Then bus v A B → (B → C) → Then bus v (Unit {0}) C
then_quiet A B C true a f = tt
then_quiet A B C false b f = f b

runs : (h : List Symbol) (k : List Act) (n : Notes) (t : Turn) (r : contest.Rule Symbol) → Fits t k → busy t ≡ true → Polite bus t r
    → Alone bus (script (with_todo k n)) r h → Runs k h
runs [] k n t r f b p a = absurd a
runs (x ∷ h) [] n t r f b p a = absurd (clash (sym (ap busy f) ∙ b))
runs (x ∷ h) (say y ∷ k) n t r f b p a =
    let e : x ≡ y = a.0 ∙ least_left symbols y (r []) (rw (p.quiet [] tt f.0) (symbols.greatest y)) in
    let a' : Alone bus (script (with_todo (say y ∷ k) n)) r (y ∷ h) = subst (λ (z : Symbol). Alone bus (script (with_todo (say y ∷ k) n)) r (z ∷ h)) e a in
    (e, then_on (h ≡ []) (Alone bus (script (with_todo k n)) (on y r) h) (Runs k h) (is_stop y) a'.1 (λ s d. runs h k n (next t y) (on y r) f.2 (busy_next t y b s) (polite_on bus t r y f.1 p) d))
runs (x ∷ h) (ask q ∷ k) n t r f b p a =
    let e : r [] ≡ x = sym (a.0 ∙ least_right symbols One (r []) (symbols.greatest (r []))) in
    let ok : legal t x ≡ true = rw e at (p.sound [] tt f.0) in
    go x (slaves_legal t x f.0 ok) ok a
    (λ l d. runs h k n (next t Zero) (on Zero r) f.1 (busy_next t Zero b refl) (polite_on bus t r Zero l p) d)
    (λ l d. runs h (say Stop ∷ []) (blamed q n) ClosingBorder (on One r) (refl, refl, refl) refl (rw f.2 at (polite_on bus t r One l p)) d)
  where
    go : (x : Symbol) → is_bit x ≡ true → legal t x ≡ true → Alone bus (script (with_todo (ask q ∷ k) n)) r (x ∷ h)
        → (legal t Zero ≡ true → Alone bus (script (with_todo k n)) (on Zero r) h → Runs k h)
        → (legal t One ≡ true → Alone bus (script (with_todo (say Stop ∷ []) (blamed q n))) (on One r) h → Runs (say Stop ∷ []) h)
        → Runs (ask q ∷ k) (x ∷ h)
    go Zero i l a y z = inl (refl, y l a.1)
    go Stop i l a y z = absurd (clash i)
    go Start i l a y z = absurd (clash i)
    go One i l a y z = inr (refl, z l a.1)
runs (x ∷ h) (listen z ∷ k) n t r f b p a =
    let e : r [] ≡ x = sym (a.0 ∙ least_right symbols One (r []) (symbols.greatest (r []))) in
    let ok : legal t x ≡ true = rw e at (p.sound [] tt f.0) in
    let i = slaves_legal t x f.0 ok in
    (i, runs h k (noted z n x) (next t x) (on x r) (f.1 x i) (busy_next t x b (bit_no_stop x i)) (polite_on bus t r x ok p) (rw (bit_no_stop x i) at a.1))

-- an order on a free bus
order_runs : (o : Order) (r : contest.Rule Symbol) → Lawful o → Polite bus Free r → (h : List Symbol) → AloneHistory o r h → Runs (plan 0 o) h
order_runs o r w p h a = go o w.some_segment (plan_fits o w) h a
  where
    go : (ss : List Segment) → 1 ≤ length ss → Fits Free (plan 0 ss) → (h : List Symbol) → Alone bus (script (with_todo (plan 0 ss) no_notes)) r h → Runs (plan 0 ss) h
    go [] n f h a = absurd (omega arith)
    go (s ∷ ss) n f [] a = absurd a
    go (s ∷ ss) n f (x ∷ h) a =
        let e : x ≡ Start = a.0 ∙ least_left symbols Start (r []) (rw (p.quiet [] tt refl) (omega arith)) in
        let a' : Alone bus (script (with_todo (plan 0 (s ∷ ss)) no_notes)) r (Start ∷ h) = subst (λ (z : Symbol). Alone bus (script (with_todo (plan 0 (s ∷ ss)) no_notes)) r (z ∷ h)) e a in
        (e, runs h (body 0 s (plan 1 ss)) no_notes (Address 7) (on Start r) f.2 refl (polite_on bus Free r Start refl p) a'.1)

-- a rule that offers 1 along these acts
abbrev Quiet : contest.Rule Symbol → List Act → Type 0
Quiet r [] = Unit {0}
Quiet r (say x ∷ k) = (r [] ≡ One) × Then bus (is_stop x) (Unit {0}) (Quiet (on x r) k)
Quiet r (ask f ∷ k) = (r [] ≡ One) × Quiet (on Zero r) k × (r (One ∷ []) ≡ One)
Quiet r (listen z ∷ k) = (r [] ≡ One) × ((x : Symbol) → is_bit x ≡ true → Quiet (on x r) k)

-- where q is r wherever u offers 1, and u does so along the acts, they have with r the history that they have with q
same_with : (h : List Symbol) (k : List Act) (n : Notes) (q r u : contest.Rule Symbol) → ((l : List Symbol) → u l ≡ One → q l ≡ r l) → Quiet u k → Runs k h
    → Alone bus (script (with_todo k n)) q h → Alone bus (script (with_todo k n)) r h
same_with [] k n q r u s m w a = absurd a
same_with (x ∷ h) [] n q r u s m w a = absurd w
same_with (x ∷ h) (say y ∷ k) n q r u s m w a =
    let e : x ≡ y = w.0 in
    let a' : Alone bus (script (with_todo (say y ∷ k) n)) q (y ∷ h) = subst (λ (z : Symbol). Alone bus (script (with_todo (say y ∷ k) n)) q (z ∷ h)) e a in
    subst (λ (z : Symbol). Alone bus (script (with_todo (say y ∷ k) n)) r (z ∷ h)) (sym e) (
      a'.0 ∙ ap (least symbols y) (s [] m.0),
      then_both (h ≡ []) (Quiet (on y u) k) (Runs k h × Alone bus (script (with_todo k n)) (on y q) h) (Alone bus (script (with_todo k n)) (on y r) h) (is_stop y) m.1
          (pair (is_stop y) w.1 a'.1)
          (λ i j. same_with h k n (on y q) (on y r) (on y u) (λ l. s (y ∷ l)) i j.0 j.1),
    )
  where
    pair : (v : Bool) → Then bus v (h ≡ []) (Runs k h) → Then bus v (h ≡ []) (Alone bus (script (with_todo k n)) (on y q) h)
        → Then bus v (h ≡ []) (Runs k h × Alone bus (script (with_todo k n)) (on y q) h)
    pair true e f = e
    pair false e f = (e, f)
same_with (x ∷ h) (ask f ∷ k) n q r u s m (inl w) a =
    let a' : Alone bus (script (with_todo (ask f ∷ k) n)) q (Zero ∷ h) = subst (λ (z : Symbol). Alone bus (script (with_todo (ask f ∷ k) n)) q (z ∷ h)) w.0 a in
    subst (λ (z : Symbol). Alone bus (script (with_todo (ask f ∷ k) n)) r (z ∷ h)) (sym w.0)
    (a'.0 ∙ ap (least symbols One) (s [] m.0), same_with h k n (on Zero q) (on Zero r) (on Zero u) (λ l. s (Zero ∷ l)) m.1 w.1 a'.1)
same_with (x ∷ h) (ask f ∷ k) n q r u s m (inr w) a =
    let a' : Alone bus (script (with_todo (ask f ∷ k) n)) q (One ∷ h) = subst (λ (z : Symbol). Alone bus (script (with_todo (ask f ∷ k) n)) q (z ∷ h)) w.0 a in
    subst (λ (z : Symbol). Alone bus (script (with_todo (ask f ∷ k) n)) r (z ∷ h)) (sym w.0) (
      a'.0 ∙ ap (least symbols One) (s [] m.0),
      same_with h (say Stop ∷ []) (blamed f n) (on One q) (on One r) (on One u) (λ l. s (One ∷ l)) (m.2, tt) w.1 a'.1,
    )
same_with (x ∷ h) (listen z ∷ k) n q r u s m w a = (
  a.0 ∙ ap (least symbols One) (s [] m.0),
  then_on (h ≡ []) (Alone bus (script (with_todo k (noted z n x))) (on x q) h) (Alone bus (script (with_todo k (noted z n x))) (on x r) h) (is_stop x) a.1
      (λ i d. same_with h k (noted z n x) (on x q) (on x r) (on x u) (λ l. s (x ∷ l)) (m.1 x w.0) w.1 d),
)

quiet_both : (k : List Act) (r u : contest.Rule Symbol) → Quiet r k → Quiet u k → Quiet (λ l. least symbols (r l) (u l)) k
quiet_both [] r u m w = tt
quiet_both (say x ∷ k) r u m w = (
  rw (m.0, w.0) refl,
  then_both (Unit {0}) (Quiet (on x r) k) (Quiet (on x u) k) (Quiet (λ l. least symbols (r (x ∷ l)) (u (x ∷ l))) k) (is_stop x) m.1 w.1
      (λ i j. quiet_both k (on x r) (on x u) i j),
)
quiet_both (ask f ∷ k) r u m w = (rw (m.0, w.0) refl, quiet_both k (on Zero r) (on Zero u) m.1 w.1, rw (m.2, w.2) refl)
quiet_both (listen z ∷ k) r u m w = (rw (m.0, w.0) refl, λ x i. quiet_both k (on x r) (on x u) (m.1 x i) (w.1 x i))

module _ (r : Rule) where
  -- along these acts the chip offers 1, and it ends as d
  abbrev Silent : Chip → List Act → Chip → Type 0
  Silent c [] d = Unit {0}
  Silent c (say x ∷ k) d = (offers r c ≡ One) × Then bus (is_stop x) (hears r c x ≡ d) (Silent (hears r c x) k d)
  Silent c (ask f ∷ k) d = (offers r c ≡ One) × Silent (hears r c Zero) k d × (offers r (hears r c One) ≡ One) × (hears r (hears r c One) Stop ≡ d)
  Silent c (listen z ∷ k) d = (offers r c ≡ One) × ((x : Symbol) → is_bit x ≡ true → Silent (hears r c x) k d)

  silent_quiet : (k : List Act) (c d : Chip) → Silent c k d → Quiet (replies (only r c)) k
  silent_quiet [] c d m = tt
  silent_quiet (say x ∷ k) c d m =
      (m.0, then_quiet (hears r c x ≡ d) (Silent (hears r c x) k d) (Quiet (replies (only r (hears r c x))) k) (is_stop x) m.1 (λ w. silent_quiet k (hears r c x) d w))
  silent_quiet (ask f ∷ k) c d m = (m.0, silent_quiet k (hears r c Zero) d m.1, m.2)
  silent_quiet (listen z ∷ k) c d m = (m.0, λ x i. silent_quiet k (hears r c x) d (m.1 x i))

  ends_so : (h : List Symbol) (k : List Act) (c d : Chip) → Silent c k d → Runs k h → after r c h ≡ d
  ends_so [] k c d m w = absurd w
  ends_so (x ∷ h) [] c d m w = absurd w
  ends_so (x ∷ h) (say y ∷ k) c d m w = subst (λ (z : Symbol). after r c (z ∷ h) ≡ d) (sym w.0) (one (is_stop y) m.1 w.1 (λ i j. ends_so h k (hears r c y) d i j))
    where
      one : (v : Bool) → Then bus v (hears r c y ≡ d) (Silent (hears r c y) k d) → Then bus v (h ≡ []) (Runs k h)
          → (Silent (hears r c y) k d → Runs k h → after r (hears r c y) h ≡ d) → after r (hears r c y) h ≡ d
      one true e over f = subst (λ (l : List Symbol). after r (hears r c y) l ≡ d) (sym over) e
      one false i j f = f i j
  ends_so (x ∷ h) (ask f ∷ k) c d m (inl w) = subst (λ (z : Symbol). after r c (z ∷ h) ≡ d) (sym w.0) (ends_so h k (hears r c Zero) d m.1 w.1)
  ends_so (x ∷ h) (ask f ∷ k) c d m (inr w) = subst (λ (z : Symbol). after r c (z ∷ h) ≡ d) (sym w.0) (ends_so h (say Stop ∷ []) (hears r c One) d (m.2, m.3) w.1)
  ends_so (x ∷ h) (listen z ∷ k) c d m w = ends_so h k (hears r c x) d (m.1 x w.0) w.1

  silent_say : (x : Symbol) (k : List Act) (c e d : Chip) → is_stop x ≡ false → offers r c ≡ One → hears r c x ≡ e → Silent e k d → Silent c (say x ∷ k) d
  silent_say x k c e d s q same m = (q, rw (s, same) m)

  module _ (a : ℕ) (s : Store) where
    -- as it is in the end
    abbrev d : Chip
    d = made a s

    silent_write : (m b v : ℕ) (f : Bool) (k : List Act) → ((v : ℕ) → Silent (at a WriteNinth false f v s) k d) → Silent (at a (Write m) false f v s) (spell (suc m) b k) d
    silent_write zero b v f k later =
        let q = b / 2 ^ 0 in
        silent_say (bit q) k (at a (Write 0) false f v s) (at a WriteNinth false f (shifted v (bit q)) s) d (bit_goes q) refl (in_write r false a 0 v f s (bit q) (bit_legal q)) (later (shifted v (bit q)))
    silent_write (suc m) b v f k later =
        let q = b / 2 ^ suc m in
        silent_say (bit q) (spell (suc m) b k) (at a (Write (suc m)) false f v s) (at a (Write m) false f (shifted v (bit q)) s) d (bit_goes q) refl (in_write r false a (suc m) v f s (bit q) (bit_legal q))
        (silent_write m b (shifted v (bit q)) f k later)

    silent_byte : (b v : ℕ) (f : Bool) (k : List Act) → ((v : ℕ) → Silent (at a WriteNinth false f v s) k d) → Silent (at a Border false f v s) (spell 8 b k) d
    silent_byte b v f k later =
        let q = b / 2 ^ 7 in
        silent_say (bit q) (spell 7 b k) (at a Border false f v s) (at a (Write 6) false f (value (bit q)) s) d (bit_goes q) refl (in_border r false a v f s (bit q) (bit_legal q))
        (silent_write 6 b (value (bit q)) f k later)

    silent_send : (i j : ℕ) (out : List ℕ) (k : List Act) → ((f : Bool) (v : ℕ) → Silent (at a Border false f v s) k d) → (f : Bool) (v : ℕ) → Silent (at a Border false f v s) (send i j out k) d
    silent_send i j [] k later f v = later f v
    silent_send i j (b ∷ out) k later f v =
        silent_byte b v f (ask (NoByte i j) ∷ send i (suc j) out k) (λ w. (refl, silent_send i (suc j) out k later false w, refl, refl))

    silent_hark : (m v : ℕ) (f : Bool) (k : List Act) → Silent (at a ReadNinth false f v s) k d → Silent (at a (Read m) false f v s) (hark (suc m) k) d
    silent_hark zero v f k later = (refl, λ x i. subst (λ (c : Chip). Silent c k d) (sym (in_read r false a 0 v f s x i)) later)
    silent_hark (suc m) v f k later = (refl, λ x i. subst (λ (c : Chip). Silent c (hark (suc m) k) d) (sym (in_read r false a (suc m) v f s x i)) (silent_hark m v f k later))

    silent_receive : (m v : ℕ) (f : Bool) (k : List Act) → Silent (at a ClosingBorder false f v s) k d → Silent (at a (Read 7) false f v s) (receive (suc m) k) d
    silent_receive zero v f k later = silent_hark 7 v f (say One ∷ k) (refl, later)
    silent_receive (suc m) v f k later = silent_hark 7 v f (say Zero ∷ receive (suc m) k) (refl, silent_receive m v f k later)

    silent_bits : (m b v : ℕ) (k : List Act) → Silent (at a (Address 0) false true (gathered m b v) s) k d → Silent (at a (Address m) false true v s) (spell m b k) d
    silent_bits zero b v k later = later
    silent_bits (suc m) b v k later =
        let q = b / 2 ^ m in
        silent_say (bit q) (spell m b k) (at a (Address (suc m)) false true v s) (at a (Address m) false true (shifted v (bit q)) s) d (bit_goes q) refl (in_address r a m v s (bit q) (bit_legal q))
        (silent_bits m b (shifted v (bit q)) k later)

    -- an address byte with another address
    silent_address : (g : Direction) (i b : ℕ) (k : List Act) → b < 128 → ¬ (b ≡ a) → ((v : ℕ) → Silent (at a (opened g) false true v s) k d)
        → Silent (at a (Address 7) false true 0 s) (spell 7 b (say (heading_bit g) ∷ ask (NoAddress i) ∷ k)) d
    silent_address g i b k small other later =
        let x = heading_bit g in
        let acts = say x ∷ ask (NoAddress i) ∷ k in
        let known : at a (AddressNinth g) (eqb b a) true (shifted b x) s ≡ at a (AddressNinth g) false true (shifted b x) s =
        ap (λ (u : Bool). at a (AddressNinth g) u true (shifted b x) s) (ne_eqb b a other) in
        silent_bits 7 b 0 acts
        (subst (λ (w : ℕ). Silent (at a (Address 0) false true w s) acts d) (sym (gathered_address b small))
        (silent_say x (ask (NoAddress i) ∷ k) (at a (Address 0) false true b s) (at a (AddressNinth g) false true (shifted b x) s) d (direction_goes g) refl
        (in_direction r g a b s ∙ known) (refl, later (shifted b x), refl, refl)))

    silent_body : (i : ℕ) (g : Segment) (k : List Act) → LawfulSegment g → ¬ (address_of g ≡ a)
        → ((f : Bool) (v : ℕ) → Silent (at a Border false f v s) k d) → ((f : Bool) (v : ℕ) → Silent (at a ClosingBorder false f v s) k d)
        → Silent (at a (Address 7) false true 0 s) (body i g k) d
    silent_body i (writing b out) k l other at_border at_end = silent_address direction.Write i b (send i 0 out k) (omega (arith, l.1)) other (λ v. silent_send i 0 out k at_border true v)
    silent_body i (reading b zero) k l other at_border at_end = absurd (omega (arith, l.2))
    silent_body i (reading b (suc m)) k l other at_border at_end = silent_address direction.Read i b (receive (suc m) k) (omega (arith, l.1)) other (λ v. silent_receive m v true k (at_end true v))

    silent_plan : (ss : List Segment) (i : ℕ) (t : Turn) (u f : Bool) (v : ℕ) → Each LawfulSegment ss → Each (λ g. ¬ (address_of g ≡ a)) ss → masters_slot t ≡ true
        → Silent (at a t u f v s) (plan i ss) d
    silent_plan [] i t u f v l e o = (quiet r (at a t u f v s) o, refl)
    silent_plan (g ∷ ss) i t u f v l e o = (
      quiet r (at a t u f v s) o,
      silent_body i g (plan (suc i) ss) l.0 e.0
          (λ f v. silent_plan ss (suc i) Border false f v l.1 e.1 refl)
          (λ f v. silent_plan ss (suc i) ClosingBorder false f v l.1 e.1 refl),
    )

  silent_order : (c : Chip) (o : Order) → c.port.turn ≡ Free → Lawful o → Elsewhere o c.port.address → Silent c (plan 0 o) (made c.port.address c.store)
  silent_order c o e l w = silent_plan c.port.address c.store o 0 c.port.turn c.port.addressed c.port.fresh c.port.bits l.each w (rw e refl)

pub unaltered : (r : Rule) (c : Chip) (o : Order) (others : contest.Rule Symbol) → c.port.turn ≡ Free → Lawful o → Elsewhere o c.port.address
    → Polite bus Free others → (h : List Symbol) → AloneHistory o others h → after r c h ≡ made c.port.address c.store
unaltered r c o others e l w p h a = ends_so r h (plan 0 o) c (made c.port.address c.store) (silent_order r c o e l w) (order_runs o others l p h a)

-- banks
polite_both : (r u : contest.Rule Symbol) → Polite bus Free r → Polite bus Free u → Polite bus Free (λ l. least symbols (r l) (u l))
polite_both r u p p' = record {
  quiet = λ l f o. least_left symbols (r l) (u l) (rw (p'.quiet l f o) (symbols.greatest (r l))) ∙ p.quiet l f o;
  sound = λ l f o. elim (least_either symbols (r l) (u l)) [ inl e ↦ rw e (p.sound l f o) | inr e ↦ rw e (p'.sound l f o) ];
}

unaddressed_polite : (o : Order) (b : Bank Slave) → All (Unaddressed o) b → Polite bus Free (replies b)
unaddressed_polite o (Single k) w =
    subst (λ (x : Slave). Polite bus Free (replies (Single x))) (sym w.is) (well_polite (slave_of (chip w.rule) w.state) w.free (well (chip w.rule) w.state))
unaddressed_polite o (Both a b) w = polite_both (replies a) (replies b) (unaddressed_polite o a w.0) (unaddressed_polite o b w.1)

unaddressed_quiet : (o : Order) (b : Bank Slave) → Lawful o → All (Unaddressed o) b → Quiet (replies b) (plan 0 o)
unaddressed_quiet o (Single k) l w =
    subst (λ (x : Slave). Quiet (replies (Single x)) (plan 0 o)) (sym w.is)
    (silent_quiet w.rule (plan 0 o) w.state (made w.state.port.address w.state.store) (silent_order w.rule w.state o w.free l w.elsewhere))
unaddressed_quiet o (Both a b) l w = quiet_both (plan 0 o) (replies a) (replies b) (unaddressed_quiet o a l w.0) (unaddressed_quiet o b l w.1)

module _ (o : Order) (k : Slave) (l : Lawful o) (free : k.turn ≡ Free) (sound : Well k) where
  polite_among : (ss : Bank Slave) → Among o ss k → Polite bus Free (replies ss)
  polite_among (Single x) e = subst (λ (y : Slave). Polite bus Free (replies (Single y))) (sym e) (well_polite k free sound)
  polite_among (Both a b) (inl w) = polite_both (replies a) (replies b) (polite_among a w.0) (unaddressed_polite o b w.1)
  polite_among (Both a b) (inr w) = polite_both (replies a) (replies b) (unaddressed_polite o a w.0) (polite_among b w.1)

  alone_among : (ss : Bank Slave) → Among o ss k → (h : List Symbol) → AloneHistory o (replies ss) h → AloneHistory o (replies (Single k)) h
  alone_among (Single x) e h a = subst (λ (y : Slave). AloneHistory o (replies (Single y)) h) e a
  alone_among (Both a b) (inl w) h alone =
      alone_among a w.0 h
      (same_with h (plan 0 o) no_notes (replies (Both a b)) (replies a) (replies b) (λ l e. rw e (least_left symbols (replies a l) One (symbols.greatest (replies a l))))
      (unaddressed_quiet o b l w.1) (order_runs o (replies (Both a b)) l (polite_among (Both a b) (inl w)) h alone) alone)
  alone_among (Both a b) (inr w) h alone =
      alone_among b w.1 h
      (same_with h (plan 0 o) no_notes (replies (Both a b)) (replies b) (replies a) (λ l e. rw e (least_right symbols One (replies b l) (symbols.greatest (replies b l))))
      (unaddressed_quiet o a l w.0) (order_runs o (replies (Both a b)) l (polite_among (Both a b) (inr w)) h alone) alone)

pub as_if_alone : (o : Order) (ss : Bank Slave) (k : Slave) → Lawful o → k.turn ≡ Free → Well k → Among o ss k → AsIfAlone o ss k
as_if_alone o ss k l free sound w =
    let one = one_history o (replies ss) l (polite_among o k l free sound ss w) in
    let into = alone_among o k l free sound ss w in
    let back : (h : List Symbol) → AloneHistory o (replies (Single k)) h → AloneHistory o (replies ss) h =
    (λ h a. subst (λ (g : List Symbol). AloneHistory o (replies ss) g) (alone_one bus (script (begin o)) (replies (Single k)) one.history h (into one.history one.alone) a) one.alone) in
    record {
      histories = λ h. (into h, back h);
      answers = λ f bs has. record { history = (one.history, one.alone); answers = λ h a. has.answers h (into h a) };
    }
