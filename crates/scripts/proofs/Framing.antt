-- A history alone, act by act, is a frame. Assumes nothing.
use Rattle.std.proofs.Common.{◌≡◌, ℕ, zero, suc, ◌+◌, ◌*◌, ◌/◌, ◌%◌, ◌^◌, ◌<◌, Bool, true, false, cond, eqb, ◌⊎◌, List, [], ◌∷◌, ◌++◌, length, sym, refl, ap, ◌∙◌, subst, inl, inr, append_assoc, mod-eq_of_lt, arith, eqb-true}
use lib.Pow.{mod-pow-add}
use borrow.Author.Tests.{clash, eqb-false}
use Rattle.history.specs.Contest.{Rule, on, Polite, Then, Alone}
use Rattle.bus.specs.Symbols.{symbols, is_bit, is_stop, heading_bit}
use Rattle.bus.specs.Turns.{next, legal, bus}
use Rattle.bus.specs.declared.Symbol.{Symbol}
use Rattle.bus.specs.declared.Symbol.TheVariants.{Zero, Stop, Start, One}
use Rattle.bus.specs.declared.Turn.{Turn}
use Rattle.bus.specs.declared.Turn.TheVariants.{Free, ClosingBorder}
use Rattle.orders.specs.Orders.{Segment, writing, reading, address_of, direction_of, LawfulSegment, Each, Order, Lawful, AllBytes}
use Rattle.orders.specs.declared.Outcome.{Outcome}
use Rattle.orders.specs.declared.Outcome.TheVariants.{Done, NoAddress, NoByte}
use Rattle.scripts.specs.Scripts.{Act, say, ask, listen, spell, send, is_last, hark, receive, plan, Notes, no_notes, blamed, noted, begin, script}
use Rattle.history.proofs.General.{least_left, least_right, polite_on}
use Rattle.bus.proofs.Slots.{slaves_legal}
use Rattle.scripts.proofs.Plans.{Fits, plan_fits, with_todo}
use Rattle.bus.specs.declared.Direction.{Direction}
use Rattle.bus.specs.declared.Direction.TheVariants.{Write as W, Read as R}
use Rattle.scripts.specs.Frames.{Item, START, ADDRESS, DATA, STOP, A, N, data_written, data_read, Frame, done, wrote, gave, no_address, no_byte, Bits, no_bits, zero_bit, one_bit, start_slot, stop_slot, address_slots, data_slots, Spelt, no_items, item, ninth}

-- h is what these acts have alone, from some turn, against some polite rule
pub record Goes (k : List Act) (h : List Symbol) : Type 0 where
  pub turn : Turn
  pub notes : Notes
  pub rule : Rule Symbol
  pub fits : Fits turn k
  pub polite : Polite bus turn rule
  pub alone : Alone bus (script (with_todo k notes)) rule h

-- one slot, and then these acts
abbrev ThenGoes : Symbol → List Act → List Symbol → Type 0
ThenGoes x k h = (later : List Symbol) × (h ≡ x ∷ later) × Goes k later

own_symbol : (x : Symbol) (k : List Act) (y : Symbol) (h : List Symbol) → (g : Goes (say x ∷ k) (y ∷ h)) → y ≡ x
own_symbol x k y h g = g.alone.0 ∙ least_left symbols x (g.rule []) (rw (g.polite.quiet [] tt g.fits.0) (symbols.greatest x))

said : (x : Symbol) (k : List Act) (h : List Symbol) → is_stop x ≡ false → Goes (say x ∷ k) h → ThenGoes x k h
said x k [] s g = absurd g.alone
said x k (y ∷ h) s g =
    let e = own_symbol x k y h g in
    let a : Alone bus (script (with_todo (say x ∷ k) g.notes)) g.rule (x ∷ h) =
    subst (λ (v : Symbol). Alone bus (script (with_todo (say x ∷ k) g.notes)) g.rule (v ∷ h)) e g.alone in
    let b : Then bus (is_stop x) (h ≡ []) (Alone bus (script (with_todo k g.notes)) (on x g.rule) h) = a.1 in (
      h,
      ap (λ (v : Symbol). v ∷ h) e,
      record {
        turn = next g.turn x;
        notes = g.notes;
        rule = on x g.rule;
        fits = g.fits.2;
        polite = polite_on bus g.turn g.rule x g.fits.1 g.polite;
        alone = subst (λ (v : Bool). Then bus v (h ≡ []) (Alone bus (script (with_todo k g.notes)) (on x g.rule) h)) s b;
      },
    )

said_stop : (k : List Act) (h : List Symbol) → Goes (say Stop ∷ k) h → h ≡ Stop ∷ []
said_stop k [] g = absurd g.alone
said_stop k (y ∷ h) g =
    let e = own_symbol Stop k y h g in
    let a : Alone bus (script (with_todo (say Stop ∷ k) g.notes)) g.rule (Stop ∷ h) =
    subst (λ (v : Symbol). Alone bus (script (with_todo (say Stop ∷ k) g.notes)) g.rule (v ∷ h)) e g.alone in
    let q : h ≡ [] = a.1 in
    cc

asked : (f : Outcome) (k : List Act) (h : List Symbol) → Goes (ask f ∷ k) h → ThenGoes Zero k h ⊎ (h ≡ One ∷ (Stop ∷ []))
asked f k [] g = absurd g.alone
asked f k (y ∷ h) g =
    let ok = g.polite.sound [] tt g.fits.0 in
    let e : y ≡ g.rule [] = g.alone.0 ∙ least_right symbols One (g.rule []) (symbols.greatest (g.rule [])) in
    let ok' : legal g.turn y ≡ true = subst (λ (v : Symbol). legal g.turn v ≡ true) (sym e) ok in
    go y (slaves_legal g.turn y g.fits.0 ok') ok' g.alone
  where
    go : (y : Symbol) → is_bit y ≡ true → legal g.turn y ≡ true → Alone bus (script (with_todo (ask f ∷ k) g.notes)) g.rule (y ∷ h) → ThenGoes Zero k (y ∷ h) ⊎ (y ∷ h ≡ One ∷ (Stop ∷ []))
    go Zero b l a = inl (
      h,
      refl,
      record {
        turn = next g.turn Zero;
        notes = g.notes;
        rule = on Zero g.rule;
        fits = g.fits.1;
        polite = polite_on bus g.turn g.rule Zero l g.polite;
        alone = a.1;
      },
    )
    go Stop b l a = absurd (clash b)
    go Start b l a = absurd (clash b)
    go One b l a =
        inr (ap (λ (t : List Symbol). One ∷ t) (said_stop [] h (record {
          turn = ClosingBorder;
          notes = blamed f g.notes;
          rule = on One g.rule;
          fits = (refl, refl, refl);
          polite = subst (λ (v : Turn). Polite bus v (on One g.rule)) g.fits.2 (polite_on bus g.turn g.rule One l g.polite);
          alone = a.1;
        })))

heard : (z : Bool) (k : List Act) (h : List Symbol) → Goes (listen z ∷ k) h → ThenGoes Zero k h ⊎ ThenGoes One k h
heard z k [] g = absurd g.alone
heard z k (y ∷ h) g =
    let ok = g.polite.sound [] tt g.fits.0 in
    let e : y ≡ g.rule [] = g.alone.0 ∙ least_right symbols One (g.rule []) (symbols.greatest (g.rule [])) in
    let ok' : legal g.turn y ≡ true = subst (λ (v : Symbol). legal g.turn v ≡ true) (sym e) ok in
    go y (slaves_legal g.turn y g.fits.0 ok') ok' g.alone
  where
    go : (y : Symbol) → is_bit y ≡ true → legal g.turn y ≡ true → Alone bus (script (with_todo (listen z ∷ k) g.notes)) g.rule (y ∷ h) → ThenGoes Zero k (y ∷ h) ⊎ ThenGoes One k (y ∷ h)
    go Zero b l a = inl (
      h,
      refl,
      record {
        turn = next g.turn Zero;
        notes = noted z g.notes Zero;
        rule = on Zero g.rule;
        fits = g.fits.1 Zero refl;
        polite = polite_on bus g.turn g.rule Zero l g.polite;
        alone = a.1;
      },
    )
    go Stop b l a = absurd (clash b)
    go Start b l a = absurd (clash b)
    go One b l a = inr (
      h,
      refl,
      record {
        turn = next g.turn One;
        notes = noted z g.notes One;
        rule = on One g.rule;
        fits = g.fits.1 One refl;
        polite = polite_on bus g.turn g.rule One l g.polite;
        alone = a.1;
      },
    )

-- n bits that come to v, and then these acts
record BitsThen (n v : ℕ) (k : List Act) (h : List Symbol) : Type 0 where
  slots : List Symbol
  later : List Symbol
  same : h ≡ slots ++ later
  bits : Bits n v slots
  goes : Goes k later

-- half of a number's bits
pub bit_split : (b n : ℕ) → b % 2 ^ suc n ≡ (b / 2 ^ n % 2) * 2 ^ n + b % 2 ^ n
bit_split b n = ap (λ (m : ℕ). b % 2 ^ m) (let q : suc n ≡ 1 + n = omega arith in q) ∙ mod-pow-add b 1 n

spelled : (n b : ℕ) (k : List Act) (h : List Symbol) → Goes (spell n b k) h → BitsThen n (b % 2 ^ n) k h
spelled zero b k h g = record { slots = []; later = h; same = refl; bits = subst (λ (v : ℕ). Bits 0 v []) (let q : 0 ≡ b % 1 = omega arith in q) no_bits; goes = g }
spelled (suc n) b k h g = go (eqb (b / 2 ^ n % 2) 0) refl (λ l q. spelled n b k l q) g
  where
    go : (v : Bool) → eqb (b / 2 ^ n % 2) 0 ≡ v → ((l : List Symbol) → Goes (spell n b k) l → BitsThen n (b % 2 ^ n) k l) → Goes (say (cond v Zero One) ∷ spell n b k) h → BitsThen (suc n) (b % 2 ^ suc n) k h
    go true e ih g =
        let s = said Zero (spell n b k) h refl g in
        let w = ih s.0 s.2 in
        let z : b / 2 ^ n % 2 ≡ 0 = eqb-true (b / 2 ^ n % 2) 0 e in
        let v : b % 2 ^ n ≡ b % 2 ^ suc n = sym (bit_split b n ∙ ap (λ (m : ℕ). m * 2 ^ n + b % 2 ^ n) z ∙ (let q : 0 * 2 ^ n + b % 2 ^ n ≡ b % 2 ^ n = omega arith in q)) in
        record {
          slots = Zero ∷ w.slots;
          later = w.later;
          same = s.1 ∙ ap (λ (t : List Symbol). Zero ∷ t) w.same;
          bits = subst (λ (m : ℕ). Bits (suc n) m (Zero ∷ w.slots)) v (zero_bit w.bits);
          goes = w.goes;
        }
    go false e ih g =
        let s = said One (spell n b k) h refl g in
        let w = ih s.0 s.2 in
        let ne = eqb-false (b / 2 ^ n % 2) 0 e in
        let z : b / 2 ^ n % 2 ≡ 1 = omega (arith, ne) in
        let v : 2 ^ n + b % 2 ^ n ≡ b % 2 ^ suc n = sym (bit_split b n ∙ ap (λ (m : ℕ). m * 2 ^ n + b % 2 ^ n) z ∙ (let q : 1 * 2 ^ n + b % 2 ^ n ≡ 2 ^ n + b % 2 ^ n = omega arith in q)) in
        record {
          slots = One ∷ w.slots;
          later = w.later;
          same = s.1 ∙ ap (λ (t : List Symbol). One ∷ t) w.same;
          bits = subst (λ (m : ℕ). Bits (suc n) m (One ∷ w.slots)) v (one_bit w.bits);
          goes = w.goes;
        }

spelled_all : (n b : ℕ) (k : List Act) (h : List Symbol) → b < 2 ^ n → Goes (spell n b k) h → BitsThen n b k h
spelled_all n b k h small g = subst (λ (v : ℕ). BitsThen n v k h) (mod-eq_of_lt small) (spelled n b k h g)

harked : (n : ℕ) (k : List Act) (h : List Symbol) → Goes (hark n k) h → (v : ℕ) × BitsThen n v k h
harked zero k h g = (0, record { slots = []; later = h; same = refl; bits = no_bits; goes = g })
harked (suc n) k h g = go (heard (is_last n) (hark n k) h g) (λ l q. harked n k l q)
  where
    go : ThenGoes Zero (hark n k) h ⊎ ThenGoes One (hark n k) h → ((l : List Symbol) → Goes (hark n k) l → (v : ℕ) × BitsThen n v k l) → (v : ℕ) × BitsThen (suc n) v k h
    go (inl s) ih =
        let w = ih s.0 s.2 in (
          w.0,
          record {
            slots = Zero ∷ w.1.slots;
            later = w.1.later;
            same = s.1 ∙ ap (λ (t : List Symbol). Zero ∷ t) w.1.same;
            bits = zero_bit w.1.bits;
            goes = w.1.goes;
          },
        )
    go (inr s) ih =
        let w = ih s.0 s.2 in (
          2 ^ n + w.0,
          record {
            slots = One ∷ w.1.slots;
            later = w.1.later;
            same = s.1 ∙ ap (λ (t : List Symbol). One ∷ t) w.1.same;
            bits = one_bit w.1.bits;
            goes = w.1.goes;
          },
        )

-- items before what follows
spelt_address : (a : ℕ) (d : Direction) (k : Bool) (xs h : List Symbol) (is : List Item) → Bits 7 a xs → Spelt is h → Spelt (ADDRESS a d k ∷ is) (xs ++ (heading_bit d ∷ (ninth k ∷ h)))
spelt_address a d k xs h is b s =
    subst (λ (l : List Symbol). Spelt (ADDRESS a d k ∷ is) l) (append_assoc xs (heading_bit d ∷ (ninth k ∷ [])) h) (item (address_slots b) s)

spelt_data : (b : ℕ) (k : Bool) (xs h : List Symbol) (is : List Item) → Bits 8 b xs → Spelt is h → Spelt (DATA b k ∷ is) (xs ++ (ninth k ∷ h))
spelt_data b k xs h is bits s =
    subst (λ (l : List Symbol). Spelt (DATA b k ∷ is) l) (append_assoc xs (ninth k ∷ []) h) (item (data_slots bits) s)

spelt_stop : Spelt (STOP ∷ []) (Stop ∷ [])
spelt_stop = item stop_slot no_items

re : (is : List Item) (h g : List Symbol) → h ≡ g → Spelt is g → Spelt is h
re is h g e s = subst (λ (l : List Symbol). Spelt is l) (sym e) s

-- all these items go before what is left, which has these acts
record AllThen (items : List Item) (k : List Act) (h : List Symbol) : Type 0 where
  later : List Symbol
  goes : Goes k later
  before : (is : List Item) → Spelt is later → Spelt (items ++ is) h

-- or a write byte is not acknowledged
record Cut (bs : List ℕ) (h : List Symbol) : Type 0 where
  front : List ℕ
  byte : ℕ
  unsent : List ℕ
  same : bs ≡ front ++ (byte ∷ unsent)
  spelt : Spelt (data_written front ++ (DATA byte N ∷ (STOP ∷ []))) h

sent : (i j : ℕ) (bs : List ℕ) (k : List Act) (h : List Symbol) → AllBytes bs → Goes (send i j bs k) h → AllThen (data_written bs) k h ⊎ Cut bs h
sent i j [] k h sized g = inl (record { later = h; goes = g; before = λ is s. s })
sent i j (b ∷ bs) k h sized g =
    let w = spelled_all 8 b (ask (NoByte i j) ∷ send i (suc j) bs k) h sized.0 g in
    go w (asked (NoByte i j) (send i (suc j) bs k) w.later w.goes) (λ l q. sent i (suc j) bs k l sized.1 q)
  where
    next_byte : (w : BitsThen 8 b (ask (NoByte i j) ∷ send i (suc j) bs k) h) → (s : ThenGoes Zero (send i (suc j) bs k) w.later) → AllThen (data_written bs) k s.0 ⊎ Cut bs s.0 → AllThen (data_written (b ∷ bs)) k h ⊎ Cut (b ∷ bs) h
    next_byte w s (inl t) = inl (record {
      later = t.later;
      goes = t.goes;
      before = λ is q.
          re (DATA b A ∷ (data_written bs ++ is)) h (w.slots ++ (Zero ∷ s.0)) (w.same ∙ ap (λ (l : List Symbol). w.slots ++ l) s.1)
          (spelt_data b A w.slots s.0 (data_written bs ++ is) w.bits (t.before is q));
    })
    next_byte w s (inr c) = inr (record {
      front = b ∷ c.front;
      byte = c.byte;
      unsent = c.unsent;
      same = ap (λ (l : List ℕ). b ∷ l) c.same;
      spelt =
          re (data_written (b ∷ c.front) ++ (DATA c.byte N ∷ (STOP ∷ []))) h (w.slots ++ (Zero ∷ s.0)) (w.same ∙ ap (λ (l : List Symbol). w.slots ++ l) s.1)
          (spelt_data b A w.slots s.0 (data_written c.front ++ (DATA c.byte N ∷ (STOP ∷ []))) w.bits c.spelt);
    })

    go : (w : BitsThen 8 b (ask (NoByte i j) ∷ send i (suc j) bs k) h) → ThenGoes Zero (send i (suc j) bs k) w.later ⊎ (w.later ≡ One ∷ (Stop ∷ []))
        → ((l : List Symbol) → Goes (send i (suc j) bs k) l → AllThen (data_written bs) k l ⊎ Cut bs l) → AllThen (data_written (b ∷ bs)) k h ⊎ Cut (b ∷ bs) h
    go w (inl s) ih = next_byte w s (ih s.0 s.2)
    go w (inr e) ih = inr (record {
      front = [];
      byte = b;
      unsent = bs;
      same = refl;
      spelt =
          re (DATA b N ∷ (STOP ∷ [])) h (w.slots ++ (One ∷ (Stop ∷ []))) (w.same ∙ ap (λ (l : List Symbol). w.slots ++ l) e)
          (spelt_data b N w.slots (Stop ∷ []) (STOP ∷ []) w.bits spelt_stop);
    })

data_read_more : (v : ℕ) (bs : List ℕ) (n : ℕ) (is : List Item) → length bs ≡ suc n → data_read (v ∷ bs) ++ is ≡ DATA v A ∷ (data_read bs ++ is)
data_read_more v [] n is e = absurd (omega arith)
data_read_more v (c ∷ bs) n is e = refl

received : (n : ℕ) (k : List Act) (h : List Symbol) → Goes (receive (suc n) k) h → (bs : List ℕ) × (length bs ≡ suc n) × AllThen (data_read bs) k h
received zero k h g =
    let w = harked 8 (say One ∷ k) h g in
    let s = said One k w.1.later refl w.1.goes in (
      w.0 ∷ [],
      refl,
      record {
        later = s.0;
        goes = s.2;
        before = λ is q.
            re (DATA w.0 N ∷ is) h (w.1.slots ++ (One ∷ s.0)) (w.1.same ∙ ap (λ (l : List Symbol). w.1.slots ++ l) s.1)
            (spelt_data w.0 N w.1.slots s.0 is w.1.bits q);
      },
    )
received (suc n) k h g =
    let w = harked 8 (say Zero ∷ receive (suc n) k) h g in
    let s = said Zero (receive (suc n) k) w.1.later refl w.1.goes in
    let t = received n k s.0 s.2 in (
      w.0 ∷ t.0,
      ap suc t.1,
      record {
        later = t.2.later;
        goes = t.2.goes;
        before = λ is q.
            re (data_read (w.0 ∷ t.0) ++ is) h (w.1.slots ++ (Zero ∷ s.0)) (w.1.same ∙ ap (λ (l : List Symbol). w.1.slots ++ l) s.1)
            (subst (λ (js : List Item). Spelt js (w.1.slots ++ (Zero ∷ s.0))) (sym (data_read_more w.0 t.0 n is t.1))
            (spelt_data w.0 A w.1.slots s.0 (data_read t.0 ++ is) w.1.bits (t.2.before is q)));
      },
    )

-- START and the address byte: acknowledged or not
addressed : (a : ℕ) (d : Direction) (f : Outcome) (k : List Act) (h : List Symbol) → a < 128 → Goes (say Start ∷ spell 7 a (say (heading_bit d) ∷ (ask f ∷ k))) h
    → AllThen (START ∷ (ADDRESS a d A ∷ [])) k h ⊎ Spelt (START ∷ (ADDRESS a d N ∷ (STOP ∷ []))) h
addressed a d f k h small g =
    let s = said Start (spell 7 a (say (heading_bit d) ∷ (ask f ∷ k))) h refl g in
    let w = spelled_all 7 a (say (heading_bit d) ∷ (ask f ∷ k)) s.0 small s.2 in
    let t = said (heading_bit d) (ask f ∷ k) w.later (bit_goes d) w.goes in
    go s w t (asked f k t.0 t.2)
  where
    bit_goes : (d : Direction) → is_stop (heading_bit d) ≡ false
    bit_goes W = refl
    bit_goes R = refl

    whole : (s : ThenGoes Start (spell 7 a (say (heading_bit d) ∷ (ask f ∷ k))) h) (w : BitsThen 7 a (say (heading_bit d) ∷ (ask f ∷ k)) s.0) (t : ThenGoes (heading_bit d) (ask f ∷ k) w.later)
        (x : Symbol) (l : List Symbol) → t.0 ≡ x ∷ l → h ≡ Start ∷ (w.slots ++ (heading_bit d ∷ (x ∷ l)))
    whole s w t x l e =
        s.1 ∙ ap (λ (q : List Symbol). Start ∷ q) (w.same ∙ ap (λ (q : List Symbol). w.slots ++ q) (t.1 ∙ ap (λ (q : List Symbol). heading_bit d ∷ q) e))

    go : (s : ThenGoes Start (spell 7 a (say (heading_bit d) ∷ (ask f ∷ k))) h) (w : BitsThen 7 a (say (heading_bit d) ∷ (ask f ∷ k)) s.0) (t : ThenGoes (heading_bit d) (ask f ∷ k) w.later)
        → ThenGoes Zero k t.0 ⊎ (t.0 ≡ One ∷ (Stop ∷ [])) → AllThen (START ∷ (ADDRESS a d A ∷ [])) k h ⊎ Spelt (START ∷ (ADDRESS a d N ∷ (STOP ∷ []))) h
    go s w t (inl u) = inl (record {
      later = u.0;
      goes = u.2;
      before = λ is q.
          re (START ∷ (ADDRESS a d A ∷ is)) h (Start ∷ (w.slots ++ (heading_bit d ∷ (Zero ∷ u.0)))) (whole s w t Zero u.0 u.1)
          (item start_slot (spelt_address a d A w.slots u.0 is w.bits q));
    })
    go s w t (inr e) = inr (
        re (START ∷ (ADDRESS a d N ∷ (STOP ∷ []))) h (Start ∷ (w.slots ++ (heading_bit d ∷ (One ∷ (Stop ∷ []))))) (whole s w t One (Stop ∷ []) e)
        (item start_slot (spelt_address a d N w.slots (Stop ∷ []) (STOP ∷ []) w.bits spelt_stop)))

-- the segments from the i-th on are a frame
pub record Shown (i : ℕ) (ss : List Segment) (h : List Symbol) : Type 0 where
  pub items : List Item
  pub outcome : Outcome
  pub bytes : List ℕ
  pub frame : Frame i ss items outcome bytes
  pub spelt : Spelt items h

not_addressed : (i : ℕ) (s : Segment) (ss : List Segment) (h : List Symbol) → Spelt (START ∷ (ADDRESS (address_of s) (direction_of s) N ∷ (STOP ∷ []))) h → Shown i (s ∷ ss) h
not_addressed i s ss h q = record {
  items = START ∷ (ADDRESS (address_of s) (direction_of s) N ∷ (STOP ∷ []));
  outcome = NoAddress i;
  bytes = [];
  frame = no_address {s = s};
  spelt = q;
}

pub planned : (ss : List Segment) (i : ℕ) (h : List Symbol) → Each LawfulSegment ss → Goes (plan i ss) h → Shown i ss h
planned [] i h l g = record { items = STOP ∷ []; outcome = Done; bytes = []; frame = done; spelt = re (STOP ∷ []) h (Stop ∷ []) (said_stop [] h g) spelt_stop }
planned (writing a bs ∷ ss) i h l g =
    go (addressed a W (NoAddress i) (send i 0 bs (plan (suc i) ss)) h (omega (arith, l.0.1)) g) (λ m q. planned ss (suc i) m l.1 q)
  where
    tail : (t : AllThen (START ∷ (ADDRESS a W A ∷ [])) (send i 0 bs (plan (suc i) ss)) h) → AllThen (data_written bs) (plan (suc i) ss) t.later ⊎ Cut bs t.later
        → ((m : List Symbol) → Goes (plan (suc i) ss) m → Shown (suc i) ss m) → Shown i (writing a bs ∷ ss) h
    tail t (inl u) ih =
        let v = ih u.later u.goes in
        record {
          items = START ∷ (ADDRESS a W A ∷ (data_written bs ++ v.items));
          outcome = v.outcome;
          bytes = v.bytes;
          frame = wrote v.frame;
          spelt = t.before (data_written bs ++ v.items) (u.before v.items v.spelt);
        }
    tail t (inr c) ih =
        let is = data_written c.front ++ (DATA c.byte N ∷ (STOP ∷ [])) in
        record {
          items = START ∷ (ADDRESS a W A ∷ is);
          outcome = NoByte i (length c.front);
          bytes = [];
          frame =
              subst (λ (q : List ℕ). Frame i (writing a q ∷ ss) (START ∷ (ADDRESS a W A ∷ is)) (NoByte i (length c.front)) []) (sym c.same)
              (no_byte c.front c.byte c.unsent);
          spelt = t.before is c.spelt;
        }

    go : AllThen (START ∷ (ADDRESS a W A ∷ [])) (send i 0 bs (plan (suc i) ss)) h ⊎ Spelt (START ∷ (ADDRESS a W N ∷ (STOP ∷ []))) h
        → ((m : List Symbol) → Goes (plan (suc i) ss) m → Shown (suc i) ss m) → Shown i (writing a bs ∷ ss) h
    go (inl t) ih = tail t (sent i 0 bs (plan (suc i) ss) t.later l.0.2 t.goes) ih
    go (inr s) ih = not_addressed i (writing a bs) ss h s
planned (reading a zero ∷ ss) i h l g = absurd (omega (arith, l.0.2))
planned (reading a (suc n) ∷ ss) i h l g =
    go (addressed a R (NoAddress i) (receive (suc n) (plan (suc i) ss)) h (omega (arith, l.0.1)) g) (λ m q. planned ss (suc i) m l.1 q)
  where
    go : AllThen (START ∷ (ADDRESS a R A ∷ [])) (receive (suc n) (plan (suc i) ss)) h ⊎ Spelt (START ∷ (ADDRESS a R N ∷ (STOP ∷ []))) h
        → ((m : List Symbol) → Goes (plan (suc i) ss) m → Shown (suc i) ss m) → Shown i (reading a (suc n) ∷ ss) h
    go (inl t) ih =
        let u = received n (plan (suc i) ss) t.later t.goes in
        let v = ih u.2.later u.2.goes in
        record {
          items = START ∷ (ADDRESS a R A ∷ (data_read u.0 ++ v.items));
          outcome = v.outcome;
          bytes = u.0 ++ v.bytes;
          frame = gave u.0 u.1 v.frame;
          spelt = t.before (data_read u.0 ++ v.items) (u.2.before v.items v.spelt);
        }
    go (inr s) ih = not_addressed i (reading a (suc n)) ss h s

pub begun : (o : Order) (r : Rule Symbol) (h : List Symbol) → Lawful o → Polite bus Free r → Alone bus (script (begin o)) r h → Goes (plan 0 o) h
begun o r h l p a = record { turn = Free; notes = no_notes; rule = r; fits = plan_fits o l; polite = p; alone = a }
