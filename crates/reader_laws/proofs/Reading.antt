-- What the reader has of a history that is spelt in items. Assumes nothing.
use Rattle.std.proofs.Common.{◌≡◌, ℕ, suc, ◌+◌, ◌*◌, ◌^◌, ◌≤◌, Bool, true, false, cond, eqb, List, [], ◌∷◌, ◌++◌, length, sym, refl, ap, ◌∙◌, subst, inl, inr, arith, length-append, eq-eqb}
use Rattle.std.proofs.lemmas.List.{take_at, get_or_at, get_or-append_right, map-append}
use Rattle.history.specs.Marks.{least}
use Rattle.history.specs.Contest.{Rule, on, Follows, turn_after, Polite, Keeps, Then, Alone}
use Rattle.bus.specs.Symbols.{rank, symbols, is_stop, heading_bit}
use Rattle.bus.specs.Turns.{next, masters_slot, legal, busy, bus}
use Rattle.bus.specs.declared.Symbol.{Symbol}
use Rattle.bus.specs.declared.Turn.{Turn}
use Rattle.bus.specs.declared.Turn.TheVariants.{Free}
use Rattle.bus.proofs.Slots.{is_it_stop}
use Rattle.orders.specs.Orders.{Segment, Order}
use Rattle.scripts.specs.Scripts.{begin, script}
use Rattle.scripts.specs.Alone.{read_bytes, outcome_in}
use Rattle.orders.specs.declared.Outcome.{Outcome}
use Rattle.history.proofs.General.{least_left, least_right, polite_on, keeps_on}
use Rattle.scripts.proofs.Plans.{fits_keeps, plan_fits}
use Rattle.bus.specs.declared.Direction.{Direction}
use Rattle.bus.specs.declared.Direction.TheVariants.{Write as W, Read as R}
use Rattle.reader.specs.Bytes.{number_of, address_of, direction_of, value_of, acknowledges}
use Rattle.reader.specs.Words.{Meaning, Reads, end, begins, ends, nine, Bit, start, stop, byte, Bits as Slots-bits}
use Rattle.reader.specs.Records.{ranks}
use Rattle.reader.proofs.Records.{words_of}
use Rattle.scripts.specs.Frames.{Item, START, ADDRESS, DATA, STOP, N, data_written, data_read, Frame, done, wrote, gave, no_address, no_byte, Bits, no_bits, zero_bit, one_bit, Slots, start_slot, stop_slot, address_slots, data_slots, Spelt, no_items, item, ninth}
use Rattle.reader_laws.specs.Format.{items_of, OrdersAreReadBack}
use Rattle.scripts.proofs.Frames.{orders_are_framed}

-- a history alone follows the turns and ends free
slot : (t : Turn) (s r : Rule Symbol) (x : Symbol) → Keeps bus t s → Polite bus t r → x ≡ least symbols (s []) (r []) → (b : Bool) → masters_slot t ≡ b → (legal t x ≡ true) × (cond b (eqb (rank (s [])) (rank x)) true ≡ true)
slot t s r x k p e true o =
    let q : x ≡ s [] = e ∙ least_left symbols (s []) (r []) (rw (p.quiet [] tt o) (symbols.greatest (s []))) in
    (subst (λ (v : Symbol). legal t v ≡ true) (sym q) (k.sound [] tt tt o), eq-eqb (rank (s [])) (rank x) (ap rank (sym q)))
slot t s r x k p e false o =
    let q : x ≡ r [] = e ∙ least_right symbols (s []) (r []) (rw (k.quiet [] tt tt o) (symbols.greatest (r []))) in
    (subst (λ (v : Symbol). legal t v ≡ true) (sym q) (p.sound [] tt o), refl)

follows : (h : List Symbol) (t : Turn) (s r : Rule Symbol) → Keeps bus t s → Polite bus t r → Alone bus s r h → Follows bus t h × (busy (turn_after bus t h) ≡ false)
follows [] t s r k p a = absurd a
follows (x ∷ h) t s r k p a =
    let w = slot t s r x k p a.0 (masters_slot t) refl in
    go w.0 (is_stop x) refl a.1 (λ q. follows h (next t x) (on x s) (on x r) (keeps_on bus t s x w.0 w.1 k) (polite_on bus t r x w.0 p) q)
  where
    go : legal t x ≡ true → (v : Bool) → is_stop x ≡ v → Then bus v (h ≡ []) (Alone bus (on x s) (on x r) h) → (Alone bus (on x s) (on x r) h → Follows bus (next t x) h × (busy (turn_after bus (next t x) h) ≡ false))
        → Follows bus t (x ∷ h) × (busy (turn_after bus t (x ∷ h)) ≡ false)
    go l true e q ih =
        let ex = is_it_stop x e in
        let f : next t x ≡ Free = ap (next t) ex in (
          (l, subst (λ (m : List Symbol). Follows bus (next t x) m) (sym q) tt),
          ap (λ (m : List Symbol). busy (turn_after bus (next t x) m)) q ∙ ap busy f,
        )
    go l false e q ih = let w = ih q in ((l, w.0), w.1)

-- bits: how many, what they come to, and that they are bits of the record
bits_long : (n v : ℕ) (xs : List Symbol) → Bits n v xs → length (ranks xs) ≡ n
bits_long n v xs no_bits = refl
bits_long n v xs (zero_bit {n = m} {xs = ys} b) = ap suc (bits_long m v ys b)
bits_long n v xs (one_bit {n = m} {v = u} {xs = ys} b) = ap suc (bits_long m u ys b)

bits_number : (n v : ℕ) (xs : List Symbol) → Bits n v xs → number_of (ranks xs) ≡ v
bits_number n v xs no_bits = refl
bits_number n v xs (zero_bit {n = m} {xs = ys} b) = omega (arith, bits_number m v ys b)
bits_number n v xs (one_bit {n = m} {v = u} {xs = ys} b) =
    ap (λ (j : ℕ). 1 * 2 ^ j + number_of (ranks ys)) (bits_long m u ys b) ∙ (let q : 1 * 2 ^ m + number_of (ranks ys) ≡ 2 ^ m + u = omega (arith, bits_number m u ys b) in q)

bits_bits : (n v : ℕ) (xs : List Symbol) (ys : List ℕ) → Bits n v xs → Slots-bits ys → Slots-bits (ranks xs ++ ys)
bits_bits n v xs ys no_bits s = s
bits_bits n v xs ys (zero_bit {n = m} {xs = zs} b) s = (inl refl, bits_bits m v zs ys b s)
bits_bits n v xs ys (one_bit {n = m} {v = u} {xs = zs} b) s = (inr refl, bits_bits m u zs ys b s)

ninth_bit : (k : Bool) → Bit (rank (ninth k))
ninth_bit true = inl refl
ninth_bit false = inr refl

direction_is_bit : (d : Direction) → Bit (rank (heading_bit d))
direction_is_bit W = inl refl
direction_is_bit R = inr refl

ninth_says : (k : Bool) → eqb (rank (ninth k)) 0 ≡ k
ninth_says true = refl
ninth_says false = refl

direction_says : (d : Direction) → cond (eqb (rank (heading_bit d)) 3) R W ≡ d
direction_says W = refl
direction_says R = refl

-- items in their order: the address byte after a START, the other bytes after that
abbrev Ordered : Bool → Bool → List Item → Type 0
Ordered true a [] = ⊥
Ordered false a [] = Unit {0}
Ordered b a (START ∷ is) = Ordered true true is
Ordered true a (STOP ∷ is) = Ordered false false is
Ordered false a (STOP ∷ is) = ⊥
Ordered true true (ADDRESS x d k ∷ is) = Ordered true false is
Ordered true false (ADDRESS x d k ∷ is) = ⊥
Ordered false a (ADDRESS x d k ∷ is) = ⊥
Ordered true false (DATA x k ∷ is) = Ordered true false is
Ordered true true (DATA x k ∷ is) = ⊥
Ordered false a (DATA x k ∷ is) = ⊥

record Reading (b a : Bool) (p : ℕ) (h : List Symbol) (is : List Item) : Type 0 where
  words : List Meaning
  reads : Reads b (ranks h) p words
  items : items_of a words ≡ is

same_address : (m n : ℕ) (e d : Direction) (j k : Bool) (is js : List Item) → m ≡ n → e ≡ d → j ≡ k → is ≡ js → ADDRESS m e j ∷ is ≡ ADDRESS n d k ∷ js
same_address m n e d j k is js p q r s = cc

same_data : (m n : ℕ) (j k : Bool) (is js : List Item) → m ≡ n → j ≡ k → is ≡ js → DATA m j ∷ is ≡ DATA n k ∷ js
same_data m n j k is js p r s = cc

read_item : (i : Item) (is : List Item) (xs h : List Symbol) → Slots i xs → (b a : Bool) (p : ℕ) → Ordered b a (i ∷ is)
    → ((b a : Bool) (p : ℕ) → Ordered b a is → Reading b a p h is) → Reading b a p (xs ++ h) (i ∷ is)
read_item i is xs h start_slot b a p f ih =
    let w = ih true true (p + 1) f in
    record { words = start p ∷ w.words; reads = begins w.reads; items = ap (λ (l : List Item). START ∷ l) w.items }
read_item i is xs h stop_slot true a p f ih =
    let w = ih false false (p + 1) f in
    record { words = stop p ∷ w.words; reads = ends w.reads; items = ap (λ (l : List Item). STOP ∷ l) w.items }
read_item i is xs h stop_slot false a p f ih = absurd f
read_item i is xs h (address_slots {a = n} {d = d} {k = k} {xs = ys} bits) true true p f ih =
    let w = ih true false (p + 9) f in
    let s = ranks ys ++ (rank (heading_bit d) ∷ (rank (ninth k) ∷ [])) in
    let es : ranks (ys ++ (heading_bit d ∷ (ninth k ∷ []))) ≡ s = map-append rank ys (heading_bit d ∷ (ninth k ∷ [])) in
    let long : length (ranks ys) ≡ 7 = bits_long 7 n ys bits in
    let long-s : length s ≡ 9 = length-append (ranks ys) (rank (heading_bit d) ∷ (rank (ninth k) ∷ [])) ∙ ap (λ (m : ℕ). m + 2) long in
    let e1 : address_of s ≡ n = ap number_of (take_at (ranks ys) (rank (heading_bit d) ∷ (rank (ninth k) ∷ [])) 7 long) ∙ bits_number 7 n ys bits in
    let e2 : direction_of s ≡ d = ap (λ (m : ℕ). cond (eqb m 3) R W) (get_or_at (ranks ys) (rank (heading_bit d)) (rank (ninth k) ∷ []) 0 7 long) ∙ direction_says d in
    let e3 : acknowledges s ≡ k = ap (λ (m : ℕ). eqb m 0) (get_or-append_right (ranks ys) (rank (heading_bit d) ∷ (rank (ninth k) ∷ [])) 7 8 0 long (omega arith)) ∙ ninth_says k in
    record {
      words = byte p s ∷ w.words;
      reads = nine s (map-append rank (ys ++ (heading_bit d ∷ (ninth k ∷ []))) h ∙ ap (λ (q : List ℕ). q ++ ranks h) es) long-s (bits_bits 7 n ys (rank (heading_bit d) ∷ (rank (ninth k) ∷ [])) bits (direction_is_bit d, (ninth_bit k, tt))) w.reads;
      items = same_address (address_of s) n (direction_of s) d (acknowledges s) k (items_of false w.words) is e1 e2 e3 w.items;
    }
read_item i is xs h (address_slots bits) true false p f ih = absurd f
read_item i is xs h (address_slots bits) false a p f ih = absurd f
read_item i is xs h (data_slots {b = n} {k = k} {xs = ys} bits) true false p f ih =
    let w = ih true false (p + 9) f in
    let s = ranks ys ++ (rank (ninth k) ∷ []) in
    let es : ranks (ys ++ (ninth k ∷ [])) ≡ s = map-append rank ys (ninth k ∷ []) in
    let long : length (ranks ys) ≡ 8 = bits_long 8 n ys bits in
    let long-s : length s ≡ 9 = length-append (ranks ys) (rank (ninth k) ∷ []) ∙ ap (λ (m : ℕ). m + 1) long in
    let e1 : value_of s ≡ n = ap number_of (take_at (ranks ys) (rank (ninth k) ∷ []) 8 long) ∙ bits_number 8 n ys bits in
    let e2 : acknowledges s ≡ k = ap (λ (m : ℕ). eqb m 0) (get_or_at (ranks ys) (rank (ninth k)) [] 0 8 long) ∙ ninth_says k in
    record {
      words = byte p s ∷ w.words;
      reads = nine s (map-append rank (ys ++ (ninth k ∷ [])) h ∙ ap (λ (q : List ℕ). q ++ ranks h) es) long-s (bits_bits 8 n ys (rank (ninth k) ∷ []) bits (ninth_bit k, tt)) w.reads;
      items = same_data (value_of s) n (acknowledges s) k (items_of false w.words) is e1 e2 w.items;
    }
read_item i is xs h (data_slots bits) true true p f ih = absurd f
read_item i is xs h (data_slots bits) false a p f ih = absurd f

read_back : (is : List Item) (h : List Symbol) → Spelt is h → (b a : Bool) (p : ℕ) → Ordered b a is → Reading b a p h is
read_back is h no_items false a p f = record { words = []; reads = end; items = refl }
read_back is h no_items true a p f = absurd f
read_back is h (item {i = i} {is = js} {xs = xs} {h = g} s r) b a p f = read_item i js xs g s b a p f (λ b' a' p' f'. read_back js g r b' a' p' f')

-- frames have their items in order
written_ordered : (bs : List ℕ) (is : List Item) → Ordered true false is → Ordered true false (data_written bs ++ is)
written_ordered [] is f = f
written_ordered (b ∷ bs) is f = written_ordered bs is f

read_ordered : (bs : List ℕ) (is : List Item) → Ordered true false is → Ordered true false (data_read bs ++ is)
read_ordered [] is f = f
read_ordered (b ∷ []) is f = f
read_ordered (b ∷ (c ∷ bs)) is f = read_ordered (c ∷ bs) is f

frame_ordered : (i : ℕ) (ss : List Segment) (is : List Item) (f : Outcome) (got : List ℕ) → Frame i ss is f got → Ordered true false is
frame_ordered i ss is f got done = tt
frame_ordered i ss is f got (wrote {bs = bs} {ss = later} {is = js} q) = written_ordered bs js (frame_ordered (suc i) later js f got q)
frame_ordered i ss is f got (gave {ss = later} {is = js} {got = more} bs l q) = read_ordered bs js (frame_ordered (suc i) later js f more q)
frame_ordered i ss is f got no_address = tt
frame_ordered i ss is f got (no_byte front b later) = written_ordered front (DATA b N ∷ (STOP ∷ [])) tt

-- an order begins with a START
order_ordered : (i : ℕ) (o : Order) (is : List Item) (f : Outcome) (got : List ℕ) → 1 ≤ length o → Frame i o is f got → Ordered false false is
order_ordered i o is f got l done = absurd (omega arith)
order_ordered i o is f got l (wrote {bs = bs} {ss = later} {is = js} q) = written_ordered bs js (frame_ordered (suc i) later js f got q)
order_ordered i o is f got l (gave {ss = later} {is = js} {got = more} bs e q) = read_ordered bs js (frame_ordered (suc i) later js f more q)
order_ordered i o is f got l no_address = tt
order_ordered i o is f got l (no_byte front b later) = written_ordered front (DATA b N ∷ (STOP ∷ [])) tt

pub orders_are_read_back : OrdersAreReadBack
orders_are_read_back o r h l p a =
    let f = orders_are_framed o r h l p a in
    let w = follows h Free (script (begin o)) r (fits_keeps (begin o) Free (plan_fits o l)) p a in
    let t = read_back f.items h f.spelt false false 0 (order_ordered 0 o f.items (outcome_in 0 0 Free h) (read_bytes 0 Free h) l.some_segment f.frame) in
    record {
      words = t.words;
      words_of = words_of (ranks h) h t.words (record { same = refl; follows = w.0 }) w.1 t.reads;
      frame = subst (λ (is : List Item). Frame 0 o is (outcome_in 0 0 Free h) (read_bytes 0 Free h)) (sym t.items) f.frame;
    }
