-- A frame shows what the turns tell of its slots. Assumes nothing.
use Rattle.std.proofs.Common.{◌≡◌, ℕ, zero, suc, ◌+◌, ◌*◌, ◌^◌, Bool, true, false, List, [], ◌∷◌, ◌++◌, length, sym, refl, ap, ◌∙◌, subst, append_assoc, arith}
use native.Mathlib.Numerals.{unary_clauses}
use borrow.Author.Tests.{clash}
use Rattle.bus.specs.declared.Symbol.{Symbol}
use Rattle.bus.specs.declared.Symbol.TheVariants.{Zero, Stop, Start, One}
use Rattle.bus.specs.declared.Direction.{Direction}
use Rattle.bus.specs.declared.Direction.TheVariants as direction
use Rattle.bus.specs.declared.Turn.{Turn}
use Rattle.bus.specs.declared.Turn.TheVariants.{Free, Address, AddressNinth, Border, ClosingBorder, Write, WriteNinth, Read, ReadNinth}
use Rattle.bus.specs.Symbols.{heading_bit}
use Rattle.bus.specs.Turns.{opened}
use Rattle.orders.specs.declared.Outcome.{Outcome}
use Rattle.orders.specs.declared.Outcome.TheVariants.{Done, NoAddress, NoByte}
use Rattle.orders.specs.Orders.{Segment, address_of, direction_of, LawfulSegment, Each}
use Rattle.scripts.specs.Alone.{read_bytes, outcome_in}
use Rattle.scripts.specs.Frames.{Item, START, ADDRESS, DATA, STOP, A, N, data_written, data_read, Frame, done, wrote, gave, no_address, no_byte, Bits, no_bits, zero_bit, one_bit, start_slot, stop_slot, address_slots, data_slots, Spelt, no_items, item, ninth, OrdersAreFramed}
use Rattle.scripts.proofs.Framing.{planned, begun}

-- the rest of a history tells this outcome and these bytes
abbrev Told : ℕ → ℕ → Turn → List Symbol → Outcome → List ℕ → Type 0
Told i j t h f got = (outcome_in i j t h ≡ f) × (read_bytes 0 t h ≡ got)

told_of : (i j : ℕ) (t : Turn) (h g : List Symbol) (f : Outcome) (got : List ℕ) → h ≡ g → Told i j t g f got → Told i j t h f got
told_of i j t h g f got e w = subst (λ (l : List Symbol). Told i j t l f got) (sym e) w

-- bits of an address, of a write byte, of a read byte
past_address : (n a i j : ℕ) (xs l : List Symbol) (f : Outcome) (got : List ℕ) → Bits n a xs → Told i j (Address 0) l f got → Told i j (Address n) (xs ++ l) f got
past_address n a i j xs l f got no_bits w = w
past_address n a i j xs l f got (zero_bit {n = m} {xs = ys} b) w = past_address m a i j ys l f got b w
past_address n a i j xs l f got (one_bit {n = m} {v = v} {xs = ys} b) w = past_address m v i j ys l f got b w

past_write : (n v i j : ℕ) (xs l : List Symbol) (f : Outcome) (got : List ℕ) → Bits (suc n) v xs → Told i j WriteNinth l f got → Told i j (Write n) (xs ++ l) f got
past_write zero v i j xs l f got (zero_bit no_bits) w = w
past_write zero v i j xs l f got (one_bit no_bits) w = w
past_write (suc n) v i j xs l f got (zero_bit {xs = ys} b) w = past_write n v i j ys l f got b w
past_write (suc n) v i j xs l f got (one_bit {v = u} {xs = ys} b) w = past_write n u i j ys l f got b w

past_byte : (v i j : ℕ) (xs l : List Symbol) (f : Outcome) (got : List ℕ) → Bits 8 v xs → Told i j WriteNinth l f got → Told i j Border (xs ++ l) f got
past_byte v i j xs l f got (zero_bit {xs = ys} b) w = past_write 6 v i j ys l f got b w
past_byte v i j xs l f got (one_bit {v = u} {xs = ys} b) w = past_write 6 u i j ys l f got b w

zero_next : (w n v : ℕ) → (2 * w + 0) * 2 ^ n + v ≡ w * 2 ^ suc n + v
zero_next w n v = simp unary_clauses (omega arith)

one_next : (w n v : ℕ) → (2 * w + 1) * 2 ^ n + v ≡ w * 2 ^ suc n + (2 ^ n + v)
one_next w n v = simp unary_clauses (omega arith)

past_read : (n v w i j : ℕ) (xs l : List Symbol) → Bits (suc n) v xs
    → (outcome_in i j (Read n) (xs ++ l) ≡ outcome_in i j ReadNinth l) × (read_bytes w (Read n) (xs ++ l) ≡ (w * 2 ^ suc n + v) ∷ read_bytes 0 ReadNinth l)
past_read zero v w i j xs l (zero_bit no_bits) = (refl, ap (λ (m : ℕ). m ∷ read_bytes 0 ReadNinth l) (let q : 2 * w + 0 ≡ w * 2 + 0 = omega arith in q))
past_read zero v w i j xs l (one_bit no_bits) = (refl, ap (λ (m : ℕ). m ∷ read_bytes 0 ReadNinth l) (let q : 2 * w + 1 ≡ w * 2 + 1 = omega arith in q))
past_read (suc n) v w i j xs l (zero_bit {xs = ys} b) =
    let r = past_read n v (2 * w + 0) i j ys l b in
    (r.0, r.1 ∙ ap (λ (m : ℕ). m ∷ read_bytes 0 ReadNinth l) (zero_next w (suc n) v))
past_read (suc n) v w i j xs l (one_bit {v = u} {xs = ys} b) =
    let r = past_read n u (2 * w + 1) i j ys l b in
    (r.0, r.1 ∙ ap (λ (m : ℕ). m ∷ read_bytes 0 ReadNinth l) (one_next w (suc n) u))

-- an item before the others
split_start : (is : List Item) (h : List Symbol) → Spelt (START ∷ is) h → (l : List Symbol) × (h ≡ Start ∷ l) × Spelt is l
split_start is h (item {h = l} start_slot r) = (l, refl, r)

split_stop : (h : List Symbol) → Spelt (STOP ∷ []) h → h ≡ Stop ∷ []
split_stop h (item stop_slot no_items) = refl

split_address : (a : ℕ) (d : Direction) (k : Bool) (is : List Item) (h : List Symbol) → Spelt (ADDRESS a d k ∷ is) h
    → (xs l : List Symbol) × (h ≡ xs ++ (heading_bit d ∷ (ninth k ∷ l))) × Bits 7 a xs × Spelt is l
split_address a d k is h (item {h = l} (address_slots {xs = xs} b) r) = (xs, l, append_assoc xs (heading_bit d ∷ (ninth k ∷ [])) l, b, r)

split_data : (b : ℕ) (k : Bool) (is : List Item) (h : List Symbol) → Spelt (DATA b k ∷ is) h → (xs l : List Symbol) × (h ≡ xs ++ (ninth k ∷ l)) × Bits 8 b xs × Spelt is l
split_data b k is h (item {h = l} (data_slots {xs = xs} c) r) = (xs, l, append_assoc xs (ninth k ∷ []) l, c, r)

-- where S and P may stand
abbrev is_border : Turn → Bool
is_border Free = true
is_border (Address n) = false
is_border (AddressNinth d) = false
is_border Border = true
is_border (Write n) = false
is_border WriteNinth = false
is_border (Read n) = false
is_border ReadNinth = false
is_border ClosingBorder = true

told_stop : (i j : ℕ) (t : Turn) (h : List Symbol) → is_border t ≡ true → h ≡ Stop ∷ [] → Told i j t h Done []
told_stop i j t h b e = told_of i j t h (Stop ∷ []) Done [] e (go t b)
  where
    go : (t : Turn) → is_border t ≡ true → Told i j t (Stop ∷ []) Done []
    go Free b = (refl, refl)
    go (Address n) b = absurd (clash b)
    go (AddressNinth d) b = absurd (clash b)
    go Border b = (refl, refl)
    go (Write n) b = absurd (clash b)
    go WriteNinth b = absurd (clash b)
    go (Read n) b = absurd (clash b)
    go ReadNinth b = absurd (clash b)
    go ClosingBorder b = (refl, refl)

told_start : (i j : ℕ) (t : Turn) (l : List Symbol) (f : Outcome) (got : List ℕ) → is_border t ≡ true → Told (suc i) j (Address 7) l f got → Told i j t (Start ∷ l) f got
told_start i j Free l f got b w = w
told_start i j (Address n) l f got b w = absurd (clash b)
told_start i j (AddressNinth d) l f got b w = absurd (clash b)
told_start i j Border l f got b w = w
told_start i j (Write n) l f got b w = absurd (clash b)
told_start i j WriteNinth l f got b w = absurd (clash b)
told_start i j (Read n) l f got b w = absurd (clash b)
told_start i j ReadNinth l f got b w = absurd (clash b)
told_start i j ClosingBorder l f got b w = w

-- START and an address byte that a slave acknowledges, or does not
told_address : (i j a : ℕ) (d : Direction) (t : Turn) (is : List Item) (h : List Symbol) (f : Outcome) (got : List ℕ) → is_border t ≡ true → Spelt (START ∷ (ADDRESS a d A ∷ is)) h
    → ((l : List Symbol) → Spelt is l → Told (suc i) 0 (opened d) l f got) → Told i j t h f got
told_address i j a d t is h f got b s more =
    let u = split_start (ADDRESS a d A ∷ is) h s in
    let w = split_address a d A is u.0 u.2 in
    let l = w.1 in
    told_of i j t h (Start ∷ u.0) f got u.1 (told_start i j t u.0 f got b
    (told_of (suc i) j (Address 7) u.0 (w.0 ++ (heading_bit d ∷ (Zero ∷ l))) f got w.2
    (past_address 7 a (suc i) j w.0 (heading_bit d ∷ (Zero ∷ l)) f got w.3 (go d l (more l w.4)))))
  where
    go : (d : Direction) (l : List Symbol) → Told (suc i) 0 (opened d) l f got → Told (suc i) j (Address 0) (heading_bit d ∷ (Zero ∷ l)) f got
    go direction.Write l q = q
    go direction.Read l q = q

told_no_address : (i j a : ℕ) (d : Direction) (t : Turn) (h : List Symbol) → is_border t ≡ true → Spelt (START ∷ (ADDRESS a d N ∷ (STOP ∷ []))) h → Told i j t h (NoAddress i) []
told_no_address i j a d t h b s =
    let u = split_start (ADDRESS a d N ∷ (STOP ∷ [])) h s in
    let w = split_address a d N (STOP ∷ []) u.0 u.2 in
    let l = w.1 in
    told_of i j t h (Start ∷ u.0) (NoAddress i) [] u.1 (told_start i j t u.0 (NoAddress i) [] b
    (told_of (suc i) j (Address 7) u.0 (w.0 ++ (heading_bit d ∷ (One ∷ l))) (NoAddress i) [] w.2
    (past_address 7 a (suc i) j w.0 (heading_bit d ∷ (One ∷ l)) (NoAddress i) [] w.3 (go d l (split_stop l w.4)))))
  where
    go : (d : Direction) (l : List Symbol) → l ≡ Stop ∷ [] → Told (suc i) j (Address 0) (heading_bit d ∷ (One ∷ l)) (NoAddress i) []
    go direction.Write l e = rw e (refl, refl)
    go direction.Read l e = rw e (refl, refl)

-- bytes written from the j-th on
told_written : (i j : ℕ) (bs : List ℕ) (is : List Item) (h : List Symbol) (f : Outcome) (got : List ℕ) → Spelt (data_written bs ++ is) h
    → ((l : List Symbol) → Spelt is l → Told i (j + length bs) Border l f got) → Told i j Border h f got
told_written i j [] is h f got s more = subst (λ (n : ℕ). Told i n Border h f got) (let q : j + 0 ≡ j = omega arith in q) (more h s)
told_written i j (b ∷ bs) is h f got s more =
    let w = split_data b A (data_written bs ++ is) h s in
    told_of i j Border h (w.0 ++ (Zero ∷ w.1)) f got w.2 (past_byte b i j w.0 (Zero ∷ w.1) f got w.3
    (told_written i (suc j) bs is w.1 f got w.4
    (λ l q. subst (λ (n : ℕ). Told i n Border l f got) (let e : j + suc (length bs) ≡ suc j + length bs = omega arith in e) (more l q))))

told_no_byte : (i j b : ℕ) (h : List Symbol) → Spelt (DATA b N ∷ (STOP ∷ [])) h → Told (suc i) j Border h (NoByte i j) []
told_no_byte i j b h s =
    let w = split_data b N (STOP ∷ []) h s in
    told_of (suc i) j Border h (w.0 ++ (One ∷ w.1)) (NoByte i j) [] w.2
    (past_byte b (suc i) j w.0 (One ∷ w.1) (NoByte i j) [] w.3 (rw (split_stop w.1 w.4) (refl, refl)))

-- bytes read
told_byte : (i j b : ℕ) (h xs l : List Symbol) (f : Outcome) (got : List ℕ) → h ≡ xs ++ l → Bits 8 b xs → Told i j ReadNinth l f got → Told i j (Read 7) h f (b ∷ got)
told_byte i j b h xs l f got e c w =
    let r = past_read 7 b 0 i j xs l c in
    told_of i j (Read 7) h (xs ++ l) f (b ∷ got) e (r.0 ∙ w.0, r.1 ∙ ap (λ (m : ℕ). m ∷ read_bytes 0 ReadNinth l) (let q : 0 * 2 ^ 8 + b ≡ b = omega arith in q) ∙ ap (λ (bs : List ℕ). b ∷ bs) w.1)

told_read : (i j b : ℕ) (bs : List ℕ) (is : List Item) (h : List Symbol) (f : Outcome) (got : List ℕ) → Spelt (data_read (b ∷ bs) ++ is) h
    → ((l : List Symbol) → Spelt is l → Told i j ClosingBorder l f got) → Told i j (Read 7) h f ((b ∷ bs) ++ got)
told_read i j b [] is h f got s more =
    let w = split_data b N is h s in
    told_byte i j b h w.0 (One ∷ w.1) f got w.2 w.3 (more w.1 w.4)
told_read i j b (c ∷ bs) is h f got s more =
    let w = split_data b A (data_read (c ∷ bs) ++ is) h s in
    told_byte i j b h w.0 (Zero ∷ w.1) f ((c ∷ bs) ++ got) w.2 w.3 (told_read i j c bs is w.1 f got w.4 more)

told : (i j : ℕ) (ss : List Segment) (is : List Item) (f : Outcome) (got : List ℕ) (t : Turn) (h : List Symbol) → Frame i ss is f got → Each LawfulSegment ss → is_border t ≡ true → Spelt is h → Told i j t h f got
told i j ss is f got t h done l b s = told_stop i j t h b (split_stop h s)
told i j ss is f got t h (wrote {a = a} {bs = bs} {ss = later} {is = js} q) l b s =
    told_address i j a direction.Write t (data_written bs ++ js) h f got b s
    (λ m r. told_written (suc i) 0 bs js m f got r (λ n k. told (suc i) (0 + length bs) later js f got Border n q l.1 refl k))
told i j ss is f got t h (gave [] e q) l b s = absurd (omega (arith, l.0.2))
told i j ss is f got t h (gave {a = a} {ss = later} {is = js} {got = rest} (c ∷ bs) e q) l b s =
    told_address i j a direction.Read t (data_read (c ∷ bs) ++ js) h f ((c ∷ bs) ++ rest) b s
    (λ m r. told_read (suc i) 0 c bs js m f rest r (λ n k. told (suc i) 0 later js f rest ClosingBorder n q l.1 refl k))
told i j ss is f got t h (no_address {s = p}) l b s = told_no_address i j (address_of p) (direction_of p) t h b s
told i j ss is f got t h (no_byte {a = a} front c later) l b s =
    told_address i j a direction.Write t (data_written front ++ (DATA c N ∷ (STOP ∷ []))) h f [] b s
    (λ m r. told_written (suc i) 0 front (DATA c N ∷ (STOP ∷ [])) m f [] r (λ n k. subst (λ (m : ℕ). Told (suc i) m Border n (NoByte i (length front)) []) (let e : length front ≡ 0 + length front = omega arith in e) (told_no_byte i (length front) c n k)))

pub orders_are_framed : OrdersAreFramed
orders_are_framed o r h l p a =
    let w = planned o 0 h l.each (begun o r h l p a) in
    let e = told 0 0 o w.items w.outcome w.bytes Free h w.frame l.each refl w.spelt in
    record {
      items = w.items;
      frame =
          subst (λ (f : Outcome). Frame 0 o w.items f (read_bytes 0 Free h)) (sym e.0)
          (subst (λ (bs : List ℕ). Frame 0 o w.items w.outcome bs) (sym e.1) w.frame);
      spelt = w.spelt;
    }
