-- Devices whose first written byte is a place, and whose place moves on among so many, the first after the last. Assumes nothing.
use Rattle.std.proofs.Common.{◌≡◌, ℕ, zero, suc, ◌+◌, ◌%◌, ◌<◌, ◌≤◌, Bool, true, false, cond, eqb, ltb, List, [], ◌∷◌, length, get_or, set, Ok, sym, refl, ap, ◌∙◌, subst, mod-lt, mod-eq_of_lt, arith, length-set, get_or-set_other, get_or-set_same, lt-ltb, eq-eqb, eqb-true}
use native.Mathlib.Nat.{mod-add-mod}
use borrow.Author.Tests.{eqb-false}
use Rattle.bus.specs.declared.Symbol.{Symbol}
use Rattle.bus.specs.Turns.{busy}
use Rattle.bus.specs.Banks.{Bank, Single}
use Rattle.orders.specs.declared.Outcome.TheVariants.{Done, NoAddress, NoByte}
use Rattle.orders.specs.Orders.{Segment, writing, reading, Order, LawfulSegment, Each, Lawful, AllBytes}
use Rattle.scripts.specs.Alone.{AloneHistory}
use Rattle.slaves.specs.Slave.{Slave, Told, befallen, settle, replies, told, tell}
use Rattle.slaves.specs.Machine.{slave_of}
use Rattle.slaves.proofs.Machines.{moves}
use Rattle.chips.specs.Store.{Store, Rule, pointed}
use Rattle.chips.specs.Rules.{moved_on}
use Rattle.chips.specs.Chips.{Chip, chip, chip_step}
use Rattle.chip_laws.specs.Served.{Served, current, ended, preceded, brought, moved_past, takes_in, serves}
use Rattle.chip_laws.specs.Laws.{Gives, Brings, Ready, only, after, read_from, counted}
use Rattle.std.proofs.lemmas.List.{append-nil}
use Rattle.chip_laws.proofs.Serving.{served}

-- bytes
pub get_or_small : (bs : List ℕ) (k : ℕ) → AllBytes bs → get_or bs k 0 < 256
get_or_small [] k w = omega arith
get_or_small (b ∷ bs) zero w = w.0
get_or_small (b ∷ bs) (suc k) w = get_or_small bs k w.1

pub set_small : (bs : List ℕ) (k b : ℕ) → AllBytes bs → b < 256 → AllBytes (set bs k b)
set_small [] k b w l = tt
set_small (x ∷ bs) zero b w l = (l, w.1)
set_small (x ∷ bs) (suc k) b w l = (w.0, set_small bs k b w.1 l)

pub set_at : (bs : List ℕ) (q b p : ℕ) → q < length bs → get_or (set bs q b) p 0 ≡ cond (eqb p q) b (get_or bs p 0)
set_at bs q b p l = go (eqb p q) refl
  where
    go : (v : Bool) → eqb p q ≡ v → get_or (set bs q b) p 0 ≡ cond v b (get_or bs p 0)
    go true e = ap (λ (x : ℕ). get_or (set bs q b) x 0) (eqb-true p q e) ∙ get_or-set_same bs q b 0 l
    go false e = get_or-set_other bs q p b 0 (eqb-false p q e)

pub counted_same : (n : ℕ) (f g : ℕ → ℕ) → ((k : ℕ) → f k ≡ g k) → counted n f ≡ counted n g
counted_same zero f g e = refl
counted_same (suc n) f g e = rw (e 0, counted_same n (λ k. f (suc k)) (λ k. g (suc k)) (λ k. e (suc k))) refl

pub counted_all : (bs : List ℕ) (f : ℕ → ℕ) → ((k : ℕ) → k < length bs → f k ≡ get_or bs k 0) → counted (length bs) f ≡ bs
counted_all [] f e = refl
counted_all (b ∷ bs) f e = rw (e 0 (omega arith), counted_all bs (λ k. f (suc k)) (λ k l. e (suc k) (omega (arith, l)))) refl

-- lawful orders
pub lawful_write : (a : ℕ) (bs : List ℕ) → 8 ≤ a → a ≤ 119 → AllBytes bs → length bs ≤ 32 → Lawful (writing a bs ∷ [])
lawful_write a bs lo hi small few = record { some_segment = omega arith; few_segments = omega arith; each = ((lo, hi, small), tt); few_bytes = omega arith }

pub lawful_read : (a n : ℕ) → 8 ≤ a → a ≤ 119 → 1 ≤ n → n ≤ 32 → Lawful (reading a n ∷ [])
lawful_read a n lo hi some few = record { some_segment = omega arith; few_segments = omega arith; each = ((lo, hi, some), tt); few_bytes = omega arith }

pub lawful_from : (a q n : ℕ) → 8 ≤ a → a ≤ 119 → q < 256 → 1 ≤ n → n ≤ 31 → Lawful (read_from a q n)
lawful_from a q n lo hi small some few = record { some_segment = omega arith; few_segments = omega arith; each = ((lo, hi, (small, tt)), ((lo, hi, some), tt)); few_bytes = omega arith }

-- orders of one chip, at its own address
module _ (r : Rule) (a : ℕ) where
  pub serves_write : (bs : List ℕ) (s : Store) → serves r a 0 (writing a bs ∷ []) s ≡ takes_in r 0 0 true bs (serves r a 1 []) s
  serves_write bs s = rw (eq-eqb a a refl) refl

  pub serves_read : (n : ℕ) (s : Store) → serves r a 0 (reading a n ∷ []) s ≡ record { outcome = Done; bytes = brought r n s; store = moved_past r n s }
  serves_read n s = rw (eq-eqb a a refl, append-nil (brought r n s)) refl

  pub serves_from : (q n : ℕ) (s : Store) → r.accepts true q ≡ true
      → serves r a 0 (read_from a q n) s ≡ record { outcome = Done; bytes = brought r n (r.wrote true q s); store = moved_past r n (r.wrote true q s) }
  serves_from q n s e = rw (eq-eqb a a refl, e, append-nil (brought r n (r.wrote true q s))) refl

-- whatever written and sent bytes keep, orders keep
module _ (r : Rule) (a : ℕ) (P : Store → Type 0)
    (on-write : (f : Bool) (b : ℕ) (s : Store) → b < 256 → P s → P (r.wrote f b s))
    (on-sent : (s : Store) → P s → P (r.sent s)) where
  past_keeps : (n : ℕ) (s : Store) → P s → P (moved_past r n s)
  past_keeps zero s p = p
  past_keeps (suc n) s p = past_keeps n (r.sent s) (on-sent s p)

  takes_keeps : (i j : ℕ) (f : Bool) (bs : List ℕ) (rest : Store → Served) (s : Store) → AllBytes bs → ((s : Store) → P s → P (rest s).store) → P s → P (takes_in r i j f bs rest s).store
  takes_keeps i j f [] rest s w later p = later s p
  takes_keeps i j f (b ∷ bs) rest s w later p = go (r.accepts f b) (takes_keeps i (suc j) false bs rest (r.wrote f b s) w.1 later (on-write f b s w.0 p))
    where
      go : (v : Bool) → P (takes_in r i (suc j) false bs rest (r.wrote f b s)).store
          → P (cond v (takes_in r i (suc j) false bs rest (r.wrote f b s)) (ended (NoByte i j) (r.wrote f b s))).store
      go true q = q
      go false q = on-write f b s w.0 p

  pub serves_keeps : (ss : List Segment) (i : ℕ) (s : Store) → Each LawfulSegment ss → P s → P (serves r a i ss s).store
  serves_keeps [] i s l p = p
  serves_keeps (writing b bs ∷ ss) i s l p = go (eqb b a) (takes_keeps i 0 true bs (serves r a (suc i) ss) s l.0.2 (λ s q. serves_keeps ss (suc i) s l.1 q) p)
    where
      go : (v : Bool) → P (takes_in r i 0 true bs (serves r a (suc i) ss) s).store → P (cond v (takes_in r i 0 true bs (serves r a (suc i) ss) s) (ended (NoAddress i) s)).store
      go true q = q
      go false q = p
  serves_keeps (reading b n ∷ ss) i s l p = go (eqb b a) (serves_keeps ss (suc i) (moved_past r n s) l.1 (past_keeps n s p))
    where
      go : (v : Bool) → P (serves r a (suc i) ss (moved_past r n s)).store
          → P (cond v (preceded (brought r n s) (serves r a (suc i) ss (moved_past r n s))) (ended (NoAddress i) s)).store
      go true q = q
      go false q = p

settled_so : (q b : ℕ) (k : Slave) → busy k.turn ≡ false → ltb q k.size ≡ true → settle q b k ≡ befallen (Told q b) k
settled_so q b k e f = rw (e, f) refl

-- m bytes, and the place among them
pub record Fine (m : ℕ) (s : Store) : Type 0 where
  pub count : length s.bytes ≡ m
  pub all_bytes : AllBytes s.bytes
  pub within : s.place < m

-- such a device
pub record Cyclic (r : Rule) (m : ℕ) : Type 0 where
  pub some : 0 < m
  pub few : m ≤ 256
  pub moves_on : (s : Store) → r.sent s ≡ moved_on m s
  pub accepts : (q : ℕ) → q < m → r.accepts true q ≡ true
  pub points : (q : ℕ) (s : Store) → q < m → r.wrote true q s ≡ pointed q s
  pub keeps : (f : Bool) (b : ℕ) (s : Store) → b < 256 → Fine m s → Fine m (r.wrote f b s)

module _ (r : Rule) (m : ℕ) (d : Cyclic r m) where
  brought_cyclic : (n : ℕ) (s : Store) → AllBytes s.bytes → s.place < m → brought r n s ≡ counted n (λ k. get_or s.bytes ((s.place + k) % m) 0)
  brought_cyclic zero s w l = refl
  brought_cyclic (suc n) s w l =
      let p = s.place in
      let here : (p + 0) % m ≡ p = ap (λ (x : ℕ). x % m) (let e : p + 0 ≡ p = omega arith in e) ∙ mod-eq_of_lt l in
      let byte : current s ≡ get_or s.bytes ((p + 0) % m) 0 = mod-eq_of_lt (get_or_small s.bytes p w) ∙ ap (λ (x : ℕ). get_or s.bytes x 0) (sym here) in
      let later : brought r n (r.sent s) ≡ counted n (λ k. get_or s.bytes ((p + suc k) % m) 0) =
      ap (brought r n) (d.moves_on s) ∙ brought_cyclic n (moved_on m s) w (mod-lt (p + 1) d.some)
      ∙ counted_same n (λ k. get_or s.bytes (((p + 1) % m + k) % m) 0) (λ k. get_or s.bytes ((p + suc k) % m) 0)
      (λ k. ap (λ (x : ℕ). get_or s.bytes x 0) (mod-add-mod (p + 1) m k ∙ ap (λ (x : ℕ). x % m) (let e : p + 1 + k ≡ p + suc k = omega arith in e))) in
      rw (byte, later) refl

  past_cyclic : (n : ℕ) (s : Store) → s.place < m → moved_past r n s ≡ pointed ((s.place + n) % m) s
  past_cyclic zero s l =
      let p = s.place in
      let here : p ≡ (p + 0) % m = sym (ap (λ (x : ℕ). x % m) (let e : p + 0 ≡ p = omega arith in e) ∙ mod-eq_of_lt l) in
      ap (λ (x : ℕ). pointed x s) here
  past_cyclic (suc n) s l =
      let p = s.place in
      ap (moved_past r n) (d.moves_on s) ∙ past_cyclic n (moved_on m s) (mod-lt (p + 1) d.some)
      ∙ ap (λ (x : ℕ). pointed x s) (mod-add-mod (p + 1) m n ∙ ap (λ (x : ℕ). x % m) (let e : p + 1 + n ≡ p + suc n = omega arith in e))

  -- what a read brings, and what it leaves
  abbrev read_cyclic : ℕ → Store → Served
  read_cyclic n s = record { outcome = Done; bytes = counted n (λ k. get_or s.bytes ((s.place + k) % m) 0); store = pointed ((s.place + n) % m) s }

  cyclic : (n : ℕ) (s : Store) → AllBytes s.bytes → s.place < m → ◌≡◌ {A = Served} (record { outcome = Done; bytes = brought r n s; store = moved_past r n s }) (read_cyclic n s)
  cyclic n s w l = rw (brought_cyclic n s w l, past_cyclic n s l) refl

  module _ (c : Chip) (w : Ready m c) where
    abbrev a : ℕ
    a = c.port.address

    pub gives : (o : Order) (v : Served) → Lawful o → serves r a 0 o c.store ≡ v → Gives r c o v
    gives o v l e = subst (λ (u : Served). Gives r c o u) e (served r c o w.free l)

    pub acknowledges : Gives r c (writing a [] ∷ []) (ended Done c.store)
    acknowledges = gives (writing a [] ∷ []) (ended Done c.store) (lawful_write a [] w.lowest w.highest tt (omega arith)) (serves_write r a [] c.store)

    pub reads : (n : ℕ) → 1 ≤ n → n ≤ 32 → Gives r c (reading a n ∷ []) (read_cyclic n c.store)
    reads n some few =
        gives (reading a n ∷ []) (read_cyclic n c.store) (lawful_read a n w.lowest w.highest some few)
        (serves_read r a n c.store ∙ cyclic n c.store w.all_bytes w.within)

    pub points : (q : ℕ) → q < m → Gives r c (writing a (q ∷ []) ∷ []) (ended Done (pointed q c.store))
    points q l =
        gives (writing a (q ∷ []) ∷ []) (ended Done (pointed q c.store))
        (lawful_write a (q ∷ []) w.lowest w.highest (omega (arith, d.few), tt) (omega arith))
        (serves_write r a (q ∷ []) c.store ∙ rw (d.accepts q l, d.points q c.store l) refl)

    pub reads_from : (q n : ℕ) → q < m → 1 ≤ n → n ≤ 31 → Gives r c (read_from a q n) (read_cyclic n (pointed q c.store))
    reads_from q n l some few =
        gives (read_from a q n) (read_cyclic n (pointed q c.store)) (lawful_from a q n w.lowest w.highest (omega (arith, d.few)) some few)
        (serves_from r a q n c.store (d.accepts q l)
        ∙ ap (λ (s : Store). record { outcome = Done; bytes = brought r n s; store = moved_past r n s }) (d.points q c.store l)
        ∙ cyclic n (pointed q c.store) w.all_bytes l)

    -- what it is after an order
    pub stays : (o : Order) → Lawful o → (h : List Symbol) → AloneHistory o (replies (only r c)) h → Ready m (after r c h)
    stays o l h alone =
        let s = (serves r a 0 o c.store).store in
        let fine : Fine m s =
        serves_keeps r a (Fine m) d.keeps
        (λ s f. rw (d.moves_on s) (record { count = f.count; all_bytes = f.all_bytes; within = mod-lt (s.place + 1) d.some }))
        o 0 c.store l.each (record { count = w.count; all_bytes = w.all_bytes; within = w.within }) in
        subst (λ (x : Chip). Ready m x) (sym ((served r c o w.free l).leaves h alone))
        (record { free = refl; lowest = w.lowest; highest = w.highest; count = fine.count; all_bytes = fine.all_bytes; within = fine.within })

    -- a told byte
    module _ (q b : ℕ) (l : q < m) (small : b < 256) where
      abbrev changed : Chip
      changed = chip_step r c (Told q b)

      in_size : q < length c.store.bytes
      in_size = rw w.count l

      pub is_told : told 0 q (only r c) ≡ Ok tt
      is_told = rw (w.free, lt-ltb q (length c.store.bytes) in_size) refl

      told_only : tell 0 q b (only r c) ≡ only r changed
      told_only =
          ap (λ (k : Slave). Single k)
          (settled_so q b (slave_of (chip r) c) (ap busy w.free) (lt-ltb q (length c.store.bytes) in_size) ∙ sym (moves (chip r) c (Told q b)))

      pub still_ready : Ready m changed
      still_ready = record {
        free = w.free;
        lowest = w.lowest;
        highest = w.highest;
        count = length-set c.store.bytes q b ∙ w.count;
        all_bytes = set_small c.store.bytes q b w.all_bytes small;
        within = w.within;
      }

  module _ (c : Chip) (w : Ready m c) (q b : ℕ) (l : q < m) (small : b < 256) where
    -- the byte at p then
    abbrev byte_then : ℕ → ℕ
    byte_then p = cond (eqb p q) b (get_or c.store.bytes p 0)

    first : (p : ℕ) → p < m → counted 1 (λ k. get_or (set c.store.bytes q b) ((p + k) % m) 0) ≡ byte_then p ∷ []
    first p in_p =
        let here : (p + 0) % m ≡ p = ap (λ (x : ℕ). x % m) (let e : p + 0 ≡ p = omega arith in e) ∙ mod-eq_of_lt in_p in
        rw (here, set_at c.store.bytes q b p (in_size c w q b l small)) refl

    brings : (o : Order) (bs : List ℕ) → Brings (only r (changed c w q b l small)) o bs → Brings (tell 0 q b (only r c)) o bs
    brings o bs x = subst (λ (ss : Bank Slave). Brings ss o bs) (sym (told_only c w q b l small)) x

    pub told_from : (p : ℕ) → p < m → Brings (tell 0 q b (only r c)) (read_from c.port.address p 1) (byte_then p ∷ [])
    told_from p in_p =
        brings (read_from c.port.address p 1) (byte_then p ∷ [])
        (subst (λ (bs : List ℕ). Brings (only r (changed c w q b l small)) (read_from c.port.address p 1) bs) (first p in_p)
        (reads_from (changed c w q b l small) (still_ready c w q b l small) p 1 in_p (omega arith) (omega arith)).answer)

    pub told_in_place : Brings (tell 0 q b (only r c)) (reading c.port.address 1 ∷ []) (byte_then c.store.place ∷ [])
    told_in_place =
        brings (reading c.port.address 1 ∷ []) (byte_then c.store.place ∷ [])
        (subst (λ (bs : List ℕ). Brings (only r (changed c w q b l small)) (reading c.port.address 1 ∷ []) bs) (first c.store.place w.within)
        (reads (changed c w q b l small) (still_ready c w q b l small) 1 (omega arith) (omega arith)).answer)
