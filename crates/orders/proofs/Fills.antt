-- What the checks of fill give: the table that is written means the order asked for, and it is lawful. Assumes nothing.
use Rattle.std.proofs.Common.{◌≡◌, ℕ, ◌+◌, ◌<◌, ◌≤◌, Bool, true, false, cond, ◌&&◌, eqb, leb, List, [], ◌∷◌, ◌++◌, map, length, get_or, take, drop, set, sym, refl, ap, ◌∙◌, subst, arith, length-take, rules}
use Rattle.std.proofs.lemmas.List.{drop-drop, take_all, take_more_set, append_assoc, append-nil, at_drop_more, at_drop_all}
use Rattle.std.proofs.lemmas.Bool.{le-leb, and_parts, and_from}
use Rattle.orders.specs.Orders.{writing, reading, total}
use Rattle.orders.specs.declared.RawSegment.{RawSegment}
use Rattle.orders.specs.declared.Segment.{Segment}
use Rattle.bus.specs.declared.Direction.TheVariants.{Write, Read}
use Rattle.orders.specs.Tables.{meant, aimed, lawful_segment, lawful, inside}
use Rattle.orders.specs.Tests.{every, is_byte}
use Rattle.orders.proofs.Holds.{every_split}
use Rattle.orders.specs.Fills.{good_address, good_direction, good_count, writes, counts, write_counts, refused, asked, written, tabled}

-- what the checks let through
pub record Passed (ss : List RawSegment) (bs : List ℕ) : Type 0 where
  pub some : 1 ≤ length ss
  pub few : length ss ≤ 4
  pub addresses : every good_address ss ≡ true
  pub directions : every good_direction ss ≡ true
  pub reads : every good_count ss ≡ true
  pub small : counts ss ≤ 32
  pub exact : length bs ≡ write_counts ss

pub passed : (ss : List RawSegment) (bs : List ℕ) → refused ss bs ≡ 0 → Passed ss bs
passed ss bs e = search rules

-- the table means the order asked for
meant_tabled : (bs : List ℕ) (ss : List RawSegment) (at : ℕ) → map (meant bs) (tabled ss at) ≡ asked ss (drop at bs)
meant_tabled bs [] at = refl
meant_tabled bs (s ∷ ss) at = go (eqb s.direction 0) (λ k. meant_tabled bs ss k)
  where
    go : (w : Bool) → ((k : ℕ) → map (meant bs) (tabled ss k) ≡ asked ss (drop k bs))
        → aimed (cond w Write Read) s.address s.count (take s.count (drop at bs)) ∷ map (meant bs) (tabled ss (at + cond w s.count 0))
        ≡ cond w (writing s.address (take s.count (drop at bs)) ∷ asked ss (drop s.count (drop at bs))) (reading s.address s.count ∷ asked ss (drop at bs))
    go true ih = let e = ih (at + s.count) in let d = drop-drop s.count at bs in rw d (cc)
    go false ih = let e = ih at in let z : at + 0 ≡ at = omega arith in rw z (cc)

-- every segment that writes has its bytes
inside_tabled : (m : ℕ) (ss : List RawSegment) (at : ℕ) → at + write_counts ss ≤ m → at + counts ss ≤ 32 → every (inside m) (tabled ss at) ≡ true
inside_tabled m [] at l c = refl
inside_tabled m (s ∷ ss) at l c = go (eqb s.direction 0) l (λ k p q. inside_tabled m ss k p q)
  where
    go : (w : Bool) → at + (cond w s.count 0 + write_counts ss) ≤ m → ((k : ℕ) → k + write_counts ss ≤ m → k + counts ss ≤ 32 → every (inside m) (tabled ss k) ≡ true)
        → (elim (cond w Write Read) [ Write ↦ leb (at + s.count) m | Read ↦ leb (at + s.count) 32 ] && every (inside m) (tabled ss (at + cond w s.count 0))) ≡ true
    go true h ih = and_from (leb (at + s.count) m) (every (inside m) (tabled ss (at + s.count))) (le-leb (at + s.count) m (omega arith)) (ih (at + s.count) (omega arith) (omega arith))
    go false h ih = and_from (leb (at + s.count) 32) (every (inside m) (tabled ss (at + 0))) (le-leb (at + s.count) 32 (omega arith)) (ih (at + 0) (omega arith) (omega arith))

length_asked : (ss : List RawSegment) (bs : List ℕ) → length (asked ss bs) ≡ length ss
length_asked [] bs = refl
length_asked (s ∷ ss) bs = go (eqb s.direction 0) (λ k. length_asked ss k)
  where
    go : (w : Bool) → ((k : List ℕ) → length (asked ss k) ≡ length ss)
        → length (cond w (writing s.address (take s.count bs) ∷ asked ss (drop s.count bs)) (reading s.address s.count ∷ asked ss bs)) ≡ length (s ∷ ss)
    go true ih = let e = ih (drop s.count bs) in cc
    go false ih = let e = ih bs in cc

total_asked : (ss : List RawSegment) (bs : List ℕ) → total (asked ss bs) ≤ counts ss
total_asked [] bs = omega arith
total_asked (s ∷ ss) bs = go (eqb s.direction 0) (λ k. total_asked ss k)
  where
    go : (w : Bool) → ((k : List ℕ) → total (asked ss k) ≤ counts ss)
        → total (cond w (writing s.address (take s.count bs) ∷ asked ss (drop s.count bs)) (reading s.address s.count ∷ asked ss bs)) ≤ s.count + counts ss
    go true ih = let e = ih (drop s.count bs) in let l = length-take s.count bs in omega arith
    go false ih = let e = ih bs in omega arith

each_asked : (ss : List RawSegment) (bs : List ℕ) → every is_byte bs ≡ true → every good_address ss ≡ true → every good_direction ss ≡ true → every good_count ss ≡ true
    → every lawful_segment (asked ss bs) ≡ true
each_asked [] bs b a d r = refl
each_asked (s ∷ ss) bs b a d r = go (eqb s.direction 0) refl (λ k h. each_asked ss k h pa.1 pd.1 pr.1)
  where
    pa : (good_address s ≡ true) × (every good_address ss ≡ true)
    pa = and_parts (good_address s) (every good_address ss) a

    pd : (good_direction s ≡ true) × (every good_direction ss ≡ true)
    pd = and_parts (good_direction s) (every good_direction ss) d

    pr : (good_count s ≡ true) × (every good_count ss ≡ true)
    pr = and_parts (good_count s) (every good_count ss) r

    go : (w : Bool) → eqb s.direction 0 ≡ w → ((k : List ℕ) → every is_byte k ≡ true → every lawful_segment (asked ss k) ≡ true)
        → every lawful_segment (cond w (writing s.address (take s.count bs) ∷ asked ss (drop s.count bs)) (reading s.address s.count ∷ asked ss bs)) ≡ true
    go true e ih = let p = every_split is_byte s.count bs b in let t = ih (drop s.count bs) p.1 in search rules
    go false e ih = let t = ih bs b in search rules

lawful_asked : (ss : List RawSegment) (bs : List ℕ) → every is_byte bs ≡ true → Passed ss bs → lawful (asked ss bs) ≡ true
lawful_asked ss bs b p =
    let l = length_asked ss bs in
    let t = total_asked ss bs in
    let e = each_asked ss bs b p.addresses p.directions p.reads in
    and_from (leb 1 (length (asked ss bs))) (leb (length (asked ss bs)) 4 && (every lawful_segment (asked ss bs) && leb (total (asked ss bs)) 32)) (le-leb 1 (length (asked ss bs)) (omega arith))
    (and_from (leb (length (asked ss bs)) 4) (every lawful_segment (asked ss bs) && leb (total (asked ss bs)) 32) (le-leb (length (asked ss bs)) 4 (omega arith))
    (and_from (every lawful_segment (asked ss bs)) (leb (total (asked ss bs)) 32) e (le-leb (total (asked ss bs)) 32 (omega arith))))

abbrev pub none : RawSegment
none = record { address = 0; direction = 0; count = 0 }

-- one segment more is written
pub tabled_more : (copy : List Segment) (ss : List RawSegment) (i at : ℕ) (x : Segment) (r : ℕ) → i < length copy → i < length ss
    → x ≡ written (get_or ss i none) at → r ≡ at + writes (get_or ss i none) → take i copy ++ tabled (drop i ss) at ≡ tabled ss 0
    → take (i + 1) (set copy i x) ++ tabled (drop (i + 1) ss) r ≡ tabled ss 0
tabled_more copy ss i at x r room here e f inv =
    let t = take_more_set copy i x room in
    let a = append_assoc (take i copy) (x ∷ []) (tabled (drop (i + 1) ss) r) in
    let m : tabled (drop i ss) at ≡ written (get_or ss i none) at ∷ tabled (drop (i + 1) ss) (at + writes (get_or ss i none)) = at_drop_more (λ l. tabled l at) ss i none here in
    let x' : x ∷ tabled (drop (i + 1) ss) r ≡ tabled (drop i ss) at = cc in
    rw (t, a, x') inv

-- all segments are written
tabled_all : (copy : List Segment) (ss : List RawSegment) (i at : ℕ) → i ≡ length ss → take i copy ++ tabled (drop i ss) at ≡ tabled ss 0 → take (length ss) copy ≡ tabled ss 0
tabled_all copy ss i at e inv =
    let d : tabled (drop i ss) at ≡ [] = at_drop_all (λ l. tabled l at) ss i (omega arith) in
    let a = append-nil (take i copy) in
    sym (ap (λ n. take n copy) e) ∙ sym a ∙ sym (ap (λ l. take i copy ++ l) d) ∙ inv

writes_less : (ss : List RawSegment) → write_counts ss ≤ counts ss
writes_less [] = omega arith
writes_less (s ∷ ss) = go (eqb s.direction 0) (writes_less ss)
  where
    go : (w : Bool) → write_counts ss ≤ counts ss → cond w s.count 0 + write_counts ss ≤ s.count + counts ss
    go true h = omega arith
    go false h = omega arith

-- the order that is written, of this table and the bytes held
pub record Written (table : List Segment) (held : List ℕ) (ss : List RawSegment) (bs : List ℕ) : Type 0 where
  pub means : map (meant held) table ≡ asked ss bs
  pub there : every (inside (length held)) table ≡ true
  pub kept : lawful (map (meant held) table) ≡ true

pub written_whole : (table copy : List Segment) (held : List ℕ) (ss : List RawSegment) (bs : List ℕ) (i at : ℕ)
    → refused ss bs ≡ 0 → every is_byte held ≡ true → held ≡ take 32 bs → table ≡ take 4 (take (length ss) copy)
    → i ≡ length ss → take i copy ++ tabled (drop i ss) at ≡ tabled ss 0 → Written table held ss bs
written_whole table copy held ss bs i at e b h t n inv = subst (λ (l : List ℕ). Written table l ss bs) (sym same) (record {
  means = means;
  there = ap (every (inside (length bs))) is ∙ inside_tabled (length bs) ss 0 (omega (arith, p.exact)) (omega (arith, p.small));
  kept = ap lawful means ∙ lawful_asked ss bs (rw same at b) p;
})
  where
    p : Passed ss bs
    p = passed ss bs e

    same : held ≡ bs
    same = h ∙ take_all 32 bs (omega (arith, p.exact, p.small, writes_less ss))

    is : table ≡ tabled ss 0
    is = t ∙ take_all 4 (take (length ss) copy) (simp length-take (omega (arith, p.few))) ∙ tabled_all copy ss i at n inv

    means : map (meant bs) table ≡ asked ss bs
    means = ap (map (meant bs)) is ∙ meant_tabled bs ss 0
