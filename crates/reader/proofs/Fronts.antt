-- The first word of what is left. Assumes nothing.
use Rattle.std.proofs.Common.{◌≡◌, ℕ, suc, subst₂, ◌+◌, ◌<◌, ◌≤◌, Bool, true, false, cond, eqb, eqb-true, List, [], ◌∷◌, ◌++◌, length, get_or, take, drop, sym, refl, ap, ◌∙◌, subst, inl, inr, arith, length-append}
use Rattle.std.proofs.lemmas.List.{take_at, drop_at, drop-drop, nil_from_length}
use Rattle.std.specs.List.{prefix_len}
use Rattle.reader.specs.Words.{Meaning, start, stop, byte, Bit, Bits, Reads, end, free, begins, ends, nine, Ended, Takes, NoFreeFirst}

abbrev First : Bool → List ℕ → ℕ → Meaning → List Meaning → Bool → List ℕ → ℕ → Type 0
First b slots p w ws b' slots' p' = (later : List Meaning) × (ws ≡ w ∷ later) × Reads b' slots' p' later

-- a byte's first slot carries a bit
pub first_bit : (slots s ys : List ℕ) → slots ≡ s ++ ys → length s ≡ 9 → Bits s → Bit (get_or slots 0 0)
first_bit slots [] ys e l b = absurd (omega arith)
first_bit slots (y ∷ s) ys e l b = subst Bit (sym (ap (λ (q : List ℕ). get_or q 0 0) e)) b.0

pub not_bit_1 : Bit 1 → ⊥
not_bit_1 (inl e) = omega arith
not_bit_1 (inr e) = omega arith

pub not_bit_2 : Bit 2 → ⊥
not_bit_2 (inl e) = omega arith
not_bit_2 (inr e) = omega arith

pub at_start : (b : Bool) (xs : List ℕ) (p : ℕ) → Takes b (2 ∷ xs) p (start p) true xs (p + 1)
at_start b xs p ws (begins {ws = later} r) = (later, refl, r)
at_start true xs p ws (nine {xs = ys} s e l bits r) = absurd (not_bit_2 (first_bit (2 ∷ xs) s ys e l bits))

pub at_stop : (b : Bool) (xs : List ℕ) (p : ℕ) → Takes b (1 ∷ xs) p (stop p) false xs (p + 1)
at_stop false xs p ws r = elim r [ ]
at_stop true xs p ws (ends {ws = later} r) = (later, refl, r)
at_stop true xs p ws (nine {xs = ys} s e l bits r) = absurd (not_bit_1 (first_bit (1 ∷ xs) s ys e l bits))

pub at_free : (xs : List ℕ) (p : ℕ) (ws : List Meaning) → Reads false (3 ∷ xs) p ws → Reads false xs (p + 1) ws
at_free xs p ws (free r) = r

pub at_end : (b : Bool) (p : ℕ) → Ended b [] p
at_end false p ws end = refl
at_end true p ws (nine {xs = ys} s e l bits r) = absurd (omega (arith, length-append s ys, ap length e))

-- neither S nor P nor a free slot: nine slots of a byte
pub at_nine : (b : Bool) (slots : List ℕ) (p : ℕ) → 0 < length slots → NoFreeFirst b slots → (get_or slots 0 0 ≡ 2 → ⊥) → (get_or slots 0 0 ≡ 1 → ⊥)
    → (ws : List Meaning) → Reads b slots p ws → (9 ≤ length slots) × First b slots p (byte p (take 9 slots)) ws true (drop 9 slots) (p + 9)
at_nine b slots p some none_first two one ws end = absurd (omega arith)
at_nine b slots p some none_first two one ws (free r) = absurd (none_first refl refl)
at_nine b slots p some none_first two one ws (begins r) = absurd (two refl)
at_nine b slots p some none_first two one ws (ends r) = absurd (one refl)
at_nine b slots p some none_first two one ws (nine {xs = ys} {ws = later} s e l bits r) =
    let t : take 9 slots ≡ s = ap (take 9) e ∙ take_at s ys 9 l in
    let d : drop 9 slots ≡ ys = ap (drop 9) e ∙ drop_at s ys 9 l in (
      omega (arith, length-append s ys, ap length e),
      (later, ap (λ (q : List ℕ). byte p q ∷ later) (sym t), subst (λ (q : List ℕ). Reads true q (p + 9) later) (sym d) r),
    )

-- nothing is left
pub take_end : (slots : List ℕ) (p : ℕ) → length slots < 1 → (b : Bool) → Ended b slots p
take_end slots p none b ws r = at_end b p ws (subst (λ (q : List ℕ). Reads b q p ws) (nil_from_length slots (omega arith)) r)

pub take_nine : (slots s : List ℕ) (p : ℕ) → 9 ≤ length slots → s ≡ take 9 slots → (0 < length slots → get_or slots 0 0 ≡ 2 → ⊥) → (0 < length slots → get_or slots 0 0 ≡ 1 → ⊥) → (b : Bool) → NoFreeFirst b slots → Takes b slots p (byte p s) true (drop 9 slots) (p + 9)
take_nine slots s p long es two one b none_first ws r =
    let some : 0 < length slots = omega arith in
    let t = (at_nine b slots p some none_first (two some) (one some) ws r).1 in
    (t.0, t.1 ∙ ap (λ (q : List ℕ). byte p q ∷ t.0) (sym es), t.2)

-- how many free slots come first
abbrev pub free_first : List ℕ → ℕ
free_first slots = prefix_len (λ x. eqb x 3) slots

drop_one : (x : ℕ) (xs : List ℕ) (n : ℕ) → drop (1 + n) (x ∷ xs) ≡ drop n xs
drop_one x xs n = ap (λ (m : ℕ). drop m (x ∷ xs)) (let q : 1 + n ≡ suc n = omega arith in q)

pub past_free : (slots : List ℕ) (p : ℕ) (ws : List Meaning) → Reads false slots p ws → Reads false (drop (free_first slots) slots) (p + free_first slots) ws
past_free [] p ws r = subst (λ (m : ℕ). Reads false [] m ws) (let q : p ≡ p + 0 = omega arith in q) r
past_free (x ∷ xs) p ws r = go (eqb x 3) refl (past_free xs (p + 1) ws)
  where
    go : (b : Bool) → eqb x 3 ≡ b → (Reads false xs (p + 1) ws → Reads false (drop (free_first xs) xs) (p + 1 + free_first xs) ws) → Reads false (drop (cond b (1 + free_first xs) 0) (x ∷ xs)) (p + cond b (1 + free_first xs) 0) ws
    go true e more =
        let later = more (at_free xs p ws (subst (λ (y : ℕ). Reads false (y ∷ xs) p ws) (eqb-true x 3 e) r)) in
        let n = free_first xs in
        let q : p + 1 + n ≡ p + (1 + n) = omega arith in
        subst₂ (λ (ys : List ℕ) (m : ℕ). Reads false ys m ws) (sym (drop_one x xs n)) q later
    go false e more = subst (λ (m : ℕ). Reads false (x ∷ xs) m ws) (let q : p ≡ p + 0 = omega arith in q) r

-- what a count of free slots is worth
pub record Counted (b : Bool) (slots : List ℕ) (n : ℕ) : Type 0 where
  pub same : (p : ℕ) (ws : List Meaning) → Reads b slots p ws → Reads b (drop n slots) (p + n) ws
  pub all : NoFreeFirst b (drop n slots)
  pub within : n ≤ length slots

-- past the free slots, which leave this part
skip : (b : Bool) (slots left part : List ℕ) (p f : ℕ) (ws : List Meaning) → left ≡ drop p slots → part ≡ drop f left → Counted b left f → Reads b (drop p slots) p ws → NoFreeFirst b part × Reads b part (p + f) ws
skip b slots left part p f ws el ep c r = (
  subst (NoFreeFirst b) (sym ep) c.all,
  subst (λ (q : List ℕ). Reads b q (p + f) ws) (sym ep) (c.same p ws (subst (λ (q : List ℕ). Reads b q p ws) (sym el) r)),
)

-- what is left after n slots of the part
rest_of : (slots left part : List ℕ) (p f n : ℕ) → left ≡ drop p slots → part ≡ drop f left → drop n part ≡ drop (p + f + n) slots
rest_of slots left part p f n el ep = ap (drop n) (ep ∙ ap (drop f) el ∙ drop-drop f p slots) ∙ drop-drop n (p + f) slots

pub next_some : (b b' : Bool) (slots left part : List ℕ) (p f n : ℕ) (w : Meaning) → left ≡ drop p slots → part ≡ drop f left → Counted b left f
    → ((c : Bool) → NoFreeFirst c part → Takes c part (p + f) w b' (drop n part) (p + f + n)) → Takes b (drop p slots) p w b' (drop (p + (f + n)) slots) (p + (f + n))
next_some b b' slots left part p f n w el ep c takes ws r =
    let k = skip b slots left part p f ws el ep c r in
    let t = takes b k.0 ws k.1 in
    let q : p + f + n ≡ p + (f + n) = omega arith in
    (t.0, t.1, subst (λ (m : ℕ). Reads b' (drop m slots) m t.0) q (subst (λ (q : List ℕ). Reads b' q (p + f + n) t.0) (rest_of slots left part p f n el ep) t.2))
