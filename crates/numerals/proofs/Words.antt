-- Words of a line, and lines taken apart. Assumes nothing.
use Rattle.std.proofs.Common.{◌≡◌, ℕ, zero, suc, ◌+◌, ◌*◌, ◌<◌, ◌≤◌, false, eqb, List, [], ◌∷◌, ◌++◌, length, map, get_or, take, None, sym, refl, ap, ◌∙◌, subst, arith, length-append, MatchOption}
use Rattle.std.specs.List.{All, slice_split, join_with_byte}
use Rattle.std.proofs.lemmas.Grind.{common_steps}
use Rattle.std.proofs.lemmas.List.Splits.{slice_split_none, slice_split_at, length-slice_split, join_with_byte-slice_split}
use Rattle.std.proofs.lemmas.List.{get_or_default, length-take-le}
use Rattle.std.specs.declared.option.Option as std
use Rattle.numerals.specs.Lines.{Digit, Numeral, Line, last, more, Is, Wrong, OneList, LongLinesAreWrong}

-- a slice of one byte
pub as_one : (P : List ℕ → Type 0) (w : List ℕ) → length w ≡ 1 → P (get_or w 0 0 ∷ []) → P w
as_one P [] e p = absurd (omega arith)
as_one P (a ∷ []) e p = p
as_one P (a ∷ (b ∷ w)) e p = absurd (omega arith)

-- each byte of a numeral is a digit
digit_at : (ds : List ℕ) (n k : ℕ) → k < length ds → Numeral ds n → (d : ℕ) × Digit (get_or ds k 0) d
digit_at [] n k l w = absurd w
digit_at (a ∷ []) n zero l w = (n, w)
digit_at (a ∷ (b ∷ [])) n zero l w = (w.0, w.2)
digit_at (a ∷ (b ∷ [])) n (suc zero) l w = (w.1, w.3)
digit_at (a ∷ (b ∷ (c ∷ []))) n zero l w = (w.0, w.3)
digit_at (a ∷ (b ∷ (c ∷ []))) n (suc zero) l w = (w.1, w.4)
digit_at (a ∷ (b ∷ (c ∷ []))) n (suc (suc zero)) l w = (w.2, w.5)
digit_at (a ∷ (b ∷ (c ∷ (d ∷ ds)))) n k l w = absurd w
digit_at (a ∷ []) n (suc k) l w = absurd (omega (arith, l))
digit_at (a ∷ (b ∷ [])) n (suc (suc k)) l w = absurd (omega (arith, l))
digit_at (a ∷ (b ∷ (c ∷ []))) n (suc (suc (suc k))) l w = absurd (omega (arith, l))

pub no_numeral : (ds : List ℕ) (k : ℕ) (r : std.Option ℕ) → k < length ds → r ≡ None → ((d : ℕ) → Digit (get_or ds k 0) d → ⊥)
    → MatchOption r ((n : ℕ) → Numeral ds n → ⊥) (λ n. Numeral ds n)
no_numeral ds k r l e f =
    subst (λ (o : std.Option ℕ). MatchOption o ((n : ℕ) → Numeral ds n → ⊥) (λ n. Numeral ds n)) (sym e) (λ n w. let d = digit_at ds n k l w in f d.0 d.1)

-- a numeral has no space, and one value
no_space : (ds : List ℕ) (n : ℕ) → Numeral ds n → All (λ b. eqb b 32 ≡ false) ds
no_space ds n w = λ k d l.
    let a = digit_at ds n k l w in
    let e = get_or_default ds k d 0 l in
    grind (arith, common_steps, a.1, e)

pub one_value : (ds : List ℕ) (m n : ℕ) → Numeral ds m → Numeral ds n → m ≡ n
one_value [] m n v w = absurd v
one_value (a ∷ []) m n v w = omega (arith, v.0, w.0)
one_value (a ∷ (b ∷ [])) m n v w = omega (arith, v.2.0, v.3.0, v.5, w.2.0, w.3.0, w.5)
one_value (a ∷ (b ∷ (c ∷ []))) m n v w = omega (arith, v.3.0, v.4.0, v.5.0, v.7, w.3.0, w.4.0, w.5.0, w.7)
one_value (a ∷ (b ∷ (c ∷ (d ∷ ds)))) m n v w = absurd v

-- the words of a line, cut at its spaces
abbrev pub words : List ℕ → List (List ℕ)
words line = slice_split (λ b. eqb b 32) line

-- each word is the numeral of the number at its place
abbrev pub Spells : List (List ℕ) → List ℕ → Type 0
Spells [] [] = Unit {0}
Spells [] (n ∷ ns) = ⊥
Spells (w ∷ ws) [] = ⊥
Spells (w ∷ ws) (n ∷ ns) = Numeral w n × Spells ws ns

words_of : (line ns : List ℕ) → Line line ns → Spells (words line) ns
words_of line ns (last {n = n} w) = subst (λ (ws : List (List ℕ)). Spells ws (n ∷ [])) (sym (slice_split_none (λ b. eqb b 32) line (no_space line n w))) (w, tt)
words_of line ns (more {n = n} {ns = later} ds rest e w r) =
    subst (λ (ws : List (List ℕ)). Spells ws (n ∷ later)) (sym (ap words e ∙ slice_split_at (λ b. eqb b 32) ds 32 rest (no_space ds n w) refl)) (w, words_of rest later r)

joined : (ws : List (List ℕ)) (ns : List ℕ) → 0 < length ws → Spells ws ns → Line (join_with_byte 32 ws) ns
joined [] ns l s = absurd (omega (arith, l))
joined (w ∷ ws) [] l s = absurd s
joined (w ∷ []) (n ∷ []) l s = last s.0
joined (w ∷ []) (n ∷ (m ∷ ns)) l s = absurd s.1
joined (w ∷ (v ∷ ws)) (n ∷ ns) l s = more w (join_with_byte 32 (v ∷ ws)) refl s.0 (joined (v ∷ ws) ns (omega arith) s.1)

pub line_of : (line ns : List ℕ) → Spells (words line) ns → Line line ns
line_of line ns s =
    subst (λ (l : List ℕ). Line l ns) (join_with_byte-slice_split 32 line) (joined (words line) ns (omega (arith, length-slice_split (λ b. eqb b 32) line)) s)

spells_long : (ws : List (List ℕ)) (ns : List ℕ) → Spells ws ns → length ws ≡ length ns
spells_long [] [] s = refl
spells_long [] (n ∷ ns) s = absurd s
spells_long (w ∷ ws) [] s = absurd s
spells_long (w ∷ ws) (n ∷ ns) s = omega (arith, spells_long ws ns s.1)

spells_at : (ws : List (List ℕ)) (ns : List ℕ) (k : ℕ) (d : List ℕ) → k < length ws → Spells ws ns → (n : ℕ) × Numeral (get_or ws k d) n
spells_at [] ns k d l s = absurd (omega (arith, l))
spells_at (w ∷ ws) [] k d l s = absurd s
spells_at (w ∷ ws) (n ∷ ns) zero d l s = (n, s.0)
spells_at (w ∷ ws) (n ∷ ns) (suc k) d l s = spells_at ws ns k d (omega (arith, l)) s.1

-- one word more, of what `next` gave so far
pub spells_push : {A : Type 0} (word : A → List ℕ) (xs : List A) (x : A) (ns ns' : List ℕ) (n : ℕ)
    → Spells (map word xs) ns → Numeral (word x) n → ns' ≡ ns ++ (n ∷ []) → Spells (map word (xs ++ (x ∷ []))) ns'
spells_push {A} word xs x ns ns' n s m e = subst (Spells (map word (xs ++ (x ∷ [])))) (sym e) (all xs ns s)
  where
    all : (xs : List A) (ns : List ℕ) → Spells (map word xs) ns → Spells (map word (xs ++ (x ∷ []))) (ns ++ (n ∷ []))
    all [] [] s = (m, tt)
    all [] (k ∷ ns) s = absurd s
    all (y ∷ xs) [] s = absurd s
    all (y ∷ xs) (k ∷ ns) s = (s.0, all xs ns s.1)

-- a word that is no numeral, and a word too many
pub wrong_word : {A : Type 0} (r : std.Option A) (P : A → Type 0) (line w : List ℕ) (k : ℕ) → r ≡ None → k < length (words line) → w ≡ get_or (words line) k w
    → ((n : ℕ) → Numeral w n → ⊥) → MatchOption r (Wrong line) P
wrong_word {A} r P line w k er l e f = subst (λ (o : std.Option A). MatchOption o (Wrong line) P) (sym er) none-such
  where
    none-such : Wrong line
    none-such ns is = let s = spells_at (words line) ns k w l (words_of line ns is.0) in f s.0 (subst (λ (q : List ℕ). Numeral q s.0) (sym e) s.1)

pub too_many : {A : Type 0} (r : std.Option A) (P : A → Type 0) (line : List ℕ) (ws : List (List ℕ)) (ns : List ℕ) → r ≡ None → length ws < length (words line)
    → Spells ws ns → 47 ≤ length ns → MatchOption r (Wrong line) P
too_many {A} r P line ws ns er l s full = subst (λ (o : std.Option A). MatchOption o (Wrong line) P) (sym er) none-such
  where
    none-such : Wrong line
    none-such ms is = omega (arith, is.1, spells_long (words line) ms (words_of line ms is.0), spells_long ws ns s, l, full)

-- how long a line is
numeral_long : (ds : List ℕ) (n : ℕ) → Numeral ds n → length ds ≤ 3
numeral_long [] n w = absurd w
numeral_long (a ∷ []) n w = omega arith
numeral_long (a ∷ (b ∷ [])) n w = omega arith
numeral_long (a ∷ (b ∷ (c ∷ []))) n w = omega arith
numeral_long (a ∷ (b ∷ (c ∷ (d ∷ ds)))) n w = absurd w

line_long : (line ns : List ℕ) → Line line ns → length line + 1 ≤ 4 * length ns
line_long line ns (last {n = n} w) = omega (arith, numeral_long line n w)
line_long line ns (more {n = n} {ns = later} ds rest e w r) =
    omega (arith, numeral_long ds n w, line_long rest later r, ap length e, length-append ds (32 ∷ rest))

no_long_line : (line : List ℕ) → 187 < length line → (ns : List ℕ) → Is line ns → ⊥
no_long_line line l ns w = omega (arith, line_long line ns w.0, w.1)

pub long_lines_are_wrong : LongLinesAreWrong
long_lines_are_wrong line l =
    (no_long_line line l, no_long_line (take 188 line) (let e = length-take-le 188 line (omega arith) in omega (arith, e)))

one_spelling : (ws : List (List ℕ)) (ns ms : List ℕ) → Spells ws ns → Spells ws ms → ns ≡ ms
one_spelling [] [] [] s t = refl
one_spelling [] [] (m ∷ ms) s t = absurd t
one_spelling [] (n ∷ ns) ms s t = absurd s
one_spelling (w ∷ ws) [] ms s t = absurd s
one_spelling (w ∷ ws) (n ∷ ns) [] s t = absurd t
one_spelling (w ∷ ws) (n ∷ ns) (m ∷ ms) s t = ap (λ (x : ℕ). x ∷ ns) (one_value w n m s.0 t.0) ∙ ap (λ (l : List ℕ). m ∷ l) (one_spelling ws ns ms s.1 t.1)

pub one_list : OneList
one_list line ns ms v w = one_spelling (words line) ns ms (words_of line ns v) (words_of line ms w)
