-- Texts of numbers: a loop that adds one number after the other, and what is read of them. Assumes nothing.
use Rattle.std.proofs.Common.{◌≡◌, ℕ, ◌+◌, ◌/◌, ◌%◌, ◌<◌, ◌≤◌, Bool, true, false, ltb, List, [], ◌∷◌, ◌++◌, decimal, sym, refl, ap, ◌∙◌, subst, arith, ltb-false, ltb-true}
use Rattle.std.proofs.lemmas.List.{append_assoc, append-nil}
use Rattle.std.proofs.lemmas.Fmt.{decimal_digit, decimal_step}
use Rattle.numerals.specs.Lines.{Numeral, Line, last, more, text, further, ReadsBack}

further_append : (ms ns : List ℕ) → further (ms ++ ns) ≡ further ms ++ further ns
further_append [] ns = refl
further_append (m ∷ ms) ns =
    ap (λ (t : List ℕ). 32 ∷ (decimal m ++ t)) (further_append ms ns) ∙ ap (λ (t : List ℕ). 32 ∷ t) (sym (append_assoc (decimal m) (further ms) (further ns)))

-- out is the text so far, out' the one with the next number
pub further_push : (first ns : List ℕ) (n : ℕ) (out out' : List ℕ) → out ≡ first ++ further ns → out' ≡ out ++ (32 ∷ decimal n)
    → out' ≡ first ++ further (ns ++ (n ∷ []))
further_push first ns n out out' e e' =
    e' ∙ ap (λ (t : List ℕ). t ++ (32 ∷ decimal n)) e ∙ append_assoc first (further ns) (32 ∷ decimal n)
    ∙ ap (λ (t : List ℕ). first ++ (further ns ++ (32 ∷ t))) (sym (append-nil (decimal n))) ∙ ap (λ (t : List ℕ). first ++ t) (sym (further_append ns (n ∷ [])))

-- numbers of one, two and three digits
two_digits : (n : ℕ) → 10 ≤ n → n < 100 → decimal n ≡ (48 + n / 10) ∷ ((48 + n % 10) ∷ [])
two_digits n l h = decimal_step n l (omega arith) ∙ ap (λ (ds : List ℕ). ds ++ ((48 + n % 10) ∷ [])) (decimal_digit (n / 10) (omega arith))

three_digits : (n : ℕ) → 100 ≤ n → n < 1000 → decimal n ≡ (48 + n / 10 / 10) ∷ ((48 + n / 10 % 10) ∷ ((48 + n % 10) ∷ []))
three_digits n l h = decimal_step n (omega arith) (omega arith) ∙ ap (λ (ds : List ℕ). ds ++ ((48 + n % 10) ∷ [])) (two_digits (n / 10) (omega arith) (omega arith))

numeral : (n : ℕ) → n ≤ 999 → Numeral (decimal n) n
numeral n h = go (ltb n 10) refl
  where
    further_than : (b : Bool) → ltb n 100 ≡ b → 10 ≤ n → Numeral (decimal n) n
    further_than true t l =
        let s = ltb-true n 100 t in
        subst (λ (ds : List ℕ). Numeral ds n) (sym (two_digits n l s)) (n / 10, n % 10, (refl, omega arith), (refl, omega arith), omega arith, omega arith)
    further_than false t l =
        let s = ltb-false n 100 t in
        subst (λ (ds : List ℕ). Numeral ds n) (sym (three_digits n s (omega arith)))
        (n / 10 / 10, n / 10 % 10, n % 10, (refl, omega arith), (refl, omega arith), (refl, omega arith), omega arith, omega arith)

    go : (b : Bool) → ltb n 10 ≡ b → Numeral (decimal n) n
    go true t = let s = ltb-true n 10 t in subst (λ (ds : List ℕ). Numeral ds n) (sym (decimal_digit n s)) (refl, s)
    go false t = further_than (ltb n 100) refl (ltb-false n 10 t)

pub reads_back : ReadsBack
reads_back [] l e = absurd (omega arith)
reads_back (n ∷ []) l e = subst (λ (t : List ℕ). Line t (n ∷ [])) (sym (append-nil (decimal n))) (last (numeral n e.0))
reads_back (n ∷ (m ∷ ns)) l e = more (decimal n) (text (m ∷ ns)) refl (numeral n e.0) (reads_back (m ∷ ns) (omega arith) e.1)
