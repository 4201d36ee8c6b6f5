-- Books that gain marks. Assumes nothing.
use Rattle.std.proofs.Common.{◌≡◌, ℕ, ◌+◌, Bool, true, false, if◌then◌else◌, subst, List, [], ◌∷◌, ◌++◌, length, drop, sym, refl, ap, ◌∙◌, append_assoc, append-nil, arith, length-append}
use borrow.Author.Tests.{clash}
use Rattle.std.proofs.lemmas.List.{drop-drop}
use Rattle.books.specs.declared.Book.{Book}
use Rattle.books.specs.Marks.{marked, Grows}

pub grows_none : {T : Type 0} (b : Book T) → Grows b b []
grows_none b = record { marks = sym (append-nil (marked b)); used = omega arith; rest = refl; long = refl; named = refl }

-- the places left after n more are left alone by both
left_on : {T : Type 0} (xs ys zs : List T) (u v n : ℕ) → v ≡ u + n → drop v zs ≡ drop v ys → drop u ys ≡ drop u xs → drop v zs ≡ drop v xs
left_on xs ys zs u v n e h k =
    let f : v ≡ n + u = omega arith in
    h ∙ ap (λ (i : ℕ). drop i ys) e ∙ sym (drop-drop n u ys) ∙ ap (drop n) k ∙ drop-drop n u xs ∙ ap (λ (i : ℕ). drop i xs) (sym e)

pub grows_more : {T : Type 0} (a b c : Book T) (ms ns : List T) → Grows a b ms → Grows b c ns → Grows a c (ms ++ ns)
grows_more a b c ms ns g h = record {
  marks = h.marks ∙ ap (λ (q : List _). q ++ ns) g.marks ∙ append_assoc (marked a) ms ns;
  used = omega (arith, g.used, h.used, length-append ms ns);
  rest = left_on a.places.now b.places.now c.places.now b.used c.used (length ns) h.used h.rest g.rest;
  long = h.long ∙ g.long;
  named = h.named ∙ g.named;
}

-- a mark that was taken
pub grows_one : {T : Type 0} (a b : Book T) (m n : T) (ok : Bool) → Grows a b (if ok then m ∷ [] else []) → ok ≡ true → m ≡ n → Grows a b (n ∷ [])
grows_one a b m n true g e q = subst (λ x. Grows a b (x ∷ [])) q g
grows_one a b m n false g e q = absurd (clash e)
