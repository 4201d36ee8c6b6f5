-- A history alone, in two words. Assumes nothing.
use Rattle.std.proofs.Common.{◌≡◌, ℕ, List, [], ◌∷◌, ◌++◌, sym, refl, ap, ◌∙◌, arith}
use Rattle.history.specs.Marks.{least}
use Rattle.history.specs.Contest.{Rule, on, Turns, Alone, EndsOnce, GrowsAlone}
use Rattle.history.proofs.General.{then_map, then_both}

not_ended : {M : Type 0} (l m : List M) (x : M) → [] ≡ l ++ (x ∷ m) → ⊥
not_ended [] m x e = let z : ◌≡◌ {A = ℕ} 0 1 = cc in omega arith
not_ended (y ∷ l) m x e = let z : ◌≡◌ {A = ℕ} 0 1 = cc in omega arith

module _ {M T : Type 0} (G : Turns M T) where
  once : (h : List M) (s r : Rule M) → Alone G s r h → EndsOnce G h
  once [] s r a = a
  once (x ∷ h) s r a = then_map G (h ≡ []) (G.ends x) a.1 (λ d. once h (on x s) (on x r) d)

  grows : (h : List M) (s r : Rule M) → Alone G s r h → (l : List M) (x : M) (m : List M) → h ≡ l ++ (x ∷ m) → x ≡ least G.marks (s l) (r l)
  grows [] s r a l x m e = absurd a
  grows (y ∷ h) s r a [] x m e = let q : y ≡ x = cc in sym q ∙ a.0
  grows (y ∷ h) s r a (z ∷ l) x m e =
      let q : y ≡ z = cc in
      let e' : h ≡ l ++ (x ∷ m) = cc in
      then_both G (G.ends y) a.1 a.1
      (λ d d'. absurd (not_ended l m x (sym d ∙ e')))
      (λ d d'. grows h (on y s) (on y r) d l x m e' ∙ ap (λ (v : M). least G.marks (s (v ∷ l)) (r (v ∷ l))) q)

  pub to_words : (h : List M) (s r : Rule M) → Alone G s r h → GrowsAlone G s r h
  to_words h s r a = record { ends_once = once h s r a; grows = grows h s r a }

  from : (h : List M) (s r : Rule M) → EndsOnce G h → ((l : List M) (x : M) (m : List M) → h ≡ l ++ (x ∷ m) → x ≡ least G.marks (s l) (r l)) → Alone G s r h
  from [] s r d g = d
  from (y ∷ h) s r d g =
      (g [] y h refl, then_map G (h ≡ []) (G.ends y) d (λ d'. from h (on y s) (on y r) d' (λ l x m e. g (y ∷ l) x m (ap {B = List M} (λ k. y ∷ k) e))))

  pub from_words : (h : List M) (s r : Rule M) → GrowsAlone G s r h → Alone G s r h
  from_words h s r w = from h s r w.ends_once w.grows
