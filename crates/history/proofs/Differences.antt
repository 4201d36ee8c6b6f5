-- The steps of the comparison of two histories. Assumes nothing.
use Rattle.std.proofs.Common.{◌≡◌, ℕ, ◌+◌, ◌-◌, ◌<◌, List, length, drop, Ordering, Less as less, Equal, Greater, sym, ap, ◌∙◌, arith}
use native.Mathlib.Decide.{dec_lt}
use Rattle.std.specs.Ordering.{MatchOrdering}
use Rattle.std.proofs.lemmas.List.{get_or_past, get_or-drop}
use Rattle.history.specs.Marks.{Marks, mark, Less, Same}

module _ {M : Type 0} (m : Marks M) where
  -- the first place where a history does not go on with the greatest mark
  abbrev pub Wakes : List M → Type 0
  Wakes h = (k : ℕ) × ((j : ℕ) → j < k → mark m h j ≡ m.top) × (m.rank (mark m h k) < m.rank m.top)

  at_rest : (b rest : List M) (n k : ℕ) → rest ≡ drop n b → mark m rest k ≡ mark m b (n + k)
  at_rest b rest n k d = ap (λ h. mark m h k) d ∙ get_or-drop n b k m.top

  -- one history has ended with no difference, and the other goes on with `rest`
  pub ends : (r : Ordering) (a b rest : List M) → rest ≡ drop (length a) b → ((j : ℕ) → j < length a → mark m a j ≡ mark m b j)
      → MatchOrdering r ⊥ ((j : ℕ) → mark m rest j ≡ m.top) (Wakes rest)
      → MatchOrdering r (Less m a b) (Same m a b) (Less m b a)
  ends less a b rest d before s = absurd s
  ends Equal a b rest d before s = λ j. go j (dec_lt j (length a))
    where
      go : (j : ℕ) → Dec (j < length a) → mark m a j ≡ mark m b j
      go j (yes l) = before j l
      go j (no l) =
          let past : length a + (j - length a) ≡ j = omega arith in
          get_or_past a j m.top (omega arith) ∙ sym (s (j - length a)) ∙ at_rest b rest (length a) (j - length a) d ∙ ap (mark m b) past
  ends Greater a b rest d before s = record { place = length a + s.0; same = λ j. same j (dec_lt j (length a)); smaller = smaller }
    where
      same : (j : ℕ) → Dec (j < length a) → j < length a + s.0 → mark m b j ≡ mark m a j
      same j (yes l) q = sym (before j l)
      same j (no l) q =
          let past : length a + (j - length a) ≡ j = omega arith in
          ap (mark m b) (sym past) ∙ sym (at_rest b rest (length a) (j - length a) d) ∙ s.1 (j - length a) (omega arith) ∙ sym (get_or_past a j m.top (omega arith))

      smaller : m.rank (mark m b (length a + s.0)) < m.rank (mark m a (length a + s.0))
      smaller = omega (arith, s.2, ap m.rank (at_rest b rest (length a) s.0 d), ap m.rank (get_or_past a (length a + s.0) m.top (omega arith)))
