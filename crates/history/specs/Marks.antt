-- Marks with a total order and a greatest mark, and how two histories of marks compare. Assumes nothing.
--     Marks    a kind of marks: the order is told by a rank, and two marks of one rank are one mark
--     least    the lesser of two marks
--     mark     the mark at a place of a history; an ended history goes on with the greatest mark
--     Less     the first history has the lesser mark at the first place where the two differ
--     Same     the two differ nowhere
use Rattle.std.specs.Prelude.{◌≡◌, ℕ, ◌<◌, ◌≤◌, cond, List, nat_le, slice_index_or}

pub record Marks (M : Type 0) : Type 0 where
  pub rank : M → ℕ
  pub apart : (a b : M) → rank a ≡ rank b → a ≡ b
  pub top : M
  pub greatest : (a : M) → rank a ≤ rank top

module _ {M : Type 0} (m : Marks M) where
  abbrev pub least : M → M → M
  least a b = cond (nat_le (m.rank a) (m.rank b)) a b

  abbrev pub mark : List M → ℕ → M
  mark h n = slice_index_or h n m.top

  pub record Less (g h : List M) : Type 0 where
    pub place : ℕ
    pub same : (i : ℕ) → i < place → mark g i ≡ mark h i
    pub smaller : m.rank (mark g place) < m.rank (mark h place)

  abbrev pub Same : List M → List M → Type 0
  Same g h = (i : ℕ) → mark g i ≡ mark h i
