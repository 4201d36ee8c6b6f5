-- One byte more of a line. Assumes nothing.
use Rattle.std.proofs.Common.{◌≡◌, ℕ, ◌≤◌, Bool, true, false, cond, ltb, List, [], ◌∷◌, ◌++◌, length, take, refl, ◌∙◌, arith, length-append, length-take, ltb-false, ltb-true}
use Rattle.std.proofs.lemmas.List.{take_all, take-append-le}
use Rattle.numerals.specs.declared.kept.Kept.{Kept}
use Rattle.numerals.specs.Held.{bytes_of}

with_room : (n : ℕ) (xs : List ℕ) (b : ℕ) → length xs ≤ n → take n (xs ++ (b ∷ [])) ≡ cond (ltb (length xs) n) (xs ++ (b ∷ [])) xs
with_room n xs b l = split (ltb (length xs) n) refl
  where
    split : (t : Bool) → ltb (length xs) n ≡ t → take n (xs ++ (b ∷ [])) ≡ cond t (xs ++ (b ∷ [])) xs
    split true e = take_all n (xs ++ (b ∷ [])) (omega (arith, ltb-true (length xs) n e, length-append xs (b ∷ [])))
    split false e = take-append-le n xs (b ∷ []) (ltb-false (length xs) n e) ∙ take_all n xs l

pub one_more : (k : Kept) (b : ℕ) → take 188 (bytes_of k ++ (b ∷ [])) ≡ cond (ltb (length (bytes_of k)) 188) (bytes_of k ++ (b ∷ [])) (bytes_of k)
one_more k b = with_room 188 (bytes_of k) b (simp length-take (omega (arith, k.list.within)))
