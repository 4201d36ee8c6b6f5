-- What is held of bytes. Assumes nothing.
use Rattle.std.proofs.Common.{◌≡◌, ℕ, zero, suc, ◌<◌, Bool, true, ◌≤◌, List, [], ◌∷◌, length, get_or, take, drop, sym, refl, ap, ◌∙◌, arith, length-take}
use Rattle.std.proofs.lemmas.List.{take-append-drop}
use Rattle.std.proofs.lemmas.List.Folds.{list_all-append}
use Rattle.std.proofs.lemmas.Bool.{lt-ltb, and_parts, and_from}
use Rattle.orders.specs.declared.bytes.Bytes.{Bytes}
use Rattle.orders.specs.Held.{held}
use Rattle.orders.specs.Tests.{every, is_byte}

-- each of them, so each of the first n and each of the others
pub every_split : {X : Type 0} (f : X → Bool) (n : ℕ) (xs : List X) → every f xs ≡ true → (every f (take n xs) ≡ true) × (every f (drop n xs) ≡ true)
every_split f n xs e = and_parts (every f (take n xs)) (every f (drop n xs)) (sym (list_all-append f (take n xs) (drop n xs)) ∙ ap (every f) (take-append-drop n xs) ∙ e)

-- as a slice of bytes has it
pub all_small : (bs : List ℕ) → ((i : ℕ) → get_or bs i 0 < 256) → every is_byte bs ≡ true
all_small [] h = refl
all_small (b ∷ bs) h = and_from (is_byte b) (every is_byte bs) (lt-ltb b 256 (h zero)) (all_small bs (λ i. h (suc i)))

pub few_held : (b : Bytes) → length (held b) ≤ 32
few_held b = simp length-take (omega (arith, b.list.within))
