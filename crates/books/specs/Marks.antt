-- What a book has of the slice it was lent, of which it has used so many places. Assumes nothing.
--     marked    the marks so far, oldest first
--     left      how many more it takes
--     blank     the places left, as the lender had them
--     Grows     a book gains these marks: they come after those it had, and the places left, how many there are, and the slice stay
use Rattle.std.specs.Prelude.{◌≡◌, ℕ, ◌+◌, ◌-◌, List, ◌++◌, take, drop, length}
use Rattle.books.specs.declared.Book.{Book}

abbrev pub marked : {T : Type 0} → Book T → List T
marked b = take b.used b.places.now

abbrev pub left : {T : Type 0} → Book T → ℕ
left b = length b.places.now - b.used

abbrev pub blank : {T : Type 0} → List T → ℕ → List T
blank places used = drop used places

pub record Grows {T : Type 0} (before after : Book T) (gained : List T) : Type 0 where
  pub marks : marked after ≡ marked before ++ gained
  pub used : after.used ≡ before.used + length gained
  pub rest : blank after.places.now after.used ≡ blank before.places.now after.used
  pub long : length after.places.now ≡ length before.places.now
  pub named : after.places.ghost_name ≡ before.places.ghost_name
