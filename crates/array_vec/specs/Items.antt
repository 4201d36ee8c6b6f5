-- The items that a list holds. Assumes nothing.
use Rattle.std.specs.Prelude.{ℕ, List, take}
use Rattle.array_vec.specs.declared.ArrayVec.{ArrayVec}

abbrev pub items_of : {T : Type 0} {N : ℕ} → ArrayVec T N → List T
items_of v = take v.used v.places
