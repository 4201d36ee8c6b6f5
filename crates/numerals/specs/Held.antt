-- What is kept of a line. Assumes nothing.
--     bytes_of    the bytes kept
use Rattle.std.specs.Prelude.{ℕ, List}
use Rattle.array_vec.specs.Items.{items_of}
use Rattle.numerals.specs.declared.kept.Kept.{Kept}

abbrev pub bytes_of : Kept → List ℕ
bytes_of k = items_of k.list
