-- The addresses that masters and slaves may use. Assumes nothing.
use Rattle.std.specs.Prelude.{ℕ, Bool, ◌&&◌, nat_le}

abbrev pub is_address : ℕ → Bool
is_address n = nat_le 8 n && nat_le n 119
