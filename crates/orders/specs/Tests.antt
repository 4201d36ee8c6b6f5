-- Tests over lists. Assumes nothing.
--     every      the test holds of each element
--     is_byte    a number of eight bits
use Rattle.std.specs.Prelude.{ℕ, Bool, List, nat_lt}
use Rattle.std.specs.List.{list_all}

abbrev pub every : {X : Type 0} → (X → Bool) → List X → Bool
every f xs = list_all f xs

abbrev pub is_byte : ℕ → Bool
is_byte b = nat_lt b 256
