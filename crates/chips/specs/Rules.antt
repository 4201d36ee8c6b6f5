-- The gauge and the memory. Assumes nothing.
--     gauge     the first byte written becomes the pointer if it is 0 to 3; any other, and every later byte, is refused; reads move on, 3 to 0
--     memory    the first byte written becomes the place; each later one is stored there, and the place moves on, 255 to 0, as it does after a byte read
use Rattle.std.specs.Prelude.{◌≡◌, ℕ, ◌+◌, ◌%◌, Bool, true, false, cond, ◌&&◌, length, nat_lt, refl}
use Rattle.std.proofs.Common.{length-set}
use Rattle.chips.specs.Store.{Store, Rule, stored, pointed}

-- the place moves on among n
abbrev pub moved_on : ℕ → Store → Store
moved_on n s = pointed ((s.place + 1) % n) s

abbrev pub gauge_accepts : Bool → ℕ → Bool
gauge_accepts first b = first && nat_lt b 4

abbrev pub gauge_wrote : Bool → ℕ → Store → Store
gauge_wrote first b s = cond (gauge_accepts first b) (pointed b s) s

abbrev pub memory_wrote : Bool → ℕ → Store → Store
memory_wrote true b s = pointed b s
memory_wrote false b s = moved_on 256 (stored s.place b s)

pub gauge_size : (a : Bool) (b : ℕ) (s : Store) → length (cond a (pointed b s) s).bytes ≡ length s.bytes
gauge_size true b s = refl
gauge_size false b s = refl

pub memory_size : (first : Bool) (b : ℕ) (s : Store) → length (memory_wrote first b s).bytes ≡ length s.bytes
memory_size true b s = refl
memory_size false b s = length-set s.bytes s.place b

abbrev pub gauge : Rule
gauge = record {
  accepts = gauge_accepts;
  wrote = gauge_wrote;
  sent = moved_on 4;
  wrote_size = λ first b s. gauge_size (gauge_accepts first b) b s;
  sent_size = λ s. refl;
}

abbrev pub memory : Rule
memory = record {
  accepts = λ first b. true;
  wrote = memory_wrote;
  sent = moved_on 256;
  wrote_size = memory_size;
  sent_size = λ s. refl;
}
