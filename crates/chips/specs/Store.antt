-- Bytes with a place among them, and what a device makes of the bytes that go by. Assumes nothing.
--     Store    the bytes of a device, and the place that is read next
--     Rule     which written bytes are accepted, what an accepted one does, what a byte that was sent does
use Rattle.std.specs.Prelude.{◌≡◌, ℕ, Bool, List, length, slice_set}

pub record Store : Type 0 where
  pub bytes : List ℕ
  pub place : ℕ

-- the byte at p set to b
abbrev pub stored : ℕ → ℕ → Store → Store
stored p b s = record { bytes = slice_set s.bytes p b; place = s.place }

-- the place set
abbrev pub pointed : ℕ → Store → Store
pointed p s = record { bytes = s.bytes; place = p }

-- of a written byte it is told whether it is the first since the address
pub record Rule : Type 0 where
  pub accepts : Bool → ℕ → Bool
  pub wrote : Bool → ℕ → Store → Store
  pub sent : Store → Store
  pub wrote_size : (f : Bool) (b : ℕ) (s : Store) → length (wrote f b s).bytes ≡ length s.bytes
  pub sent_size : (s : Store) → length (sent s).bytes ≡ length s.bytes
