-- What the turns come to in a slot. Assumes nothing.
use Rattle.std.proofs.Common.{◌≡◌, ℕ, true, false, eqb, eqb-true, arith}
use Rattle.history.specs.Contest.{stays}
use Rattle.bus.specs.declared.Symbol.{Symbol}
use Rattle.bus.specs.declared.Symbol.TheVariants.{Stop}
use Rattle.bus.specs.Symbols.{rank, same_rank, is_bit, is_stop, bit}
use Rattle.bus.specs.declared.Turn.{Turn}
use Rattle.bus.specs.declared.Turn.TheVariants.{Free}
use Rattle.bus.specs.Turns.{onward, next, masters_slot, legal, busy, bus}

pub bit_legal : (n : ℕ) → is_bit (bit n) ≡ true
bit_legal n = grind arith

-- a bit leads onward
pub bit_next : (t : Turn) (x : Symbol) → is_bit x ≡ true → next t x ≡ onward t x
bit_next t x e = grind arith

-- in a slaves' slot exactly the bits are legal
pub slaves_legal : (t : Turn) (x : Symbol) → masters_slot t ≡ false → legal t x ≡ true → is_bit x ≡ true
slaves_legal t x o l = grind arith

pub slaves_bits : (t : Turn) (x : Symbol) → masters_slot t ≡ false → is_bit x ≡ true → legal t x ≡ true
slaves_bits t x o l = grind arith

-- a contest goes on until its P
pub busy_next : (t : Turn) (x : Symbol) → busy t ≡ true → is_stop x ≡ false → busy (next t x) ≡ true
busy_next t x b e = grind arith

-- in a masters' slot only the own symbol keeps a contender in
pub own : (t : Turn) (x y : Symbol) → masters_slot t ≡ true → stays bus t x y ≡ true → y ≡ x
own t x y o st = let e : eqb (rank y) (rank x) ≡ true = rw o at st in same_rank y x (eqb-true (rank y) (rank x) e)

-- a bus that no one has taken is free
pub free_turn : (t : Turn) → busy t ≡ false → t ≡ Free
free_turn t e = grind arith

-- a bit is no P, and only P is P
pub bit_no_stop : (x : Symbol) → is_bit x ≡ true → is_stop x ≡ false
bit_no_stop x e = grind arith

pub is_it_stop : (x : Symbol) → is_stop x ≡ true → x ≡ Stop
is_it_stop x e = grind arith
