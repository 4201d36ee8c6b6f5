-- The four symbols of a slot. Assumes nothing.
--     rank       their order: 0 < P < S < 1
--     symbols    symbols as marks: 1 is the greatest
--     is_bit     0 or 1
--     bit        the lowest bit of a number as a symbol; value is the way back
--     shifted    the bits of a byte with one more
--     heading    the direction that the last slot of an address byte tells; heading_bit is the way back
--     acknowledge    the ninth slot of a byte: 0 acknowledges, 1 does not
use Rattle.std.specs.Prelude.{◌≡◌, ℕ, ◌+◌, ◌*◌, ◌%◌, Bool, true, false, cond, ◌==◌}
use Rattle.std.proofs.Common.{arith, lit≤}
use Rattle.history.specs.Marks.{Marks}
use Rattle.bus.specs.declared.Symbol.{Symbol}
use Rattle.bus.specs.declared.Symbol.TheVariants.{Zero, Stop, Start, One}
use Rattle.bus.specs.declared.Direction.{Direction}
use Rattle.bus.specs.declared.Direction.TheVariants.{Write, Read}

abbrev pub rank : Symbol → ℕ
rank Zero = 0
rank Stop = 1
rank Start = 2
rank One = 3

pub same_rank : (a b : Symbol) → rank a ≡ rank b → a ≡ b
same_rank a b e = grind arith

abbrev pub symbols : Marks Symbol
symbols = record {
  rank = rank;
  apart = same_rank;
  top = One;
  greatest = elim [ Zero ↦ lit≤ tt | Stop ↦ lit≤ tt | Start ↦ lit≤ tt | One ↦ lit≤ tt ];
}

abbrev pub is_bit : Symbol → Bool
is_bit Zero = true
is_bit Stop = false
is_bit Start = false
is_bit One = true

abbrev pub is_stop : Symbol → Bool
is_stop Zero = false
is_stop Stop = true
is_stop Start = false
is_stop One = false

abbrev pub bit : ℕ → Symbol
bit n = cond (n % 2 == 0) Zero One

abbrev pub value : Symbol → ℕ
value Zero = 0
value Stop = 0
value Start = 0
value One = 1

-- the bits of a byte with one more, of which the last eight are kept
abbrev pub shifted : ℕ → Symbol → ℕ
shifted bits x = (2 * bits + value x) % 256

abbrev pub heading : Symbol → Direction
heading Zero = Write
heading Stop = Read
heading Start = Read
heading One = Read

abbrev pub heading_bit : Direction → Symbol
heading_bit Write = Zero
heading_bit Read = One

-- a ninth slot
abbrev pub acknowledge : Bool → Symbol
acknowledge true = Zero
acknowledge false = One
