-- The structs of the code as the states of a chip. Assumes nothing.
use Rattle.std.specs.Prelude.{ℕ, Bool, true, false}
use Rattle.chips.specs.declared.parts.Registers.{Registers}
use Rattle.chips.specs.declared.parts.Cells.{Cells}
use Rattle.chips.specs.declared.parts.Plug.{Plug}
use Rattle.chips.specs.declared.Written.{Written}
use Rattle.chips.specs.declared.Written.TheVariants.{First, Later}
use Rattle.chips.specs.Store.{Store}
use Rattle.chips.specs.Chips.{Port}

-- of a written byte, as a rule is told it
abbrev pub is_first : Written → Bool
is_first (First b) = true
is_first (Later b) = false

abbrev pub byte_of : Written → ℕ
byte_of (First b) = b
byte_of (Later b) = b

abbrev pub registers_of : Registers → Store
registers_of g = record { bytes = g.registers; place = g.pointer }

abbrev pub cells_of : Cells → Store
cells_of m = record { bytes = m.cells; place = m.place }

abbrev pub port_of : Plug → Port
port_of p = record { address = p.address; turn = p.turn; addressed = p.addressed; fresh = p.fresh; bits = p.bits }
