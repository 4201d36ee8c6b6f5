-- The bench of `key` at first. Assumes nothing.
--     model_of                 what a bench of these parts means
--     new_gauge, new_memory    a gauge and a memory at an address, all their bytes 0
--     start                    a register master and a line master, both idle, a gauge at 72 and a memory at 80, on a free bus
use Rattle.std.specs.Prelude.{ℕ, replicate}
use Rattle.bus.specs.declared.Pair.{Pair}
use Rattle.bus.specs.declared.Turn.TheVariants.{Free}
use Rattle.bus.specs.Banks.{Single, Both}
use Rattle.slaves.specs.Machine.{slave_of}
use Rattle.chips.specs.declared.Chip as code
use Rattle.chips.specs.declared.parts.Registers.{Registers}
use Rattle.chips.specs.declared.parts.Cells.{Cells}
use Rattle.chips.specs.Rules.{gauge, memory}
use Rattle.chips.specs.Chips.{Chip, chip}
use Rattle.chips.specs.Parts.{registers_of, cells_of}
use Rattle.chips.specs.States.{chip_of, made}
use Rattle.masters.specs.Standings.{idle}
use Rattle.masters.specs.Master.{Master}
use Rattle.line.specs.declared.Line.{Line}
use Rattle.line.specs.Line.{master_of}
use Rattle.driver.specs.declared.master.Driver.{Driver}
use Rattle.driver.specs.Driver as driver
use Rattle.bench.specs.declared.Bench.{Bench}
use Rattle.law.specs.Model.{Model}

abbrev pub model_of : Bench (Pair Driver Line) (Pair (code.Chip Registers) (code.Chip Cells)) → Model
model_of b = record {
  masters = Both (Single (driver.master_of b.masters.left)) (Single (master_of b.masters.right));
  slaves = Both (Single (slave_of (chip gauge) (chip_of registers_of b.slaves.left))) (Single (slave_of (chip memory) (chip_of cells_of b.slaves.right)));
}

abbrev pub new_gauge : ℕ → Chip
new_gauge a = made a (record { bytes = replicate 4 0; place = 0 })

abbrev pub new_memory : ℕ → Chip
new_memory a = made a (record { bytes = replicate 256 0; place = 0 })

abbrev pub idle_master : Master
idle_master = record { turn = Free; standing = idle }

abbrev pub start : Model
start = record { masters = Both (Single idle_master) (Single idle_master); slaves = Both (Single (slave_of (chip gauge) (new_gauge 72))) (Single (slave_of (chip memory) (new_memory 80))) }
