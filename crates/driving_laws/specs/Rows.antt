-- What IICSE0 of a register master reads as after some slots. Assumes nothing.
--     status_after    for a master with that order, placed on a free bus at assembly, after those slots
--     status          a value by its upper eight bits: MSTS0 ALD0 EXC0 COI0 TRC0 ACKD0 STD0 SPD0
use Rattle.std.specs.Prelude.{◌≡◌, ℕ, List, [], ◌∷◌, ◌++◌}
use Rattle.bus.specs.declared.Symbol.{Symbol}
use Rattle.bus.specs.declared.Symbol.TheVariants.{Zero, Stop, Start, One}
use Rattle.orders.specs.declared.Outcome.TheVariants.{Done}
use Rattle.orders.specs.Orders.{writing, reading, Order}
use Rattle.block.specs.declared.Block.{Block}
use Rattle.block.specs.Tasks.{starts}
use Rattle.block.specs.Heard.{heard}
use Rattle.block.specs.Access.{status_value}
use Rattle.block_laws.specs.Rows.{status}
use Rattle.driving.specs.declared.Standing.TheVariants.{Waiting}
use Rattle.driving.specs.States.{Known}
use Rattle.driving.specs.Driving.{heard_block, heard_known, loss_cleared, retried, begun}
use Rattle.driving.specs.Driving.{assembled}

abbrev pub status_from : Order → Known → Block → List Symbol → ℕ
status_from ss r b [] = status_value b.status
status_from ss r b (x ∷ l) =
    let r' : Known = heard_known ss (starts b.task) x r.standing (heard b x) r in
    status_from ss r' (retried r'.standing (loss_cleared x (heard_block ss (starts b.task) x r.standing (heard b x)))) l

abbrev pub status_after : Order → List Symbol → ℕ
status_after ss l = status_from ss (record { standing = Waiting; losses = 0; outcome = Done; bytes = [] }) (begun assembled) l

-- S, the address byte and its ninth slot
abbrev pub to_80 : List Symbol
to_80 = Start ∷ One ∷ Zero ∷ One ∷ Zero ∷ Zero ∷ Zero ∷ Zero ∷ Zero ∷ Zero ∷ []

abbrev pub from_72 : List Symbol
from_72 = Start ∷ One ∷ Zero ∷ Zero ∷ One ∷ Zero ∷ Zero ∷ Zero ∷ One ∷ Zero ∷ []

-- the byte 7, acknowledged; the byte 25, not acknowledged by its reader
abbrev pub seven : List Symbol
seven = Zero ∷ Zero ∷ Zero ∷ Zero ∷ Zero ∷ One ∷ One ∷ One ∷ Zero ∷ []

abbrev pub twenty_five : List Symbol
twenty_five = Zero ∷ Zero ∷ Zero ∷ One ∷ One ∷ Zero ∷ Zero ∷ One ∷ One ∷ []

pub record StatusRows : Type 0 where
  pub write_address : status_after (writing 80 (7 ∷ []) ∷ []) to_80 ≡ status 1 0 0 0 1 1 1 0
  pub write_byte : status_after (writing 80 (7 ∷ []) ∷ []) (to_80 ++ seven) ≡ status 1 0 0 0 1 1 0 0
  pub write_stop : status_after (writing 80 (7 ∷ []) ∷ []) (to_80 ++ (seven ++ (Stop ∷ []))) ≡ status 0 0 0 0 0 0 0 1
  pub read_address : status_after (reading 72 1 ∷ []) from_72 ≡ status 1 0 0 0 0 1 1 0
  pub read_byte : status_after (reading 72 1 ∷ []) (from_72 ++ twenty_five) ≡ status 1 0 0 0 0 0 0 0
  pub read_stop : status_after (reading 72 1 ∷ []) (from_72 ++ (twenty_five ++ (Stop ∷ []))) ≡ status 0 0 0 0 0 0 0 1
  -- a write to 80 against a read from 72: the fourth slot carries 0
  pub loser : status_after (writing 80 (0 ∷ 7 ∷ []) ∷ []) (Start ∷ One ∷ Zero ∷ Zero ∷ []) ≡ status 0 1 0 0 0 0 1 0
  -- and at the P of the winner it has no flag left
  pub loser_stop : status_after (writing 80 (0 ∷ 7 ∷ []) ∷ []) (from_72 ++ (twenty_five ++ (Stop ∷ []))) ≡ status 0 0 0 0 0 0 0 0
