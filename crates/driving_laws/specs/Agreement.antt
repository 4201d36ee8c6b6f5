-- The block and the contender agree: what the register master makes of its block is what a master does. Assumes nothing.
--     Sound             how the block stands is tied to how far the register master has come
--     after_known       what the register master knows after a slot
--     after_block       its block after that slot and what it then writes
--     Heard             what a slot leads to: it is sound again, and stands as a master does that heard the slot
--     RegistersAgree    this holds of every lawful order, of every block and of every symbol
use Rattle.std.specs.Prelude.{◌≡◌, ◌≤◌, true, false}
use Rattle.bus.specs.declared.Symbol.{Symbol}
use Rattle.bus.specs.Symbols.{is_stop}
use Rattle.bus.specs.Turns.{next}
use Rattle.orders.specs.Orders.{Order, Lawful}
use Rattle.progress.specs.Plans.{read_total}
use Rattle.masters.specs.Standings.{hears, offered, contender_in}
use Rattle.block.specs.declared.Block.{Block}
use Rattle.block.specs.Tasks.{starts, offers}
use Rattle.block.specs.Heard.{heard}
use Rattle.driving.specs.States.{Known}
use Rattle.driving.specs.Driving.{heard_block, heard_known, loss_cleared, retried}
use Rattle.driving_laws.specs.Tied.{tied, turned, real, unacked}
use Rattle.driving_laws.specs.Meaning.{standing_of, read_most}

pub record Sound (ss : Order) (r : Known) (b : Block) : Type 0 where
  pub is_tied : b ≡ tied ss r.standing b.turn b
  pub is_turned : turned ss r.standing b.shift b.turn ≡ true
  pub is_unacked : unacked r.standing b.turn b.status.ackd0 ≡ true
  pub is_real : real ss r.standing ≡ true

-- what a slot leads to
pub record Heard (ss : Order) (r : Known) (b : Block) (x : Symbol) (r' : Known) (b' : Block) : Type 0 where
  pub sound : Sound ss r' b'
  pub turn : b'.turn ≡ next b.turn x
  pub standing : standing_of ss r' b' ≡ hears b.turn x (standing_of ss r b)
  pub clears : is_stop x ≡ true → b'.status.ald0 ≡ false

abbrev pub after_known : Order → Known → Block → Symbol → Known
after_known ss r b x = heard_known ss (starts b.task) x r.standing (heard b x) r

abbrev pub after_block : Order → Known → Block → Symbol → Block
after_block ss r b x = retried (after_known ss r b x).standing (loss_cleared x (heard_block ss (starts b.task) x r.standing (heard b x)))

abbrev pub Hears : Order → Known → Block → Symbol → Type 0
Hears ss r b x = Heard ss r b x (after_known ss r b x) (after_block ss r b x)

pub record RegistersAgree : Type 0 where
  -- what the block offers is what the contender offers
  pub offering : (o : Order) → Lawful o → (r : Known) (b : Block) → Sound o r b → offers b ≡ offered (contender_in b.turn (standing_of o r b))
  -- and after each slot they agree again
  pub hearing : (o : Order) → Lawful o → (r : Known) (b : Block) (x : Symbol) → Sound o r b → read_most (standing_of o r b) ≤ read_total o → Hears o r b x
