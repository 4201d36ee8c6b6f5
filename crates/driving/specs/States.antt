-- What the register master knows beside its block. Assumes nothing.
--     Known       how it stands, its losses, the outcome so far, and the bytes read
--     known_of    what a state of the code means
--     Led         what a step leads to: the order stands, and the block and what is known come to these
use Rattle.std.specs.Prelude.{◌≡◌, ℕ, List}
use Rattle.orders.specs.declared.Outcome.{Outcome}
use Rattle.orders.specs.Held.{held}
use Rattle.block.specs.declared.Block.{Block}
use Rattle.driving.specs.declared.Drive.{Drive}
use Rattle.driving.specs.declared.Standing.{Standing}
use Rattle.driving.specs.declared.State.{State}

pub record Known : Type 0 where
  pub standing : Standing
  pub losses : ℕ
  pub outcome : Outcome
  pub bytes : List ℕ

abbrev pub known_of : State → Known
known_of s = record { standing = s.standing; losses = s.losses; outcome = s.outcome; bytes = held s.bytes }

pub record Led (old new : Drive) (block : Block) (known : Known) : Type 0 where
  pub order_stands : new.order ≡ old.order
  pub block_is : new.block ≡ block
  pub known_is : known_of new.state ≡ known
