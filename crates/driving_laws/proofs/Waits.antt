-- Who waits, in a slot. Assumes nothing.
use Rattle.std.proofs.Common.{◌≡◌, suc, false, List, ◌∷◌, length, refl, ap, arith, lt-ltb}
use borrow.Author.Tests.{clash}
use Rattle.bus.specs.declared.Symbol.{Symbol}
use Rattle.bus.specs.declared.Symbol.TheVariants as symbol
use Rattle.bus.specs.declared.Turn.{Turn}
use Rattle.bus.specs.declared.Turn.TheVariants as turn
use Rattle.orders.specs.declared.Outcome.TheVariants.{NoAddress}
use Rattle.orders.specs.Orders.{Segment, Order, address_of}
use Rattle.scripts.specs.Scripts as script
use Rattle.progress.specs.Positions.{heading}
use Rattle.progress.specs.Plans.{payload}
use Rattle.masters.specs.Standings as masters
use Rattle.masters.specs.Standings.{hears}
use Rattle.block.specs.declared.Block.{Block}
use Rattle.block.specs.declared.Task.TheVariants as task
use Rattle.block.specs.Heard.{heard}
use Rattle.driving.specs.declared.Standing.TheVariants.{Waiting}
use Rattle.driving.specs.States.{Known}
use Rattle.driving.specs.Driving.{loss_cleared, retried, with_standing, lost}
use Rattle.driving_laws.specs.Tied.{patched, tied}
use Rattle.driving_laws.specs.Meaning.{standing_of}
use Rattle.driving_laws.specs.Agreement.{Heard, Hears}
use Rattle.driving_laws.proofs.Quiet.{Quiet, quiet_heard, waits_on, quiet_turn}

module _ (s : Segment) (ss : Order) (r : Known) (b : Block) where
  abbrev all : Order
  all = s ∷ ss

  opened : (z : Segment) → script.spell 7 (address_of z) (script.say (heading z) ∷ script.ask (NoAddress 0) ∷ payload 0 z (script.plan 1 ss)) ≡ script.body 0 z (script.plan 1 ss)
  opened z = grind arith

  waits_busy : (t : Turn) (x : Symbol) (q : Quiet (heard (patched b t task.Rest b.control.acke0 false false) x))
      → standing_of all (with_standing r Waiting) (heard (patched b t task.Rest b.control.acke0 false false) x) ≡ hears t x (standing_of all (with_standing r Waiting) (patched b t task.Rest b.control.acke0 false false))
      → Heard all (with_standing r Waiting) (patched b t task.Rest b.control.acke0 false false) x (with_standing r Waiting) (retried Waiting (loss_cleared x (heard (patched b t task.Rest b.control.acke0 false false) x)))
  waits_busy t x q e = waits_on all (with_standing r Waiting) r (patched b t task.Rest b.control.acke0 false false) (heard (patched b t task.Rest b.control.acke0 false false) x) x q (quiet_turn b t b.control.acke0 x) e

  quietly : (t : Turn) (x : Symbol) → Quiet (heard (patched b t task.Rest b.control.acke0 false false) x)
  quietly t x = quiet_heard b t b.control.acke0 x

  pub waiting_hears : (t : Turn) (x : Symbol) → Hears all (with_standing r Waiting) (tied all Waiting t b) x
  waiting_hears turn.Free symbol.Zero = waits_on all (with_standing r Waiting) (lost r) (tied all Waiting turn.Free b) (heard (tied all Waiting turn.Free b) symbol.Zero) symbol.Zero (record { lit_up = refl; rests = refl; no_master = refl; no_sender = refl }) refl refl
  waiting_hears turn.Free symbol.Stop = waits_on all (with_standing r Waiting) (lost r) (tied all Waiting turn.Free b) (heard (tied all Waiting turn.Free b) symbol.Stop) symbol.Stop (record { lit_up = refl; rests = refl; no_master = refl; no_sender = refl }) refl refl
  waiting_hears turn.Free symbol.One = waits_on all (with_standing r Waiting) (lost r) (tied all Waiting turn.Free b) (heard (tied all Waiting turn.Free b) symbol.One) symbol.One (record { lit_up = refl; rests = refl; no_master = refl; no_sender = refl }) refl refl
  waiting_hears turn.Free symbol.Start =
      record {
        sound = record { is_tied = refl; is_turned = refl; is_unacked = refl; is_real = lt-ltb 0 (suc (length ss)) (omega arith) };
        turn = refl;
        standing = ap (λ (k : List script.Act). masters.contending (record { request = record { order = all; losses = r.losses }; progress = record { todo = k; notes = script.no_notes } })) (opened s);
        clears = λ e. absurd (clash e);
      }
  waiting_hears (turn.Address n) x = waits_busy (turn.Address n) x (quietly (turn.Address n) x) refl
  waiting_hears (turn.AddressNinth d) x = waits_busy (turn.AddressNinth d) x (quietly (turn.AddressNinth d) x) refl
  waiting_hears turn.Border x = waits_busy turn.Border x (quietly turn.Border x) refl
  waiting_hears turn.ClosingBorder x = waits_busy turn.ClosingBorder x (quietly turn.ClosingBorder x) refl
  waiting_hears (turn.Write n) x = waits_busy (turn.Write n) x (quietly (turn.Write n) x) refl
  waiting_hears turn.WriteNinth x = waits_busy turn.WriteNinth x (quietly turn.WriteNinth x) refl
  waiting_hears (turn.Read n) x = waits_busy (turn.Read n) x (quietly (turn.Read n) x) refl
  waiting_hears turn.ReadNinth x = waits_busy turn.ReadNinth x (quietly turn.ReadNinth x) refl
