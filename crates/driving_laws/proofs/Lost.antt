-- A contender that loses, and one that goes on in a byte. Assumes nothing.
use Rattle.std.proofs.Common.{◌≡◌, ℕ, Bool, true, false, cond, ◌&&◌, ◌||◌, sym, refl, subst, arith}
use Rattle.std.specs.Cmp.{first_so}
use Rattle.std.proofs.lemmas.Bool.{not-true}
use borrow.Author.Tests.{clash}
use Rattle.bus.specs.declared.Symbol.{Symbol}
use Rattle.bus.specs.declared.Symbol.TheVariants as symbol
use Rattle.bus.specs.declared.Turn.{Turn}
use Rattle.bus.specs.Turns.{masters_slot}
use Rattle.orders.specs.Orders.{Order}
use Rattle.masters.specs.Standings as masters
use Rattle.masters.specs.Standings.{hears}
use Rattle.block.specs.declared.Block.{Block}
use Rattle.block.specs.declared.Task.{Task}
use Rattle.block.specs.declared.Task.TheVariants as task
use Rattle.block.specs.Slots.{same, after_write, after_read}
use Rattle.block.specs.Tasks.{offers, waits, starts}
use Rattle.block.specs.Flags.{loss, flag}
use Rattle.block.specs.Heard.{moved_on, bit_passed}
use Rattle.driving.specs.declared.Phase.{Phase}
use Rattle.driving.specs.declared.Standing.TheVariants.{Waiting, Contending}
use Rattle.driving.specs.States.{Known}
use Rattle.driving.specs.Driving.{heard_block, heard_known, loss_cleared, retried, with_standing, lost, ends}
use Rattle.driving_laws.specs.Tied.{patched, tied, phase_task}
use Rattle.driving_laws.specs.Meaning.{standing_of}
use Rattle.driving_laws.specs.Agreement.{Heard, Hears}
use Rattle.driving_laws.proofs.Quiet.{Quiet, waits_on, heard_moves}

-- a loss in the slot after an address is no bit
no_write : (t : Turn) (c : Bool) → (c && (masters_slot t || false)) ≡ true → after_write t ≡ false
no_write t c e = grind arith

task_lost : (l : Bool) (k : Task) → l ≡ true → cond l task.Rest k ≡ task.Rest
task_lost l k e = grind arith

flag_lost : (s c l m : Bool) → s ≡ false → l ≡ true → flag s (c || l) m ≡ false
flag_lost s c l m e f = grind arith

trc_lost : (w d c l r : Bool) → w ≡ false → l ≡ true → flag (false || w) (d || (c || l)) r ≡ false
trc_lost w d c l r e f = grind arith

trc_start : (s w d c l r : Bool) → s ≡ false → w ≡ false → l ≡ true → flag (s || w) (d || (c || l)) r ≡ false
trc_start true w d c l r g e f = absurd (clash (sym g))
trc_start false w d c l r g e f = trc_lost w d c l r e f

pub lost_quiet : (b : Block) (t : Turn) (k : Task) (a r : Bool) (x : Symbol) → loss (patched b t k a true r) x ≡ true → Quiet (moved_on (patched b t k a true r) x)
lost_quiet b t k a r symbol.Zero l = let P = patched b t k a true r in
    record {
      lit_up = refl;
      rests = task_lost (loss P symbol.Zero) _ l;
      no_master = flag_lost false false (loss P symbol.Zero) true refl l;
      no_sender = trc_lost (after_write t) (after_read t) false (loss P symbol.Zero) r (no_write t _ l) l;
    }
lost_quiet b t k a r symbol.One l = let P = patched b t k a true r in
    record {
      lit_up = refl;
      rests = task_lost (loss P symbol.One) _ l;
      no_master = flag_lost false false (loss P symbol.One) true refl l;
      no_sender = trc_lost (after_write t) (after_read t) false (loss P symbol.One) r (no_write t _ l) l;
    }
lost_quiet b t k a r symbol.Stop l = let P = patched b t k a true r in
    record { lit_up = refl; rests = task_lost (loss P symbol.Stop) _ l; no_master = refl; no_sender = trc_lost false false true (loss P symbol.Stop) r refl l }
lost_quiet b t k a r symbol.Start l =
    let P = patched b t k a true r in
    let s : same (offers P) symbol.Start ≡ false = not-true _ (first_so _ _ l) in
    record {
      lit_up = refl;
      rests = task_lost (loss P symbol.Start) _ l;
      no_master = flag_lost _ false (loss P symbol.Start) true s l;
      no_sender = trc_start _ false false false (loss P symbol.Start) r s refl l;
    }

-- inside a byte
pub task_mid : (l n : Bool) (k : Task) → l ≡ false → n ≡ false → bit_passed k ≡ k → cond l task.Rest (cond n task.NinthWait (bit_passed k)) ≡ k
task_mid l n k e f g = grind arith

pub msts_mid : (l : Bool) → l ≡ false → flag false l true ≡ true
msts_mid l e = grind arith

pub trc_mid : (l w d r : Bool) → l ≡ false → w ≡ false → d ≡ false → flag w (d || l) r ≡ r
trc_mid l w d r e f g = grind arith

never_waits : (ss : Order) (p : Phase) (i j : ℕ) → waits (phase_task ss p i j) ≡ false
never_waits ss p i j = grind arith

module _ (ss : Order) (r : Known) (b : Block) where
  abbrev R : Phase → ℕ → ℕ → Known
  R p i j = with_standing r (Contending p i j)

  abbrev P : Phase → ℕ → ℕ → Turn → Block
  P p i j t = tied ss (Contending p i j) t b

  abbrev Goal : Phase → ℕ → ℕ → Turn → Symbol → Type 0
  Goal p i j t x = Hears ss (R p i j) (P p i j t) x

  -- after a slot that moves the block on to m
  abbrev pub Moved : Phase → ℕ → ℕ → Turn → Symbol → Block → Type 0
  Moved p i j t x m =
      let k : Known = heard_known ss (starts (phase_task ss p i j)) x (Contending p i j) m (R p i j) in
      Heard ss (R p i j) (P p i j t) x k (retried k.standing (loss_cleared x (heard_block ss (starts (phase_task ss p i j)) x (Contending p i j) m)))

  pub moved_goal : (p : Phase) (i j : ℕ) (t : Turn) (x : Symbol) → Moved p i j t x (moved_on (P p i j t) x) → Goal p i j t x
  moved_goal p i j t x w = subst (λ (v : Block). Moved p i j t x v) (sym (heard_moves (P p i j t) x (never_waits ss p i j))) w

  pub lost_out : (p : Phase) (i j : ℕ) (t : Turn) (x : Symbol) → Quiet (moved_on (P p i j t) x) → ends p x ≡ false
      → masters.waiting (masters.lost (record { order = ss; losses = r.losses })) ≡ hears t x (standing_of ss (R p i j) (P p i j t))
      → Goal p i j t x
  lost_out p i j t x q o e =
      let m = moved_on (P p i j t) x in
      let s = starts (phase_task ss p i j) in
      let w : Heard ss (R p i j) (P p i j t) x (lost (R p i j)) (retried Waiting (loss_cleared x m)) = waits_on ss (R p i j) (lost (R p i j)) (P p i j t) m x q refl e in
      let er : heard_known ss s x (Contending p i j) m (R p i j) ≡ lost (R p i j) = rw (q.no_master, o) refl in
      let eb : heard_block ss s x (Contending p i j) m ≡ m = rw q.no_master refl in
      moved_goal p i j t x
      (subst (λ (v : Block). Heard ss (R p i j) (P p i j t) x (heard_known ss s x (Contending p i j) m (R p i j)) (retried (heard_known ss s x (Contending p i j) m (R p i j)).standing (loss_cleared x v))) (sym eb)
      (subst (λ (v : Known). Heard ss (R p i j) (P p i j t) x v (retried v.standing (loss_cleared x m))) (sym er) w))
