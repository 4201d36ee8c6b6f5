-- A contender inside a byte. Assumes nothing.
use Rattle.std.proofs.Common.{◌≡◌, ℕ, Bool, true, false, not, ◌&&◌, ◌||◌, sym, refl, ap, ◌∙◌, subst, arith}
use Rattle.std.proofs.lemmas.Bool.{cond-true}
use Rattle.std.proofs.Math.Bool.{or-true}
use Rattle.bus.specs.declared.Symbol.{Symbol}
use Rattle.bus.specs.declared.Symbol.TheVariants as symbol
use Rattle.bus.specs.declared.Turn.{Turn}
use Rattle.orders.specs.Orders.{Order}
use Rattle.block.specs.declared.Block.{Block}
use Rattle.block.specs.declared.Task.{Task}
use Rattle.block.specs.Slots.{same, in_byte}
use Rattle.block.specs.Tasks.{has_byte, starts}
use Rattle.block.specs.Heard.{moved_on}
use Rattle.block.specs.Access.{byte_moves}
use Rattle.driving.specs.declared.Phase.{Phase}
use Rattle.driving.specs.declared.Standing.TheVariants.{Contending}
use Rattle.driving.specs.States.{Known}
use Rattle.driving.specs.Driving.{heard_block, heard_known, going_block, going_known, loss_cleared, retried, with_standing}
use Rattle.driving_laws.specs.Tied.{tied, phase_task}
use Rattle.driving_laws.specs.Agreement.{Heard, Hears}
use Rattle.driving_laws.proofs.Lost.{moved_goal}

pub not_and : (c : Bool) → not (c && false) ≡ true
not_and c = grind arith

pub not_both : (c : Bool) → not (c && true) ≡ true → c ≡ false
not_both c e = grind arith

pub moving : (m : Block) (k : Task) → m.task ≡ k → has_byte k ≡ true → byte_moves m ≡ true
moving m k e f = ap (λ (v : Task). in_byte m.turn || has_byte v) e ∙ ap (λ (v : Bool). in_byte m.turn || v) f ∙ or-true (in_byte m.turn)

module _ (ss : Order) (r : Known) (b : Block) where
  abbrev R : Phase → ℕ → ℕ → Known
  R p i j = with_standing r (Contending p i j)

  abbrev P : Phase → ℕ → ℕ → Turn → Block
  P p i j t = tied ss (Contending p i j) t b

  abbrev Goal : Phase → ℕ → ℕ → Turn → Symbol → Type 0
  Goal p i j t x = Hears ss (R p i j) (P p i j t) x

  -- a slot that leaves the block in its byte
  pub mid_out : (p : Phase) (i j : ℕ) (t : Turn) (x : Symbol) → (moved_on (P p i j t) x).status.msts0 ≡ true
      → going_block ss p i j (moved_on (P p i j t) x) ≡ moved_on (P p i j t) x → going_known ss p i j (moved_on (P p i j t) x) (R p i j) ≡ R p i j → same x symbol.Stop ≡ false
      → Heard ss (R p i j) (P p i j t) x (R p i j) (moved_on (P p i j t) x)
      → Goal p i j t x
  mid_out p i j t x s gb gr z w =
      let m = moved_on (P p i j t) x in
      let c = starts (phase_task ss p i j) in
      let er : heard_known ss c x (Contending p i j) m (R p i j) ≡ R p i j = cond-true m.status.msts0 _ _ s ∙ gr in
      let eb : heard_block ss c x (Contending p i j) m ≡ m = cond-true m.status.msts0 _ _ s ∙ gb in
      let ef : loss_cleared x m ≡ m = rw z refl in
      moved_goal ss r b p i j t x
      (subst (λ (v : Block). Heard ss (R p i j) (P p i j t) x (heard_known ss c x (Contending p i j) m (R p i j)) (retried (heard_known ss c x (Contending p i j) m (R p i j)).standing (loss_cleared x v))) (sym eb)
      (subst (λ (v : Known). Heard ss (R p i j) (P p i j t) x v (retried v.standing (loss_cleared x m))) (sym er)
      (subst (λ (v : Block). Heard ss (R p i j) (P p i j t) x (R p i j) v) (sym ef) w)))
