-- A contender before its S, and before its P. Assumes nothing.
use Rattle.std.proofs.Common.{◌≡◌, ℕ, suc, true, false, ltb, List, ◌∷◌, length, drop, sym, refl, ap, ◌∙◌, add-one, drop-cons, ltb-true, arith}
use borrow.Author.Tests.{clash}
use Rattle.bus.specs.declared.Symbol.{Symbol}
use Rattle.bus.specs.declared.Symbol.TheVariants as symbol
use Rattle.bus.specs.declared.Turn.{Turn}
use Rattle.bus.specs.declared.Turn.TheVariants as turn
use Rattle.bus.specs.Symbols.{is_stop}
use Rattle.orders.specs.declared.Outcome.TheVariants.{NoAddress}
use Rattle.orders.specs.Orders.{Segment, Order, address_of, nothing}
use Rattle.scripts.specs.Scripts as script
use Rattle.progress.specs.declared.Stage.TheVariants as stage
use Rattle.progress.specs.Positions.{here, heading}
use Rattle.progress.specs.Plans.{payload, todo_at}
use Rattle.masters.specs.Standings.{hears, keeps}
use Rattle.block.specs.declared.Block.{Block}
use Rattle.block.specs.declared.Task.TheVariants as task
use Rattle.block.specs.Flags.{loss}
use Rattle.block.specs.Heard.{moved_on}
use Rattle.driving.specs.declared.Phase.{Phase}
use Rattle.driving.specs.declared.Phase.TheVariants.{Opening, Stopping}
use Rattle.driving.specs.declared.Standing.TheVariants.{Contending, Answered}
use Rattle.driving.specs.States.{Known}
use Rattle.driving.specs.Driving.{loss_cleared, with_standing, ends}
use Rattle.driving_laws.specs.Tied.{at_border, tied}
use Rattle.driving_laws.specs.Meaning.{standing_of, progress_at}
use Rattle.driving_laws.specs.Agreement.{Heard, Hears}
use Rattle.driving_laws.proofs.Quiet.{Quiet, cleared_is, quiet_answered, contends, noted}
use Rattle.driving_laws.proofs.Lost.{lost_quiet, lost_out}
use Rattle.driving_laws.proofs.Bits.{becomes_kept, becomes_lost}

module _ (ss : Order) (r : Known) (b : Block) where
  abbrev R : Phase → ℕ → ℕ → Known
  R p i j = with_standing r (Contending p i j)

  abbrev P : Phase → ℕ → ℕ → Turn → Block
  P p i j t = tied ss (Contending p i j) t b

  abbrev Goal : Phase → ℕ → ℕ → Turn → Symbol → Type 0
  Goal p i j t x = Hears ss (R p i j) (P p i j t) x

  -- its S before a further segment
  module _ (i j : ℕ) (here-is : ltb i (length ss) ≡ true) where
    opened : (s : Segment) (k : List script.Act) → script.spell 7 (address_of s) (script.say (heading s) ∷ script.ask (NoAddress i) ∷ payload i s k) ≡ script.body i s k
    opened s k = grind arith

    pub own_start_is : script.offer (script.plan i (drop i ss)) ≡ symbol.Start
    own_start_is = let z = ltb-true i (length ss) here-is in rw (drop-cons ss i nothing z) refl

    opening_goes : script.moved_on (script.plan i (drop i ss)) (noted r) symbol.Start ≡ record { todo = todo_at ss i (stage.Address 6); notes = noted r }
    opening_goes =
        let z = ltb-true i (length ss) here-is in
        rw (drop-cons ss i nothing z) (ap (λ (k : List script.Act). record { todo = k; notes = noted r }) (sym (opened (here ss i) (script.plan (suc i) (drop (suc i) ss))) ∙ rw (sym (add-one i)) refl))

    opening_lost : (t : Turn) (x : Symbol) → loss (P Opening i j t) x ≡ true → keeps t x symbol.Start ≡ false → Goal Opening i j t x
    opening_lost t x l k = lost_out ss r b Opening i j t x (lost_quiet b t task.Start b.control.acke0 b.status.trc0 x l) refl
        (becomes_lost _ (is_stop x) _ x (ap (λ (y : Symbol). keeps t x y) own_start_is ∙ k))

    opening_start : (t : Turn) → keeps t symbol.Start symbol.Start ≡ true
        → contends ss r (record { todo = todo_at ss i (stage.Address 6); notes = noted r }) ≡ hears t symbol.Start (standing_of ss (R Opening i j) (P Opening i j t))
    opening_start t k = ap (contends ss r) (sym opening_goes) ∙ becomes_kept _ (record { request = record { order = ss; losses = r.losses }; progress = progress_at ss Opening i j t b.shift (R Opening i j) }) symbol.Start (ap (λ (y : Symbol). keeps t symbol.Start y) own_start_is ∙ k)

    pub opening_hears : (t : Turn) (x : Symbol) → at_border t ≡ true → Goal Opening i j t x
    opening_hears turn.Border symbol.Start e = record { sound = record { is_tied = refl; is_turned = refl; is_unacked = refl; is_real = here-is }; turn = refl; standing = opening_start turn.Border refl; clears = λ z. absurd (clash z) }
    opening_hears turn.Border symbol.Zero e = opening_lost turn.Border symbol.Zero refl refl
    opening_hears turn.Border symbol.Stop e = opening_lost turn.Border symbol.Stop refl refl
    opening_hears turn.Border symbol.One e = opening_lost turn.Border symbol.One refl refl
    opening_hears turn.ClosingBorder symbol.Start e = record { sound = record { is_tied = refl; is_turned = refl; is_unacked = refl; is_real = here-is }; turn = refl; standing = opening_start turn.ClosingBorder refl; clears = λ z. absurd (clash z) }
    opening_hears turn.ClosingBorder symbol.Zero e = opening_lost turn.ClosingBorder symbol.Zero refl refl
    opening_hears turn.ClosingBorder symbol.Stop e = opening_lost turn.ClosingBorder symbol.Stop refl refl
    opening_hears turn.ClosingBorder symbol.One e = opening_lost turn.ClosingBorder symbol.One refl refl
    opening_hears turn.Free x e = absurd (clash e)
    opening_hears (turn.Address n) x e = absurd (clash e)
    opening_hears (turn.AddressNinth d) x e = absurd (clash e)
    opening_hears (turn.Write n) x e = absurd (clash e)
    opening_hears turn.WriteNinth x e = absurd (clash e)
    opening_hears (turn.Read n) x e = absurd (clash e)
    opening_hears turn.ReadNinth x e = absurd (clash e)

  -- its P
  module _ (i j : ℕ) where
    stopping_lost : (t : Turn) (x : Symbol) → loss (P Stopping i j t) x ≡ true → ends Stopping x ≡ false → keeps t x symbol.Stop ≡ false → Goal Stopping i j t x
    stopping_lost t x l o k = lost_out ss r b Stopping i j t x (lost_quiet b t task.Stop b.control.acke0 b.status.trc0 x l) o (becomes_lost _ (is_stop x) _ x k)

    stopping_done : (t : Turn) → Quiet (moved_on (P Stopping i j t) symbol.Stop) → standing_of ss (with_standing r Answered) b ≡ hears t symbol.Stop (standing_of ss (R Stopping i j) (P Stopping i j t))
        → Heard ss (R Stopping i j) (P Stopping i j t) symbol.Stop (with_standing r Answered) (loss_cleared symbol.Stop (moved_on (P Stopping i j t) symbol.Stop))
    stopping_done t q e =
        let m = moved_on (P Stopping i j t) symbol.Stop in
        let f = cleared_is symbol.Stop m q in
        record { sound = record { is_tied = quiet_answered ss (loss_cleared symbol.Stop m) f.0; is_turned = refl; is_unacked = refl; is_real = refl }; turn = f.1; standing = e; clears = f.2 }

    pub stopping_hears : (t : Turn) (x : Symbol) → at_border t ≡ true → Goal Stopping i j t x
    stopping_hears turn.Border symbol.Stop e = stopping_done turn.Border (record { lit_up = refl; rests = refl; no_master = refl; no_sender = refl }) refl
    stopping_hears turn.ClosingBorder symbol.Stop e = stopping_done turn.ClosingBorder (record { lit_up = refl; rests = refl; no_master = refl; no_sender = refl }) refl
    stopping_hears turn.Border symbol.Zero e = stopping_lost turn.Border symbol.Zero refl refl refl
    stopping_hears turn.Border symbol.Start e = stopping_lost turn.Border symbol.Start refl refl refl
    stopping_hears turn.Border symbol.One e = stopping_lost turn.Border symbol.One refl refl refl
    stopping_hears turn.ClosingBorder symbol.Zero e = stopping_lost turn.ClosingBorder symbol.Zero refl refl refl
    stopping_hears turn.ClosingBorder symbol.Start e = stopping_lost turn.ClosingBorder symbol.Start refl refl refl
    stopping_hears turn.ClosingBorder symbol.One e = stopping_lost turn.ClosingBorder symbol.One refl refl refl
    stopping_hears turn.Free x e = absurd (clash e)
    stopping_hears (turn.Address n) x e = absurd (clash e)
    stopping_hears (turn.AddressNinth d) x e = absurd (clash e)
    stopping_hears (turn.Write n) x e = absurd (clash e)
    stopping_hears turn.WriteNinth x e = absurd (clash e)
    stopping_hears (turn.Read n) x e = absurd (clash e)
    stopping_hears turn.ReadNinth x e = absurd (clash e)
