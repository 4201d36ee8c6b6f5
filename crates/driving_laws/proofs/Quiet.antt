-- A block with nothing to do, and what the register master makes of it. Assumes nothing.
use Rattle.std.proofs.Common.{◌≡◌, Bool, true, false, cond, [], sym, refl, ap, ◌∙◌, subst, arith}
use borrow.Author.Tests.{clash}
use Rattle.bus.specs.declared.Symbol.{Symbol}
use Rattle.bus.specs.declared.Symbol.TheVariants as symbol
use Rattle.bus.specs.declared.Turn.{Turn}
use Rattle.bus.specs.Symbols.{is_stop}
use Rattle.bus.specs.Turns.{next}
use Rattle.orders.specs.Orders.{Order}
use Rattle.scripts.specs.Scripts as script
use Rattle.masters.specs.Standings as masters
use Rattle.masters.specs.Standings.{hears}
use Rattle.block.specs.declared.Block.{Block}
use Rattle.block.specs.declared.Control.{Control}
use Rattle.block.specs.declared.Task.{Task}
use Rattle.block.specs.declared.Task.TheVariants as task
use Rattle.block.specs.Slots.{is_ninth}
use Rattle.block.specs.Tasks.{waits}
use Rattle.block.specs.Heard.{heard, moved_on}
use Rattle.driving.specs.declared.Standing.{Standing}
use Rattle.driving.specs.declared.Standing.TheVariants.{Idle, Waiting, Answered}
use Rattle.driving.specs.States.{Known}
use Rattle.driving.specs.Driving.{loss_cleared, retried, renewed, begun, with_standing}
use Rattle.driving_laws.specs.Tied.{patched, tied, task_of, acks_of, is_contending, sends_of}
use Rattle.driving_laws.specs.Meaning.{standing_of}
use Rattle.driving_laws.specs.Agreement.{Heard, Hears}

pub same_arms : {A : Type 0} (c : Bool) (a : A) → cond c a a ≡ a
same_arms true a = refl
same_arms false a = refl

abbrev pub lit : Bool → Control
lit a = record { iice0 = true; spie0 = false; wtim0 = true; acke0 = a }

abbrev pub rebuilt : Block → Control → Task → Bool → Bool → Block
rebuilt b c k m r = record {
  turn = b.turn;
  shift = b.shift;
  task = k;
  control = c;
  status = record { msts0 = m; ald0 = b.status.ald0; exc0 = b.status.exc0; coi0 = b.status.coi0; trc0 = r; ackd0 = b.status.ackd0; std0 = b.status.std0; spd0 = b.status.spd0 };
  iic0 = b.iic0;
  sva0 = b.sva0;
  iiccl0 = b.iiccl0;
  iicf0 = b.iicf0;
}

pub rebuild : (b : Block) (c : Control) (k : Task) (m r : Bool) → b.control ≡ c → b.task ≡ k → b.status.msts0 ≡ m → b.status.trc0 ≡ r → b ≡ rebuilt b c k m r
rebuild b c k m r ec ek em er =
    subst (λ (v : Control). b ≡ rebuilt b v k m r) ec
    (subst (λ (v : Task). b ≡ rebuilt b b.control v m r) ek
    (subst (λ (v : Bool). b ≡ rebuilt b b.control b.task v r) em
    (subst (λ (v : Bool). b ≡ rebuilt b b.control b.task b.status.msts0 v) er refl)))

pub tie : (ss : Order) (st : Standing) (b : Block)
    → b.control ≡ lit (acks_of ss st b.control.acke0) → b.task ≡ task_of ss st b.turn → b.status.msts0 ≡ is_contending st → b.status.trc0 ≡ sends_of st b.status.trc0
    → b ≡ tied ss st b.turn b
tie ss st b ec ek em er = rebuild b _ _ _ _ ec ek em er

-- a 1 belongs to the byte unless a wait stands
pub heard_moves : (b : Block) (x : Symbol) → waits b.task ≡ false → heard b x ≡ moved_on b x
heard_moves b x e = grind arith

-- a contender that has come so far, and its notes between two bytes
abbrev pub contends : Order → Known → script.Progress → masters.Standing
contends ss r p = masters.contending (record { request = record { order = ss; losses = r.losses }; progress = p })

abbrev pub noted : Known → script.Notes
noted r = record { bytes = r.bytes; part = 0; outcome = r.outcome }

-- nothing to do
pub record Quiet (b : Block) : Type 0 where
  pub lit_up : b.control ≡ lit b.control.acke0
  pub rests : b.task ≡ task.Rest
  pub no_master : b.status.msts0 ≡ false
  pub no_sender : b.status.trc0 ≡ false

pub quiet_heard : (b : Block) (t : Turn) (a : Bool) (x : Symbol) → Quiet (heard (patched b t task.Rest a false false) x)
quiet_heard b t a symbol.Zero = record { lit_up = refl; rests = same_arms (is_ninth t) task.Rest; no_master = refl; no_sender = refl }
quiet_heard b t a symbol.Stop = record { lit_up = refl; rests = refl; no_master = refl; no_sender = refl }
quiet_heard b t a symbol.Start = record { lit_up = refl; rests = refl; no_master = refl; no_sender = refl }
quiet_heard b t a symbol.One = record { lit_up = refl; rests = same_arms (is_ninth t) task.Rest; no_master = refl; no_sender = refl }

pub quiet_idle : (ss : Order) (b : Block) → Quiet b → b ≡ tied ss Idle b.turn b
quiet_idle ss b q = tie ss Idle b q.lit_up q.rests q.no_master q.no_sender

pub quiet_answered : (ss : Order) (b : Block) → Quiet b → b ≡ tied ss Answered b.turn b
quiet_answered ss b q = tie ss Answered b q.lit_up q.rests q.no_master q.no_sender

pub quiet_turn : (b : Block) (t : Turn) (a : Bool) (x : Symbol) → (heard (patched b t task.Rest a false false) x).turn ≡ next t x
quiet_turn b t a x = ap (λ (v : Block). v.turn) (heard_moves (patched b t task.Rest a false false) x refl)

-- a P that finds ALD0 = 1 leaves it 0, and the block quiet
abbrev Cleared : Symbol → Block → Type 0
Cleared x b = Quiet (loss_cleared x b) × ((loss_cleared x b).turn ≡ b.turn) × (is_stop x ≡ true → (loss_cleared x b).status.ald0 ≡ false)

quiet_patched : (b : Block) (t : Turn) (a : Bool) → Quiet (patched b t task.Rest a false false)
quiet_patched b t a = record { lit_up = refl; rests = refl; no_master = refl; no_sender = refl }

abbrev Renewed : Block → Block → Type 0
Renewed b p = Quiet p × (p.turn ≡ b.turn) × (p.status.ald0 ≡ false)

renewed_is : (b : Block) (t : Turn) (a : Bool) → Renewed (patched b t task.Rest a false false) (renewed (patched b t task.Rest a false false))
renewed_is b t true = (record { lit_up = refl; rests = refl; no_master = refl; no_sender = refl }, refl, refl)
renewed_is b t false = (record { lit_up = refl; rests = refl; no_master = refl; no_sender = refl }, refl, refl)

abbrev Left : Turn → Block → Type 0
Left t p = Quiet p × (p.turn ≡ t) × (is_stop symbol.Stop ≡ true → p.status.ald0 ≡ false)

cleared_at : (b : Block) (t : Turn) (a : Bool) (x : Symbol) → Cleared x (patched b t task.Rest a false false)
cleared_at b t a symbol.Zero = (quiet_patched b t a, refl, λ e. absurd (clash e))
cleared_at b t a symbol.Start = (quiet_patched b t a, refl, λ e. absurd (clash e))
cleared_at b t a symbol.One = (quiet_patched b t a, refl, λ e. absurd (clash e))
cleared_at b t a symbol.Stop = go b.status.ald0 refl
  where
    go : (c : Bool) → b.status.ald0 ≡ c → Left t (cond c (renewed (patched b t task.Rest a false false)) (patched b t task.Rest a false false))
    go true e = let w = renewed_is b t a in (w.0, w.1, λ z. w.2)
    go false e = (quiet_patched b t a, refl, λ z. e)

pub cleared_is : (x : Symbol) (b : Block) → Quiet b → Cleared x b
cleared_is x b q = subst (λ (v : Block). Cleared x v) (sym (quiet_idle [] b q)) (cleared_at b b.turn b.control.acke0 x)

abbrev Begins : Order → Block → Type 0
Begins ss b = (begun b ≡ tied ss Waiting (begun b).turn (begun b)) × ((begun b).turn ≡ b.turn) × ((begun b).status.ald0 ≡ b.status.ald0)

begun_is : (ss : Order) (b : Block) (t : Turn) (a : Bool) → Begins ss (patched b t task.Rest a false false)
begun_is ss b t a = grind arith

pub quiet_begun : (ss : Order) (b : Block) → Quiet b → Begins ss b
quiet_begun ss b q = subst (λ (v : Block). Begins ss v) (sym (quiet_idle ss b q)) (begun_is ss b b.turn b.control.acke0)

-- who waits after a slot with a quiet block
pub waits_on : (ss : Order) (r k : Known) (b m : Block) (x : Symbol) → Quiet m → m.turn ≡ next b.turn x
    → standing_of ss (with_standing k Waiting) m ≡ hears b.turn x (standing_of ss r b)
    → Heard ss r b x (with_standing k Waiting) (retried Waiting (loss_cleared x m))
waits_on ss r k b m x q t e =
    let f = cleared_is x m q in
    let g = quiet_begun ss (loss_cleared x m) f.0 in
    record {
      sound = record { is_tied = g.0; is_turned = refl; is_unacked = refl; is_real = refl };
      turn = g.1 ∙ f.1 ∙ t;
      standing = e;
      clears = λ z. g.2 ∙ f.2 z;
    }

module _ (ss : Order) (r : Known) (b : Block) (t : Turn) (x : Symbol) where
  pub idle_hears : Hears ss (with_standing r Idle) (tied ss Idle t b) x
  idle_hears =
      let q = quiet_heard b t b.control.acke0 x in
      let f = cleared_is x _ q in
      record { sound = record { is_tied = quiet_idle ss _ f.0; is_turned = refl; is_unacked = refl; is_real = refl }; turn = f.1 ∙ quiet_turn b t b.control.acke0 x; standing = refl; clears = f.2 }

  pub answered_hears : Hears ss (with_standing r Answered) (tied ss Answered t b) x
  answered_hears =
      let q = quiet_heard b t b.control.acke0 x in
      let f = cleared_is x _ q in
      record { sound = record { is_tied = quiet_answered ss _ f.0; is_turned = refl; is_unacked = refl; is_real = refl }; turn = f.1 ∙ quiet_turn b t b.control.acke0 x; standing = refl; clears = f.2 }
