-- A contender in its address byte. Assumes nothing.
use Rattle.std.proofs.Common.{◌≡◌, ℕ, zero, suc, ◌-◌, ◌/◌, ◌^◌, Bool, true, false, cond, not, ◌&&◌, ◌||◌, eqb, ltb, List, length, sym, refl, ap, ◌∙◌, subst, arith, ltb-false, ltb-true}
use Rattle.std.proofs.lemmas.Bool.{cond-true, not-true}
use borrow.Author.Tests.{clash, eqb_apart}
use Rattle.bus.specs.declared.Symbol.{Symbol}
use Rattle.bus.specs.declared.Symbol.TheVariants as symbol
use Rattle.bus.specs.declared.Direction.{Direction}
use Rattle.bus.specs.declared.Direction.TheVariants as direction
use Rattle.bus.specs.declared.Turn.{Turn}
use Rattle.bus.specs.declared.Turn.TheVariants as turn
use Rattle.bus.specs.Symbols.{is_bit, is_stop, bit, heading_bit}
use Rattle.bus.specs.Turns.{next}
use Rattle.orders.specs.declared.Outcome.TheVariants.{NoAddress}
use Rattle.orders.specs.Orders.{Segment, writing, reading, Order, reads, count}
use Rattle.scripts.specs.Scripts as script
use Rattle.progress.specs.Positions.{here, heading}
use Rattle.progress.specs.Plans.{todo_at}
use Rattle.masters.specs.Standings.{keeps}
use Rattle.block.specs.declared.Block.{Block}
use Rattle.block.specs.declared.Task.TheVariants as task
use Rattle.block.specs.Slots.{same, in_byte}
use Rattle.block.specs.Flags.{loss, flag}
use Rattle.block.specs.Heard.{moved_on}
use Rattle.block.specs.Access.{byte_moves}
use Rattle.driving.specs.declared.Phase.{Phase}
use Rattle.driving.specs.declared.Phase.TheVariants.{Address}
use Rattle.driving.specs.declared.Standing.TheVariants.{Contending}
use Rattle.driving.specs.States.{Known}
use Rattle.driving.specs.Driving.{address_byte_of, ended, loss_cleared, retried, with_standing, failed, standing_on, block_on}
use Rattle.driving_laws.specs.Tied.{tied, turned, unacked}
use Rattle.driving_laws.specs.Meaning.{progress_at, address_stage}
use Rattle.driving_laws.specs.Agreement.{Heard, Hears}
use Rattle.driving_laws.proofs.Quiet.{tie, contends, noted}
use Rattle.driving_laws.proofs.Lost.{lost_quiet, lost_out}
use Rattle.driving_laws.proofs.Bits.{same_as, own_direction, own_address, plain, becomes_kept, becomes_lost, Kept, kept}
use Rattle.driving_laws.proofs.Resume.{resume_write, resume_read, resumed_hears}
use Rattle.driving_laws.proofs.Mid.{not_and, not_both, moving, mid_out}

module _ (ss : Order) (r : Known) (b : Block) where
  abbrev R : Phase → ℕ → ℕ → Known
  R p i j = with_standing r (Contending p i j)

  abbrev P : Phase → ℕ → ℕ → Turn → Block
  P p i j t = tied ss (Contending p i j) t b

  abbrev Goal : Phase → ℕ → ℕ → Turn → Symbol → Type 0
  Goal p i j t x = Hears ss (R p i j) (P p i j t) x

  module _ (i j : ℕ) (here-is : ltb i (length ss) ≡ true) where
    abbrev v : ℕ
    v = address_byte_of (here ss i)

    pub own_at : (n : ℕ) → script.offer (todo_at ss i (address_stage (turn.Address n))) ≡ bit (v / 2 ^ n)
    own_at zero = sym (own_direction (here ss i))
    own_at (suc n) = sym (own_address (here ss i) n)

    stepped : (n : ℕ) (x : Symbol) (s s' : ℕ) → is_bit x ≡ true → progress_at ss Address i j (next (turn.Address n) x) s' (R Address i j) ≡ script.hear (progress_at ss Address i j (turn.Address n) s (R Address i j)) x
    stepped n x s s' e = grind arith

    turned_on : (n : ℕ) (x : Symbol) (s : ℕ) → ltb n 8 ≡ true → same (bit (v / 2 ^ n)) x ≡ true → is_bit x ≡ true → turned ss (Contending Address i j) s (next (turn.Address n) x) ≡ true
    turned_on n x s e f g = grind arith

    address_kept : (n : ℕ) (x : Symbol) → ltb n 8 ≡ true → same (bit (v / 2 ^ n)) x ≡ true → is_bit x ≡ true → same x symbol.Stop ≡ false → is_stop x ≡ false
        → Kept (moved_on (P Address i j (turn.Address n)) x) (task.Send v) true → unacked (Contending Address i j) (next (turn.Address n) x) (moved_on (P Address i j (turn.Address n)) x).status.ackd0 ≡ true
        → Goal Address i j (turn.Address n) x
    address_kept n x e f ib ns st K ua =
        let m = moved_on (P Address i j (turn.Address n)) x in
        let mv = moving m (task.Send v) K.task_kept refl in
        let kp : keeps (turn.Address n) x (script.offer (todo_at ss i (address_stage (turn.Address n)))) ≡ true = same_as _ _ x (own_at n) ∙ f in
        mid_out ss r b Address i j (turn.Address n) x K.msts_kept (cond-true (byte_moves m) _ _ mv) (cond-true (byte_moves m) _ _ mv) ns
        (record {
          sound = record { is_tied = tie ss (Contending Address i j) m refl K.task_kept K.msts_kept K.trc_kept; is_turned = turned_on n x m.shift e f ib; is_unacked = ua; is_real = here-is };
          turn = refl;
          standing = ap (contends ss r) (stepped n x b.shift m.shift ib) ∙ rw st (becomes_kept _ _ x kp);
          clears = λ z. absurd (clash (sym st ∙ z));
        })

    acked_on : (n : ℕ) (x : Symbol) (a c : Bool) → ltb n 8 ≡ true → unacked (Contending Address i j) (turn.Address n) a ≡ true → eqb n 7 ≡ c → not (in_byte (next (turn.Address n) x) && flag false (c || false) a) ≡ true
    acked_on n x a true l e f = not_and (in_byte (next (turn.Address n) x))
    acked_on n x false false l e f = not_and (in_byte (next (turn.Address n) x))
    acked_on n x true false l e f =
        let z = ltb-true n 8 l in
        let y = eqb_apart n 7 f in
        let w = ltb-false n 7 (not_both (ltb n 7) e) in
        absurd (y (omega arith))

    address_bit : (n : ℕ) (x : Symbol) → ltb n 8 ≡ true → unacked (Contending Address i j) (turn.Address n) b.status.ackd0 ≡ true → Goal Address i j (turn.Address n) x
    address_bit n x e ua = go (same (bit (v / 2 ^ n)) x) refl
      where
        keep : (y : Symbol) → same (bit (v / 2 ^ n)) y ≡ true → Goal Address i j (turn.Address n) y
        keep symbol.Zero f = address_kept n symbol.Zero e f refl refl refl (kept b (turn.Address n) (task.Send v) b.control.acke0 true symbol.Zero refl (ap (λ (c : Bool). not c && true) f) refl refl refl refl) (acked_on n symbol.Zero b.status.ackd0 (eqb n 7) e ua refl)
        keep symbol.One f = address_kept n symbol.One e f refl refl refl (kept b (turn.Address n) (task.Send v) b.control.acke0 true symbol.One refl (ap (λ (c : Bool). not c && true) f) refl refl refl refl) (acked_on n symbol.One b.status.ackd0 (eqb n 7) e ua refl)
        keep symbol.Stop f = absurd (clash (sym (plain v n).1 ∙ f))
        keep symbol.Start f = absurd (clash (sym (plain v n).0 ∙ f))

        go : (c : Bool) → same (bit (v / 2 ^ n)) x ≡ c → Goal Address i j (turn.Address n) x
        go true f = keep x f
        go false f = lost_out ss r b Address i j (turn.Address n) x
            (lost_quiet b (turn.Address n) (task.Send v) b.control.acke0 true x (ap (λ (c : Bool). not c && true) f)) refl
            (becomes_lost _ (is_stop x) _ x (same_as _ _ x (own_at n) ∙ f))

    -- S and P in a slaves' slot
    address_upset : (d : Direction) (x : Symbol) → loss (P Address i j (turn.AddressNinth d)) x ≡ true → keeps (turn.AddressNinth d) x symbol.One ≡ false → Goal Address i j (turn.AddressNinth d) x
    address_upset d x l k = lost_out ss r b Address i j (turn.AddressNinth d) x
        (lost_quiet b (turn.AddressNinth d) (task.Send v) b.control.acke0 true x l) refl (becomes_lost _ (is_stop x) _ x k)

    -- not acknowledged
    abbrev Refused : Direction → Bool → Type 0
    Refused d c =
        let B : Block = P Address i j (turn.AddressNinth d) in
        let m : Block = moved_on B symbol.One in
        let q : Known = cond c (with_standing (R Address i j) (standing_on ss i 0)) (failed (R Address i j) (NoAddress i) i) in
        Heard ss (R Address i j) B symbol.One q (retried q.standing (loss_cleared symbol.One (cond c (block_on ss i 0 m) (ended m))))

    refused_at : (d : Direction) → Refused d false
    refused_at d = record { sound = record { is_tied = refl; is_turned = refl; is_unacked = refl; is_real = refl }; turn = refl; standing = refl; clears = λ z. absurd (clash z) }

    address_refused : (d : Direction) → unacked (Contending Address i j) (turn.AddressNinth d) b.status.ackd0 ≡ true → Goal Address i j (turn.AddressNinth d) symbol.One
    address_refused direction.Write e = subst (λ (c : Bool). Refused direction.Write c) (sym (not-true b.status.ackd0 e)) (refused_at direction.Write)
    address_refused direction.Read e = subst (λ (c : Bool). Refused direction.Read c) (sym (not-true b.status.ackd0 e)) (refused_at direction.Read)

    address_taken : (s : Segment) (d : Direction) → here ss i ≡ s → same (heading s) (heading_bit d) ≡ true → (reads s ≡ true → ltb 0 (count s) ≡ true) → Goal Address i j (turn.AddressNinth d) symbol.Zero
    address_taken (writing a bs) direction.Write e f g =
        let B = P Address i j (turn.AddressNinth direction.Write) in
        resumed_hears ss (R Address i j) (R Address i j) B symbol.Zero turn.Border _ _ _
        (resume_write ss (moved_on B symbol.Zero) b.control.acke0 i here-is 0 a bs e) refl refl
        (ap (λ (k : List script.Act). contends ss r (record { todo = k; notes = noted r })) (rw e refl))
    address_taken (writing a bs) direction.Read e f g = absurd (clash f)
    address_taken (reading a n) direction.Read e f g =
        let B = P Address i j (turn.AddressNinth direction.Read) in
        resumed_hears ss (R Address i j) (R Address i j) B symbol.Zero (turn.Read 7) _ _ _
        (resume_read ss (moved_on B symbol.Zero) b.control.acke0 i here-is false 0 a n e (g refl) refl) refl refl
        (ap (λ (k : List script.Act). contends ss r (record { todo = k; notes = noted r })) (let z : n - 0 ≡ n = omega arith in rw (e, z) refl))
    address_taken (reading a n) direction.Write e f g = absurd (clash f)

    pub address_hears : (t : Turn) (x : Symbol) → turned ss (Contending Address i j) b.shift t ≡ true → (reads (here ss i) ≡ true → ltb 0 (count (here ss i)) ≡ true) → unacked (Contending Address i j) t b.status.ackd0 ≡ true → Goal Address i j t x
    address_hears (turn.Address n) x e g ua = address_bit n x e ua
    address_hears (turn.AddressNinth d) symbol.Zero e g ua = address_taken (here ss i) d refl e g
    address_hears (turn.AddressNinth d) symbol.One e g ua = address_refused d ua
    address_hears (turn.AddressNinth d) symbol.Stop e g ua = address_upset d symbol.Stop refl refl
    address_hears (turn.AddressNinth d) symbol.Start e g ua = address_upset d symbol.Start refl refl
    address_hears turn.Free x e g ua = absurd (clash e)
    address_hears turn.Border x e g ua = absurd (clash e)
    address_hears (turn.Write n) x e g ua = absurd (clash e)
    address_hears turn.WriteNinth x e g ua = absurd (clash e)
    address_hears (turn.Read n) x e g ua = absurd (clash e)
    address_hears turn.ReadNinth x e g ua = absurd (clash e)
    address_hears turn.ClosingBorder x e g ua = absurd (clash e)
