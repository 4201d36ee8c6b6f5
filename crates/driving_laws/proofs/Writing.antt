-- A contender in a byte that it writes. Assumes nothing.
use Rattle.std.proofs.Common.{◌≡◌, ℕ, ◌+◌, ◌/◌, ◌^◌, Bool, true, false, cond, not, ◌&&◌, ltb, List, length, get_or, sym, refl, ap, ◌∙◌, subst, arith}
use Rattle.std.proofs.lemmas.Bool.{cond-true, not-true}
use borrow.Author.Tests.{clash}
use Rattle.bus.specs.declared.Symbol.{Symbol}
use Rattle.bus.specs.declared.Symbol.TheVariants as symbol
use Rattle.bus.specs.declared.Turn.{Turn}
use Rattle.bus.specs.declared.Turn.TheVariants as turn
use Rattle.bus.specs.Symbols.{is_bit, is_stop, bit}
use Rattle.bus.specs.Turns.{next, masters_slot}
use Rattle.orders.specs.declared.Outcome.TheVariants.{NoByte}
use Rattle.orders.specs.Orders.{Segment, writing, reading, Order, reads, bytes_of}
use Rattle.scripts.specs.Scripts as script
use Rattle.progress.specs.Positions.{here}
use Rattle.progress.specs.Plans.{todo_at}
use Rattle.masters.specs.Standings.{keeps}
use Rattle.block.specs.declared.Block.{Block}
use Rattle.block.specs.declared.Task.TheVariants as task
use Rattle.block.specs.Slots.{same, is_ninth, in_byte}
use Rattle.block.specs.Flags.{loss}
use Rattle.block.specs.Heard.{moved_on}
use Rattle.block.specs.Access.{byte_moves}
use Rattle.driving.specs.declared.Phase.{Phase}
use Rattle.driving.specs.declared.Phase.TheVariants.{Write}
use Rattle.driving.specs.declared.Standing.TheVariants.{Contending}
use Rattle.driving.specs.States.{Known}
use Rattle.driving.specs.Driving.{ended, loss_cleared, retried, with_standing, failed, standing_on, block_on}
use Rattle.driving_laws.specs.Tied.{in_write, tied, turned, real, unacked}
use Rattle.driving_laws.specs.Meaning.{progress_at, write_stage}
use Rattle.driving_laws.specs.Agreement.{Heard, Hears}
use Rattle.driving_laws.proofs.Quiet.{tie, contends, noted}
use Rattle.driving_laws.proofs.Lost.{lost_quiet, lost_out}
use Rattle.driving_laws.proofs.Bits.{same_as, plain, becomes_kept, becomes_lost, Kept, kept}
use Rattle.driving_laws.proofs.Resume.{resume_write, resumed_hears}
use Rattle.driving_laws.proofs.Mid.{not_and, moving, mid_out}

module _ (ss : Order) (r : Known) (b : Block) where
  abbrev R : Phase → ℕ → ℕ → Known
  R p i j = with_standing r (Contending p i j)

  abbrev P : Phase → ℕ → ℕ → Turn → Block
  P p i j t = tied ss (Contending p i j) t b

  abbrev Goal : Phase → ℕ → ℕ → Turn → Symbol → Type 0
  Goal p i j t x = Hears ss (R p i j) (P p i j t) x

  module _ (i j : ℕ) (here-is : ltb i (length ss) ≡ true) (is-there : real ss (Contending Write i j) ≡ true) where
    abbrev v : ℕ
    v = get_or (bytes_of (here ss i)) j 0

    wrote : (t : Turn) (x : Symbol) (s s' : ℕ) → in_write t ≡ true → is_bit x ≡ true → is_ninth t ≡ false → progress_at ss Write i j (next t x) s' (R Write i j) ≡ script.hear (progress_at ss Write i j t s (R Write i j)) x
    wrote t x s s' e f g = grind arith

    write_kept : (t : Turn) (n : ℕ) (x : Symbol) → in_write t ≡ true → is_ninth t ≡ false → masters_slot t ≡ true → script.offer (todo_at ss i (write_stage j t)) ≡ bit (v / 2 ^ n) → same (bit (v / 2 ^ n)) x ≡ true
        → is_bit x ≡ true → same x symbol.Stop ≡ false → is_stop x ≡ false
        → Kept (moved_on (P Write i j t) x) (task.Send v) true → turned ss (Contending Write i j) (moved_on (P Write i j t) x).shift (next t x) ≡ true → unacked (Contending Write i j) (next t x) (moved_on (P Write i j t) x).status.ackd0 ≡ true
        → Goal Write i j t x
    write_kept t n x e nn os own f ib ns st K tu ua =
        let m = moved_on (P Write i j t) x in
        let mv = moving m (task.Send v) K.task_kept refl in
        let kp : keeps t x (script.offer (todo_at ss i (write_stage j t))) ≡ true = cond-true (masters_slot t) _ _ os ∙ same_as _ _ x own ∙ f in
        mid_out ss r b Write i j t x K.msts_kept (cond-true (byte_moves m) _ _ mv) (cond-true (byte_moves m) _ _ mv) ns
        (record {
          sound = record { is_tied = tie ss (Contending Write i j) m refl K.task_kept K.msts_kept K.trc_kept; is_turned = tu; is_unacked = ua; is_real = is-there };
          turn = refl;
          standing = ap (contends ss r) (wrote t x b.shift m.shift e ib nn) ∙ rw st (becomes_kept _ _ x kp);
          clears = λ z. absurd (clash (sym st ∙ z));
        })

    write_first : (x : Symbol) → Goal Write i j turn.Border x
    write_first x = go (same (bit (v / 2 ^ 7)) x) refl
      where
        keep : (y : Symbol) → same (bit (v / 2 ^ 7)) y ≡ true → Goal Write i j turn.Border y
        keep symbol.Zero f = write_kept turn.Border 7 symbol.Zero refl refl refl refl f refl refl refl (kept b turn.Border (task.Send v) b.control.acke0 true symbol.Zero refl (ap (λ (c : Bool). not c && true) f) refl refl refl refl) refl refl
        keep symbol.One f = write_kept turn.Border 7 symbol.One refl refl refl refl f refl refl refl (kept b turn.Border (task.Send v) b.control.acke0 true symbol.One refl (ap (λ (c : Bool). not c && true) f) refl refl refl refl) refl refl
        keep symbol.Stop f = absurd (clash (sym (plain v 7).1 ∙ f))
        keep symbol.Start f = absurd (clash (sym (plain v 7).0 ∙ f))

        go : (c : Bool) → same (bit (v / 2 ^ 7)) x ≡ c → Goal Write i j turn.Border x
        go true f = keep x f
        go false f = lost_out ss r b Write i j turn.Border x (lost_quiet b turn.Border (task.Send v) b.control.acke0 true x (ap (λ (c : Bool). not c && true) f)) refl (becomes_lost _ (is_stop x) _ x f)

    still_unacked : (c a : Bool) → not a ≡ true → not (c && a) ≡ true
    still_unacked c true e = absurd (clash e)
    still_unacked c false e = not_and c

    turned_write : (n : ℕ) (x : Symbol) → ltb n 7 ≡ true → is_bit x ≡ true → in_write (next (turn.Write n) x) ≡ true
    turned_write n x e f = grind arith

    write_bit : (n : ℕ) (x : Symbol) → ltb n 7 ≡ true → not b.status.ackd0 ≡ true → Goal Write i j (turn.Write n) x
    write_bit n x e ua = go (same (bit (v / 2 ^ n)) x) refl
      where
        keep : (y : Symbol) → same (bit (v / 2 ^ n)) y ≡ true → Goal Write i j (turn.Write n) y
        keep symbol.Zero f = write_kept (turn.Write n) n symbol.Zero e refl refl refl f refl refl refl (kept b (turn.Write n) (task.Send v) b.control.acke0 true symbol.Zero refl (ap (λ (c : Bool). not c && true) f) refl refl refl refl)
            (turned_write n symbol.Zero e refl) (still_unacked (in_byte (next (turn.Write n) symbol.Zero)) b.status.ackd0 ua)
        keep symbol.One f = write_kept (turn.Write n) n symbol.One e refl refl refl f refl refl refl (kept b (turn.Write n) (task.Send v) b.control.acke0 true symbol.One refl (ap (λ (c : Bool). not c && true) f) refl refl refl refl)
            (turned_write n symbol.One e refl) (still_unacked (in_byte (next (turn.Write n) symbol.One)) b.status.ackd0 ua)
        keep symbol.Stop f = absurd (clash (sym (plain v n).1 ∙ f))
        keep symbol.Start f = absurd (clash (sym (plain v n).0 ∙ f))

        go : (c : Bool) → same (bit (v / 2 ^ n)) x ≡ c → Goal Write i j (turn.Write n) x
        go true f = keep x f
        go false f = lost_out ss r b Write i j (turn.Write n) x (lost_quiet b (turn.Write n) (task.Send v) b.control.acke0 true x (ap (λ (c : Bool). not c && true) f)) refl (becomes_lost _ (is_stop x) _ x f)

    -- not acknowledged
    abbrev Refused : Bool → Type 0
    Refused c =
        let B : Block = P Write i j turn.WriteNinth in
        let m : Block = moved_on B symbol.One in
        let q : Known = cond c (with_standing (R Write i j) (standing_on ss i (j + 1))) (failed (R Write i j) (NoByte i j) i) in
        Heard ss (R Write i j) B symbol.One q (retried q.standing (loss_cleared symbol.One (cond c (block_on ss i (j + 1) m) (ended m))))

    refused_at : Refused false
    refused_at = record { sound = record { is_tied = refl; is_turned = refl; is_unacked = refl; is_real = refl }; turn = refl; standing = refl; clears = λ z. absurd (clash z) }

    write_refused : not b.status.ackd0 ≡ true → Goal Write i j turn.WriteNinth symbol.One
    write_refused e = subst (λ (c : Bool). Refused c) (sym (not-true b.status.ackd0 e)) refused_at

    write_taken : (s : Segment) → here ss i ≡ s → reads s ≡ false → Goal Write i j turn.WriteNinth symbol.Zero
    write_taken (reading a n) e g = absurd (clash (sym g))
    write_taken (writing a bs) e g =
        let B = P Write i j turn.WriteNinth in
        resumed_hears ss (R Write i j) (R Write i j) B symbol.Zero turn.Border _ _ _
        (resume_write ss (moved_on B symbol.Zero) b.control.acke0 i here-is (j + 1) a bs e) refl refl
        (ap (λ (k : List script.Act). contends ss r (record { todo = k; notes = noted r })) (rw e refl))

    write_upset : (x : Symbol) → loss (P Write i j turn.WriteNinth) x ≡ true → keeps turn.WriteNinth x symbol.One ≡ false → Goal Write i j turn.WriteNinth x
    write_upset x l k = lost_out ss r b Write i j turn.WriteNinth x (lost_quiet b turn.WriteNinth (task.Send v) b.control.acke0 true x l) refl (becomes_lost _ (is_stop x) _ x k)

    pub write_hears : (t : Turn) (x : Symbol) → in_write t ≡ true → reads (here ss i) ≡ false → unacked (Contending Write i j) t b.status.ackd0 ≡ true → Goal Write i j t x
    write_hears turn.Border x e g ua = write_first x
    write_hears (turn.Write n) x e g ua = write_bit n x e ua
    write_hears turn.WriteNinth symbol.Zero e g ua = write_taken (here ss i) refl g
    write_hears turn.WriteNinth symbol.One e g ua = write_refused ua
    write_hears turn.WriteNinth symbol.Stop e g ua = write_upset symbol.Stop refl refl
    write_hears turn.WriteNinth symbol.Start e g ua = write_upset symbol.Start refl refl
    write_hears turn.Free x e g ua = absurd (clash e)
    write_hears (turn.Address n) x e g ua = absurd (clash e)
    write_hears (turn.AddressNinth d) x e g ua = absurd (clash e)
    write_hears (turn.Read n) x e g ua = absurd (clash e)
    write_hears turn.ReadNinth x e g ua = absurd (clash e)
    write_hears turn.ClosingBorder x e g ua = absurd (clash e)
