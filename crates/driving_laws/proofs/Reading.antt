-- A contender in a byte that it reads. Assumes nothing.
use Rattle.std.proofs.Common.{◌≡◌, ℕ, zero, suc, ◌+◌, ◌-◌, ◌*◌, ◌^◌, ◌<◌, ◌≤◌, Bool, true, false, ltb, [], ◌∷◌, ◌++◌, length, sym, refl, ap, ◌∙◌, subst, arith, pow_mono, ltb-true, lt-ltb}
use Rattle.std.specs.Cmp.{first_so, second_so}
use Rattle.std.proofs.lemmas.Bool.{cond-true}
use Rattle.std.specs.Cmp.Derive.{both_true}
use borrow.Author.Tests.{clash}
use Rattle.bus.specs.declared.Symbol.{Symbol}
use Rattle.bus.specs.declared.Symbol.TheVariants as symbol
use Rattle.bus.specs.declared.Turn.{Turn}
use Rattle.bus.specs.declared.Turn.TheVariants as turn
use Rattle.bus.specs.Symbols.{is_bit, is_stop, value, shifted}
use Rattle.bus.specs.Turns.{next}
use Rattle.orders.specs.Orders.{Segment, writing, reading, Order, reads, count}
use Rattle.scripts.specs.Scripts as script
use Rattle.progress.specs.declared.Stage.TheVariants as stage
use Rattle.progress.specs.Positions.{here}
use Rattle.progress.specs.Plans.{others, todo_at}
use Rattle.masters.specs.Standings as masters
use Rattle.masters.specs.Standings.{keeps}
use Rattle.block.specs.declared.Block.{Block}
use Rattle.block.specs.declared.Task.TheVariants as task
use Rattle.block.specs.Slots.{same}
use Rattle.block.specs.Flags.{loss}
use Rattle.block.specs.Heard.{moved_on}
use Rattle.block.specs.Access.{byte_moves}
use Rattle.driving.specs.declared.Phase.{Phase}
use Rattle.driving.specs.declared.Phase.TheVariants.{Read}
use Rattle.driving.specs.declared.Standing.TheVariants.{Contending}
use Rattle.driving.specs.States.{Known}
use Rattle.driving.specs.Driving.{with_standing, with_byte, pushed}
use Rattle.driving_laws.specs.Tied.{in_read, patched, tied, real}
use Rattle.driving_laws.specs.Meaning.{stage_at, progress_at}
use native.Mathlib.Nat.{pow-succ'}
use Rattle.driving_laws.specs.Agreement.{Hears}
use Rattle.driving_laws.proofs.Quiet.{tie, contends}
use Rattle.driving_laws.proofs.Lost.{lost_quiet, lost_out}
use Rattle.driving_laws.proofs.Bits.{more_is, becomes_kept, becomes_lost, Kept, kept}
use Rattle.driving_laws.proofs.Resume.{resume_read, resume_read_past, resumed_hears}
use Rattle.driving_laws.proofs.Mid.{moving, mid_out}
use Rattle.driving.proofs.Fair.{value_le}

module _ (ss : Order) (r : Known) (b : Block) where
  abbrev R : Phase → ℕ → ℕ → Known
  R p i j = with_standing r (Contending p i j)

  abbrev P : Phase → ℕ → ℕ → Turn → Block
  P p i j t = tied ss (Contending p i j) t b

  abbrev Goal : Phase → ℕ → ℕ → Turn → Symbol → Type 0
  Goal p i j t x = Hears ss (R p i j) (P p i j t) x

  module _ (i j : ℕ) (here-is : ltb i (length ss) ≡ true) (is-there : real ss (Contending Read i j) ≡ true) (room : ltb (length r.bytes) 32 ≡ true) where
    read_upset : (t : Turn) (x : Symbol) → loss (P Read i j t) x ≡ true → keeps t x (script.offer (todo_at ss i (stage_at Read j t))) ≡ false → Goal Read i j t x
    read_upset t x l k = lost_out ss r b Read i j t x (lost_quiet b t task.Receive _ false x l) refl (becomes_lost _ (is_stop x) _ x k)

    whole : (s : ℕ) (x : Symbol) → s < 128 → shifted s x ≡ 2 * s + value x
    whole s x e = grind arith

    small : (n s : ℕ) → in_read s (turn.Read n) ≡ true → s < 128
    small n s e =
        let f = ltb-true s (2 ^ (7 - n)) (second_so (ltb n 8) _ e) in
        let g : 2 ^ (7 - n) ≤ 2 ^ 7 = pow_mono {i = 7 - n} {j = 7} (omega arith) in
        omega arith

    listened : (n s : ℕ) (x : Symbol) → is_bit x ≡ true → shifted s x ≡ 2 * s + value x → progress_at ss Read i j (next (turn.Read n) x) (shifted s x) (R Read i j) ≡ script.hear (progress_at ss Read i j (turn.Read n) s (R Read i j)) x
    listened n s x e f = grind arith

    grown : (n s : ℕ) (x : Symbol) → in_read s (turn.Read (suc n)) ≡ true → in_read (shifted s x) (turn.Read n) ≡ true
    grown n s x e =
        let l = ltb-true (suc n) 8 (first_so (ltb (suc n) 8) _ e) in
        let m : ℕ = 7 - suc n in
        let f = ltb-true s (2 ^ m) (second_so (ltb (suc n) 8) _ e) in
        let y : 7 - n ≡ suc m = omega arith in
        let p : 2 ^ (7 - n) ≡ 2 * 2 ^ m = ap (λ (k : ℕ). 2 ^ k) y ∙ pow-succ' 2 m in
        let w = whole s x (small (suc n) s e) in
        let v = value_le x in
        both_true (lt-ltb n 8 (omega arith)) (lt-ltb (shifted s x) (2 ^ (7 - n)) (omega arith))

    turned_read : (n s : ℕ) (x : Symbol) → is_bit x ≡ true → in_read s (turn.Read n) ≡ true → in_read (shifted s x) (next (turn.Read n) x) ≡ true
    turned_read zero s symbol.Zero f e = refl
    turned_read zero s symbol.One f e = refl
    turned_read (suc n) s symbol.Zero f e = grown n s symbol.Zero e
    turned_read (suc n) s symbol.One f e = grown n s symbol.One e
    turned_read n s symbol.Stop f e = absurd (clash f)
    turned_read n s symbol.Start f e = absurd (clash f)

    read_bit : (n : ℕ) (x : Symbol) → in_read b.shift (turn.Read n) ≡ true → is_bit x ≡ true → same x symbol.Stop ≡ false → is_stop x ≡ false
        → Kept (moved_on (P Read i j (turn.Read n)) x) task.Receive false → (moved_on (P Read i j (turn.Read n)) x).shift ≡ shifted b.shift x
        → Goal Read i j (turn.Read n) x
    read_bit n x e ib ns st K sh =
        let m = moved_on (P Read i j (turn.Read n)) x in
        let mv = moving m task.Receive K.task_kept refl in
        mid_out ss r b Read i j (turn.Read n) x K.msts_kept (cond-true (byte_moves m) _ _ mv) (cond-true (byte_moves m) _ _ mv) ns
        (record {
          sound = record { is_tied = tie ss (Contending Read i j) m refl K.task_kept K.msts_kept K.trc_kept; is_turned = ap (λ (z : ℕ). in_read z (next (turn.Read n) x)) sh ∙ turned_read n b.shift x ib e; is_unacked = refl; is_real = is-there };
          turn = refl;
          standing = ap (contends ss r) (ap (λ (z : ℕ). progress_at ss Read i j (next (turn.Read n) x) z (R Read i j)) sh ∙ listened n b.shift x ib (whole b.shift x (small n b.shift e))) ∙ rw st (becomes_kept _ _ x ib);
          clears = λ z. absurd (clash (sym st ∙ z));
        })

    -- its ninth: 0 while more are wanted
    abbrev Ninth : Bool → Symbol → Type 0
    Ninth a x = Hears ss (R Read i j) (patched b turn.ReadNinth task.Receive a true false) x

    pushed_bytes : (z : ℕ) → pushed z r.bytes ≡ r.bytes ++ (z ∷ [])
    pushed_bytes z = cond-true (ltb (length r.bytes) 32) _ _ room

    -- what the read byte leaves to do
    read_on : (n : ℕ) (x y : Symbol) (k : masters.Contender) → is_stop x ≡ false
        → k.request ≡ record { order = ss; losses = r.losses }
        → k.progress ≡ record { todo = script.say y ∷ script.receive (n - (j + 1)) (others ss i); notes = record { bytes = r.bytes ++ (b.shift ∷ []); part = 0; outcome = r.outcome } }
        → (c : Bool) → c ≡ true
        → contends ss r (record { todo = script.receive (n - (j + 1)) (others ss i); notes = record { bytes = pushed b.shift r.bytes; part = 0; outcome = r.outcome } }) ≡ masters.becomes c (is_stop x) k x
    read_on n x y k st q p c e =
        rw (pushed_bytes b.shift, st) (ap (λ (g : script.Progress). contends ss r (script.hear g x)) (sym p) ∙ ap (λ (g : masters.Request). masters.contending (record { request = g; progress = script.hear k.progress x })) (sym q) ∙ becomes_kept c k x e)

    ninth_more : (a' n : ℕ) → here ss i ≡ reading a' n → ltb (j + 1) n ≡ true → Ninth true symbol.Zero
    ninth_more a' n e f =
        let B = patched b turn.ReadNinth task.Receive true true false in
        resumed_hears ss (R Read i j) (with_byte (R Read i j) b.shift) B symbol.Zero (turn.Read 7) _ _ _
        (resume_read ss (moved_on B symbol.Zero) true i here-is false (j + 1) a' n e f refl) refl refl
        (read_on n symbol.Zero (script.more (n - (j + 1))) _ refl refl (rw e refl) (keeps turn.ReadNinth symbol.Zero (script.offer (todo_at ss i (stage.ReadNinth j)))) (rw e (ap (λ (y : Symbol). same y symbol.Zero) (sym (more_is j n true f)))))

    ninth_last : (a' n : ℕ) → here ss i ≡ reading a' n → ltb (j + 1) n ≡ false → Ninth false symbol.One
    ninth_last a' n e f =
        let B = patched b turn.ReadNinth task.Receive false true false in
        resumed_hears ss (R Read i j) (with_byte (R Read i j) b.shift) B symbol.One turn.ClosingBorder _ _ _
        (resume_read_past ss (moved_on B symbol.One) false i here-is false (j + 1) a' n e f) refl refl
        (read_on n symbol.One (script.more (n - (j + 1))) _ refl refl (rw e refl) (keeps turn.ReadNinth symbol.One (script.offer (todo_at ss i (stage.ReadNinth j)))) (rw e (ap (λ (y : Symbol). same y symbol.One) (sym (more_is j n false f)))))

    ninth_lost : (a : Bool) (x y : Symbol) → loss (patched b turn.ReadNinth task.Receive a true false) x ≡ true → script.more (count (here ss i) - (j + 1)) ≡ y → same y x ≡ false → ltb (j + 1) (count (here ss i)) ≡ a → Goal Read i j turn.ReadNinth x
    ninth_lost a x y l m k e = read_upset turn.ReadNinth x (ap (λ (c : Bool). loss (patched b turn.ReadNinth task.Receive c true false) x) e ∙ l) (ap (λ (v : Symbol). same v x) m ∙ k)

    ninth_at : (s : Segment) → here ss i ≡ s → reads s ≡ true → (a : Bool) → ltb (j + 1) (count s) ≡ a → (x : Symbol) → Goal Read i j turn.ReadNinth x
    ninth_at (writing a' bs) e g a f x = absurd (clash g)
    ninth_at (reading a' n) e g true f symbol.Zero = subst (λ (c : Bool). Ninth c symbol.Zero) (sym (rw e f)) (ninth_more a' n e f)
    ninth_at (reading a' n) e g true f symbol.Stop = ninth_lost true symbol.Stop symbol.Zero refl (rw e (sym (more_is j n true f))) refl (rw e f)
    ninth_at (reading a' n) e g true f symbol.Start = ninth_lost true symbol.Start symbol.Zero refl (rw e (sym (more_is j n true f))) refl (rw e f)
    ninth_at (reading a' n) e g true f symbol.One = ninth_lost true symbol.One symbol.Zero refl (rw e (sym (more_is j n true f))) refl (rw e f)
    ninth_at (reading a' n) e g false f symbol.One = subst (λ (c : Bool). Ninth c symbol.One) (sym (rw e f)) (ninth_last a' n e f)
    ninth_at (reading a' n) e g false f symbol.Stop = ninth_lost false symbol.Stop symbol.One refl (rw e (sym (more_is j n false f))) refl (rw e f)
    ninth_at (reading a' n) e g false f symbol.Start = ninth_lost false symbol.Start symbol.One refl (rw e (sym (more_is j n false f))) refl (rw e f)
    ninth_at (reading a' n) e g false f symbol.Zero = ninth_lost false symbol.Zero symbol.One refl (rw e (sym (more_is j n false f))) refl (rw e f)

    pub read_hears : (t : Turn) (x : Symbol) → in_read b.shift t ≡ true → reads (here ss i) ≡ true → Goal Read i j t x
    read_hears (turn.Read n) symbol.Zero e g = read_bit n symbol.Zero e refl refl refl (kept b (turn.Read n) task.Receive _ false symbol.Zero refl refl refl refl refl refl) refl
    read_hears (turn.Read n) symbol.One e g = read_bit n symbol.One e refl refl refl (kept b (turn.Read n) task.Receive _ false symbol.One refl refl refl refl refl refl) refl
    read_hears (turn.Read n) symbol.Stop e g = read_upset (turn.Read n) symbol.Stop refl refl
    read_hears (turn.Read n) symbol.Start e g = read_upset (turn.Read n) symbol.Start refl refl
    read_hears turn.ReadNinth x e g = ninth_at (here ss i) refl g (ltb (j + 1) (count (here ss i))) refl x
    read_hears turn.Free x e g = absurd (clash e)
    read_hears (turn.Address n) x e g = absurd (clash e)
    read_hears (turn.AddressNinth d) x e g = absurd (clash e)
    read_hears turn.Border x e g = absurd (clash e)
    read_hears (turn.Write n) x e g = absurd (clash e)
    read_hears turn.WriteNinth x e g = absurd (clash e)
    read_hears turn.ClosingBorder x e g = absurd (clash e)
