-- The laws that hold of every block.
use Rattle.std.proofs.Common.{◌≡◌, ℕ, Bool, true, false, cond, not, ◌&&◌, ◌||◌, eqb, ltb, refl, arith}
use borrow.Author.Tests.{clash}
use Rattle.bus.specs.declared.Symbol.{Symbol}
use Rattle.block.specs.declared.Block.{Block}
use Rattle.block.specs.Flags.{flag, flags_after, no_flags, loss}
use Rattle.block.specs.Heard.{heard, moved_on, stands_on}
use Rattle.block.specs.declared.registers.Word.{Word}
use Rattle.block.specs.Access.{word_of, is_writable, refuses_byte, refuses_word, two_at_once, byte_written, word_written, stored, written}
use Rattle.block_laws.specs.Laws as law
use Rattle.block_laws.specs.Laws.{Slot, LossStays, AfterStop, stopped, Started, AfterStart, Loses, SlavesSpare, WaitsOn, Directed, Refused, ControlReads, StatusReads}

-- what holds of the block before, and after each write that is not refused, holds after every write
pub by_write : (P : Block → Type 0) (b : Block) (o v : ℕ) → P b → (refuses_byte b ≡ false → P (byte_written b v)) → (refuses_word b (word_of v) ≡ false → two_at_once (word_of v) ≡ false → P (word_written b (word_of v))) → P (stored b o v) → P (written b o v)
by_write P b o v h byte word other = go (not (is_writable o)) (ltb 255 v || (eqb o 8 && ((word_of v).control.iice0 && not (word_of v).control.wtim0))) (eqb o 0) (eqb o 8) (refuses_byte b) (refuses_word b (word_of v)) (two_at_once (word_of v)) byte word
  where
    go : (n s i c rb rw tw : Bool) → (rb ≡ false → P (byte_written b v)) → (rw ≡ false → tw ≡ false → P (word_written b (word_of v))) → P (cond (eqb (cond n 15 (cond s 16 (cond ((i && rb) || (c && rw)) 17 (cond (c && tw) 18 0)))) 0) (cond i (byte_written b v) (cond c (word_written b (word_of v)) (stored b o v))) b)
    go true s i c rb rw tw f g = h
    go false true i c rb rw tw f g = h
    go false false true c true rw tw f g = h
    go false false true true false true tw f g = h
    go false false true true false false true f g = h
    go false false true true false false false f g = f refl
    go false false true false false rw tw f g = f refl
    go false false false true rb true tw f g = h
    go false false false true rb false true f g = h
    go false false false true rb false false f g = g refl refl
    go false false false false rb rw tw f g = other

-- and so with a slot
pub by_slot : (P : Block → Type 0) (b : Block) (x : Symbol) → P b → P (moved_on b x) → P (heard b x)
by_slot P b x h g = go (stands_on b x)
  where
    go : (s : Bool) → P (cond s b (moved_on b x))
    go true = h
    go false = g

abbrev Kept : Block → Block → Type 0
Kept b d = d.control.iice0 ≡ true → b.status.ald0 ≡ true → d.status.ald0 ≡ true

loss_word : (w : Word) (a : Bool) → w.control.iice0 ≡ true → a ≡ true → flag false (not w.control.iice0) a ≡ true
loss_word w a e h = grind arith

loss_slot : (b : Block) (x : Symbol) (i : Bool) → i ≡ true → b.status.ald0 ≡ true → (cond i (flags_after b x) no_flags).ald0 ≡ true
loss_slot b x true e h = raised (loss b x) b.status.ald0 h
  where
    raised : (l a : Bool) → a ≡ true → flag l false a ≡ true
    raised l a h = grind arith
loss_slot b x false e h = absurd (clash e)

pub loss_stays : LossStays
loss_stays b (Slot x) = by_slot (Kept b) b x (λ _ h. h) (loss_slot b x b.control.iice0)
loss_stays b (law.Write o v) = by_write (Kept b) b o v (λ _ h. h) (λ _ _ h. h) (λ _ _. loss_word (word_of v) b.status.ald0) (λ _ h. h)
