-- The laws that hold since reset: Sound is kept by every write and every slot.
use Rattle.std.proofs.Common.{◌≡◌, Bool, true, false, cond, not, ◌&&◌, ◌||◌, List, [], ◌∷◌, sym, refl, ap, ◌∙◌, arith}
use borrow.Author.Tests.{clash}
use Rattle.std.proofs.lemmas.Bool.Decides.{nat_tests}
use Rattle.bus.specs.declared.Symbol.{Symbol}
use Rattle.bus.specs.declared.Symbol.TheVariants.{Zero, Stop, Start, One}
use Rattle.bus.specs.Symbols.{is_bit}
use Rattle.bus.specs.declared.Turn.{Turn}
use Rattle.bus.specs.Turns.{next, masters_slot, busy}
use Rattle.block.specs.declared.Block.{Block}
use Rattle.block.specs.declared.Status.{Status}
use Rattle.block.specs.declared.Task.{Task}
use Rattle.block.specs.declared.Task.TheVariants as task
use Rattle.block.specs.Slots.{same, is_ninth, first_of_address, first_of_data, after_write, after_read, in_byte}
use Rattle.block.specs.Tasks.{waits, waits_ninth, starts, offers}
use Rattle.block.specs.Flags.{flag, flags_after, no_flags, loss, own_start, leaves, status_written}
use Rattle.block.specs.Heard.{moved_on, task_after, bit_passed}
use Rattle.block.specs.declared.registers.Word.{Word}
use Rattle.block.specs.Access.{word_of, refuses_byte, refuses_word, two_at_once, byte_written, word_written, task_written, reset_block}
use Rattle.block_laws.specs.Laws as law
use Rattle.block_laws.specs.Laws.{Event, Slot, came, ran, Off, Sends, Waits, Silent, Unacknowledged}
use Rattle.block_laws.proofs.Holds.{by_write, by_slot}

-- what only a block with MSTS0 = 1 is about
abbrev owned : Task → Bool
owned task.Rest = false
owned task.StartWait = true
owned task.NinthWait = true
owned (task.Send v) = true
owned task.Receive = true
owned task.Start = false
owned task.Stop = true

record Sound (b : Block) : Type 0 where
  off : b.control.iice0 ≡ false → b.status ≡ no_flags
  idle : b.control.iice0 ≡ false → b.task ≡ task.Rest
  sends : b.status.trc0 ≡ true → b.status.msts0 ≡ true
  owns : owned b.task ≡ true → b.status.msts0 ≡ true
  opens : starts b.task ≡ true → b.status.msts0 ≡ false → busy b.turn ≡ false
  clears : in_byte b.turn ≡ true → b.status.ackd0 ≡ false

off_slot : (b : Block) (x : Symbol) (i : Bool) → i ≡ false → cond i (flags_after b x) no_flags ≡ no_flags
off_slot b x i e = grind (arith, nat_tests)

idle_slot : (b : Block) (x : Symbol) → b.control.iice0 ≡ false → b.status.msts0 ≡ false → b.task ≡ task.Rest → task_after b x ≡ task.Rest
idle_slot b x e m t = grind (arith, nat_tests)

slaves_ninth : (t : Turn) → after_write t ≡ true → masters_slot t ≡ false
slaves_ninth t e = grind arith

bit_no_stop : (x : Symbol) → is_bit x ≡ true → same x Stop ≡ false
bit_no_stop x e = grind (arith, nat_tests)

sends_slot : (b : Block) (x : Symbol) → (b.status.trc0 ≡ true → b.status.msts0 ≡ true) → (flags_after b x).trc0 ≡ true → (flags_after b x).msts0 ≡ true
sends_slot b x h = go (own_start b x) b.status.msts0 b.status.trc0 (same (offers b) x) (after_write b.turn) (after_read b.turn) (masters_slot b.turn) (is_bit x) (same x Stop) h (slaves_ninth b.turn) (bit_no_stop x)
  where
    go : (s m r o aw ar ms bit p : Bool) → (r ≡ true → m ≡ true) → (aw ≡ true → ms ≡ false) → (bit ≡ true → p ≡ false) → flag (s || (bit && (m && aw))) ((bit && (m && ar)) || (p || (m && (not o && (ms || not bit))))) r ≡ true → flag s (p || (m && (not o && (ms || not bit)))) m ≡ true
    go s m r o aw ar ms bit p h f g e = grind arith

abbrev passed_on : (l s bit n m : Bool) → Task → Task
passed_on l s bit n m t = cond l task.Rest (cond s task.StartWait (cond (not bit) task.Rest (cond n (cond m task.NinthWait task.Rest) (bit_passed t))))

starts_slot : (b : Block) (x : Symbol) → starts (task_after b x) ≡ false
starts_slot b x = go (loss b x) (own_start b x) (is_bit x) (is_ninth b.turn) b.status.msts0 b.task
  where
    go : (l s bit n m : Bool) (t : Task) → starts (passed_on l s bit n m t) ≡ false
    go l s bit n m t = grind arith

owns_slot : (b : Block) (x : Symbol) → (owned b.task ≡ true → b.status.msts0 ≡ true) → owned (task_after b x) ≡ true → (flags_after b x).msts0 ≡ true
owns_slot b x h e = grind (arith, nat_tests)

clears_slot : (t : Turn) (x : Symbol) (a : Bool) → (in_byte t ≡ true → a ≡ false) → in_byte (next t x) ≡ true → flag (same x Zero && is_ninth t) ((is_bit x && first_of_address t) || ((is_bit x && first_of_data t) || same x Stop)) a ≡ false
clears_slot t x a h e = grind (arith, nat_tests)

sound_moved : (b : Block) (x : Symbol) → Sound b → Sound (moved_on b x)
sound_moved b x h = record {
  off = off_slot b x b.control.iice0;
  idle = λ e. idle_slot b x e (ap (λ (s : Status). s.msts0) (h.off e)) (h.idle e);
  sends = on (λ (s : Status). s.trc0 ≡ true → s.msts0 ≡ true) b.control.iice0 (sends_slot b x h.sends) (λ e. e);
  owns = owns b.control.iice0 refl;
  opens = λ e _. absurd (clash (sym (starts_slot b x) ∙ e));
  clears = λ e. on (λ (s : Status). s.ackd0 ≡ false) b.control.iice0 (clears_slot b.turn x b.status.ackd0 h.clears e) refl;
}
  where
    on : (P : Status → Type 0) (i : Bool) → P (flags_after b x) → P no_flags → P (cond i (flags_after b x) no_flags)
    on P true p q = p
    on P false p q = q

    owns : (i : Bool) → b.control.iice0 ≡ i → owned (task_after b x) ≡ true → (cond i (flags_after b x) no_flags).msts0 ≡ true
    owns true e o = owns_slot b x h.owns o
    owns false e o = absurd (clash (sym (ap owned (idle_slot b x e (ap (λ (s : Status). s.msts0) (h.off e)) (h.idle e))) ∙ o))

sound_word : (b : Block) (w : Word) → refuses_word b w ≡ false → two_at_once w ≡ false → Sound b → Sound (word_written b w)
sound_word b w r t h = record {
  off = off w b.status;
  idle = idle w b.task;
  sends = sends w b.status h.sends;
  owns = owns w b.task b.status.msts0 (busy b.turn) r t h.owns;
  opens = opens w b.task b.status.msts0 (busy b.turn) r t h.owns h.opens;
  clears = λ e. clears w b.status.ackd0 (h.clears e);
}
  where
    off : (w : Word) (s : Status) → w.control.iice0 ≡ false → status_written s w ≡ no_flags
    off w s e = grind arith

    idle : (w : Word) (t : Task) → w.control.iice0 ≡ false → task_written t w ≡ task.Rest
    idle w t e = grind arith

    sends : (w : Word) (s : Status) → (s.trc0 ≡ true → s.msts0 ≡ true) → (status_written s w).trc0 ≡ true → (status_written s w).msts0 ≡ true
    sends w s h e = grind arith

    owns : (w : Word) (t : Task) (m y : Bool) → ((w.wrel0 || (w.stt0 || w.spt0)) && not w.control.iice0) || (((w.wrel0 || w.spt0) && not (waits_ninth t)) || (w.stt0 && (y && not (waits_ninth t)))) ≡ false → two_at_once w ≡ false → (owned t ≡ true → m ≡ true) → owned (task_written t w) ≡ true → flag false (leaves w) m ≡ true
    owns w t m y r d h e = grind arith

    opens : (w : Word) (t : Task) (m y : Bool) → ((w.wrel0 || (w.stt0 || w.spt0)) && not w.control.iice0) || (((w.wrel0 || w.spt0) && not (waits_ninth t)) || (w.stt0 && (y && not (waits_ninth t)))) ≡ false → two_at_once w ≡ false → (owned t ≡ true → m ≡ true) → (starts t ≡ true → m ≡ false → y ≡ false) → starts (task_written t w) ≡ true → flag false (leaves w) m ≡ false → y ≡ false
    opens w t m y r d h o e f = grind arith

    clears : (w : Word) (a : Bool) → a ≡ false → flag false (leaves w) a ≡ false
    clears w a e = grind arith

sound_came : (b : Block) (e : Event) → Sound b → Sound (came b e)
sound_came b (Slot x) h = by_slot Sound b x h (sound_moved b x h)
sound_came b (law.Write o v) h = by_write Sound b o v h (byte h) (λ r t. sound_word b (word_of v) r t h) (record { off = h.off; idle = h.idle; sends = h.sends; owns = h.owns; opens = h.opens; clears = h.clears })
  where
    waiting : (i : Bool) (t : Task) → not (i && waits t) ≡ false → (i ≡ true) × (owned t ≡ true)
    waiting i t e = grind arith

    byte : Sound b → refuses_byte b ≡ false → Sound (byte_written b v)
    byte h r = record { off = h.off; idle = λ e. absurd (clash (sym e ∙ (waiting b.control.iice0 b.task r).0)); sends = h.sends; owns = λ _. h.owns (waiting b.control.iice0 b.task r).1; opens = λ e _. absurd (clash e); clears = h.clears }

sound_ran : (b : Block) (l : List Event) → Sound b → Sound (ran b l)
sound_ran b [] h = h
sound_ran b (e ∷ l) h = sound_ran (came b e) l (sound_came b e h)

sound : (l : List Event) → Sound (ran reset_block l)
sound l = sound_ran reset_block l (record { off = λ _. refl; idle = λ _. refl; sends = λ e. absurd (clash e); owns = λ e. absurd (clash e); opens = λ e _. absurd (clash e); clears = λ e. absurd (clash e) })

pub off : Off
off l = (sound l).off

pub sends : Sends
sends l = (sound l).sends

pub waits_own : Waits
waits_own l e = (sound l).owns (owned_wait (ran reset_block l).task e)
  where
    owned_wait : (t : Task) → waits t ≡ true → owned t ≡ true
    owned_wait t e = grind arith

pub unacknowledged : Unacknowledged
unacknowledged l = (sound l).clears

pub silent : Silent
silent l = go (ran reset_block l) (sound l).idle (sound l).owns (sound l).opens
  where
    go : (b : Block) → (b.control.iice0 ≡ false → b.task ≡ task.Rest) → (owned b.task ≡ true → b.status.msts0 ≡ true) → (starts b.task ≡ true → b.status.msts0 ≡ false → busy b.turn ≡ false) → b.status.msts0 ≡ false → offers b ≡ cond (starts b.task && not (busy b.turn)) Start One
    go b i o p e = grind arith
