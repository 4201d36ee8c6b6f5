-- The bits that a block sends are those of the plan; what a kept slot leaves. Assumes nothing.
use Rattle.std.proofs.Common.{◌≡◌, ℕ, suc, ◌+◌, ◌-◌, ◌*◌, ◌/◌, ◌%◌, ◌^◌, Bool, true, false, cond, eqb, ltb, sym, refl, ap, ◌∙◌, arith, ltb-false, ltb-true}
use borrow.Author.Tests.{clash}
use Rattle.bus.specs.declared.Symbol.{Symbol}
use Rattle.bus.specs.declared.Symbol.TheVariants as symbol
use Rattle.bus.specs.declared.Turn.{Turn}
use Rattle.bus.specs.Symbols.{is_bit, bit}
use Rattle.orders.specs.Orders.{Segment, writing, reading, address_of}
use Rattle.scripts.specs.Scripts as script
use Rattle.progress.specs.Positions.{heading}
use Rattle.masters.specs.Standings as masters
use Rattle.block.specs.declared.Block.{Block}
use Rattle.block.specs.declared.Task.{Task}
use Rattle.block.specs.Slots.{same, is_ninth, after_write, after_read}
use Rattle.block.specs.Flags.{loss}
use Rattle.block.specs.Heard.{moved_on, bit_passed}
use Rattle.driving.specs.Driving.{address_byte_of}
use Rattle.driving_laws.specs.Tied.{patched}
use Rattle.driving_laws.proofs.Lost.{task_mid, msts_mid, trc_mid}
use native.Mathlib.Nat.{div-div-eq-div-mul, pow-succ'}

pub same_as : (o y x : Symbol) → o ≡ y → same o x ≡ same y x
same_as o y x e = ap (λ (v : Symbol). same v x) e

bit_of_even : (n : ℕ) → n % 2 ≡ 0 → bit n ≡ symbol.Zero
bit_of_even n e = rw e refl

bit_of_odd : (n : ℕ) → n % 2 ≡ 1 → bit n ≡ symbol.One
bit_of_odd n e = rw e refl

pub own_direction : (s : Segment) → bit (address_byte_of s / 2 ^ 0) ≡ heading s
own_direction (writing a bs) = bit_of_even ((2 * a + 0) / 2 ^ 0) (omega arith)
own_direction (reading a n) = bit_of_odd ((2 * a + 1) / 2 ^ 0) (omega arith)

half : (v a n : ℕ) → v / 2 ≡ a → v / 2 ^ suc n ≡ a / 2 ^ n
half v a n e = ap (λ (m : ℕ). v / m) (pow-succ' 2 n) ∙ sym (div-div-eq-div-mul v 2 (2 ^ n)) ∙ ap (λ (m : ℕ). m / 2 ^ n) e

halved : (s : Segment) → address_byte_of s / 2 ≡ address_of s
halved (writing a bs) = omega arith
halved (reading a n) = omega arith

pub own_address : (s : Segment) (n : ℕ) → bit (address_byte_of s / 2 ^ suc n) ≡ bit (address_of s / 2 ^ n)
own_address s n = ap bit (half (address_byte_of s) (address_of s) n (halved s))

-- a bit is no S or P
plain_bit : (d : Bool) → (same (cond d symbol.Zero symbol.One) symbol.Start ≡ false) × (same (cond d symbol.Zero symbol.One) symbol.Stop ≡ false)
plain_bit d = grind arith

pub plain : (v n : ℕ) → (same (bit (v / 2 ^ n)) symbol.Start ≡ false) × (same (bit (v / 2 ^ n)) symbol.Stop ≡ false)
plain v n = plain_bit (eqb (v / 2 ^ n % 2) 0)

pub becomes_kept : (c : Bool) (k : masters.Contender) (x : Symbol) → c ≡ true → masters.contending (record { request = k.request; progress = script.hear k.progress x }) ≡ masters.becomes c false k x
becomes_kept true k x e = refl
becomes_kept false k x e = absurd (clash e)

pub becomes_lost : (c d : Bool) (k : masters.Contender) (x : Symbol) → c ≡ false → masters.waiting (masters.lost k.request) ≡ masters.becomes c d k x
becomes_lost c d k x e = grind arith

pub record Kept (b : Block) (k : Task) (r : Bool) : Type 0 where
  pub task_kept : b.task ≡ k
  pub msts_kept : b.status.msts0 ≡ true
  pub trc_kept : b.status.trc0 ≡ r

pub kept : (b : Block) (t : Turn) (k : Task) (a r : Bool) (x : Symbol) → is_bit x ≡ true → loss (patched b t k a true r) x ≡ false → is_ninth t ≡ false → after_write t ≡ false → after_read t ≡ false → bit_passed k ≡ k
    → Kept (moved_on (patched b t k a true r) x) k r
kept b t k a r symbol.Zero i l n w d p = record { task_kept = task_mid _ _ k l n p; msts_kept = msts_mid _ l; trc_kept = trc_mid _ (after_write t) (after_read t) r l w d }
kept b t k a r symbol.One i l n w d p = record { task_kept = task_mid _ _ k l n p; msts_kept = msts_mid _ l; trc_kept = trc_mid _ (after_write t) (after_read t) r l w d }
kept b t k a r symbol.Stop i l n w d p = absurd (clash i)
kept b t k a r symbol.Start i l n w d p = absurd (clash i)

-- a reader's ninth slot gets 0 while more is wanted
pub more_is : (j n : ℕ) (c : Bool) → ltb (j + 1) n ≡ c → cond c symbol.Zero symbol.One ≡ script.more (n - (j + 1))
more_is j n true e = let z = ltb-true (j + 1) n e in let q : n - (j + 1) ≡ suc (n - suc (suc j)) = omega arith in rw q refl
more_is j n false e = let z = ltb-false (j + 1) n e in let q : n - (j + 1) ≡ 0 = omega arith in rw q refl
