-- A slot and an offer, wherever the register master is. Assumes nothing.
use Rattle.std.proofs.Common.{◌≡◌, ℕ, ◌≤◌, true, ltb, [], ◌∷◌, length, sym, refl, subst, arith, lt-ltb}
use Rattle.std.specs.Cmp.{first_so, second_so}
use Rattle.std.proofs.lemmas.Bool.{not-true}
use borrow.Author.Tests.{clash}
use Rattle.bus.specs.declared.Symbol.{Symbol}
use Rattle.bus.specs.declared.Turn.{Turn}
use Rattle.bus.specs.declared.Turn.TheVariants as turn
use Rattle.orders.specs.Orders.{Order, reads, Lawful}
use Rattle.progress.specs.declared.Stage.TheVariants as stage
use Rattle.progress.specs.Positions.{here}
use Rattle.masters.specs.Standings as masters
use Rattle.block.specs.declared.Block.{Block}
use Rattle.block.specs.Tasks.{offers}
use Rattle.driving.specs.declared.Phase.TheVariants.{Opening, Address, Write, Read, Stopping}
use Rattle.driving.specs.declared.Standing.{Standing}
use Rattle.driving.specs.declared.Standing.TheVariants.{Idle, Waiting, Contending, Answered}
use Rattle.driving.specs.States.{Known}
use Rattle.driving.specs.Driving.{with_standing}
use Rattle.driving_laws.specs.Tied.{in_read, tied, turned, real, unacked}
use Rattle.driving_laws.specs.Meaning.{standing_of, standing_at, read_most}
use Rattle.progress.specs.Plans.{read_total}
use Rattle.progress.proofs.Room.{read_few, come_at}
use Rattle.std.proofs.lemmas.List.{length_push}
use Rattle.driving_laws.specs.Agreement.{Sound, Hears}
use Rattle.driving_laws.proofs.Quiet.{idle_hears, answered_hears}
use Rattle.driving_laws.proofs.Waits.{waiting_hears}
use Rattle.driving_laws.proofs.Address.{address_hears, own_at}
use Rattle.driving_laws.proofs.Borders.{opening_hears, stopping_hears, own_start_is}
use Rattle.driving_laws.proofs.Writing.{write_hears}
use Rattle.driving_laws.proofs.Reading.{read_hears}
use Rattle.driving.proofs.Fair.{some_byte_at, some_segment}

-- there is room for the byte under way
byte_room : (ss : Order) (i j s : ℕ) (t : Turn) (r : Known) → Lawful ss → in_read s t ≡ true → read_most (standing_at ss (Contending Read i j) t s r) ≤ read_total ss → ltb (length r.bytes) 32 ≡ true
byte_room ss i j s (turn.Read n) r w e h =
    let few = read_few ss w in
    let come = come_at ss i (stage.Read j n) in
    lt-ltb (length r.bytes) 32 (omega arith)
byte_room ss i j s turn.ReadNinth r w e h =
    let few = read_few ss w in
    let more = length_push r.bytes s in
    lt-ltb (length r.bytes) 32 (omega arith)
byte_room ss i j s turn.Free r w e h = absurd (clash e)
byte_room ss i j s (turn.Address n) r w e h = absurd (clash e)
byte_room ss i j s (turn.AddressNinth d) r w e h = absurd (clash e)
byte_room ss i j s turn.Border r w e h = absurd (clash e)
byte_room ss i j s (turn.Write n) r w e h = absurd (clash e)
byte_room ss i j s turn.WriteNinth r w e h = absurd (clash e)
byte_room ss i j s turn.ClosingBorder r w e h = absurd (clash e)

waiting_any : (ss : Order) (r : Known) (b : Block) (t : Turn) (x : Symbol) → ltb 0 (length ss) ≡ true → Hears ss (with_standing r Waiting) (tied ss Waiting t b) x
waiting_any [] r b t x e = absurd (clash e)
waiting_any (s ∷ ss) r b t x e = waiting_hears s ss r b t x

module _ (ss : Order) (law : Lawful ss) where
  by_standing : (st : Standing) (t : Turn) (b : Block) (r : Known) (x : Symbol) → turned ss st b.shift t ≡ true → unacked st t b.status.ackd0 ≡ true → real ss st ≡ true → read_most (standing_at ss st t b.shift r) ≤ read_total ss
      → Hears ss (with_standing r st) (tied ss st t b) x
  by_standing Idle t b r x e a l u = idle_hears ss r b t x
  by_standing Answered t b r x e a l u = answered_hears ss r b t x
  by_standing Waiting t b r x e a l u = waiting_any ss r b t x (some_segment ss law)
  by_standing (Contending Opening i j) t b r x e a l u = opening_hears ss r b i j l t x e
  by_standing (Contending Address i j) t b r x e a l u = address_hears ss r b i j l t x e (some_byte_at ss law i) a
  by_standing (Contending Write i j) t b r x e a l u =
      let l1 = first_so (ltb i (length ss)) _ l in
      let l2 = not-true _ (first_so _ _ (second_so (ltb i (length ss)) _ l)) in
      write_hears ss r b i j l1 l t x e l2 a
  by_standing (Contending Read i j) t b r x e a l u =
      let l1 = first_so (ltb i (length ss)) _ l in
      let l2 = first_so (reads (here ss i)) _ (second_so (ltb i (length ss)) _ l) in
      read_hears ss r b i j l1 l (byte_room ss i j b.shift t r law e u) t x e l2
  by_standing (Contending Stopping i j) t b r x e a l u = stopping_hears ss r b i j t x e

  pub hears_all : (r : Known) (b : Block) (x : Symbol) → Sound ss r b → read_most (standing_of ss r b) ≤ read_total ss → Hears ss r b x
  hears_all r b x s u = subst (λ (v : Block). Hears ss r v x) (sym s.is_tied) (by_standing r.standing b.turn b r x s.is_turned s.is_unacked s.is_real u)

  abbrev Offers : Standing → Turn → Block → Known → Type 0
  Offers st t b r = offers (tied ss st t b) ≡ masters.offered (masters.contender_in t (standing_at ss st t b.shift (with_standing r st)))

  offers_waiting : (t : Turn) (b : Block) (r : Known) (zs : Order) → ltb 0 (length zs) ≡ true → offers (tied zs Waiting t b) ≡ masters.offered (masters.contender_in t (standing_at zs Waiting t b.shift (with_standing r Waiting)))
  offers_waiting t b r [] e = absurd (clash e)
  offers_waiting turn.Free b r (s ∷ zs) e = refl
  offers_waiting (turn.Address n) b r (s ∷ zs) e = refl
  offers_waiting (turn.AddressNinth d) b r (s ∷ zs) e = refl
  offers_waiting turn.Border b r (s ∷ zs) e = refl
  offers_waiting (turn.Write n) b r (s ∷ zs) e = refl
  offers_waiting turn.WriteNinth b r (s ∷ zs) e = refl
  offers_waiting (turn.Read n) b r (s ∷ zs) e = refl
  offers_waiting turn.ReadNinth b r (s ∷ zs) e = refl
  offers_waiting turn.ClosingBorder b r (s ∷ zs) e = refl

  offers_address : (i j : ℕ) (t : Turn) (b : Block) (r : Known) → ltb i (length ss) ≡ true → turned ss (Contending Address i j) b.shift t ≡ true → Offers (Contending Address i j) t b r
  offers_address i j (turn.Address n) b r l e = sym (own_at ss r b i j l n)
  offers_address i j (turn.AddressNinth d) b r l e = refl
  offers_address i j turn.Free b r l e = absurd (clash e)
  offers_address i j turn.Border b r l e = absurd (clash e)
  offers_address i j (turn.Write n) b r l e = absurd (clash e)
  offers_address i j turn.WriteNinth b r l e = absurd (clash e)
  offers_address i j (turn.Read n) b r l e = absurd (clash e)
  offers_address i j turn.ReadNinth b r l e = absurd (clash e)
  offers_address i j turn.ClosingBorder b r l e = absurd (clash e)

  offers_write : (i j : ℕ) (t : Turn) (b : Block) (r : Known) → turned ss (Contending Write i j) b.shift t ≡ true → Offers (Contending Write i j) t b r
  offers_write i j t b r e = grind arith

  offers_read : (i j : ℕ) (t : Turn) (b : Block) (r : Known) → turned ss (Contending Read i j) b.shift t ≡ true → Offers (Contending Read i j) t b r
  offers_read i j t b r e = grind arith

  offers_by : (st : Standing) (t : Turn) (b : Block) (r : Known) → turned ss st b.shift t ≡ true → real ss st ≡ true → Offers st t b r
  offers_by Idle t b r e l = refl
  offers_by Answered t b r e l = refl
  offers_by Waiting t b r e l = offers_waiting t b r ss (some_segment ss law)
  offers_by (Contending Opening i j) t b r e l = sym (own_start_is ss r b i j l)
  offers_by (Contending Address i j) t b r e l = offers_address i j t b r l e
  offers_by (Contending Write i j) t b r e l = offers_write i j t b r e
  offers_by (Contending Read i j) t b r e l = offers_read i j t b r e
  offers_by (Contending Stopping i j) t b r e l = refl

  pub offers_all : (r : Known) (b : Block) → Sound ss r b → offers b ≡ masters.offered (masters.contender_in b.turn (standing_of ss r b))
  offers_all r b s = subst (λ (v : Block). offers v ≡ masters.offered (masters.contender_in v.turn (standing_of ss r v))) (sym s.is_tied) (offers_by r.standing b.turn b r s.is_turned s.is_real)
