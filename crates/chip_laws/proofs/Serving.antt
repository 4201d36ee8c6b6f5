-- An order at a chip, act by act. Assumes nothing.
use Rattle.std.proofs.Common.{◌≡◌, ℕ, zero, suc, ◌+◌, ◌*◌, ◌/◌, ◌%◌, ◌^◌, ◌<◌, Bool, true, false, cond, eqb, List, [], ◌∷◌, ◌++◌, map, get_or, sym, refl, ap, ◌∙◌, subst, append_assoc, arith}
use lib.Dec.{eqb-suc-zero}
use borrow.Author.Tests.{clash}
use Rattle.std.proofs.lemmas.List.{append-nil}
use Rattle.history.specs.Marks.{least}
use Rattle.history.specs.Contest as contest
use Rattle.history.specs.Contest.{Polite, Then, Alone}
use Rattle.history.proofs.General.{least_left, least_right}
use Rattle.bus.specs.declared.Symbol.{Symbol}
use Rattle.bus.specs.declared.Symbol.TheVariants.{Zero, Stop, Start, One}
use Rattle.bus.specs.Symbols.{symbols, is_bit, is_stop, bit, value, shifted, heading_bit}
use Rattle.bus.specs.declared.Direction.{Direction}
use Rattle.bus.specs.declared.Direction.TheVariants as direction
use Rattle.bus.specs.declared.Turn.{Turn}
use Rattle.bus.specs.declared.Turn.TheVariants.{Free, Address, AddressNinth, Border, Write, WriteNinth, Read, ReadNinth, ClosingBorder}
use Rattle.bus.specs.Turns.{next, masters_slot, opened, bus}
use Rattle.bus.specs.Banks.{Single}
use Rattle.orders.specs.declared.Outcome.{Outcome}
use Rattle.orders.specs.declared.Outcome.TheVariants.{Done, NoAddress, NoByte}
use Rattle.orders.specs.Orders.{Segment, writing, reading, Order, LawfulSegment, Each, Lawful, AllBytes}
use Rattle.scripts.specs.Scripts.{Act, say, ask, spell, send, hark, receive, body, plan, Notes, Progress, begin, offer, hear, script}
use Rattle.scripts.specs.Scripts as scripts
use Rattle.bus.proofs.Slots.{bit_legal, slaves_bits}
use Rattle.scripts.proofs.Plans.{with_todo, one_history}
use Rattle.scripts.proofs.Tells.{tells}
use Rattle.slaves.specs.Slave.{Heard, Slave, Meek, Follows, Well, turns_after, replies}
use Rattle.slaves.specs.Machine.{slave_of}
use Rattle.slaves.proofs.Machines.{well}
use Rattle.chips.specs.Store.{Store, Rule}
use Rattle.chips.specs.Chips.{Chip, chip, chip_step, chip_offer, chip_polite}
use Rattle.chips.specs.States.{made}
use Rattle.chip_laws.specs.Served.{Served, current, ended, preceded, brought, moved_past, takes_in, serves}
use Rattle.chip_laws.proofs.Bits.{value_bit, gathered, gathered_all, gathered_address, collected, collected_all}
use Rattle.chip_laws.specs.Laws.{only, after, Gives}

pub bit_goes : (q : ℕ) → is_stop (bit q) ≡ false
bit_goes q = go (eqb (q % 2) 0)
  where
    go : (v : Bool) → is_stop (cond v Zero One) ≡ false
    go true = refl
    go false = refl

pub direction_goes : (d : Direction) → is_stop (heading_bit d) ≡ false
direction_goes direction.Write = refl
direction_goes direction.Read = refl

-- a chip by its parts
abbrev pub at : ℕ → Turn → Bool → Bool → ℕ → Store → Chip
at a t ad f v s = record { port = record { address = a; turn = t; addressed = ad; fresh = f; bits = v }; store = s }

-- what follows the m-th slot of a write byte
abbrev pub past_write : ℕ → Turn
past_write zero = WriteNinth
past_write (suc m) = Write m

abbrev pub past_read : ℕ → Turn
past_read zero = ReadNinth
past_read (suc m) = Read m

-- notes with these bytes, and what the bits of a byte under way come to
abbrev reading_on : List ℕ → ℕ → Notes
reading_on bs v = record { bytes = bs; part = v; outcome = Done }

module _ (r : Rule) where
  abbrev pub offers : Chip → Symbol
  offers c = chip_offer r c.port.turn c.port c.store

  abbrev pub hears : Chip → Symbol → Chip
  hears c x = chip_step r c (Heard x)

  -- whatever history a contender has alone with the chip, it ends with these notes, and leaves the chip so
  abbrev Leads : Progress → Chip → Notes → Chip → Type 0
  Leads p c n d = (h : List Symbol) → Alone bus (script p) (replies (only r c)) h → ((scripts.after p h).notes ≡ n) × (after r c h ≡ d)

  -- one slot, and what follows
  slot : (p : Progress) (c : Chip) (n : Notes) (d : Chip) (y : Symbol) → least symbols (offer p.todo) (offers c) ≡ y → is_stop y ≡ false
      → Leads (hear p y) (hears c y) n d → Leads p c n d
  slot p c n d y e s later [] a = absurd a
  slot p c n d y e s later (x ∷ h) a =
      let same : x ≡ y = a.0 ∙ e in
      let b : Alone bus (script p) (replies (only r c)) (y ∷ h) = subst (λ (z : Symbol). Alone bus (script p) (replies (only r c)) (z ∷ h)) same a in
      let rest : Alone bus (script (hear p y)) (replies (only r (hears c y))) h =
      subst (λ (v : Bool). Then bus v (h ≡ []) (Alone bus (script (hear p y)) (replies (only r (hears c y))) h)) s b.1 in
      subst (λ (z : Symbol). ((scripts.after p (z ∷ h)).notes ≡ n) × (after r c (z ∷ h) ≡ d)) (sym same) (later h rest)

  -- the last one
  last_slot : (p : Progress) (c : Chip) → least symbols (offer p.todo) (offers c) ≡ Stop → Leads p c (hear p Stop).notes (hears c Stop)
  last_slot p c e [] a = absurd a
  last_slot p c e (x ∷ h) a =
      let same : x ≡ Stop = a.0 ∙ e in
      let b : Alone bus (script p) (replies (only r c)) (Stop ∷ h) = subst (λ (z : Symbol). Alone bus (script p) (replies (only r c)) (z ∷ h)) same a in
      let over : h ≡ [] = b.1 in
      rw (same, over) (refl, refl)

  -- a masters' slot carries what is said, a slaves' what the chip offers
  said : (y : Symbol) (k : List Act) (m : Notes) (c : Chip) (n : Notes) (d : Chip) → is_stop y ≡ false → offers c ≡ One
      → Leads (with_todo k m) (hears c y) n d → Leads (with_todo (say y ∷ k) m) c n d
  said y k m c n d s q later = slot (with_todo (say y ∷ k) m) c n d y (rw q (least_left symbols y One (symbols.greatest y))) s later

  said_stop : (m : Notes) (c : Chip) → offers c ≡ One → Leads (with_todo (say Stop ∷ []) m) c m (hears c Stop)
  said_stop m c q = last_slot (with_todo (say Stop ∷ []) m) c (rw q refl)

  replied : (p : Progress) (c : Chip) (n : Notes) (d : Chip) (y : Symbol) → offer p.todo ≡ One → offers c ≡ y → is_stop y ≡ false
      → Leads (hear p y) (hears c y) n d → Leads p c n d
  replied p c n d y o q s later = slot p c n d y (rw (o, q) (least_right symbols One y (symbols.greatest y))) s later

  -- a bit in the slots of a byte
  pub in_address : (a m v : ℕ) (s : Store) (x : Symbol) → is_bit x ≡ true → hears (at a (Address (suc m)) false true v s) x ≡ at a (Address m) false true (shifted v x) s
  in_address a m v s Zero e = rw (eqb-suc-zero m) refl
  in_address a m v s Stop e = absurd (clash e)
  in_address a m v s Start e = absurd (clash e)
  in_address a m v s One e = rw (eqb-suc-zero m) refl

  pub in_border : (u : Bool) (a v : ℕ) (f : Bool) (s : Store) (x : Symbol) → is_bit x ≡ true → hears (at a Border u f v s) x ≡ at a (Write 6) u f (value x) s
  in_border u a v f s Zero e = refl
  in_border u a v f s Stop e = absurd (clash e)
  in_border u a v f s Start e = absurd (clash e)
  in_border u a v f s One e = refl

  pub in_write : (u : Bool) (a m v : ℕ) (f : Bool) (s : Store) (x : Symbol) → is_bit x ≡ true → hears (at a (Write m) u f v s) x ≡ at a (past_write m) u f (shifted v x) s
  in_write u a zero v f s Zero e = refl
  in_write u a zero v f s Stop e = absurd (clash e)
  in_write u a zero v f s Start e = absurd (clash e)
  in_write u a zero v f s One e = refl
  in_write u a (suc m) v f s Zero e = refl
  in_write u a (suc m) v f s Stop e = absurd (clash e)
  in_write u a (suc m) v f s Start e = absurd (clash e)
  in_write u a (suc m) v f s One e = refl

  pub in_read : (u : Bool) (a m v : ℕ) (f : Bool) (s : Store) (x : Symbol) → is_bit x ≡ true → hears (at a (Read m) u f v s) x ≡ at a (past_read m) u f v s
  in_read u a zero v f s Zero e = refl
  in_read u a zero v f s Stop e = absurd (clash e)
  in_read u a zero v f s Start e = absurd (clash e)
  in_read u a zero v f s One e = refl
  in_read u a (suc m) v f s Zero e = refl
  in_read u a (suc m) v f s Stop e = absurd (clash e)
  in_read u a (suc m) v f s Start e = absurd (clash e)
  in_read u a (suc m) v f s One e = refl

  -- the bits of an address
  spelt_address : (m b v a : ℕ) (s : Store) (k : List Act) (l : Notes) (n : Notes) (d : Chip)
      → Leads (with_todo k l) (at a (Address 0) false true (gathered m b v) s) n d → Leads (with_todo (spell m b k) l) (at a (Address m) false true v s) n d
  spelt_address zero b v a s k l n d later = later
  spelt_address (suc m) b v a s k l n d later =
      let x = bit (b / 2 ^ m) in
      said x (spell m b k) l (at a (Address (suc m)) false true v s) n d (bit_goes (b / 2 ^ m)) refl
      (subst (λ (c : Chip). Leads (with_todo (spell m b k) l) c n d) (sym (in_address a m v s x (bit_legal (b / 2 ^ m))))
      (spelt_address m b (shifted v x) a s k l n d later))

  -- the bits of a write byte
  spelt_write : (m b v a : ℕ) (f : Bool) (s : Store) (k : List Act) (l : Notes) (n : Notes) (d : Chip)
      → Leads (with_todo k l) (at a WriteNinth true f (gathered (suc m) b v) s) n d → Leads (with_todo (spell (suc m) b k) l) (at a (Write m) true f v s) n d
  spelt_write zero b v a f s k l n d later =
      let x = bit (b / 2 ^ 0) in
      said x k l (at a (Write 0) true f v s) n d (bit_goes (b / 2 ^ 0)) refl
      (subst (λ (c : Chip). Leads (with_todo k l) c n d) (sym (in_write true a 0 v f s x (bit_legal (b / 2 ^ 0)))) later)
  spelt_write (suc m) b v a f s k l n d later =
      let x = bit (b / 2 ^ suc m) in
      said x (spell (suc m) b k) l (at a (Write (suc m)) true f v s) n d (bit_goes (b / 2 ^ suc m)) refl
      (subst (λ (c : Chip). Leads (with_todo (spell (suc m) b k) l) c n d) (sym (in_write true a (suc m) v f s x (bit_legal (b / 2 ^ suc m))))
      (spelt_write m b (shifted v x) a f s k l n d later))

  spelt_byte : (b v a : ℕ) (f : Bool) (s : Store) (k : List Act) (l : Notes) (n : Notes) (d : Chip) → b < 256
      → Leads (with_todo k l) (at a WriteNinth true f b s) n d → Leads (with_todo (spell 8 b k) l) (at a Border true f v s) n d
  spelt_byte b v a f s k l n d small later =
      let x = bit (b / 2 ^ 7) in
      let top : value x ≡ b / 2 ^ 7 = value_bit (b / 2 ^ 7) ∙ (let e : b / 128 % 2 ≡ b / 128 = omega arith in e) in
      let whole : gathered 7 b (value x) ≡ b = ap (gathered 7 b) top ∙ gathered_all 7 b small in
      said x (spell 7 b k) l (at a Border true f v s) n d (bit_goes (b / 2 ^ 7)) refl
      (subst (λ (c : Chip). Leads (with_todo (spell 7 b k) l) c n d) (sym (in_border true a v f s x (bit_legal (b / 2 ^ 7))))
      (spelt_write 6 b (value x) a f s k l n d (subst (λ (w : ℕ). Leads (with_todo k l) (at a WriteNinth true f w s) n d) (sym whole) later)))

  -- the bits of a read byte
  heard_bits : (m v a w : ℕ) (f : Bool) (s : Store) (bs : List ℕ) (k : List Act) (n : Notes) (d : Chip)
      → Leads (with_todo k (reading_on (bs ++ (collected (suc m) (get_or s.bytes s.place 0) v ∷ [])) 0)) (at a ReadNinth true f w s) n d
      → Leads (with_todo (hark (suc m) k) (reading_on bs v)) (at a (Read m) true f w s) n d
  heard_bits zero v a w f s bs k n d later =
      let q = get_or s.bytes s.place 0 / 2 ^ 0 in
      replied (with_todo (hark 1 k) (reading_on bs v)) (at a (Read 0) true f w s) n d (bit q) refl refl (bit_goes q)
      (subst (λ (c : Chip). Leads (hear (with_todo (hark 1 k) (reading_on bs v)) (bit q)) c n d) (sym (in_read true a 0 w f s (bit q) (bit_legal q))) later)
  heard_bits (suc m) v a w f s bs k n d later =
      let q = get_or s.bytes s.place 0 / 2 ^ suc m in
      replied (with_todo (hark (suc (suc m)) k) (reading_on bs v)) (at a (Read (suc m)) true f w s) n d (bit q) refl refl (bit_goes q)
      (subst (λ (c : Chip). Leads (hear (with_todo (hark (suc (suc m)) k) (reading_on bs v)) (bit q)) c n d) (sym (in_read true a (suc m) w f s (bit q) (bit_legal q)))
      (heard_bits m (2 * v + value (bit q)) a w f s bs k n d later))

  heard_byte : (a w : ℕ) (f : Bool) (s : Store) (bs : List ℕ) (k : List Act) (n : Notes) (d : Chip)
      → Leads (with_todo k (reading_on (bs ++ (current s ∷ [])) 0)) (at a ReadNinth true f w s) n d
      → Leads (with_todo (hark 8 k) (reading_on bs 0)) (at a (Read 7) true f w s) n d
  heard_byte a w f s bs k n d later =
      let b = get_or s.bytes s.place 0 in
      let whole : collected 8 b 0 ≡ current s = collected_all 8 b 0 ∙ (let e : 0 * 256 + b % 256 ≡ b % 256 = omega arith in e) in
      heard_bits 7 0 a w f s bs k n d (subst (λ (y : ℕ). Leads (with_todo k (reading_on (bs ++ (y ∷ [])) 0)) (at a ReadNinth true f w s) n d) (sym whole) later)

  -- the notes at the end, where these bytes were read before
  abbrev noted_as : List ℕ → Served → Notes
  noted_as bs v = record { bytes = bs ++ v.bytes; part = 0; outcome = v.outcome }

  -- the acts, with these bytes read before, get this of a chip at address a
  abbrev Gets : List Act → List ℕ → Chip → ℕ → Served → Type 0
  Gets k bs c a v = Leads (with_todo k (reading_on bs 0)) c (noted_as bs v) (made a v.store)

  -- a slaves' ninth of 1
  refused : (f : Outcome) (k : List Act) (bs : List ℕ) (c : Chip) (a : ℕ) (s : Store) → offers c ≡ One → offers (hears c One) ≡ One → hears (hears c One) Stop ≡ made a s
      → Gets (ask f ∷ k) bs c a (ended f s)
  refused f k bs c a s q q' e =
      replied (with_todo (ask f ∷ k) (reading_on bs 0)) c (noted_as bs (ended f s)) (made a s) One refl q refl
      (rw (append-nil bs, ← e) (said_stop (record { bytes = bs; part = 0; outcome = f }) (hears c One) q'))

  -- an address byte after its S
  pub in_direction : (d : Direction) (a b : ℕ) (s : Store) → hears (at a (Address 0) false true b s) (heading_bit d) ≡ at a (AddressNinth d) (eqb b a) true (shifted b (heading_bit d)) s
  in_direction direction.Write a b s = refl
  in_direction direction.Read a b s = refl

  address_ninth : (u : Bool) (d : Direction) (i : ℕ) (k : List Act) (bs : List ℕ) (a w : ℕ) (s : Store) (v : Served) → Gets k bs (at a (opened d) true true w s) a v
      → Gets (ask (NoAddress i) ∷ k) bs (at a (AddressNinth d) u true w s) a (cond u v (ended (NoAddress i) s))
  address_ninth true d i k bs a w s v later =
      replied (with_todo (ask (NoAddress i) ∷ k) (reading_on bs 0)) (at a (AddressNinth d) true true w s) (noted_as bs v) (made a v.store) Zero refl refl refl later
  address_ninth false d i k bs a w s v later = refused (NoAddress i) k bs (at a (AddressNinth d) false true w s) a s refl refl refl

  addressed : (d : Direction) (i b : ℕ) (k : List Act) (bs : List ℕ) (a : ℕ) (s : Store) (v : Served) → b < 128 → Gets k bs (at a (opened d) true true (shifted b (heading_bit d)) s) a v
      → Gets (spell 7 b (say (heading_bit d) ∷ ask (NoAddress i) ∷ k)) bs (at a (Address 7) false true 0 s) a (cond (eqb b a) v (ended (NoAddress i) s))
  addressed d i b k bs a s v small later =
      let n = noted_as bs (cond (eqb b a) v (ended (NoAddress i) s)) in
      let e = made a (cond (eqb b a) v (ended (NoAddress i) s)).store in
      let l = reading_on bs 0 in
      let x = heading_bit d in
      spelt_address 7 b 0 a s (say x ∷ ask (NoAddress i) ∷ k) l n e
      (subst (λ (w : ℕ). Leads (with_todo (say x ∷ ask (NoAddress i) ∷ k) l) (at a (Address 0) false true w s) n e) (sym (gathered_address b small))
      (said x (ask (NoAddress i) ∷ k) l (at a (Address 0) false true b s) n e (direction_goes d) refl
      (subst (λ (c : Chip). Leads (with_todo (ask (NoAddress i) ∷ k) l) c n e) (sym (in_direction d a b s))
      (address_ninth (eqb b a) d i k bs a (shifted b x) s v later))))

  -- the bytes of a write segment
  byte_ninth : (u : Bool) (i j b : ℕ) (f : Bool) (k : List Act) (bs : List ℕ) (a : ℕ) (s : Store) (v : Served) → r.accepts f b ≡ u
      → Gets k bs (at a Border true false b (r.wrote f b s)) a v
      → Gets (ask (NoByte i j) ∷ k) bs (at a WriteNinth true f b s) a (cond u v (ended (NoByte i j) (r.wrote f b s)))
  byte_ninth true i j b f k bs a s v e later =
      replied (with_todo (ask (NoByte i j) ∷ k) (reading_on bs 0)) (at a WriteNinth true f b s) (noted_as bs v) (made a v.store) Zero refl (rw e refl) refl later
  byte_ninth false i j b f k bs a s v e later = refused (NoByte i j) k bs (at a WriteNinth true f b s) a (r.wrote f b s) (rw e refl) refl refl

  sent : (i j : ℕ) (out : List ℕ) (k : List Act) (bs : List ℕ) (f : Bool) (w a : ℕ) (s : Store) (rest : Store → Served) → AllBytes out
      → ((f : Bool) (w : ℕ) (s : Store) → Gets k bs (at a Border true f w s) a (rest s))
      → Gets (send i j out k) bs (at a Border true f w s) a (takes_in r i j f out rest s)
  sent i j [] k bs f w a s rest small later = later f w s
  sent i j (b ∷ out) k bs f w a s rest small later =
      let v = takes_in r i (suc j) false out rest (r.wrote f b s) in
      let u = cond (r.accepts f b) v (ended (NoByte i j) (r.wrote f b s)) in
      spelt_byte b w a f s (ask (NoByte i j) ∷ send i (suc j) out k) (reading_on bs 0) (noted_as bs u) (made a u.store) small.0
      (byte_ninth (r.accepts f b) i j b f (send i (suc j) out k) bs a s v refl
      (sent i (suc j) out k bs false b a (r.wrote f b s) rest small.1 later))

  -- the bytes of a read segment
  received : (m : ℕ) (k : List Act) (bs : List ℕ) (f : Bool) (w a : ℕ) (s : Store) (n : Notes) (d : Chip)
      → Leads (with_todo k (reading_on (bs ++ brought r (suc m) s) 0)) (at a ClosingBorder true f w (moved_past r (suc m) s)) n d
      → Leads (with_todo (receive (suc m) k) (reading_on bs 0)) (at a (Read 7) true f w s) n d
  received zero k bs f w a s n d later =
      heard_byte a w f s bs (say One ∷ k) n d
      (said One k (reading_on (bs ++ (current s ∷ [])) 0) (at a ReadNinth true f w s) n d refl refl later)
  received (suc m) k bs f w a s n d later =
      let one = bs ++ (current s ∷ []) in
      heard_byte a w f s bs (say Zero ∷ receive (suc m) k) n d
      (said Zero (receive (suc m) k) (reading_on one 0) (at a ReadNinth true f w s) n d refl refl
      (received m k one f w a (r.sent s) n d
      (subst (λ (l : List ℕ). Leads (with_todo k (reading_on l 0)) (at a ClosingBorder true f w (moved_past r (suc (suc m)) s)) n d)
      (sym (append_assoc bs (current s ∷ []) (brought r (suc m) (r.sent s)))) later)))

  pub quiet : (c : Chip) → masters_slot c.port.turn ≡ true → offers c ≡ One
  quiet c o = rw o at (chip_polite r c.port.turn c.port c.store)

  -- segments from the i-th on, at a free bus or a border
  planned : (ss : List Segment) (i : ℕ) (bs : List ℕ) (t : Turn) (ad f : Bool) (w a : ℕ) (s : Store) → Each LawfulSegment ss → masters_slot t ≡ true
      → Gets (plan i ss) bs (at a t ad f w s) a (serves r a i ss s)
  planned [] i bs t ad f w a s l o = rw (append-nil bs) (said_stop (reading_on bs 0) (at a t ad f w s) (quiet (at a t ad f w s) o))
  planned (writing b out ∷ ss) i bs t ad f w a s l o =
      let v = serves r a i (writing b out ∷ ss) s in
      said Start (body i (writing b out) (plan (suc i) ss)) (reading_on bs 0) (at a t ad f w s) (noted_as bs v) (made a v.store) refl (quiet (at a t ad f w s) o)
      (addressed direction.Write i b (send i 0 out (plan (suc i) ss)) bs a s (takes_in r i 0 true out (serves r a (suc i) ss) s) (omega (arith, l.0.1))
      (sent i 0 out (plan (suc i) ss) bs true (shifted b Zero) a s (serves r a (suc i) ss) l.0.2
      (λ f w s. planned ss (suc i) bs Border true f w a s l.1 refl)))
  planned (reading b zero ∷ ss) i bs t ad f w a s l o = absurd (omega (arith, l.0.2))
  planned (reading b (suc m) ∷ ss) i bs t ad f w a s l o =
      let v = serves r a i (reading b (suc m) ∷ ss) s in
      let in_all = brought r (suc m) s in
      let rest = serves r a (suc i) ss (moved_past r (suc m) s) in
      said Start (body i (reading b (suc m)) (plan (suc i) ss)) (reading_on bs 0) (at a t ad f w s) (noted_as bs v) (made a v.store) refl (quiet (at a t ad f w s) o)
      (addressed direction.Read i b (receive (suc m) (plan (suc i) ss)) bs a s (preceded in_all rest) (omega (arith, l.0.1))
      (received m (plan (suc i) ss) bs true (shifted b One) a s (noted_as bs (preceded in_all rest)) (made a rest.store)
      (subst (λ (x : List ℕ). Leads (with_todo (plan (suc i) ss) (reading_on (bs ++ in_all) 0)) (at a ClosingBorder true true (shifted b One) (moved_past r (suc m) s)) (record { bytes = x; part = 0; outcome = rest.outcome }) (made a rest.store))
      (append_assoc bs in_all rest.bytes)
      (planned ss (suc i) (bs ++ in_all) ClosingBorder true true (shifted b One) a (moved_past r (suc m) s) l.1 refl))))

-- a chip keeps to the turns
follows_heard : (l : List Symbol) (t : Turn) → contest.Follows bus t l → Follows t (map Heard l)
follows_heard [] t f = tt
follows_heard (x ∷ l) t f = (f.0, follows_heard l (next t x) f.1)

turns_heard : (l : List Symbol) (t : Turn) → turns_after t (map Heard l) ≡ contest.turn_after bus t l
turns_heard [] t = refl
turns_heard (x ∷ l) t = turns_heard l (next t x)

pub well_polite : (k : Slave) → k.turn ≡ Free → Well k → Polite bus Free (replies (Single k))
well_polite k e w = record {
  quiet = λ l f o. rw o at (meek l f);
  sound = λ l f o. slaves_bits (contest.turn_after bus Free l) (k.reply (map Heard l)) o (rw o at (meek l f));
}
  where
    meek : (l : List Symbol) → contest.Follows bus Free l → Meek (masters_slot (contest.turn_after bus Free l)) (k.reply (map Heard l))
    meek l f =
        subst (λ (u : Turn). Meek (masters_slot u) (k.reply (map Heard l)))
        (ap (λ (u : Turn). turns_after u (map Heard l)) e ∙ turns_heard l Free)
        (w (map Heard l) (subst (λ (u : Turn). Follows u (map Heard l)) (sym e) (follows_heard l Free f)))

pub served : (r : Rule) (c : Chip) (o : Order) → c.port.turn ≡ Free → Lawful o → Gives r c o (serves r c.port.address 0 o c.store)
served r c o e l =
    let polite = well_polite (slave_of (chip r) c) e (well (chip r) c) in
    let one = one_history o (replies (only r c)) l polite in
    let a = c.port.address in
    let v = serves r a 0 o c.store in
    let goes : Leads r (begin o) c (noted_as r [] v) (made a v.store) =
    planned r o 0 [] c.port.turn c.port.addressed c.port.fresh c.port.bits a c.store l.each (rw e refl) in
    record {
      answer = record {
        history = (one.history, one.alone);
        answers = λ h alone l'.
            let t = tells o (replies (only r c)) l polite h alone in
            let n = (goes h alone).0 in
            rw (← t.0, ← t.1, n) refl;
      };
      leaves = λ h alone. (goes h alone).1;
    }
