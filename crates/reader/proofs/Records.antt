-- Words of whole records: there is one list of them, and it is the record without its free slots. Assumes nothing.
use Rattle.std.proofs.Common.{◌≡◌, ℕ, zero, suc, ◌+◌, ◌<◌, ◌≤◌, Bool, true, false, ◌⊎◌, List, [], ◌∷◌, ◌++◌, length, get_or, take, drop, sym, refl, ap, ◌∙◌, subst, inl, inr, arith, length-append}
use borrow.Author.Tests.{clash}
use Rattle.std.proofs.lemmas.List.{take_at, drop_at, drop-drop}
use Rattle.history.specs.Contest.{Follows, turn_after}
use Rattle.bus.specs.declared.Direction.TheVariants as direction
use Rattle.bus.specs.Symbols.{rank, same_rank, is_bit, is_stop, heading}
use Rattle.bus.specs.Turns.{acknowledged, onward, next, legal, busy, bus}
use Rattle.bus.specs.declared.Symbol.{Symbol}
use Rattle.bus.specs.declared.Symbol.TheVariants.{Zero, Stop, Start, One}
use Rattle.bus.specs.declared.Turn.{Turn}
use Rattle.bus.specs.declared.Turn.TheVariants.{Free, Address, AddressNinth, Border, ClosingBorder, Write, WriteNinth, Read, ReadNinth}
use Rattle.bus.proofs.Slots.{busy_next, free_turn}
use Rattle.reader.specs.Words.{Meaning, start, stop, byte, joined, Bit, Bits, Reads, end, free, begins, ends, nine}
use Rattle.reader.specs.Records.{ranks, Recorded, Whole, used, InOrder, WordsOf}
use Rattle.reader.proofs.Fronts.{at_start, at_stop, at_free, at_end, at_nine, first_bit, not_bit_1, not_bit_2}

-- the slots that are left of a byte under way
abbrev slots_left : Turn → ℕ
slots_left Free = 0
slots_left (Address n) = n + 2
slots_left (AddressNinth d) = 1
slots_left Border = 0
slots_left ClosingBorder = 0
slots_left (Write n) = n + 2
slots_left WriteNinth = 1
slots_left (Read n) = n + 2
slots_left ReadNinth = 1

-- the rest of a byte under way, and then words from place q on
record Parsed (t : Turn) (q : ℕ) (xs : List ℕ) : Type 0 where
  part : List ℕ
  after : List ℕ
  words : List Meaning
  same : xs ≡ part ++ after
  long : length part ≡ slots_left t
  bits : Bits part
  reads : Reads (busy t) after q words

rank_bit : (x : Symbol) → is_bit x ≡ true → Bit (rank x)
rank_bit Zero e = inl refl
rank_bit Stop e = absurd (clash e)
rank_bit Start e = absurd (clash e)
rank_bit One e = inr refl

-- at a border: nothing of a byte is left
bordered : (t : Turn) (q : ℕ) (xs : List ℕ) (ws : List Meaning) → slots_left t ≡ 0 → Reads (busy t) xs q ws → Parsed t q xs
bordered t q xs ws e r = record { part = []; after = xs; words = ws; same = refl; long = sym e; bits = tt; reads = r }

border_reads : (t : Turn) (q : ℕ) (xs : List ℕ) → slots_left t ≡ 0 → Parsed t q xs → (ws : List Meaning) × Reads (busy t) xs q ws
border_reads t q xs e w = go w.part (w.long ∙ e) w.same
  where
    go : (part : List ℕ) → length part ≡ 0 → xs ≡ part ++ w.after → (ws : List Meaning) × Reads (busy t) xs q ws
    go [] l s = (w.words, subst (λ (ys : List ℕ). Reads (busy t) ys q w.words) (sym s) w.reads)
    go (x ∷ part) l s = absurd (omega arith)

-- one slot of a byte more
more_slots : (t u : Turn) (q : ℕ) (x : Symbol) (xs : List ℕ) → busy t ≡ true → busy u ≡ true → slots_left t ≡ suc (slots_left u) → is_bit x ≡ true → Parsed u q xs → Parsed t q (rank x ∷ xs)
more_slots t u q x xs bt bu e b w = record {
  part = rank x ∷ w.part;
  after = w.after;
  words = w.words;
  same = ap (λ (ys : List ℕ). rank x ∷ ys) w.same;
  long = ap suc w.long ∙ sym e;
  bits = (rank_bit x b, w.bits);
  reads = subst (λ (c : Bool). Reads c w.after q w.words) (bu ∙ sym bt) w.reads;
}

-- nine slots are a byte
a_byte : (t : Turn) (q : ℕ) (xs : List ℕ) → busy t ≡ true → slots_left t ≡ 9 → Parsed t (q + 9) xs → (ws : List Meaning) × Reads true xs q ws
a_byte t q xs b e w = (
  byte q w.part ∷ w.words,
  nine w.part w.same (w.long ∙ e) w.bits (subst (λ (c : Bool). Reads c w.after (q + 9) w.words) b w.reads),
)

first_slot : (q : ℕ) (x : Symbol) (xs : List ℕ) → is_bit x ≡ true → Parsed (Write 6) (q + 9) xs → (ws : List Meaning) × Reads true (rank x ∷ xs) q ws
first_slot q x xs b w = (
  byte q (rank x ∷ w.part) ∷ w.words,
  nine (rank x ∷ w.part) (ap (λ (ys : List ℕ). rank x ∷ ys) w.same) (ap suc w.long) (rank_bit x b, w.bits) w.reads,
)

-- what may stand at a border
border_stop : (t : Turn) → legal t Stop ≡ true → (busy t ≡ true) × (slots_left t ≡ 0)
border_stop Free e = absurd (clash e)
border_stop (Address n) e = absurd (clash e)
border_stop (AddressNinth d) e = absurd (clash e)
border_stop Border e = (refl, refl)
border_stop (Write n) e = absurd (clash e)
border_stop WriteNinth e = absurd (clash e)
border_stop (Read n) e = absurd (clash e)
border_stop ReadNinth e = absurd (clash e)
border_stop ClosingBorder e = (refl, refl)

border_start : (t : Turn) → legal t Start ≡ true → slots_left t ≡ 0
border_start Free e = refl
border_start (Address n) e = absurd (clash e)
border_start (AddressNinth d) e = absurd (clash e)
border_start Border e = refl
border_start (Write n) e = absurd (clash e)
border_start WriteNinth e = absurd (clash e)
border_start (Read n) e = absurd (clash e)
border_start ReadNinth e = absurd (clash e)
border_start ClosingBorder e = refl

-- after a ninth slot
ninth : (t u : Turn) (q : ℕ) (x : Symbol) (h : List Symbol) → busy t ≡ true → slots_left t ≡ 1 → is_bit x ≡ true → ((busy u ≡ true) × (slots_left u ≡ 0)) ⊎ (u ≡ Read 7)
    → ((v : Turn) (p : ℕ) → acknowledged u x ≡ v → Parsed v p (ranks h)) → Parsed t q (rank x ∷ ranks h)
ninth t u q Zero h b e i (inl w) more = more_slots t u q Zero (ranks h) b w.0 (e ∙ ap suc (sym w.1)) refl (more u q refl)
ninth t u q Zero h b e i (inr r) more =
    let w = a_byte (Read 7) q (ranks h) refl refl (more (Read 7) (q + 9) r) in
    more_slots t Border q Zero (ranks h) b refl e refl (bordered Border q (ranks h) w.0 refl w.1)
ninth t u q Stop h b e i w more = absurd (clash i)
ninth t u q Start h b e i w more = absurd (clash i)
ninth t u q One h b e i w more = more_slots t ClosingBorder q One (ranks h) b refl e refl (more ClosingBorder q refl)

-- a 0 or a 1
parsed_bit : (x : Symbol) (h : List Symbol) (t : Turn) (q : ℕ) → is_bit x ≡ true → legal t x ≡ true → ((u : Turn) (p : ℕ) → onward t x ≡ u → Parsed u p (ranks h)) → Parsed t q (rank x ∷ ranks h)
parsed_bit Zero h Free q i l more = absurd (clash l)
parsed_bit Stop h Free q i l more = absurd (clash i)
parsed_bit Start h Free q i l more = absurd (clash i)
parsed_bit One h Free q i l more =
    let w = border_reads Free (q + 1) (ranks h) refl (more Free (q + 1) refl) in
    bordered Free q (3 ∷ ranks h) w.0 refl (free w.1)
parsed_bit x h (Address zero) q i l more = more_slots (Address zero) (AddressNinth (heading x)) q x (ranks h) refl refl refl i (more (AddressNinth (heading x)) q refl)
parsed_bit x h (Address (suc n)) q i l more = more_slots (Address (suc n)) (Address n) q x (ranks h) refl refl (omega arith) i (more (Address n) q refl)
parsed_bit x h (AddressNinth direction.Write) q i l more = ninth (AddressNinth direction.Write) Border q x h refl refl i (inl (refl, refl)) more
parsed_bit x h (AddressNinth direction.Read) q i l more = ninth (AddressNinth direction.Read) (Read 7) q x h refl refl i (inr refl) more
parsed_bit x h Border q i l more =
    let w = first_slot q x (ranks h) i (more (Write 6) (q + 9) refl) in
    bordered Border q (rank x ∷ ranks h) w.0 refl w.1
parsed_bit x h (Write zero) q i l more = more_slots (Write zero) WriteNinth q x (ranks h) refl refl refl i (more WriteNinth q refl)
parsed_bit x h (Write (suc n)) q i l more = more_slots (Write (suc n)) (Write n) q x (ranks h) refl refl (omega arith) i (more (Write n) q refl)
parsed_bit x h WriteNinth q i l more = ninth WriteNinth Border q x h refl refl i (inl (refl, refl)) more
parsed_bit x h (Read zero) q i l more = more_slots (Read zero) ReadNinth q x (ranks h) refl refl refl i (more ReadNinth q refl)
parsed_bit x h (Read (suc n)) q i l more = more_slots (Read (suc n)) (Read n) q x (ranks h) refl refl (omega arith) i (more (Read n) q refl)
parsed_bit x h ReadNinth q i l more = ninth ReadNinth (Read 7) q x h refl refl i (inr refl) more
parsed_bit Zero h ClosingBorder q i l more = absurd (clash l)
parsed_bit Stop h ClosingBorder q i l more = absurd (clash i)
parsed_bit Start h ClosingBorder q i l more = absurd (clash i)
parsed_bit One h ClosingBorder q i l more = absurd (clash l)

parsed : (h : List Symbol) (t : Turn) (q : ℕ) → Follows bus t h → busy (turn_after bus t h) ≡ false → Parsed t q (ranks h)
parsed [] t q f e = bordered t q [] [] (ap slots_left (free_turn t e)) (subst (λ (b : Bool). Reads b [] q []) (sym e) end)
parsed (Zero ∷ h) t q f e =
    parsed_bit Zero h t q refl f.0
    (λ u p n. parsed h u p (subst (λ (v : Turn). Follows bus v h) n f.1) (subst (λ (v : Turn). busy (turn_after bus v h) ≡ false) n e))
parsed (Stop ∷ h) t q f e =
    let w = border_reads Free (q + 1) (ranks h) refl (parsed h Free (q + 1) f.1 e) in
    let b = border_stop t f.0 in
    bordered t q (1 ∷ ranks h) (stop q ∷ w.0) b.1 (subst (λ (c : Bool). Reads c (1 ∷ ranks h) q (stop q ∷ w.0)) (sym b.0) (ends w.1))
parsed (Start ∷ h) t q f e =
    let w = a_byte (Address 7) (q + 1) (ranks h) refl refl (parsed h (Address 7) (q + 1 + 9) f.1 e) in
    bordered t q (2 ∷ ranks h) (start q ∷ w.0) (border_start t f.0) (begins w.1)
parsed (One ∷ h) t q f e =
    parsed_bit One h t q refl f.0
    (λ u p n. parsed h u p (subst (λ (v : Turn). Follows bus v h) n f.1) (subst (λ (v : Turn). busy (turn_after bus v h) ≡ false) n e))

-- a whole record has words
whole_reads : (slots : List ℕ) → Whole slots → (ws : List Meaning) × Reads false slots 0 ws
whole_reads slots w =
    let r = border_reads Free 0 (ranks w.0) refl (parsed w.0 Free 0 w.1.follows w.2) in
    (r.0, subst (λ (ys : List ℕ). Reads false ys 0 r.0) (sym w.1.same) r.1)

-- and only one list of them
same_words : (b : Bool) (slots : List ℕ) (p : ℕ) (ws vs : List Meaning) → Reads b slots p ws → Reads b slots p vs → ws ≡ vs
same_words b slots p ws vs end r = sym (at_end false p vs r)
same_words b slots p ws vs (free {xs = xs} q) r = same_words false xs (p + 1) ws vs q (at_free xs p vs r)
same_words b slots p ws vs (begins {xs = xs} {ws = later} q) r =
    let t = at_start b xs p vs r in
    ap (λ (l : List Meaning). start p ∷ l) (same_words true xs (p + 1) later t.0 q t.2) ∙ sym t.1
same_words b slots p ws vs (ends {xs = xs} {ws = later} q) r =
    let t = at_stop true xs p vs r in
    ap (λ (l : List Meaning). stop p ∷ l) (same_words false xs (p + 1) later t.0 q t.2) ∙ sym t.1
same_words b slots p ws vs (nine {xs = xs} {ws = later} s e l bits q) r =
    let some : 0 < length slots = omega (arith, length-append s xs, ap length e) in
    let bit = first_bit slots s xs e l bits in
    let two : get_or slots 0 0 ≡ 2 → ⊥ = λ z. not_bit_2 (subst Bit z bit) in
    let one : get_or slots 0 0 ≡ 1 → ⊥ = λ z. not_bit_1 (subst Bit z bit) in
    let t = (at_nine true slots p some (λ z. absurd (clash (sym z))) two one vs r).1 in
    let es : take 9 slots ≡ s = ap (take 9) e ∙ take_at s xs 9 l in
    let ex : drop 9 slots ≡ xs = ap (drop 9) e ∙ drop_at s xs 9 l in
    let z = same_words true xs (p + 9) later t.0 q (subst (λ (ys : List ℕ). Reads true ys (p + 9) t.0) ex t.2) in
    ap (λ (m : List Meaning). byte p s ∷ m) z ∙ ap (λ (ys : List ℕ). byte p ys ∷ t.0) (sym es) ∙ sym t.1

-- what is kept of a slot while the bus is busy, or of one that is no free slot
kept_busy : (t : Turn) (x : Symbol) (h : List Symbol) → busy t ≡ true → used t (x ∷ h) ≡ x ∷ used (next t x) h
kept_busy t Zero h b = refl
kept_busy t Stop h b = refl
kept_busy t Start h b = refl
kept_busy t One h b = rw b refl

not_stop : (x : Symbol) → Bit (rank x) → is_stop x ≡ false
not_stop Zero b = refl
not_stop Stop b = absurd (not_bit_1 b)
not_stop Start b = absurd (not_bit_2 b)
not_stop One b = refl

-- after the bits of a byte
record Past (t : Turn) (s xs : List ℕ) (h : List Symbol) : Type 0 where
  turn : Turn
  tail : List Symbol
  later : xs ≡ ranks tail
  follows : Follows bus turn tail
  busy_there : busy turn ≡ true
  kept : ranks (used t h) ≡ s ++ ranks (used turn tail)

past : (s xs : List ℕ) (h : List Symbol) (t : Turn) → s ++ xs ≡ ranks h → Bits s → busy t ≡ true → Follows bus t h → Past t s xs h
past [] xs h t e bs b f = record { turn = t; tail = h; later = e; follows = f; busy_there = b; kept = refl }
past (n ∷ s) xs [] t e bs b f = absurd (let z = ap length e in omega arith)
past (n ∷ s) xs (x ∷ h) t e bs b f =
    let bit-x : Bit (rank x) = let q : n ≡ rank x = cc in subst Bit q bs.0 in
    let w = past s xs h (next t x) (let q : s ++ xs ≡ ranks h = cc in q) bs.1 (busy_next t x b (not_stop x bit-x)) f.1 in
    record {
      turn = w.turn;
      tail = w.tail;
      later = w.later;
      follows = w.follows;
      busy_there = w.busy_there;
      kept =
          ap ranks (kept_busy t x h b) ∙ ap (λ (ys : List ℕ). rank x ∷ ys) w.kept
          ∙ ap (λ (m : ℕ). m ∷ (s ++ ranks (used w.turn w.tail))) (let q : rank x ≡ n = cc in q);
    }

-- the words are what is used of the history
joined_used : (b : Bool) (slots : List ℕ) (p : ℕ) (ws : List Meaning) → Reads b slots p ws → (h : List Symbol) (t : Turn) → slots ≡ ranks h → Follows bus t h → busy t ≡ b → joined ws ≡ ranks (used t h)
joined_used b slots p ws end [] t e f bt = refl
joined_used b slots p ws end (x ∷ h) t e f bt = absurd (let z = ap length e in omega arith)
joined_used b slots p ws (free {xs = xs} r) [] t e f bt = absurd (let z = ap length e in omega arith)
joined_used b slots p ws (free {xs = xs} r) (x ∷ h) t e f bt =
    let fr = free_turn t bt in
    let ex : One ≡ x = same_rank One x (let q : 3 ≡ rank x = cc in q) in
    let eh : xs ≡ ranks h = cc in
    let fh : Follows bus Free h = subst (λ (v : Turn). Follows bus (next v One) h) fr (subst (λ (y : Symbol). Follows bus (next t y) h) (sym ex) f.1) in
    joined_used false xs (p + 1) ws r h Free eh fh refl
    ∙ ap (λ (y : Symbol). ranks (used Free (y ∷ h))) ex ∙ ap (λ (v : Turn). ranks (used v (x ∷ h))) (sym fr)
joined_used b slots p ws (begins {xs = xs} r) [] t e f bt = absurd (let z = ap length e in omega arith)
joined_used b slots p ws (begins {xs = xs} {ws = later} r) (x ∷ h) t e f bt =
    let ex : Start ≡ x = same_rank Start x (let q : 2 ≡ rank x = cc in q) in
    let eh : xs ≡ ranks h = cc in
    let f' : Follows bus t (Start ∷ h) = subst (λ (y : Symbol). Follows bus t (y ∷ h)) (sym ex) f in
    ap (λ (ys : List ℕ). 2 ∷ ys) (joined_used true xs (p + 1) later r h (next t Start) eh f'.1 refl)
    ∙ ap (λ (y : Symbol). ranks (used t (y ∷ h))) ex
joined_used b slots p ws (ends {xs = xs} r) [] t e f bt = absurd (let z = ap length e in omega arith)
joined_used b slots p ws (ends {xs = xs} {ws = later} r) (x ∷ h) t e f bt =
    let ex : Stop ≡ x = same_rank Stop x (let q : 1 ≡ rank x = cc in q) in
    let eh : xs ≡ ranks h = cc in
    let f' : Follows bus t (Stop ∷ h) = subst (λ (y : Symbol). Follows bus t (y ∷ h)) (sym ex) f in
    ap (λ (ys : List ℕ). 1 ∷ ys) (joined_used false xs (p + 1) later r h (next t Stop) eh f'.1 refl)
    ∙ ap (λ (y : Symbol). ranks (used t (y ∷ h))) ex
joined_used b slots p ws (nine {xs = xs} {ws = later} s es l bits r) h t e f bt =
    let w = past s xs h t (sym es ∙ e) bits bt f in
    ap (λ (ys : List ℕ). s ++ ys) (joined_used true xs (p + 9) later r w.tail w.turn w.later w.follows w.busy_there) ∙ sym w.kept

-- each word stands at its place, one after the other
stands : (slots s xs : List ℕ) (p n : ℕ) → drop p slots ≡ s ++ xs → length s ≡ n → (take (length s) (drop p slots) ≡ s) × (drop (p + n) slots ≡ xs)
stands slots s xs p n e l = (
  ap (take (length s)) e ∙ take_at s xs (length s) refl,
  sym (drop-drop n p slots) ∙ ap (drop n) e ∙ drop_at s xs n l,
)

in_order : (b : Bool) (xs : List ℕ) (p : ℕ) (ws : List Meaning) → Reads b xs p ws → (slots : List ℕ) (q : ℕ) → drop p slots ≡ xs → q ≤ p → InOrder slots q ws
in_order b xs p ws end slots q e le = tt
in_order b xs p ws (free {xs = ys} r) slots q e le = in_order false ys (p + 1) ws r slots q (stands slots (3 ∷ []) ys p 1 e refl).1 (omega arith)
in_order b xs p ws (begins {xs = ys} {ws = later} r) slots q e le =
    let w = stands slots (2 ∷ []) ys p 1 e refl in
    (le, w.0, in_order true ys (p + 1) later r slots (p + 1) w.1 (omega arith))
in_order b xs p ws (ends {xs = ys} {ws = later} r) slots q e le =
    let w = stands slots (1 ∷ []) ys p 1 e refl in
    (le, w.0, in_order false ys (p + 1) later r slots (p + 1) w.1 (omega arith))
in_order b xs p ws (nine {xs = ys} {ws = later} s es l bits r) slots q e le =
    let w = stands slots s ys p 9 (e ∙ es) l in
    (le, w.0, in_order true ys (p + 9) later r slots (p + length s) w.1 (omega arith))

pub words_of : (slots : List ℕ) (h : List Symbol) (ws : List Meaning) → Recorded slots h → busy (turn_after bus Free h) ≡ false → Reads false slots 0 ws → WordsOf slots ws
words_of slots h ws c e r = record {
  history = h;
  recorded = c;
  ends_free = e;
  reads = r;
  only = λ vs q. same_words false slots 0 vs ws q r;
  same_slots = joined_used false slots 0 ws r h Free c.same c.follows refl;
  in_order = in_order false slots 0 ws r slots 0 refl (omega arith);
}

pub whole_words : (slots : List ℕ) → Whole slots → (ws : List Meaning) × WordsOf slots ws
whole_words slots w =
    let r = whole_reads slots w in
    (r.0, words_of slots w.0 r.0 w.1 w.2 r.1)
