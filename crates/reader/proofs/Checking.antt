-- A record checked slot by slot. Assumes nothing.
use Rattle.std.proofs.Common.{◌≡◌, ℕ, true, false, List, [], ◌∷◌, ◌++◌, length, sym, refl, ap, ◌∙◌, subst, append_assoc, arith, length-append, ◌-◌}
use borrow.Author.Tests.{clash}
use Rattle.std.proofs.lemmas.List.{map_push, append-nil, length-map}
use Rattle.history.specs.Contest.{Follows, turn_after}
use Rattle.bus.specs.Symbols.{rank, same_rank}
use Rattle.bus.specs.Turns.{next, legal, busy, bus}
use Rattle.bus.specs.declared.Symbol.{Symbol}
use Rattle.bus.specs.declared.Turn.{Turn}
use Rattle.bus.specs.declared.Turn.TheVariants.{Free}
use Rattle.reader.specs.Records.{ranks, Recorded, Whole, Unfinished, Offends, Against, Leads}

-- so far: what is left, and where the turns are
pub record Checked (slots left : List ℕ) (t : Turn) : Type 0 where
  pub before : List Symbol
  pub same : slots ≡ ranks before ++ left
  pub follows : Follows bus Free before
  pub turn : t ≡ turn_after bus Free before

pub follows_push : (h : List Symbol) (t : Turn) (x : Symbol) → Follows bus t h → legal (turn_after bus t h) x ≡ true → Follows bus t (h ++ (x ∷ []))
follows_push [] t x f l = (l, tt)
follows_push (y ∷ h) t x f l = (f.0, follows_push h (next t y) x f.1 l)

pub turn_push : (h : List Symbol) (t : Turn) (x : Symbol) → turn_after bus t (h ++ (x ∷ [])) ≡ next (turn_after bus t h) x
turn_push [] t x = refl
turn_push (y ∷ h) t x = turn_push h (next t y) x

pub checked_on : (slots left rest : List ℕ) (t u : Turn) (n : ℕ) → Checked slots left t → left ≡ n ∷ rest → Leads t n u → Checked slots rest u
checked_on slots left rest t u n c e l =
    let x = l.0 in
    let h = c.before in
    record {
      before = h ++ (x ∷ []);
      same =
          c.same ∙ ap (λ (q : List ℕ). ranks h ++ q) (e ∙ ap (λ (m : ℕ). m ∷ rest) (sym l.1))
          ∙ sym (append_assoc (ranks h) (rank x ∷ []) rest) ∙ ap (λ (q : List ℕ). q ++ rest) (sym (map_push rank h x));
      follows = follows_push h Free x c.follows (subst (λ (v : Turn). legal v x ≡ true) c.turn l.2);
      turn = l.3 ∙ ap (λ (v : Turn). next v x) c.turn ∙ sym (turn_push h Free x);
    }

pub checked_offends : (slots left rest : List ℕ) (t : Turn) (n : ℕ) → Checked slots left t → left ≡ n ∷ rest → Against t n → Offends slots (length slots - length left)
checked_offends slots left rest t n c e b = record {
  before = c.before;
  here = n;
  later = rest;
  same = c.same ∙ ap (λ (q : List ℕ). ranks c.before ++ q) e;
  at = omega (arith, ap length c.same, length-append (ranks c.before) left, length-map c.before rank);
  follows = c.follows;
  against = λ x r. subst (λ (v : Turn). legal v x ≡ false) c.turn (b x r);
}

checked_end : (slots left : List ℕ) (t : Turn) → (c : Checked slots left t) → left ≡ [] → Recorded slots c.before
checked_end slots left t c e = record {
  same = c.same ∙ ap (λ (q : List ℕ). ranks c.before ++ q) e ∙ append-nil (ranks c.before);
  follows = c.follows;
}

pub checked_unfinished : (slots left : List ℕ) (t : Turn) → Checked slots left t → left ≡ [] → busy t ≡ true → Unfinished slots
checked_unfinished slots left t c e b = (c.before, checked_end slots left t c e, sym (ap busy c.turn) ∙ b)

-- a record has one history
head_is : {A : Type 0} (x y : A) (xs ys : List A) → x ∷ xs ≡ y ∷ ys → x ≡ y
head_is x y xs ys e = cc

tail_is : {A : Type 0} (x y : A) (xs ys : List A) → x ∷ xs ≡ y ∷ ys → xs ≡ ys
tail_is x y xs ys e = cc

nil_cons : {A : Type 0} (x : A) (xs : List A) → [] ≡ x ∷ xs → ⊥
nil_cons x xs e = let n = ap length e in omega arith

pub ranks_same : (h g : List Symbol) → ranks h ≡ ranks g → h ≡ g
ranks_same [] [] e = refl
ranks_same [] (y ∷ g) e = absurd (nil_cons (rank y) (ranks g) e)
ranks_same (x ∷ h) [] e = absurd (nil_cons (rank x) (ranks h) (sym e))
ranks_same (x ∷ h) (y ∷ g) e =
    let a = same_rank x y (head_is (rank x) (rank y) (ranks h) (ranks g) e) in
    let b = ranks_same h g (tail_is (rank x) (rank y) (ranks h) (ranks g) e) in
    cc

-- no record is both whole and wrong
offends_not : (h before : List Symbol) (t : Turn) (here : ℕ) (later : List ℕ) → ranks h ≡ ranks before ++ (here ∷ later) → Follows bus t h → ((x : Symbol) → rank x ≡ here → legal (turn_after bus t before) x ≡ false) → ⊥
offends_not [] [] t here later e f a = nil_cons here later e
offends_not [] (y ∷ before) t here later e f a = nil_cons (rank y) (ranks before ++ (here ∷ later)) e
offends_not (x ∷ h) [] t here later e f a = clash (sym (a x (head_is (rank x) here (ranks h) later e)) ∙ f.0)
offends_not (x ∷ h) (y ∷ before) t here later e f a =
    let s = same_rank x y (head_is (rank x) (rank y) (ranks h) (ranks before ++ (here ∷ later)) e) in
    let g : Follows bus (next t y) h = subst (λ (v : Symbol). Follows bus (next t v) h) s f.1 in
    offends_not h before (next t y) here later (tail_is (rank x) (rank y) (ranks h) (ranks before ++ (here ∷ later)) e) g a

pub whole_offends : (slots : List ℕ) (p : ℕ) → Whole slots → Offends slots p → ⊥
whole_offends slots p w o = offends_not w.0 o.before Free o.here o.later (sym w.1.same ∙ o.same) w.1.follows o.against

pub whole_unfinished : (slots : List ℕ) → Whole slots → Unfinished slots → ⊥
whole_unfinished slots w u =
    let e = ranks_same w.0 u.0 (sym w.1.same ∙ u.1.same) in
    clash (sym w.2 ∙ ap (λ (h : List Symbol). busy (turn_after bus Free h)) e ∙ u.2)
