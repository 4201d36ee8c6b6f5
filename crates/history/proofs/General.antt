-- The contest lemma: what a family of contenders carries is the least of their histories alone. Assumes nothing.
use Rattle.std.proofs.Common.{◌≡◌, ℕ, zero, suc, ◌<◌, ◌≤◌, Bool, true, false, cond, eqb, leb, ◌⊎◌, List, [], ◌∷◌, sym, refl, ap, ◌∙◌, inl, inr, suc-le-suc, zero-le, arith, eq-eqb, eqb-true, le-leb, leb-false, leb-true}
use mathlib.Core.Option.{Option, none, some}
use Rattle.history.specs.Marks.{Marks, least, mark}
use Rattle.history.specs.Contest.{Rule, on, Turns, stays, Survives, Polite, Keeps, Then, Alone, Carried, heard, Contest, FairStart, Fair}

module _ {M : Type 0} (m : Marks M) where
  pub least_left : (a b : M) → m.rank a ≤ m.rank b → least m a b ≡ a
  least_left a b h = rw (le-leb (m.rank a) (m.rank b) h)

  pub least_right : (a b : M) → m.rank b ≤ m.rank a → least m a b ≡ b
  least_right a b h = go (leb (m.rank a) (m.rank b)) refl
    where
      go : (t : Bool) → leb (m.rank a) (m.rank b) ≡ t → cond t a b ≡ b
      go true e = m.apart a b (omega (arith, leb-true (m.rank a) (m.rank b) e))
      go false e = refl

  pub least_either : (a b : M) → (least m a b ≡ a) ⊎ (least m a b ≡ b)
  least_either a b = go (leb (m.rank a) (m.rank b))
    where
      go : (t : Bool) → (cond t a b ≡ a) ⊎ (cond t a b ≡ b)
      go true = inl refl
      go false = inr refl

  pub least_le : (a b : M) → (m.rank (least m a b) ≤ m.rank a) × (m.rank (least m a b) ≤ m.rank b)
  least_le a b = go (leb (m.rank a) (m.rank b)) refl
    where
      go : (t : Bool) → leb (m.rank a) (m.rank b) ≡ t → (m.rank (cond t a b) ≤ m.rank a) × (m.rank (cond t a b) ≤ m.rank b)
      go true e = (omega arith, leb-true (m.rank a) (m.rank b) e)
      go false e = (omega (arith, leb-false (m.rank a) (m.rank b) e), omega arith)

module _ {M T : Type 0} (G : Turns M T) where
  pub polite_on : (t : T) (r : Rule M) (x : M) → G.legal t x ≡ true → Polite G t r → Polite G (G.next t x) (on x r)
  polite_on t r x ok p = record {
    quiet = λ l f o. p.quiet (x ∷ l) (ok, f) o;
    sound = λ l f o. p.sound (x ∷ l) (ok, f) o;
  }

  pub keeps_on : (t : T) (s : Rule M) (x : M) → G.legal t x ≡ true → stays G t x (s []) ≡ true → Keeps G t s → Keeps G (G.next t x) (on x s)
  keeps_on t s x ok st k = record {
    quiet = λ l f v o. k.quiet (x ∷ l) (ok, f) (st, v) o;
    sound = λ l f v o. k.sound (x ∷ l) (ok, f) (st, v) o;
  }

  -- a slot of one contender: what it has alone, and when it stays in
  module _ (t : T) (s r : Rule M) (p : Polite G t r) (k : Keeps G t s) where
    alone_contended : G.contended t ≡ true → least G.marks (s []) (r []) ≡ s []
    alone_contended o = least_left G.marks (s []) (r []) (rw (p.quiet [] tt o) (G.marks.greatest (s [])))

    alone_replied : G.contended t ≡ false → least G.marks (s []) (r []) ≡ r []
    alone_replied o = least_right G.marks (s []) (r []) (rw (k.quiet [] tt tt o) (G.marks.greatest (r [])))

    -- it stays in exactly where its own mark alone is carried
    own_stays : (x : M) → x ≡ least G.marks (s []) (r []) → stays G t x (s []) ≡ true
    own_stays x e = go (G.contended t) refl
      where
        go : (b : Bool) → G.contended t ≡ b → cond b (eqb (G.marks.rank (s [])) (G.marks.rank x)) true ≡ true
        go true o = eq-eqb (G.marks.rank (s [])) (G.marks.rank x) (ap G.marks.rank (sym (e ∙ alone_contended o)))
        go false o = refl

  module _ {I : Type 0} (t : T) (cs : I → Option (Rule M)) (r : Rule M) (x : M) (f : FairStart G t cs r) (c : Carried G cs r x) where
    -- in a slaves' slot the slaves are heard
    replied : G.contended t ≡ false → x ≡ r []
    replied o = elim c.offered [
      | inl e ↦ e
      | inr w ↦ G.marks.apart x (r []) (omega (arith, c.below_reply, ap G.marks.rank (w.3 ∙ (f.keeps w.0 w.1 w.2).quiet [] tt tt o), G.marks.greatest (r [])))
    ]

    -- in a masters' slot one of the contenders is
    contended : G.contended t ≡ true → (i : I) × (s : Rule M) × (cs i ≡ some s) × (x ≡ s [])
    contended o = elim c.offered [
      | inl e ↦
          let w = f.someone in
          (w.0, w.1, w.2, G.marks.apart x (w.1 []) (omega (arith, c.below w.0 w.1 w.2, ap G.marks.rank (e ∙ f.polite.quiet [] tt o), G.marks.greatest (w.1 []))))
      | inr w ↦ w
    ]

    pub legal_slot : G.legal t x ≡ true
    legal_slot = go (G.contended t) refl
      where
        go : (b : Bool) → G.contended t ≡ b → G.legal t x ≡ true
        go true o = let w = contended o in rw w.3 ((f.keeps w.0 w.1 w.2).sound [] tt tt o)
        go false o = rw (replied o) (f.polite.sound [] tt o)

    -- who stays in has the slot's mark alone
    pub stayer_alone : (i : I) (s : Rule M) → cs i ≡ some s → stays G t x (s []) ≡ true → x ≡ least G.marks (s []) (r [])
    stayer_alone i s e st = go (G.contended t) refl
      where
        go : (b : Bool) → G.contended t ≡ b → x ≡ least G.marks (s []) (r [])
        go true o =
            let own : eqb (G.marks.rank (s [])) (G.marks.rank x) ≡ true = rw o at st in
            G.marks.apart x (s []) (sym (eqb-true (G.marks.rank (s [])) (G.marks.rank x) own)) ∙ sym (alone_contended t s r f.polite (f.keeps i s e) o)
        go false o = replied o ∙ sym (alone_replied t s r f.polite (f.keeps i s e) o)

    -- nobody has less alone
    pub none_below : (i : I) (s : Rule M) → cs i ≡ some s → G.marks.rank x ≤ G.marks.rank (least G.marks (s []) (r []))
    none_below i s e = go (leb (G.marks.rank (s [])) (G.marks.rank (r [])))
      where
        go : (b : Bool) → G.marks.rank x ≤ G.marks.rank (cond b (s []) (r []))
        go true = c.below i s e
        go false = c.below_reply

    -- somebody stays in
    pub some_stay : (i : I) × (s : Rule M) × (cs i ≡ some s) × (stays G t x (s []) ≡ true)
    some_stay = go (G.contended t) refl
      where
        go : (b : Bool) → G.contended t ≡ b → (i : I) × (s : Rule M) × (cs i ≡ some s) × (stays G t x (s []) ≡ true)
        go true o =
            let w = contended o in
            let p = f.polite in
            (w.0, w.1, w.2, own_stays t w.1 r p (f.keeps w.0 w.1 w.2) x (w.3 ∙ sym (alone_contended t w.1 r p (f.keeps w.0 w.1 w.2) o)))
        go false o =
            let w = f.someone in
            (w.0, w.1, w.2, own_stays t w.1 r f.polite (f.keeps w.0 w.1 w.2) x (replied o ∙ sym (alone_replied t w.1 r f.polite (f.keeps w.0 w.1 w.2) o)))

  -- who is in after a slot was in before it, and stayed
  pub was_in : (t : T) (x : M) (o : Option (Rule M)) (s' : Rule M) → heard G t x o ≡ some s' → (s : Rule M) × (o ≡ some s) × (stays G t x (s []) ≡ true) × (s' ≡ on x s)
  was_in t x none s' e = absurd (let z : ◌≡◌ {A = ℕ} 0 1 = cc in omega arith)
  was_in t x (some s) s' e = go (stays G t x (s [])) refl e
    where
      go : (b : Bool) → stays G t x (s []) ≡ b → cond b (some (on x s)) none ≡ some s' → (s₁ : Rule M) × (◌≡◌ {A = Option (Rule M)} (some s) (some s₁)) × (stays G t x (s₁ []) ≡ true) × (s' ≡ on x s₁)
      go true st q = (s, refl, st, cc)
      go false st q = absurd (let z : ◌≡◌ {A = ℕ} 0 1 = cc in omega arith)

  pub is_in : (t : T) (x : M) (o : Option (Rule M)) (s : Rule M) → o ≡ some s → stays G t x (s []) ≡ true → heard G t x o ≡ some (on x s)
  is_in t x o s e st = rw e (rw st refl)

  fair_on : {I : Type 0} (t : T) (cs : I → Option (Rule M)) (r : Rule M) (x : M) → FairStart G t cs r → Carried G cs r x
      → FairStart G (G.next t x) (λ i. heard G t x (cs i)) (on x r)
  fair_on t cs r x f c =
      let ok = legal_slot t cs r x f c in
      let w = some_stay t cs r x f c in
      record {
        polite = polite_on t r x ok f.polite;
        keeps = λ i s' e.
            let v = was_in t x (cs i) s' e in
            rw v.3 (keeps_on t v.0 x ok v.2 (f.keeps i v.0 v.1));
        someone = (w.0, on x w.1, is_in t x (cs w.0) w.1 w.2 w.3);
      }

  pub then_map : (A : Type 0) {B C : Type 0} (b : Bool) → Then G b A B → (B → C) → Then G b A C
  then_map A true a f = a
  then_map A false d f = f d

  pub then_both : {A A' B C D : Type 0} (b : Bool) → Then G b A B → Then G b A' C → (A → A' → D) → (B → C → D) → D
  then_both true a a' f g = f a a'
  then_both false d e f g = g d e

  -- somebody lasts to the end
  lasting : {I : Type 0} (h : List M) (t : T) (cs : I → Option (Rule M)) (r : Rule M) → FairStart G t cs r → Contest G t cs r h
      → (i : I) × (s : Rule M) × (cs i ≡ some s) × Survives G t s h
  lasting [] t cs r f c = absurd c
  lasting (x ∷ h) t cs r f c =
      then_both (G.ends x) c.1 c.1
      (λ e e'. let w = some_stay t cs r x f c.0 in (w.0, w.1, w.2, (w.3, rw e tt)))
      (λ d d'.
      let w = lasting h (G.next t x) (λ i. heard G t x (cs i)) (on x r) (fair_on t cs r x f c.0) d in
      let v = was_in t x (cs w.0) w.1 w.2 in
      (w.0, v.0, v.1, (v.2, rw v.3 at w.3)))

  survivors : {I : Type 0} (h : List M) (t : T) (cs : I → Option (Rule M)) (r : Rule M) → FairStart G t cs r → Contest G t cs r h
      → (i : I) (s : Rule M) → cs i ≡ some s → Survives G t s h → Alone G s r h
  survivors [] t cs r f c i s e v = c
  survivors (x ∷ h) t cs r f c i s e v = (
    stayer_alone t cs r x f c.0 i s e v.0,
    then_map (h ≡ []) (G.ends x) c.1 (λ d.
        survivors h (G.next t x) (λ j. heard G t x (cs j)) (on x r) (fair_on t cs r x f c.0) d i (on x s) (is_in t x (cs i) s e v.0) v.1),
  )

  winners : {I : Type 0} (h : List M) (t : T) (cs : I → Option (Rule M)) (r : Rule M) → FairStart G t cs r → Contest G t cs r h
      → (i : I) (s : Rule M) → cs i ≡ some s → Alone G s r h → Survives G t s h
  winners [] t cs r f c i s e a = tt
  winners (x ∷ h) t cs r f c i s e a =
      let st = own_stays t s r f.polite (f.keeps i s e) x a.0 in (
        st,
        then_both (G.ends x) c.1 a.1 (λ q q'. rw q tt) (λ d a'.
            winners h (G.next t x) (λ j. heard G t x (cs j)) (on x r) (fair_on t cs r x f c.0) d i (on x s) (is_in t x (cs i) s e st) a'),
      )

  none_less : {I : Type 0} (h : List M) (t : T) (cs : I → Option (Rule M)) (r : Rule M) → FairStart G t cs r → Contest G t cs r h
      → (i : I) (s : Rule M) → cs i ≡ some s → (g : List M) → Alone G s r g
      → (n : ℕ) → ((k : ℕ) → k < n → mark G.marks g k ≡ mark G.marks h k) → ¬ (G.marks.rank (mark G.marks g n) < G.marks.rank (mark G.marks h n))
  none_less [] t cs r f c i s e g a n same small = c
  none_less (x ∷ h) t cs r f c i s e [] a n same small = a
  none_less (x ∷ h) t cs r f c i s e (y ∷ g) a zero same small =
      omega (arith, none_below t cs r x f c.0 i s e, ap G.marks.rank a.0)
  none_less (x ∷ h) t cs r f c i s e (y ∷ g) a (suc n) same small =
      let q : y ≡ x = same 0 (suc-le-suc zero-le) in
      let a' : Alone G s r (x ∷ g) = rw q at a in
      let st = own_stays t s r f.polite (f.keeps i s e) x a'.0 in
      then_both (G.ends x) c.1 a'.1
      (λ p p'. omega (arith, rw (p, p') at small))
      (λ d a''.
      none_less h (G.next t x) (λ j. heard G t x (cs j)) (on x r) (fair_on t cs r x f c.0) d i (on x s) (is_in t x (cs i) s e st) g a'' n (λ k l. same (suc k) (suc-le-suc l)) small)

  pub fair : {I : Type 0} (t : T) (cs : I → Option (Rule M)) (r : Rule M) (h : List M) → FairStart G t cs r → Contest G t cs r h → Fair G t cs r h
  fair t cs r h f c =
      let w = lasting h t cs r f c in
      record {
        one = (w.0, w.1, w.2, survivors h t cs r f c w.0 w.1 w.2 w.3);
        none_less = λ i s e g a l. none_less h t cs r f c i s e g a l.place l.same l.smaller;
        survivors = survivors h t cs r f c;
        winners = winners h t cs r f c;
      }

  -- a script has at most one history alone
  pub alone_one : (s r : Rule M) (h g : List M) → Alone G s r h → Alone G s r g → h ≡ g
  alone_one s r [] g a b = absurd a
  alone_one s r (x ∷ h) [] a b = absurd b
  alone_one s r (x ∷ h) (y ∷ g) a b =
      let q : y ≡ x = b.0 ∙ sym a.0 in
      let b' : Alone G s r (x ∷ g) = rw q at b in
      then_both (G.ends x) a.1 b'.1 (λ p p'. cc) (λ c d. let e = alone_one (on x s) (on x r) h g c d in cc)
