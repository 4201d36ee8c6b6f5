-- Contests in general: several contenders and a reply share the slots of one history. Any marks, any turns. Assumes nothing.
--     Rule       for every list of marks that may yet be heard, the mark offered next; scripts of contenders and replies are rules
--     Turns      where a mark leads, whose slot it is (the contenders' or the reply's), what may stand in it, which mark ends a contest
--     Alone      the history that one script has against a reply, with no other contender
--     Contest    the history that a family of contenders carries together
--     Fair       what a contest comes to: the least of the histories that its contenders would have had alone
use Rattle.std.specs.Prelude.{◌≡◌, ◌≤◌, Bool, true, false, cond, ◌⊎◌, ◌↔◌, List, [], ◌∷◌, ◌++◌, ◌==◌}
use Rattle.std.proofs.Math.Option.{Option, none, some}
use Rattle.history.specs.Marks.{Marks, least, Less}

abbrev pub Rule : Type 0 → Type 0
Rule M = List M → M

-- a rule moved on by one mark
abbrev pub on : {M : Type 0} → M → Rule M → Rule M
on x r = λ l. r (x ∷ l)

pub record Turns (M T : Type 0) : Type 0 where
  pub marks : Marks M
  pub next : T → M → T
  pub contended : T → Bool
  pub legal : T → M → Bool
  pub ends : M → Bool

module _ {M T : Type 0} (G : Turns M T) where
  abbrev pub turn_after : T → List M → T
  turn_after t [] = t
  turn_after t (x ∷ l) = turn_after (G.next t x) l

  -- the list follows the turns
  abbrev pub Follows : T → List M → Type 0
  Follows t [] = Unit {0}
  Follows t (x ∷ l) = (G.legal t x ≡ true) × Follows (G.next t x) l

  -- a contender that offered a stays in where x was carried: only a slot of the contenders puts it out
  abbrev pub stays : T → M → M → Bool
  stays t x a = cond (G.contended t) (G.marks.rank a == G.marks.rank x) true

  -- every slot of the contenders carried the script's own offer
  abbrev pub Survives : T → Rule M → List M → Type 0
  Survives t s [] = Unit {0}
  Survives t s (x ∷ l) = (stays t x (s []) ≡ true) × Survives (G.next t x) (on x s) l

  -- a reply that offers the greatest mark outside its slots, and something legal inside
  pub record Polite (t : T) (r : Rule M) : Type 0 where
    pub quiet : (l : List M) → Follows t l → G.contended (turn_after t l) ≡ true → r l ≡ G.marks.top
    pub sound : (l : List M) → Follows t l → G.contended (turn_after t l) ≡ false → G.legal (turn_after t l) (r l) ≡ true

  -- a script that, as long as it survives, offers the greatest mark outside the contenders' slots, and something legal inside
  pub record Keeps (t : T) (s : Rule M) : Type 0 where
    pub quiet : (l : List M) → Follows t l → Survives t s l → G.contended (turn_after t l) ≡ false → s l ≡ G.marks.top
    pub sound : (l : List M) → Follows t l → Survives t s l → G.contended (turn_after t l) ≡ true → G.legal (turn_after t l) (s l) ≡ true

  -- a history ends at its first ending mark
  abbrev pub Then : Bool → Type 0 → Type 0 → Type 0
  Then true ended more = ended
  Then false ended more = more

  abbrev pub Alone : Rule M → Rule M → List M → Type 0
  Alone s r [] = ⊥
  Alone s r (x ∷ h) = (x ≡ least G.marks (s []) (r [])) × Then (G.ends x) (h ≡ []) (Alone (on x s) (on x r) h)

  -- the last mark, and no other, ends the history
  abbrev pub EndsOnce : List M → Type 0
  EndsOnce [] = ⊥
  EndsOnce (x ∷ h) = Then (G.ends x) (h ≡ []) (EndsOnce h)

  -- the same in other words: until it ends, it grows by the least of the script's and the reply's offers for the history so far
  pub record GrowsAlone (s r : Rule M) (h : List M) : Type 0 where
    pub ends_once : EndsOnce h
    pub grows : (l : List M) (x : M) (m : List M) → h ≡ l ++ (x ∷ m) → x ≡ least G.marks (s l) (r l)

  module _ {I : Type 0} where
    -- a slot carries the least mark offered, by the reply or by a contender that is still in
    pub record Carried (cs : I → Option (Rule M)) (r : Rule M) (x : M) : Type 0 where
      pub offered : (x ≡ r []) ⊎ ((i : I) × (s : Rule M) × (cs i ≡ some s) × (x ≡ s []))
      pub below_reply : G.marks.rank x ≤ G.marks.rank (r [])
      pub below : (i : I) (s : Rule M) → cs i ≡ some s → G.marks.rank x ≤ G.marks.rank (s [])

  -- what becomes of a contender that hears x
  abbrev pub heard : T → M → Option (Rule M) → Option (Rule M)
  heard t x none = none
  heard t x (some s) = cond (stays t x (s [])) (some (on x s)) none

  abbrev pub Contest : {I : Type 0} → T → (I → Option (Rule M)) → Rule M → List M → Type 0
  Contest t cs r [] = ⊥
  Contest t cs r (x ∷ h) = Carried cs r x × Then (G.ends x) (h ≡ []) (Contest (G.next t x) (λ i. heard t x (cs i)) (on x r) h)

  -- what is asked of a family and of the reply
  pub record FairStart {I : Type 0} (t : T) (cs : I → Option (Rule M)) (r : Rule M) : Type 0 where
    pub polite : Polite t r
    pub keeps : (i : I) (s : Rule M) → cs i ≡ some s → Keeps t s
    pub someone : (i : I) × (s : Rule M) × (cs i ≡ some s)

  pub record Fair {I : Type 0} (t : T) (cs : I → Option (Rule M)) (r : Rule M) (h : List M) : Type 0 where
    pub one : (i : I) × (s : Rule M) × (cs i ≡ some s) × Alone s r h
    pub none_less : (i : I) (s : Rule M) → cs i ≡ some s → (g : List M) → Alone s r g → ¬ Less G.marks g h
    pub survivors : (i : I) (s : Rule M) → cs i ≡ some s → Survives t s h → Alone s r h
    pub winners : (i : I) (s : Rule M) → cs i ≡ some s → Alone s r h → Survives t s h

  -- a contest in which contenders may be dropped between slots: who is kept (K) goes on as in any contest,
  -- and of the others nothing is said but that they keep to the turns while they are in
  abbrev pub Drops : {I : Type 0} → T → (I → Bool) → (I → Option (Rule M)) → Rule M → List M → Type 0
  Drops t K cs r [] = ⊥
  Drops {I = I} t K cs r (x ∷ h) =
      ((i : I) (s : Rule M) → cs i ≡ some s → Keeps t s) × Carried cs r x
      × Then (G.ends x) (h ≡ []) ((cs' : I → Option (Rule M)) × ((i : I) → K i ≡ true → cs' i ≡ heard t x (cs i)) × Drops (G.next t x) K cs' (on x r) h)

  -- the family of those that are kept
  abbrev pub keep : {I A : Type 0} → (I → Bool) → (I → Option A) → I → Option A
  keep K cs i = cond (K i) (cs i) none

module _ (M T : Type 0) where
  -- what a family carries together is the least of what each would have carried alone
  abbrev pub ContestsAreFair : Type 0 → Type 0
  ContestsAreFair I =
      (G : Turns M T) (t : T) (cs : I → Option (Rule M)) (r : Rule M) (h : List M) → FairStart G t cs r → Contest G t cs r h → Fair G t cs r h

  -- and so it is for those that are kept, where others are dropped on the way, if one of the kept survives
  abbrev pub ContestsAreFairToTheKept : Type 0 → Type 0
  ContestsAreFairToTheKept I =
      (G : Turns M T) (t : T) (K : I → Bool) (cs : I → Option (Rule M)) (r : Rule M) (h : List M)
      → Polite G t r → Drops G t K cs r h
      → (i : I) (s : Rule M) → K i ≡ true → cs i ≡ some s → Survives G t s h
      → Fair G t (keep G K cs) r h

  -- a script has at most one history alone, and it is the one that grows by the least offer
  abbrev pub AloneIsOne : Type 0
  AloneIsOne = (G : Turns M T) (s r : Rule M) (h g : List M) → Alone G s r h → Alone G s r g → h ≡ g

  abbrev pub AloneGrows : Type 0
  AloneGrows = (G : Turns M T) (s r : Rule M) (h : List M) → Alone G s r h ↔ GrowsAlone G s r h
