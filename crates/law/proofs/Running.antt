-- A run, slot by slot. Assumes nothing.
use Rattle.std.proofs.Common.{◌≡◌, ℕ, zero, suc, ◌+◌, ◌-◌, ◌<◌, ◌≤◌, Bool, true, false, cond, List, [], ◌∷◌, ◌++◌, length, drop, sym, refl, ap, ◌∙◌, subst₂, append_assoc, append-nil, arith}
use Rattle.bus.specs.Symbols.{rank}
use Rattle.std.proofs.lemmas.List.{drop-drop}
use Rattle.law.specs.Model.{Model, carried, moved, resting, Slot, slot, run_slots, ran}
use Rattle.law.specs.Calls.{ranks, grown}

-- k slots of a run with n are moved, w₀ has become w, and the marks before have become those
abbrev pub Ahead : ℕ → ℕ → Model → Model → List ℕ → List ℕ → Type 0
Ahead n k w₀ w before marks =
    (k ≤ n)
    × (k + length (run_slots (n - k) w) ≡ length (run_slots n w₀))
    × (ran (n - k) w ≡ ran n w₀)
    × (marks ++ ranks (run_slots (n - k) w) ≡ before ++ ranks (run_slots n w₀))

pub ahead_start : (n : ℕ) (w : Model) (before : List ℕ) → Ahead n 0 w w before before
ahead_start n w before =
    let e : n - 0 ≡ n = omega arith in
    let f = ap (λ (j : ℕ). length (run_slots j w)) e in
    (omega arith, omega arith, ap (λ (j : ℕ). ran j w) e, ap (λ (j : ℕ). before ++ ranks (run_slots j w)) e)

slots_more : (n k : ℕ) (w : Model) → k < n → resting w ≡ false → run_slots (n - k) w ≡ slot w ∷ run_slots (n - (k + 1)) (moved w)
slots_more n k w l e =
    let j = n - (k + 1) in
    let f : n - k ≡ suc j = omega arith in
    ap (λ (i : ℕ). run_slots i w) f ∙ ap (λ (b : Bool). cond b [] (slot w ∷ run_slots j (moved w))) e

ran_more : (n k : ℕ) (w : Model) → k < n → resting w ≡ false → ran (n - k) w ≡ ran (n - (k + 1)) (moved w)
ran_more n k w l e =
    let j = n - (k + 1) in
    let f : n - k ≡ suc j = omega arith in
    ap (λ (i : ℕ). ran i w) f ∙ ap (λ (b : Bool). cond b w (ran j (moved w))) e

pub ahead_again : (n k : ℕ) (w₀ w v : Model) (before marks new : List ℕ) → k < n → resting w ≡ false → v ≡ moved w → new ≡ marks ++ (rank (carried w) ∷ [])
    → Ahead n k w₀ w before marks → Ahead n (k + 1) w₀ v before new
ahead_again n k w₀ w v before marks new l e ev en h =
    let s = slots_more n k w l e in
    let f = ap length s in
    let rest = ranks (run_slots (n - (k + 1)) (moved w)) in
    subst₂ (λ (v : Model) (new : List ℕ). Ahead n (k + 1) w₀ v before new) (sym ev) (sym en) (
      omega arith,
      omega (arith, h.1),
      sym (ran_more n k w l e) ∙ h.2,
      append_assoc marks (rank (carried w) ∷ []) rest ∙ ap (λ (ss : List Slot). marks ++ ranks ss) (sym s) ∙ h.3,
    )

slots_rest : (j : ℕ) (w : Model) → resting w ≡ true → run_slots j w ≡ []
slots_rest zero w e = refl
slots_rest (suc j) w e = ap (λ (b : Bool). cond b [] (slot w ∷ run_slots j (moved w))) e

ran_rest : (j : ℕ) (w : Model) → resting w ≡ true → ran j w ≡ w
ran_rest zero w e = refl
ran_rest (suc j) w e = ap (λ (b : Bool). cond b w (ran j (moved w))) e

-- a run that has come to its end
abbrev pub Over : ℕ → ℕ → Model → Model → List ℕ → List ℕ → Type 0
Over n k w₀ w before marks = (k ≡ length (run_slots n w₀)) × (w ≡ ran n w₀) × (marks ≡ before ++ ranks (run_slots n w₀))

over : (n k : ℕ) (w₀ w : Model) (before marks : List ℕ) → run_slots (n - k) w ≡ [] → ran (n - k) w ≡ w → Ahead n k w₀ w before marks → Over n k w₀ w before marks
over n k w₀ w before marks s r h =
    let f = ap length s in
    (omega (arith, h.1), sym r ∙ h.2, sym (append-nil marks) ∙ ap (λ (ss : List Slot). marks ++ ranks ss) (sym s) ∙ h.3)

pub ahead_rest : (n k : ℕ) (w₀ w : Model) (before marks : List ℕ) → resting w ≡ true → Ahead n k w₀ w before marks → Over n k w₀ w before marks
ahead_rest n k w₀ w before marks e h = over n k w₀ w before marks (slots_rest (n - k) w e) (ran_rest (n - k) w e) h

pub ahead_end : (n k : ℕ) (w₀ w : Model) (before marks : List ℕ) → n ≤ k → Ahead n k w₀ w before marks → Over n k w₀ w before marks
ahead_end n k w₀ w before marks l h =
    let e : n - k ≡ 0 = omega arith in
    over n k w₀ w before marks (ap (λ (i : ℕ). run_slots i w) e) (ap (λ (i : ℕ). ran i w) e) h

-- what a book leaves alone
pub blank_on : (xs ys zs : List ℕ) (u v : ℕ) → v ≡ u + 1 → drop v xs ≡ drop v ys → drop u ys ≡ drop u zs → drop v xs ≡ drop v zs
blank_on xs ys zs u v e h k =
    h ∙ ap (λ (i : ℕ). drop i ys) e ∙ sym (drop-drop 1 u ys) ∙ ap (drop 1) k ∙ drop-drop 1 u zs ∙ ap (λ (i : ℕ). drop i zs) (sym e)

drop_front : (xs ys : List ℕ) → drop (length xs) (xs ++ ys) ≡ ys
drop_front [] ys = refl
drop_front (x ∷ xs) ys = drop_front xs ys

pub grown_by : (xs ys zs : List ℕ) → zs ≡ xs ++ ys → grown xs zs ≡ ys
grown_by xs ys zs e = ap (drop (length xs)) e ∙ drop_front xs ys
