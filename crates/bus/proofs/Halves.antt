-- Slots and half-slot levels compare alike. Assumes nothing.
use Rattle.std.proofs.Common.{◌≡◌, ℕ, zero, suc, ◌+◌, ◌*◌, ◌<◌, ◌≤◌, List, [], ◌∷◌, sym, refl, ap, ◌∙◌, suc-le-suc, le_of_suc-le-suc, arith}
use native.Mathlib.Decide.{dec_lt}
use Rattle.history.specs.Marks.{Marks, mark, Less}
use Rattle.bus.specs.declared.Symbol.{Symbol}
use Rattle.bus.specs.Symbols.{rank, same_rank, symbols}
use Rattle.bus.specs.declared.Level.{Level}
use Rattle.bus.specs.Levels.{height, same_height, levels, early, late, halves}

abbrev tail : List Symbol → List Symbol
tail [] = []
tail (x ∷ h) = h

mark_next : (g : List Symbol) (i : ℕ) → mark symbols g (suc i) ≡ mark symbols (tail g) i
mark_next g i = grind arith

half_early : (g : List Symbol) → mark levels (halves g) 0 ≡ early (mark symbols g 0)
half_early [] = refl
half_early (x ∷ g) = refl

half_late : (g : List Symbol) → mark levels (halves g) 1 ≡ late (mark symbols g 0)
half_late [] = refl
half_late (x ∷ g) = refl

half_next : (g : List Symbol) (i : ℕ) → mark levels (halves g) (suc (suc i)) ≡ mark levels (halves (tail g)) i
half_next g i = grind arith

-- a rank is its two levels
two_levels : (x : Symbol) → rank x ≡ 2 * height (early x) + height (late x)
two_levels x = grind arith

height_small : (a : Level) → height a ≤ 1
height_small a = grind arith

-- less, at a given place
record At {M : Type 0} (m : Marks M) (n : ℕ) (g h : List M) : Type 0 where
  same : (i : ℕ) → i < n → mark m g i ≡ mark m h i
  smaller : m.rank (mark m g n) < m.rank (mark m h n)

below_one : (P : ℕ → Type 0) → P 0 → (i : ℕ) → i < 1 → P i
below_one P p zero q = p
below_one P p (suc i) q = absurd (omega arith)

below_two : (P : ℕ → Type 0) (n : ℕ) → P 0 → P 1 → ((i : ℕ) → i < n → P (suc (suc i))) → (i : ℕ) → i < suc (suc n) → P i
below_two P n p p' more zero q = p
below_two P n p p' more (suc zero) q = p'
below_two P n p p' more (suc (suc i)) q = more i (omega arith)

module _ (g h : List Symbol) where
  abbrev first : Symbol
  first = mark symbols g 0

  abbrev second : Symbol
  second = mark symbols h 0

  same_early : height (early first) ≡ height (early second) → mark levels (halves g) 0 ≡ mark levels (halves h) 0
  same_early e = half_early g ∙ same_height (early first) (early second) e ∙ sym (half_early h)

  same_late : height (late first) ≡ height (late second) → mark levels (halves g) 1 ≡ mark levels (halves h) 1
  same_late e = half_late g ∙ same_height (late first) (late second) e ∙ sym (half_late h)

to_halves : (n : ℕ) (g h : List Symbol) → At symbols n g h → (k : ℕ) × At levels k (halves g) (halves h)
to_halves zero g h l =
    let x = mark symbols g 0 in
    let y = mark symbols h 0 in
    let ex = two_levels x in
    let ey = two_levels y in
    let bx = height_small (late x) in
    let sm = l.smaller in
    elim (dec_lt (height (early x)) (height (early y))) [
      | yes p ↦ (0, record { same = λ i q. absurd (omega arith); smaller = omega (arith, ap height (half_early g), ap height (half_early h)) })
      | no q ↦ (
        1,
        record {
          same = below_one (λ i. mark levels (halves g) i ≡ mark levels (halves h) i) (same_early g h (omega (arith, height_small (late y))));
          smaller = omega (arith, height_small (late y), ap height (half_late g), ap height (half_late h));
        },
      )
    ]
to_halves (suc n) g h l =
    let e = l.same 0 (omega arith) in
    let w = to_halves n (tail g) (tail h) (record {
      same = λ i q. sym (mark_next g i) ∙ l.same (suc i) (suc-le-suc q) ∙ mark_next h i;
      smaller = omega (arith, l.smaller, ap rank (mark_next g n), ap rank (mark_next h n));
    }) in (
      suc (suc w.0),
      record {
        same = below_two (λ i. mark levels (halves g) i ≡ mark levels (halves h) i) w.0 (same_early g h (ap (λ x. height (early x)) e)) (same_late g h (ap (λ x. height (late x)) e))
            (λ i q. half_next g i ∙ w.1.same i q ∙ sym (half_next h i));
        smaller = omega (arith, w.1.smaller, ap height (half_next g w.0), ap height (half_next h w.0));
      },
    )

from_halves : (n : ℕ) (g h : List Symbol) → At levels n (halves g) (halves h) → (k : ℕ) × At symbols k g h
from_halves zero g h l = (
  0,
  record {
    same = λ i q. absurd (omega arith);
    smaller = omega (arith, l.smaller, ap height (half_early g), ap height (half_early h), two_levels (mark symbols g 0), two_levels (mark symbols h 0), height_small (late (mark symbols g 0)));
  },
)
from_halves (suc zero) g h l = (
  0,
  record {
    same = λ i q. absurd (omega arith);
    smaller = omega (arith, l.smaller, ap height (l.same 0 (omega arith)), ap height (half_early g), ap height (half_early h), ap height (half_late g), ap height (half_late h), two_levels (mark symbols g 0), two_levels (mark symbols h 0));
  },
)
from_halves (suc (suc n)) g h l =
    let e = ap height (sym (half_early g) ∙ l.same 0 (omega arith) ∙ half_early h) in
    let e' = ap height (sym (half_late g) ∙ l.same 1 (omega arith) ∙ half_late h) in
    let first-same : mark symbols g 0 ≡ mark symbols h 0 = same_rank (mark symbols g 0) (mark symbols h 0) (omega (arith, two_levels (mark symbols g 0), two_levels (mark symbols h 0))) in
    let w = from_halves n (tail g) (tail h) (record {
      same = λ i q. sym (half_next g i) ∙ l.same (suc (suc i)) (suc-le-suc (suc-le-suc q)) ∙ half_next h i;
      smaller = omega (arith, l.smaller, ap height (half_next g n), ap height (half_next h n));
    }) in (
      suc w.0,
      record {
        same = elim [ zero ↦ λ q. first-same | suc i ↦ λ q. mark_next g i ∙ w.1.same i (le_of_suc-le-suc q) ∙ sym (mark_next h i) ];
        smaller = omega (arith, w.1.smaller, ap rank (mark_next g w.0), ap rank (mark_next h w.0));
      },
    )

pub agree : (g h : List Symbol) → (Less symbols g h → Less levels (halves g) (halves h)) × (Less levels (halves g) (halves h) → Less symbols g h)
agree g h = (
  (λ l. let w = to_halves l.place g h (record { same = l.same; smaller = l.smaller }) in record { place = w.0; same = w.1.same; smaller = w.1.smaller }),
  (λ l. let w = from_halves l.place g h (record { same = l.same; smaller = l.smaller }) in record { place = w.0; same = w.1.same; smaller = w.1.smaller }),
)
