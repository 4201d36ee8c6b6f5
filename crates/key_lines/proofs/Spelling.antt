-- Commands by their numbers. Assumes nothing.
use Rattle.std.proofs.Common.{◌≡◌, ℕ, zero, suc, ◌+◌, ◌*◌, ◌<◌, Bool, true, false, cond, ltb, List, [], ◌∷◌, ◌++◌, length, is_ok, is_some, get_or, drop, Some, None, Ok, Err, Result, sym, refl, ap, ◌∙◌, subst, arith, lt-ltb, MatchOption}
use mathlib.Core.Option.{none, some}
use borrow.Author.Tests.{clash}
use Rattle.std.specs.declared.option.Option as std
use Rattle.orders.specs.Fills.{Filled}
use Rattle.orders.specs.declared.RawSegment.{RawSegment}
use Rattle.orders.specs.declared.order.Order.{Order}
use Rattle.refusals.specs.declared.Refusal.{Refusal}
use Rattle.orders.specs.Tests.{every, is_byte}
use Rattle.numerals.specs.Lines.{Is}
use Rattle.numerals.proofs.Words.{one_list}
use Rattle.key_lines.specs.declared.commands.Command as code
use Rattle.key_lines.specs.declared.commands.Command.TheVariants.{Place}
use Rattle.key_lines.specs.Commands.{Command, place, withdraw, tell, run, collect, segment_numbers, spelt, Asks, Means, OneMeaning}
use Rattle.key_lines.specs.declared.commands.kind.Kind.{Kind}
use Rattle.key_lines.specs.declared.commands.kind.Kind.TheVariants as kind
use Rattle.key_lines.specs.Kinds.{Names}
use Rattle.key_lines.specs.Readings.{Fits, Reads}

-- so many segments off the front, and what follows them
segments_in : ℕ → List ℕ → List RawSegment
segments_in zero ns = []
segments_in (suc k) ns = record { address = get_or ns 0 0; direction = get_or ns 1 0; count = get_or ns 2 0 } ∷ segments_in k (drop 3 ns)

bytes_in : ℕ → List ℕ → List ℕ
bytes_in zero ns = ns
bytes_in (suc k) ns = bytes_in k (drop 3 ns)

segments_back : (ss : List RawSegment) (bs : List ℕ) → segments_in (length ss) (segment_numbers ss ++ bs) ≡ ss
unfolding segments_in
segments_back [] bs = refl
segments_back (s ∷ ss) bs = ap (λ (l : List RawSegment). s ∷ l) (segments_back ss bs)

bytes_back : (ss : List RawSegment) (bs : List ℕ) → bytes_in (length ss) (segment_numbers ss ++ bs) ≡ bs
unfolding bytes_in
bytes_back [] bs = refl
bytes_back (s ∷ ss) bs = bytes_back ss bs

-- the command of a kind, from its number and the rest
command_in : ℕ → ℕ → List ℕ → Command
command_in zero n ns = collect n
command_in (suc zero) n ns = place n (segments_in (get_or ns 0 0) (drop 1 ns)) (bytes_in (get_or ns 0 0) (drop 1 ns))
command_in (suc (suc zero)) n ns = withdraw n
command_in (suc (suc (suc zero))) n ns = tell n (get_or ns 0 0) (get_or ns 1 0)
command_in (suc (suc (suc (suc zero)))) n ns = run n
command_in (suc (suc (suc (suc (suc k))))) n ns = collect n

back : List ℕ → Command
back ns = command_in (get_or ns 0 0) (get_or ns 1 0) (drop 2 ns)

spelt_back : (c : Command) → back (spelt c) ≡ c
unfolding back command_in
spelt_back (place n ss bs) =
    ap (λ (l : List RawSegment). place n l (bytes_in (length ss) (segment_numbers ss ++ bs))) (segments_back ss bs)
    ∙ ap (place n ss) (bytes_back ss bs)
spelt_back (withdraw n) = refl
spelt_back (tell n p b) = refl
spelt_back (run n) = refl
spelt_back (collect n) = refl

pub one_meaning : OneMeaning
one_meaning line none none m k = refl
one_meaning line none (some d) m k = absurd (m d k)
one_meaning line (some c) none m k = absurd (k c m)
one_meaning line (some c) (some d) m k =
    ap some (sym (spelt_back c) ∙ ap back (one_list line (spelt c) (spelt d) m.0.0 k.0.0) ∙ spelt_back d)

-- orders
pub segments_long : (ss : List RawSegment) (bs ns : List ℕ) → ns ≡ segment_numbers ss ++ bs → 3 * length ss + length bs ≡ length ns
segments_long ss bs ns e = all ss ∙ sym (ap length e)
  where
    all : (ss : List RawSegment) → 3 * length ss + length bs ≡ length (segment_numbers ss ++ bs)
    all [] = omega arith
    all (s ∷ ss) = omega (arith, all ss)

-- the same numbers have the same bytes after the same count of segments
pub same_bytes : (ss ts : List RawSegment) (bs cs : List ℕ) → length ss ≡ length ts → segment_numbers ss ++ bs ≡ segment_numbers ts ++ cs → bs ≡ cs
same_bytes ss ts bs cs l e =
    sym (bytes_back ss bs) ∙ ap (bytes_in (length ss)) e ∙ ap (λ (k : ℕ). bytes_in k (segment_numbers ts ++ cs)) l ∙ bytes_back ts cs

pub not_place : (n count : ℕ) (rest : List ℕ)
    → ((ss : List RawSegment) (bs : List ℕ) → length ss ≡ count → rest ≡ segment_numbers ss ++ bs → every is_byte bs ≡ true → ⊥)
    → Reads (1 ∷ (n ∷ (count ∷ rest))) None
not_place n count rest f (place m ss bs) e p = f ss bs (sym (ap (λ (l : List ℕ). get_or l 2 0) e)) (ap (drop 3) e) p
not_place n count rest f (withdraw m) e p = absurd (let z : 1 ≡ 2 = ap (λ (l : List ℕ). get_or l 0 0) e in omega arith)
not_place n count rest f (tell m q b) e p = absurd (let z : 1 ≡ 3 = ap (λ (l : List ℕ). get_or l 0 0) e in omega arith)
not_place n count rest f (run m) e p = absurd (let z : 1 ≡ 4 = ap (λ (l : List ℕ). get_or l 0 0) e in omega arith)
not_place n count rest f (collect m) e p = absurd (let z : 1 ≡ 5 = ap (λ (l : List ℕ). get_or l 0 0) e in omega arith)

abbrev pub first_segment : List ℕ → RawSegment
first_segment ns = record { address = get_or ns 0 0; direction = get_or ns 1 0; count = get_or ns 2 0 }

-- one segment more off the front
pub segment_more : (ns ms front rest : List ℕ) (ss ss' : List RawSegment) → length front ≡ 3 → ms ≡ front ++ rest → ss' ≡ ss ++ (first_segment front ∷ []) → ns ≡ segment_numbers ss ++ ms
    → ns ≡ segment_numbers ss' ++ rest
segment_more ns ms [] rest ss ss' l em es e = absurd (omega (arith, l))
segment_more ns ms (a ∷ []) rest ss ss' l em es e = absurd (omega (arith, l))
segment_more ns ms (a ∷ (b ∷ [])) rest ss ss' l em es e = absurd (omega (arith, l))
segment_more ns ms (a ∷ (b ∷ (c ∷ (d ∷ ds)))) rest ss ss' l em es e = absurd (omega (arith, l))
segment_more ns ms (a ∷ (b ∷ (c ∷ []))) rest ss ss' l em es e =
    e ∙ ap (λ (q : List ℕ). segment_numbers ss ++ q) em ∙ sym (spread ss) ∙ ap (λ (q : List RawSegment). segment_numbers q ++ rest) (sym es)
  where
    spread : (ss : List RawSegment) → segment_numbers (ss ++ (record { address = a; direction = b; count = c } ∷ [])) ++ rest ≡ segment_numbers ss ++ (a ∷ (b ∷ (c ∷ rest)))
    spread [] = refl
    spread (s ∷ ss) = ap (λ (q : List ℕ). s.address ∷ (s.direction ∷ (s.count ∷ q))) (spread ss)

-- a list with room takes one item more
pub pushed : {A : Type 0} (xs xs' : List A) (x : A) (n : ℕ) → xs' ≡ cond (ltb (length xs) n) (xs ++ (x ∷ [])) xs → length xs < n → xs' ≡ xs ++ (x ∷ [])
pushed xs xs' x n e room = e ∙ ap (λ (b : Bool). cond b (xs ++ (x ∷ [])) xs) (lt-ltb (length xs) n room)

-- what the numbers ask for, the line means
pub line_means : (line ns : List ℕ) (r : std.Option code.Command) → Is line ns → Reads ns r
    → MatchOption r (Means line none) (λ k. (c : Command) × Asks line c × Fits k c)
line_means line ns None is reads = λ c a. reads c (one_list line ns (spelt c) is.0 a.0.0) a.1
line_means line ns (Some k) is reads = (reads.0, (subst (λ (q : List ℕ). Is line q) reads.1 is, reads.2), reads.3)

-- numbers whose first is that of no kind
pub no_kind : (ns : List ℕ) (named : Result Kind Refusal) (o : std.Option Kind) (r : std.Option code.Command)
    → Names (get_or ns 0 0) named → is_some o ≡ is_ok named → o ≡ None → r ≡ None → Reads ns r
no_kind ns (Ok k) o r names v eo er = absurd (clash (sym (ap is_some eo) ∙ v))
no_kind ns (Err e) o r names v eo er = subst (Reads ns) (sym er) none-asked
  where
    first : (c : Command) → ns ≡ spelt c → get_or (spelt c) 0 0 ≡ get_or ns 0 0
    first c e = sym (ap (λ (q : List ℕ). get_or q 0 0) e)

    none-asked : Reads ns None
    none-asked (place n ss bs) e p = names kind.Place (first (place n ss bs) e)
    none-asked (withdraw n) e p = names kind.Withdraw (first (withdraw n) e)
    none-asked (tell n q b) e p = names kind.Tell (first (tell n q b) e)
    none-asked (run n) e p = names kind.Run (first (run n) e)
    none-asked (collect n) e p = names kind.Collect (first (collect n) e)

pub not_bytes : (n count : ℕ) (rest : List ℕ) (r : std.Option code.Command) (ss : List RawSegment) (left : List ℕ)
    → r ≡ None → length ss ≡ count → rest ≡ segment_numbers ss ++ left → every is_byte left ≡ false → Reads (1 ∷ (n ∷ (count ∷ rest))) r
not_bytes n count rest r ss left er l e f =
    subst (Reads (1 ∷ (n ∷ (count ∷ rest)))) (sym er)
    (not_place n count rest (λ ts cs k q p. clash (sym f ∙ ap (every is_byte) (same_bytes ss ts left cs (l ∙ sym k) (sym e ∙ q)) ∙ p)))

-- segments read and then bytes
pub place_read : (n count : ℕ) (rest : List ℕ) (r : Result Order Refusal) (ss : List RawSegment) (left bytes : List ℕ)
    → length ss ≡ count → rest ≡ segment_numbers ss ++ left → every is_byte left ≡ true → bytes ≡ left → Filled r ss bytes
    → Reads (1 ∷ (n ∷ (count ∷ rest))) (Some (Place n r))
place_read n count rest r ss left bytes l e p eb f = (
  place n ss left,
  ap (λ (q : List ℕ). 1 ∷ (n ∷ (count ∷ q))) e ∙ ap (λ (k : ℕ). 1 ∷ (n ∷ (k ∷ (segment_numbers ss ++ left)))) (sym l),
  p,
  (ss, left, refl, subst (λ (q : List ℕ). Filled r ss q) eb f),
)
