-- Parts of a buffer written one after another. Assumes nothing.
use Rattle.std.proofs.Common.{refl, ◌≡◌, ℕ, ◌+◌, ◌-◌, ◌≤◌, min, Bool, true, false, cond, List, [], ◌++◌, length, take, drop, sym, ap, ◌∙◌, arith, length-drop}
use borrow.Rule.Slice.PartMut.{put_mid}
use Rattle.std.specs.List.{between, sum_by}
use Rattle.std.proofs.lemmas.List.Recursion.{is_sum_by}
use Rattle.std.proofs.lemmas.List.{append_assoc, append-nil, length-take, length-take-le, take_all, take_min, take_rest, take-append-drop, take_at, drop_at, drop-drop, drop_all, take-take}
use Rattle.std.proofs.lemmas.Slice.{between_is}
use Rattle.bus.specs.declared.Direction.{Direction}
use Rattle.bus.specs.declared.Direction.TheVariants.{Write, Read}
use Rattle.orders.specs.declared.Segment.{Segment}
use Rattle.orders.specs.Orders.{read_of}
use Rattle.orders.specs.Tables.{aimed, meant, meaning}
use Rattle.progress.specs.Plans.{share, read_total}
use Rattle.orders.specs.declared.bytes.Bytes.{Bytes}
use Rattle.orders.specs.Held.{held}
use Rattle.orders.proofs.Holds.{few_held}
use Rattle.progress.specs.Handing.{put_at}

-- what segments read
pub share_is : (bs : List ℕ) (s : Segment) → share (meant bs s) ≡ cond (read_of s.direction) s.count 0
share_is bs s = go s.direction (take s.count (drop s.at bs))
  where
    go : (d : Direction) (xs : List ℕ) → share (aimed d s.address s.count xs) ≡ cond (read_of d) s.count 0
    go Write xs = refl
    go Read xs = refl

pub reads_are : (bs : List ℕ) (ss : List Segment) → read_total (meaning ss bs) ≡ sum_by (λ s. cond (read_of s.direction) s.count 0) ss
reads_are bs = is_sum_by (λ ss. read_total (meaning ss bs)) (λ s. cond (read_of s.direction) s.count 0) refl (λ s ss. ap (λ n. n + read_total (meaning ss bs)) (share_is bs s))

-- the first n of a few bytes, as they are copied
pub first_few : (b : Bytes) (n : ℕ) → take 32 (take (min n (length (held b))) (held b)) ≡ take n (held b)
first_few b n =
    let few = few_held b in
    take_all 32 (take (min n (length (held b))) (held b)) (simp length-take (omega arith)) ∙ take_min n (held b)

-- a write to `buffer[at..]`
pub put_part : (buffer bytes part : List ℕ) (at : ℕ) → at + length bytes ≤ length buffer → part ≡ bytes ++ drop (length bytes) (take (length buffer - at) (drop at buffer)) → put_mid at (length buffer - at) buffer part ≡ put_at buffer at bytes
put_part buffer bytes part at fits e =
    let past : drop (length buffer - at) (drop at buffer) ≡ [] = drop-drop (length buffer - at) at buffer ∙ drop_all (at + (length buffer - at)) buffer (omega arith) in
    ap (λ p. take at buffer ++ p) (
    ap (λ d. part ++ d) past
    ∙ append-nil part
    ∙ e
    ∙ ap (λ d. bytes ++ d) (ap (λ d. drop (length bytes) d) (take_rest buffer at) ∙ drop-drop (length bytes) at buffer))

-- nothing written
pub put_none : (buffer bytes : List ℕ) (at : ℕ) → buffer ≡ put_at buffer at (between at at bytes)
put_none buffer bytes at =
    let z : at - at ≡ 0 = omega arith in
    let a : at + 0 ≡ at = omega arith in
    rw (z, a) (sym (take-append-drop at buffer))

-- the next part, straight after the earlier ones
pub put_next : (bytes old : List ℕ) (at next : ℕ) → at ≤ next → next ≤ length bytes → length bytes ≤ length old
    → put_at (take at bytes ++ drop at old) at (between at next bytes) ≡ take next bytes ++ drop next old
put_next bytes old at next low high fits =
    let front : length (take at bytes) ≡ at = length-take-le at bytes (omega arith) in
    let long : length (between at next bytes) ≡ next - at = length-take-le (next - at) (drop at bytes) (simp length-drop (omega arith)) in
    let begin : take at (take at bytes ++ drop at old) ≡ take at bytes = take_at (take at bytes) (drop at old) at front in
    let m : at + length (between at next bytes) ≡ at + (next - at) = ap (λ n. at + n) long in
    let rest : drop (at + length (between at next bytes)) (take at bytes ++ drop at old) ≡ drop next old =
    ap (λ n. drop n (take at bytes ++ drop at old)) m
    ∙ sym (drop-drop (next - at) at (take at bytes ++ drop at old))
    ∙ ap (drop (next - at)) (drop_at (take at bytes) (drop at old) at front)
    ∙ drop-drop (next - at) at old
    ∙ ap (λ n. drop n old) (omega arith) in
    let whole : take at bytes ++ between at next bytes ≡ take next bytes =
    ap (λ l. l ++ between at next bytes) (sym (take-take at next bytes low))
    ∙ ap (λ l. take at (take next bytes) ++ l) (between_is bytes at next)
    ∙ take-append-drop at (take next bytes) in
    ap (λ l. l ++ (between at next bytes ++ drop (at + length (between at next bytes)) (take at bytes ++ drop at old))) begin
    ∙ ap (λ l. take at bytes ++ (between at next bytes ++ l)) rest
    ∙ sym (append_assoc (take at bytes) (between at next bytes) (drop next old))
    ∙ ap (λ l. l ++ drop next old) whole

-- where the next part begins, of n bytes if it is there at all, before what is left to come
pub part_next : (there : Bool) (n at len rest next : ℕ) → next ≡ cond there (min (at + n) len) at → at ≤ len → len ≤ at + (cond there n 0 + rest)
    → (at ≤ next) × (next ≤ len) × (len ≤ next + rest)
part_next true n at len rest next e l h = (omega arith, omega arith, omega arith)
part_next false n at len rest next e l h = (omega arith, omega arith, omega arith)
