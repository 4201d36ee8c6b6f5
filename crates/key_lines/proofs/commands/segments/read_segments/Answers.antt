use Rattle.std.proofs.Common.{◌≡◌, ◌++◌, ◌<◌, ◌≤◌, [], ◌∷◌, length, is_some, sym, ap, ◌∙◌, arith, rules, lt-ltb, length-append}
use borrow.Author.Tests.{clash}
use Rattle.std.proofs.lemmas.List.{take-append-drop}
use Rattle.array_vec.specs.Items.{items_of}
use Rattle.key_lines.proofs.Spelling.{segments_long, first_segment, segment_more, pushed}
use Rattle.key_lines.proofs.commands.segments.read_segments.Goals as goal

pub returns-in_err-address : goal.returns-in_err-address
returns-in_err-address c =
    let i = c.loop.invariant in
    let few : length c.loop.left.now < 3 = search rules in
    rw c.from_residual.ensures (λ ss bs e q. absurd (omega (arith, segments_long ss bs _ q, segments_long (items_of c.loop.segments) c.loop.left.now _ i.1, i.0, few, c.loop-test.true, e)))

pub returns-in_err-ok : goal.returns-in_err-ok
returns-in_err-ok c =
    let i = c.loop.invariant in
    let read = items_of c.loop.segments in
    let three : 3 ≤ length c.loop.left.now = search rules in
    let room : length read < 14 = omega (arith, segments_long read c.loop.left.now _ i.1, three, c.requires) in
    absurd (clash (sym (ap is_some c.in_err-ok.was) ∙ c.ok.ensures.variant ∙ c.push.ensures.test ∙ lt-ltb (length read) 14 room))

pub loop-preserved : goal.loop-preserved
loop-preserved c =
    let i = c.loop.invariant in
    let read = items_of c.loop.segments in
    let left = c.loop.left.now in
    let three : 3 ≤ length left = search rules in
    let room : length read < 14 = omega (arith, segments_long read left _ i.1, three, c.requires) in
    let front = c.in_ok-address.field-0-0.now in
    let rest = c.in_ok-address.rest.now in
    let three-off : length front ≡ 3 = search rules in
    let cut : left ≡ front ++ rest = search (rules, take-append-drop 3 left) in
    let more = pushed read (items_of c.push.new.self) (first_segment front) 14 c.push.ensures.items room in (
      omega (arith, ap length more, length-append read (first_segment front ∷ []), i.0),
      segment_more _ left front rest read _ three-off cut more i.1,
    )
