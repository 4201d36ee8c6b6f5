use Rattle.std.proofs.Common.{◌≡◌, ◌<◌, [], length, rules}
use Rattle.std.proofs.lemmas.List.{nil_from_length}
use Rattle.std.proofs.lemmas.Slice.{first_rest}
use Rattle.reader.specs.Refusals.{against, unfinished}
use Rattle.reader.proofs.Checking.{checked_on, checked_offends, checked_unfinished, whole_offends, whole_unfinished}
use Rattle.reader.proofs.checks.check.Goals as goal

pub returns-in_default-follow : goal.returns-in_default-follow
returns-in_default-follow c =
    let left = c.loop-left.left.now in
    let some : 0 < length left = search rules in
    let o = checked_offends c.args.slots.now left _ c.loop-left.turn _ c.loop-left.invariant (first_rest left 0 some) c.in_default-follow.ensures in
    record { cases = against _ o; exactly = λ w. absurd (whole_offends c.args.slots.now _ w o) }

pub loop-left-preserved : goal.loop-left-preserved
loop-left-preserved c =
    let left = c.loop-left.left.now in
    let some : 0 < length left = search rules in
    checked_on c.args.slots.now left _ c.loop-left.turn c.in-Some.next _ c.loop-left.invariant (first_rest left 0 some) c.in-Some.ensures

pub returns-then-is_busy : goal.returns-then-is_busy
returns-then-is_busy c =
    let left = c.loop-left.left.now in
    let none : left ≡ [] = nil_from_length left (search rules) in
    let u = checked_unfinished c.args.slots.now left c.loop-left.turn c.loop-left.invariant none (search rules) in
    record { cases = unfinished u; exactly = λ w. absurd (whole_unfinished c.args.slots.now w u) }
