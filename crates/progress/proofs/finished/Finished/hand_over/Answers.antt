use Rattle.std.proofs.Common.{◌≡◌, ◌+◌, List, length, get_or, drop, ap, ◌∙◌, arith, refl, rules}
use Rattle.std.specs.List.{between}
use Rattle.std.proofs.lemmas.List.{at_drop_more, at_drop_all, take_all}
use Rattle.bus.specs.declared.Direction.TheVariants.{Write}
use Rattle.orders.specs.declared.Segment.{Segment}
use Rattle.orders.specs.Orders.{read_of}
use Rattle.orders.specs.Held.{held}
use Rattle.orders.specs.Tables.{meaning}
use Rattle.orders.proofs.Holds.{few_held}
use Rattle.progress.specs.Plans.{read_total}
use Rattle.progress.specs.Handing.{put_at}
use Rattle.progress.proofs.Handing.{part_next, put_next, share_is}
use Rattle.progress.proofs.finished.Finished.hand_over.Goals as goal

pub loop-segment-preserved : goal.loop-segment-preserved
loop-segment-preserved c =
    let bs = held c.args.self.now.order.bytes in
    let bytes = held c.args.self.now.bytes in
    let left = λ (ss : List Segment). read_total (meaning ss bs) in
    let ss = c.segments-segment-items.result.now in
    let inv = c.loop-segment.invariant in
    let at = c.loop-segment.at in
    let next = c.hand_part-at.result in
    let none : Segment = record { address = 0; direction = Write; count = 0; at = 0 } in
    let here = get_or ss c.loop-segment.segment-index none in
    let more = at_drop_more left ss c.loop-segment.segment-index none c.loop-segment-test.true in
    let reads = share_is bs here in
    let few = few_held c.args.self.now.bytes in
    let p = part_next (read_of here.direction) here.count at (length bytes) (left (drop (c.loop-segment.segment-index + 1) ss)) next (search rules) inv.0 (omega (arith, inv.1)) in (
      p.1,
      p.2,
      c.hand_part-at.ensures.after
          ∙ ap (λ l. put_at l at (between at next bytes)) inv.2
          ∙ put_next bytes c.args.buffer.now at next p.0 p.1 (omega (arith, c.requires)),
    )

pub returns : goal.returns
returns c =
    let bytes = held c.args.self.now.bytes in
    let inv = c.loop-segment.invariant in
    let none = at_drop_all (λ ss. read_total (meaning ss (held c.args.self.now.order.bytes))) c.segments-segment-items.result.now c.loop-segment.segment-index c.loop-segment-test.false in
    let end : c.loop-segment.at ≡ length bytes = omega (arith, inv.0, inv.1) in
    let all = take_all (length bytes) bytes (omega arith) in
    inv.2 ∙ rw end (rw all refl)
