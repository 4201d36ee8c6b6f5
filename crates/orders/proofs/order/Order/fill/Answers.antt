use Rattle.std.proofs.Common.{◌<◌, length, sym, ◌∙◌, arith, length-set, rules}
use Rattle.std.proofs.lemmas.List.{at_drop_more}
use Rattle.orders.specs.Tests.{every}
use Rattle.orders.specs.Fills.{good_address, counts}
use Rattle.orders.proofs.Holds.{every_split}
use Rattle.orders.proofs.Fills.{passed, none, tabled_more, written_whole}
use Rattle.orders.proofs.order.Order.fill.Goals as goal

pub write_segment-at-requires : goal.write_segment-at-requires
write_segment-at-requires c =
    let ss = c.args.segments.now in
    let p = passed ss c.args.bytes.now (sym c.in_ok-check.ensures) in
    let inv = c.loop-i.invariant in
    let good = (every_split good_address c.loop-i.i ss p.addresses).1 in
    let a = at_drop_more (every good_address) ss c.loop-i.i none c.loop-i-test.true in
    let n = at_drop_more counts ss c.loop-i.i none c.loop-i-test.true in
    search rules

pub loop-i-preserved : goal.loop-i-preserved
loop-i-preserved c =
    let ss = c.args.segments.now in
    let p = passed ss c.args.bytes.now (sym c.in_ok-check.ensures) in
    let inv = c.loop-i.invariant in
    let n = at_drop_more counts ss c.loop-i.i none c.loop-i-test.true in
    let room : c.loop-i.i < length c.loop-i.copy = omega (arith, p.few, inv.0) in (
      length-set c.loop-i.copy c.loop-i.i c.write_segment-at.new.segment ∙ inv.0,
      search rules,
      tabled_more c.loop-i.copy ss c.loop-i.i c.loop-i.at c.write_segment-at.new.segment c.write_segment-at.result
          room c.loop-i-test.true c.write_segment-at.ensures.segment c.write_segment-at.ensures.next inv.2,
    )

pub invariant_of-self : goal.invariant_of-self
invariant_of-self c =
    let w = written_whole _ c.loop-i.copy _ c.args.segments.now c.args.bytes.now c.loop-i.i c.loop-i.at (sym c.in_ok-check.ensures) c.copied.result.small c.copied.ensures c.from_slice.ensures (omega arith) c.loop-i.invariant.2 in
    record { there = w.there; kept = w.kept }

pub returns : goal.returns
returns c =
    let w = written_whole _ c.loop-i.copy _ c.args.segments.now c.args.bytes.now c.loop-i.i c.loop-i.at (sym c.in_ok-check.ensures) c.copied.result.small c.copied.ensures c.from_slice.ensures (omega arith) c.loop-i.invariant.2 in
    record { returned = c.in_ok-check.ensures; after = w.means; kept = λ h. absurd (h (omega arith)) }
