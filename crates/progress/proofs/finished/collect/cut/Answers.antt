use Rattle.std.proofs.Common.{◌≡◌, length-take, take, arith, rules}
use Rattle.std.proofs.lemmas.List.{take_all}
use Rattle.orders.specs.Held.{held}
use Rattle.orders.specs.Fills.{order_of}
use Rattle.progress.specs.Plans.{read_total}
use Rattle.progress.proofs.Handing.{first_few, reads_are}
use Rattle.progress.proofs.finished.collect.cut.Goals as goal

pub read_count-requires : goal.read_count-requires
read_count-requires c = rw c.segments.ensures.held (simp length-take (omega (arith, c.args.order.now.segments.within)))

pub returns-clause-bytes : goal.returns-clause-bytes
returns-clause-bytes c =
    let reads = reads_are (held c.args.order.now.bytes) c.segments.result.now in
    let first = first_few c.args.bytes.now (read_total (order_of c.args.order.now)) in
    search rules

pub returns-clause-few : goal.returns-clause-few
returns-clause-few c =
    let reads = reads_are (held c.args.order.now.bytes) c.segments.result.now in
    let first = first_few c.args.bytes.now (read_total (order_of c.args.order.now)) in
    let is : held c.copied.result ≡ take (read_total (order_of c.args.order.now)) (held c.args.bytes.now) = search rules in
    rw is (simp length-take (omega arith))

pub returns-clause-whole : goal.returns-clause-whole
returns-clause-whole c fits =
    let reads = reads_are (held c.args.order.now.bytes) c.segments.result.now in
    let first = first_few c.args.bytes.now (read_total (order_of c.args.order.now)) in
    let all = take_all (read_total (order_of c.args.order.now)) (held c.args.bytes.now) fits in
    search rules
