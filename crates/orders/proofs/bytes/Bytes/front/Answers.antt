use Rattle.std.proofs.Common.{arith}
use Rattle.orders.specs.Tests.{is_byte}
use Rattle.orders.proofs.Holds.{all_small, every_split}
use Rattle.orders.proofs.bytes.Bytes.front.Goals as goal

pub invariant_of-result : goal.invariant_of-result
invariant_of-result c =
    let bs = c.args.bytes.now in
    let small = all_small bs (λ i. let f = c.type_inv.bytes i in omega arith) in
    record { small = rw c.from_slice.ensures (every_split is_byte 32 bs small).0 }
