use Rattle.std.proofs.Common.{refl, rules}
use Rattle.std.proofs.lemmas.List.Recursion.{is_sum_by}
use Rattle.orders.specs.Fills.{writes, write_counts}
use Rattle.orders.proofs.order.fill.write_counted.Goals as goal

pub returns : goal.returns
returns c = rw (is_sum_by write_counts writes refl (λ _ _. refl) c.args.segments.now) (search rules)
