-- The runs of the keyed questions, computed. Assumes nothing.
use mathlib.Core.Path.{◌≡◌, refl, sym, subst}
use mathlib.Core.List.{List, [], ◌∷◌}
use Rattle.orders.specs.declared.order.Order as code
use Rattle.orders.specs.declared.Outcome.TheVariants.{Done, NoAddress, NoByte}
use Rattle.orders.specs.Orders.{Order, writing, reading}
use Rattle.orders.specs.Fills.{order_of}
use Rattle.masters.specs.Master.{place}
use Rattle.law.specs.Model.{Model}
use borrow.Author.Rules.{rules}
use Rattle.block_laws.specs.Rows.{StatusRows}
use Rattle.questions.specs.Contests.{bench_of, masters_of, Wins, BothAnswered, Takes, For, Alone, WriteAgainstRead, ShortAgainst200, ShortAgainst7, OneAgainstTwo, EqualOrders, NobodyAt81, GaugeWritten4}

-- the bench by the orders' meaning alone
abbrev given : Order → Order → Model
given o p = record { masters = place 1 p (place 0 o bench_of.masters); slaves = bench_of.slaves }

for : (o p : Order) (Says : Model → Type 0) → Says (given o p) → For o p Says
for o p Says h a b e f = subst (λ (q : Order). Says (given q (order_of b))) (sym e) (subst (λ (q : Order). Says (given o q)) (sym f) h)

abbrev given_one : Order → Model
given_one o = record { masters = place 0 o bench_of.masters; slaves = bench_of.slaves }

alone : (o : Order) (Says : Model → Type 0) → Says (given_one o) → Alone o Says
alone o Says h a e = subst (λ (q : Order). Says (given_one q)) (sym e) h

pub write_against_read : WriteAgainstRead
write_against_read = for (writing 72 [] ∷ []) (reading 72 1 ∷ []) (Wins 0 1 8 11 Done []) (record { both = (refl, refl); lost = refl; won = refl; waits = refl })

pub short_against_200 : ShortAgainst200
short_against_200 = for (writing 80 (0 ∷ []) ∷ []) (writing 80 (0 ∷ (200 ∷ [])) ∷ []) (Wins 0 1 19 20 Done []) (record { both = (refl, refl); lost = refl; won = refl; waits = refl })

pub short_against_7 : ShortAgainst7
short_against_7 = for (writing 80 (0 ∷ []) ∷ []) (writing 80 (0 ∷ (7 ∷ [])) ∷ []) (Wins 1 0 19 29 Done []) (record { both = (refl, refl); lost = refl; won = refl; waits = refl })

pub one_against_two : OneAgainstTwo
one_against_two = for (reading 72 1 ∷ []) (reading 72 2 ∷ []) (Wins 1 0 18 29 Done (0 ∷ (0 ∷ []))) (record { both = (refl, refl); lost = refl; won = refl; waits = refl })

pub equal_orders : EqualOrders
equal_orders = for (reading 72 1 ∷ []) (reading 72 1 ∷ []) (BothAnswered 20 (0 ∷ [])) (record { first = refl; second = refl })

pub nobody_at_81 : NobodyAt81
nobody_at_81 = alone (writing 81 [] ∷ []) (Takes 11 (NoAddress 0)) (record { slots = refl; outcome = refl })

pub gauge_written_4 : GaugeWritten4
gauge_written_4 = alone (writing 72 (4 ∷ []) ∷ []) (Takes 20 (NoByte 0 0)) (record { slots = refl; outcome = refl })

pub status_rows : StatusRows
status_rows = search rules
