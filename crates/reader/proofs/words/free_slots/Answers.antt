use Rattle.std.proofs.Common.{◌≡◌, ◌+◌, ◌∙◌, false, eqb, drop, sym, subst₂, rules, tests}
use Rattle.reader.specs.Words.{Reads}
use Rattle.std.proofs.lemmas.Iterator.{YieldsList-from_slice}
use Rattle.std.proofs.lemmas.Iterator.Consumers.{count_from_yields_List}
use Rattle.std.proofs.lemmas.Iterator.Search.{YieldsList-from_take_while}
use Rattle.std.proofs.lemmas.List.Folds.{length-prefix_len}
use Rattle.reader.proofs.Fronts.{past_free, free_first}
use Rattle.reader.proofs.words.free_slots.Goals as goal

pub returns-clause-same : goal.returns-clause-same
returns-clause-same c =
    let s = c.args.slots.now in
    let free : c.count.result ≡ free_first s =
    count_from_yields_List c.take_while.result _ c.count.ensures.ran
    (YieldsList-from_take_while _ (λ x. eqb x 3) (YieldsList-from_slice s cc) c.take_while.ensures.closure c.take_while.ensures.done (λ x b q k. search (rules, tests))) ∙ length-prefix_len (λ x. eqb x 3) s in
    let busy : c.args.busy ≡ false = search rules in
    λ p ws. subst₂ (λ b n. Reads b s p ws → Reads b (drop n s) (p + n) ws) (sym busy) (sym free) (past_free s p ws)
