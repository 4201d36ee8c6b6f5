use Rattle.std.proofs.Common.{ℕ, Bool, List, [], ◌∷◌, ◌++◌, length, map, eqb, cond, is_some, sym, ap, ◌∙◌, subst, arith, rules, ltb-false}
use Rattle.std.proofs.lemmas.List.{length-map}
use Rattle.std.proofs.lemmas.Iterator.Splits.{YieldsList-from_slice_split}
use Rattle.std.proofs.lemmas.Iterator.Consumers.{YieldsList-at, YieldsList-turn, YieldsList-end}
use Rattle.array_vec.specs.Items.{items_of}
use Rattle.numerals.proofs.Words.{Spells, spells_push, line_of, wrong_word, too_many}
use Rattle.numerals.proofs.reading.split_numbers.Goals as goal

pub returns-in_err-number : goal.returns-in_err-number
returns-in_err-number c =
    let t =
    YieldsList-turn
    (YieldsList-at c.into_iter-word-iterator.ensures.into_iter_gives
    (YieldsList-from_slice_split _ (λ b. eqb b 32) c.args.line.now c.split-word-items.ensures.rest c.split-word-items.ensures.done c.split-word-items.ensures.closure (λ x b q k. search rules)))
    c.loop-word.yielded _ c.loop-word.yielded_by _ _ c.in-Some.word c.in-Some.is c.next.ensures.steps in
    wrong_word c.from_residual.result _ c.args.line.now c.in-Some.word.now (length c.loop-word.yielded) c.from_residual.ensures t.0 t.1 c.in_err-number.ensures

pub loop-word-preserved : goal.loop-word-preserved
loop-word-preserved c =
    let numbers = items_of c.loop-word.numbers in
    let room = sym c.push.ensures.test ∙ sym c.ok.ensures.variant ∙ ap is_some c.in_ok-ok.was in
    let pushed = c.push.ensures.items ∙ ap (λ (b : Bool). cond b (numbers ++ (c.in_ok-number.field-0 ∷ [])) numbers) room in
    spells_push (λ w. w.now) c.loop-word.yielded c.in-Some.word numbers _ c.in_ok-number.field-0 c.loop-word.invariant c.in_ok-number.ensures pushed

pub returns-in_err-ok : goal.returns-in_err-ok
returns-in_err-ok c =
    let full = sym c.push.ensures.test ∙ sym c.ok.ensures.variant ∙ ap is_some c.in_err-ok.was in
    let t =
    YieldsList-turn
    (YieldsList-at c.into_iter-word-iterator.ensures.into_iter_gives
    (YieldsList-from_slice_split _ (λ b. eqb b 32) c.args.line.now c.split-word-items.ensures.rest c.split-word-items.ensures.done c.split-word-items.ensures.closure (λ x b q k. search rules)))
    c.loop-word.yielded _ c.loop-word.yielded_by _ _ c.in-Some.word c.in-Some.is c.next.ensures.steps in
    too_many c.from_residual-in_err-ok.result _ c.args.line.now (map (λ w. w.now) c.loop-word.yielded) (items_of c.loop-word.numbers) c.from_residual-in_err-ok.ensures
    (omega (arith, t.0, length-map c.loop-word.yielded (λ w. w.now))) c.loop-word.invariant (ltb-false (length (items_of c.loop-word.numbers)) 47 full)

pub returns : goal.returns
returns c =
    let all =
    YieldsList-end
    (YieldsList-at c.into_iter-word-iterator.ensures.into_iter_gives
    (YieldsList-from_slice_split _ (λ b. eqb b 32) c.args.line.now c.split-word-items.ensures.rest c.split-word-items.ensures.done c.split-word-items.ensures.closure (λ x b q k. search rules)))
    c.loop-word.yielded _ c.loop-word.yielded_by _ _ c.in-None.is c.next.ensures.steps in
    (line_of c.args.line.now (items_of c.loop-word.numbers) (subst (λ (ws : List (List ℕ)). Spells ws (items_of c.loop-word.numbers)) all.0 c.loop-word.invariant), search rules)
