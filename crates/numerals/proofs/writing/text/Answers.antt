use Rattle.std.proofs.Common.{◌≡◌, ℕ, List, ◌++◌, sym, ap, ◌∙◌, decimal, rules}
use Rattle.std.proofs.lemmas.Iterator.{YieldsList-from_slice, YieldsList-from_map}
use Rattle.std.proofs.lemmas.Iterator.Consumers.{YieldsList-at, YieldsList-from_chain, YieldsList-from_copied, YieldsList-end}
use Rattle.std.proofs.lemmas.List.{map-id}
use Rattle.numerals.specs.Lines.{further}
use Rattle.numerals.proofs.Texts.{further_push}
use Rattle.numerals.proofs.writing.text.Goals as goal

pub loop-n-preserved : goal.loop-n-preserved
loop-n-preserved c = further_push (decimal c.args.first) c.loop-n.yielded c.in-Some.n _ _ c.loop-n.invariant c.in_ok-write.ensures.bytes

-- the loop has seen all numbers and then all bytes
pub returns : goal.returns
returns c =
    let chained = c.chain-n-items.ensures in
    let all =
    YieldsList-end
    (YieldsList-at c.into_iter-n-iterator.ensures.into_iter_gives
    (YieldsList-from_chain
    (YieldsList-at chained.first (YieldsList-from_copied (YieldsList-at c.copied.ensures.source (YieldsList-from_slice c.args.more.now cc))))
    (YieldsList-at chained.second (YieldsList-from_map _ (λ b. b) (YieldsList-at c.map-bytes.ensures.source (YieldsList-from_slice c.args.bytes.now cc)) c.map-bytes.ensures.closure (λ x r q k. search rules)))
    chained.first_done chained.second_done))
    c.loop-n.yielded _ c.loop-n.yielded_by _ _ c.in-None.is c.next.ensures.steps in
    let seen : c.loop-n.yielded ≡ c.args.more.now ++ c.args.bytes.now =
    sym (map-id c.loop-n.yielded) ∙ all.0 ∙ ap (λ (bs : List ℕ). c.args.more.now ++ bs) (map-id c.args.bytes.now) in
    c.loop-n.invariant ∙ ap (λ (ns : List ℕ). decimal c.args.first ++ further ns) seen
