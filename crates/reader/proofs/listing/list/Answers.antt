use Rattle.std.proofs.Common.{true, refl, arith}
use Rattle.std.proofs.lemmas.Result.{err_from_is_err_and}
use Rattle.books.proofs.Growth.{grows_one}
use Rattle.reader.specs.Words.{meant, listed}
use Rattle.reader.specs.Refusals.{wrong, full}
use Rattle.reader.proofs.Marking.{listing_start, listing_more}
use Rattle.reader.proofs.listing.list.Goals as goal

pub returns-in_err-words : goal.returns-in_err-words
returns-in_err-words c =
    let p = err_from_is_err_and c.from_residual.result c.from_residual.ensures.1 in
    record { cases = rw (p.1, p.2) (wrong c.in_err-words.ensures.cases, refl) }

pub returns-then-left-count : goal.returns-then-left-count
returns-then-left-count c =
    let w = c.in_ok-words.ensures.cases in
    let n = c.count.ensures w.0 w.2 in
    record { cases = (full w.0 w.1 (omega (arith, n, c.left.ensures, c.if-left-count.true)), refl) }

pub loop-word-init : goal.loop-word-init
loop-word-init c =
    let w = c.in_ok-words.ensures.cases in
    let n = c.count.ensures w.0 w.2 in
    listing_start c.args.slots.now c.args.book.now c.in_ok-words.words _ w.0 w.1 w.2 c.into_iter-word-iterator.ensures.into_iter_gives (omega (arith, n, c.left.ensures, c.if-left-count.false, c.args.book.now.within))

pub loop-word-preserved : goal.loop-word-preserved
loop-word-preserved c =
    let w = meant c.in-Some.word in
    let grows = grows_one c.loop-word.book c.mark.new.self _ (listed w) true c.in_ok-mark.ensures.grows refl c.listed.ensures in
    listing_more c.args.slots.now c.args.book.now c.loop-word.book c.mark.new.self c.loop-word.word-iterator c.next.new.self w c.loop-word.invariant c.in-Some.ensures.steps grows
