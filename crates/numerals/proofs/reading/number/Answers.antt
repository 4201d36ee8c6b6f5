use Rattle.std.proofs.Common.{ℕ, MatchOption, rules}
use Rattle.numerals.specs.Lines.{Numeral}
use Rattle.numerals.proofs.Words.{as_one, no_numeral}
use Rattle.numerals.proofs.reading.number.Goals as goal

pub returns-in-len1 : goal.returns-in-len1
returns-in-len1 c = as_one (λ w. MatchOption c.digit.result ((n : ℕ) → Numeral w n → ⊥) (λ n. Numeral w n)) c.args.word.now (search rules) c.digit.ensures

pub returns-in_err-digit-in-len2 : goal.returns-in_err-digit-in-len2
returns-in_err-digit-in-len2 c = no_numeral c.args.word.now 0 _ (search rules) c.from_residual.ensures c.in_err-digit-in-len2.ensures

pub returns-in_err-digit-in-len2-2 : goal.returns-in_err-digit-in-len2-2
returns-in_err-digit-in-len2-2 c = no_numeral c.args.word.now 1 _ (search rules) c.from_residual-in_err-digit-in-len2-2.ensures c.in_err-digit-in-len2-2.ensures

pub returns-in_err-digit-in-len3 : goal.returns-in_err-digit-in-len3
returns-in_err-digit-in-len3 c = no_numeral c.args.word.now 0 _ (search rules) c.from_residual-in_err-digit-in-len3.ensures c.in_err-digit-in-len3.ensures

pub returns-in_err-digit-in-len3-2 : goal.returns-in_err-digit-in-len3-2
returns-in_err-digit-in-len3-2 c = no_numeral c.args.word.now 1 _ (search rules) c.from_residual-in_err-digit-in-len3-2.ensures c.in_err-digit-in-len3-2.ensures

pub returns-in_err-digit-in-len3-3 : goal.returns-in_err-digit-in-len3-3
returns-in_err-digit-in-len3-3 c = no_numeral c.args.word.now 2 _ (search rules) c.from_residual-in_err-digit-in-len3-3.ensures c.in_err-digit-in-len3-3.ensures
