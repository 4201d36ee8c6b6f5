use Rattle.reader.proofs.Marking.{Listing}
use Rattle.reader.proofs.listing.list.Given as goal

-- the words marked and those left are all words, and there is room for those left
abbrev pub invariant-loop-word : goal.invariant-loop-word
invariant-loop-word l = Listing l.slots l.initial.book l.book l.word-iterator
