use Rattle.std.proofs.Common.{◌+◌, ◌<◌, length, arith, rules}
use Rattle.std.proofs.lemmas.List.{take_more_set, drop-set-lt}
use Rattle.books.proofs.Book.mark.Goals as goal

pub returns-clause-grows : goal.returns-clause-grows
returns-clause-grows g c =
    let places = c.args.self.now.places.now in
    let used = c.args.self.now.used in
    let room : used < length places = search rules in
    record {
      marks = take_more_set places used c.args.mark room;
      used = search rules;
      rest = drop-set-lt (used + 1) places used c.args.mark (omega arith);
      long = search rules;
      named = search rules;
    }
