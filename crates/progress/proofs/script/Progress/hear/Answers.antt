use Rattle.std.proofs.Common.{rules}
use Rattle.progress.proofs.Moves.{has_room, moved}
use Rattle.progress.proofs.script.Progress.hear.Goals as goal

pub invariant_of-self : goal.invariant_of-self
invariant_of-self c =
    let room = has_room c.args.self.now in
    let m = moved c.args.self.now c.args.carried _ c.match-self.self.1.1.1.0 c.next-next.ensures (search rules) in
    record { stands = m.stands; room = m.room; fits = m.fits }

pub returns-clause-progress : goal.returns-clause-progress
returns-clause-progress c =
    let room = has_room c.args.self.now in
    (moved c.args.self.now c.args.carried _ c.match-self.self.1.1.1.0 c.next-next.ensures (search rules)).means
