use Rattle.std.proofs.Common.{◌≡◌, ◌-◌, ◌+◌, ◌<◌, length, take, drop, ◌∙◌, refl, sym, subst₂, arith, rules}
use Rattle.std.proofs.lemmas.List.{take_rest, length-drop}
use Rattle.reader.specs.Words.{meant, Takes}
use Rattle.reader.proofs.Fronts.{Counted, take_end, next_some}
use Rattle.reader.proofs.words.WordsIterator.next.Goals as goal

pub returns-in_err-left-clause-steps : goal.returns-in_err-left-clause-steps
returns-in_err-left-clause-steps c =
    let self = c.args.self.now in
    let slots = self.slots.now in
    let past : length slots < self.place = search rules in
    rw c.from_residual.ensures (take_end (drop self.place slots) self.place (omega (arith, length-drop self.place slots, past)) self.busy, refl)

pub returns-clause-steps : goal.returns-clause-steps
returns-clause-steps c =
    let self = c.args.self.now in
    let slots = self.slots.now in
    let left = c.in_ok-left.left.now in
    let free = c.free_slots-free.result in
    let f = c.free_slots-free.ensures in
    let counted : Counted self.busy left free = record { same = f.same; all = f.all; within = f.within } in
    let part = take (length left - free) (drop free left) in
    let el : left ≡ drop self.place slots = c.in_ok-left.ensures.lookup.0.2 ∙ take_rest slots self.place in
    let w = meant c.in_ok-word.word in
    next_some self.busy c.is_busy_after-self.result slots left part self.place free c.long.result w el (take_rest left free) counted
    (λ b k.
    subst₂ (λ a n. Takes b part (self.place + free) w a (drop n part) (self.place + free + n)) (sym c.is_busy_after-self.ensures) (sym c.long.ensures)
    (c.in_ok-word.ensures.takes b k))
