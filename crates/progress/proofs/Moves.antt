-- What a slot makes of a contender's progress. Assumes nothing.
use Rattle.std.proofs.Common.{◌≡◌, ◌+◌, ◌<◌, ◌≤◌, true, length, sym, ap, ◌∙◌, subst, arith}
use Rattle.bus.specs.declared.Symbol.{Symbol}
use Rattle.scripts.specs.Scripts.{Progress, hear}
use Rattle.orders.specs.Orders as orders
use Rattle.scripts.specs.Scripts as model
use Rattle.orders.specs.Held.{held}
use Rattle.orders.specs.Fills.{order_of}
use Rattle.orders.proofs.Parts.{lawful_is}
use Rattle.progress.specs.declared.Position.{Position}
use Rattle.progress.specs.declared.Notes.{Notes}
use Rattle.progress.specs.declared.script.Progress as code
use Rattle.progress.specs.Positions.{next_at, noted_at, sound, part_limit, to_come_at}
use Rattle.progress.specs.Notes.{notes_of}
use Rattle.progress.specs.Plans.{todo_at, progress_at, to_come, read_total}
use Rattle.progress.proofs.Follows.{follows, stays_sound}
use Rattle.progress.proofs.Room.{read_few, come_at, come_next, stays_small}

module _ (k : code.Progress) where
  abbrev order : orders.Order
  order = order_of k.order

  -- there is room for a byte more
  pub has_room : length (held k.notes.bytes) + to_come_at k.position.stage ≤ 32
  has_room =
      let few = read_few order (lawful_is order k.order.kept) in
      let come = come_at order k.position.segment k.position.stage in
      omega (arith, k.room)

  -- a position and notes that a slot leads to
  pub record Moved (x : Symbol) (s : Position) (n : Notes) : Type 0 where
    pub stands : sound order s ≡ true
    pub room : length (held n.bytes) + to_come (todo_at order s.segment s.stage) ≤ read_total order
    pub fits : n.part < part_limit s.stage
    pub means : progress_at order s (notes_of n) ≡ hear (progress_at order k.position (notes_of k.notes)) x

  pub moved : (x : Symbol) (s : Position) (n : Notes) → s ≡ next_at order k.position.segment k.position.stage x → notes_of n ≡ noted_at k.position.segment k.position.stage (notes_of k.notes) x → Moved x s n
  moved x s n e f =
      let i = k.position.segment in
      let st = k.position.stage in
      let m : model.Notes = notes_of k.notes in
      let means : progress_at order s (notes_of n) ≡ hear (progress_at order k.position m) x =
      ap (λ (t : Position). progress_at order t (notes_of n)) e ∙ ap (λ (p : model.Notes). progress_at order (next_at order i st x) p) f ∙ follows order i st m x k.stands in
      let come = come_next (todo_at order i st) m x in
      let same = ap (λ (p : Progress). length p.notes.bytes + to_come p.todo) means in
      record {
        stands = ap (sound order) e ∙ stays_sound order i st x k.stands;
        room = omega (arith, k.room);
        fits = subst (λ (t : Position). n.part < part_limit t.stage) (sym e) (subst (λ (p : model.Notes). p.part < part_limit (next_at order i st x).stage) (sym f) (stays_small order i st m x k.stands k.fits));
        means = means;
      }
