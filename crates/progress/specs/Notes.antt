-- What a contender's notes and its progress mean. Assumes nothing.
use Rattle.scripts.specs.Scripts as model
use Rattle.orders.specs.Held.{held}
use Rattle.progress.specs.declared.Notes.{Notes}

abbrev pub notes_of : Notes → model.Notes
notes_of n = record { bytes = held n.bytes; part = n.part; outcome = n.outcome }
