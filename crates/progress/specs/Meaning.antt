-- What a contender's progress means, and the answer that is kept for collect. Assumes nothing.
use Rattle.std.specs.Prelude.{ℕ, cond, List, ◌++◌, length, drop, Ok, Err, Result, nat_lt}
use Rattle.refusals.specs.declared.Refusal.{Refusal}
use Rattle.refusals.specs.declared.Refusal.TheVariants.{ShortBuffer}
use Rattle.orders.specs.declared.Answer as code
use Rattle.orders.specs.Orders.{Answer}
use Rattle.scripts.specs.Scripts as model
use Rattle.orders.specs.Held.{held}
use Rattle.orders.specs.Fills.{order_of}
use Rattle.orders.specs.Answers.{handed}
use Rattle.progress.specs.declared.script.Progress.{Progress}
use Rattle.progress.specs.declared.finished.Finished.{Finished}
use Rattle.progress.specs.Notes.{notes_of}
use Rattle.progress.specs.Plans.{progress_at}

abbrev pub progress_of : Progress → model.Progress
progress_of p = progress_at (order_of p.order) p.position (notes_of p.notes)

abbrev pub answer_in : Finished → Answer
answer_in f = record { outcome = f.outcome; losses = f.losses; bytes = held f.bytes }

-- an answer handed over, into a buffer of that many bytes: what is returned, and the buffer afterwards
abbrev pub handing : ℕ → Answer → Result code.Answer Refusal
handing size a = cond (nat_lt size 32) (Err ShortBuffer) (Ok (handed a))

abbrev pub handed_into : List ℕ → Answer → List ℕ
handed_into buffer a = cond (nat_lt (length buffer) 32) buffer (a.bytes ++ drop (length a.bytes) buffer)
