-- What a line master means: a master. Assumes nothing.
use Rattle.std.proofs.Math.Option.{none, some}
use Rattle.std.proofs.Math.Option as maybe
use Rattle.std.specs.Prelude.{Some, None, Option}
use Rattle.orders.specs.Fills.{order_of}
use Rattle.progress.specs.Meaning.{progress_of, answer_in}
use Rattle.masters.specs.Standings.{idle, waiting, contending, answered}
use Rattle.masters.specs.Standings as model
use Rattle.masters.specs.Master.{Master}
use Rattle.line.specs.declared.Request.{Request}
use Rattle.line.specs.declared.Contender.{Contender}
use Rattle.line.specs.declared.Standing.{Standing}
use Rattle.line.specs.declared.Standing.TheVariants.{Idle, Waiting, Contending, Answered}
use Rattle.line.specs.declared.Line.{Line}

abbrev pub request_of : Request → model.Request
request_of w = record { order = order_of w.order; losses = w.losses }

abbrev pub contender_of : Contender → model.Contender
contender_of k = record { request = record { order = order_of k.progress.order; losses = k.losses }; progress = progress_of k.progress }

abbrev pub contenders_of : Option Contender → maybe.Option model.Contender
contenders_of None = none
contenders_of (Some k) = some (contender_of k)

abbrev pub standing_of : Standing → model.Standing
standing_of Idle = idle
standing_of (Waiting w) = waiting (request_of w)
standing_of (Contending k) = contending (contender_of k)
standing_of (Answered f) = answered (answer_in f)

abbrev pub master_of : Line → Master
master_of l = record { turn = l.turn; standing = standing_of l.standing }
