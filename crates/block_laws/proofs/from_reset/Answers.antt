use Rattle.block_laws.proofs.Reached.{off, sends, waits_own, silent, unacknowledged}
use Rattle.block_laws.proofs.from_reset.Goals as goal

pub returns : goal.returns
returns c = record { off = off; sends = sends; waits = waits_own; silent = silent; unacknowledged = unacknowledged }
