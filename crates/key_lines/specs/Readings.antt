-- What the program makes of the numbers of a line. Assumes nothing.
--     Fits      the program's command is this command
--     Reads     what the numbers ask for
--     calls     the calls that a command makes: one, or none for an order that was refused
use Rattle.std.specs.Prelude.{◌≡◌, ℕ, true, List, [], ◌∷◌, Some, None, Ok, Err, ◌≢◌}
use Rattle.std.specs.declared.option.Option as std
use Rattle.orders.specs.declared.RawSegment.{RawSegment}
use Rattle.orders.specs.Fills.{Filled}
use Rattle.law.specs.Calls as bench
use Rattle.law.specs.Calls.{Call}
use Rattle.key_lines.specs.declared.commands.Command as code
use Rattle.key_lines.specs.declared.commands.Command.TheVariants.{Place, Withdraw, Tell, Run, Collect}
use Rattle.key_lines.specs.Commands.{Command, place, withdraw, tell, run, collect, spelt, proper}

abbrev pub Fits : code.Command → Command → Type 0
Fits (Place n r) c = (ss : List RawSegment) × (bs : List ℕ) × (c ≡ place n ss bs) × Filled r ss bs
Fits (Withdraw n) c = c ≡ withdraw n
Fits (Tell n p b) c = c ≡ tell n p b
Fits (Run n) c = c ≡ run n
Fits (Collect n) c = c ≡ collect n

abbrev pub Reads : List ℕ → std.Option code.Command → Type 0
Reads ns None = (c : Command) → ns ≡ spelt c → proper c ≢ true
Reads ns (Some k) = (c : Command) × (ns ≡ spelt c) × (proper c ≡ true) × Fits k c

abbrev pub calls : code.Command → List Call
calls (Place n (Ok o)) = bench.Place n o ∷ []
calls (Place n (Err e)) = []
calls (Withdraw n) = bench.Withdraw n ∷ []
calls (Tell n p b) = bench.Tell n p b ∷ []
calls (Run n) = bench.Run n 999 ∷ []
calls (Collect n) = bench.Collect n 32 ∷ []
