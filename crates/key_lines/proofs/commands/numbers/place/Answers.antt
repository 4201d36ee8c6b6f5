use Rattle.key_lines.proofs.Spelling.{not_bytes, place_read}
use Rattle.key_lines.proofs.commands.numbers.place.Goals as goal

pub returns-in_err-bytes : goal.returns-in_err-bytes
returns-in_err-bytes c =
    let read = c.in_ok-segments.ensures in
    not_bytes c.args.number c.args.count c.args.rest.now _ _ _ c.from_residual-in_err-bytes.ensures read.0 read.1 c.in_err-bytes.ensures

pub returns : goal.returns
returns c =
    let read = c.in_ok-segments.ensures in
    let bytes = c.in_ok-bytes.ensures in
    place_read c.args.number c.args.count c.args.rest.now c.filled-order.result _ _ _ read.0 read.1 bytes.0 bytes.1 c.filled-order.ensures
