use Rattle.std.proofs.Common.{◌≡◌, ◌+◌, ◌≤◌, length, ap, ◌∙◌, arith, rules}
use Rattle.progress.specs.Handing.{put_at}
use Rattle.std.specs.List.{between}
use Rattle.std.proofs.lemmas.List.Edits.{length-between}
use Rattle.orders.specs.Held.{held}
use Rattle.orders.proofs.Holds.{few_held}
use Rattle.progress.proofs.Handing.{put_part, put_none}
use Rattle.progress.proofs.finished.collect.hand_part.Goals as goal

pub returns-in_default : goal.returns-in_default
returns-in_default c = record { next = search rules; after = put_none c.args.buffer.now (held c.args.bytes.now) c.args.at }

pub returns : goal.returns
returns c =
    let buffer = c.args.buffer.now in
    let at = c.args.at in
    let next = c.min-next.result in
    let xs = c.as_slice-bytes.result.now in
    let is : xs ≡ held c.args.bytes.now = c.as_slice-bytes.ensures in
    let same = ap length is in
    let few = few_held c.args.bytes.now in
    let long = length-between xs at next (omega (arith, c.min-next.ensures)) in
    let room : at + length (between at next xs) ≤ length buffer = omega (arith, c.min-next.ensures, c.requires) in
    record {
      next = search rules;
      after = put_part buffer (between at next xs) c.copy_into.new.part at room c.copy_into.ensures ∙ ap (λ l. put_at buffer at (between at next l)) is;
    }
