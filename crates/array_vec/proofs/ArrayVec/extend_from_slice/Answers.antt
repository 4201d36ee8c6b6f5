use Rattle.std.proofs.Common.{◌≡◌, ◌+◌, ◌-◌, ◌++◌, length, take, sym, ap, ◌∙◌, arith, length-take-le}
use Rattle.std.proofs.lemmas.List.{take_min}
use Rattle.std.proofs.lemmas.Slice.{take-put_mid}
use Rattle.std.proofs.Math.Seq.{take-append-add}
use Rattle.array_vec.proofs.ArrayVec.extend_from_slice.Goals as goal

pub returns : goal.returns
returns g c =
    let v = c.args.self.now in
    let items = c.args.items.now in
    let n = c.min-n.result in
    let held = take v.used v.places in
    let long : length held ≡ v.used = length-take-le v.used v.places (omega (arith, v.within, v.sized)) in
    let room : length held + (g.row.N - v.used) ≡ g.row.N = omega (arith, long, v.within) in
    let first : take n items ≡ take (g.row.N - v.used) items = ap (λ k. take k items) c.min-n.ensures ∙ take_min (g.row.N - v.used) items in
    let whole = ap length c.copy_from_slice.ensures.after ∙ length-take-le n items (omega (arith, c.min-n.ensures)) in
    take-put_mid v.used (v.used + n - v.used) v.places c.copy_from_slice.new.self (v.used + n) (omega (arith, whole)) (omega (arith, v.within, v.sized))
    ∙ ap (λ l. held ++ l) (c.copy_from_slice.ensures.after ∙ first)
    ∙ sym (take-append-add held items (g.row.N - v.used))
    ∙ ap (λ k. take k (held ++ items)) room
