-- The bytes that a register master has read, and is to read, stay within its order. Assumes nothing.
use mathlib.Core.Option.{none, some}
use Rattle.std.proofs.Common.{ℕ, ◌≤◌, Bool, true, false, cond, arith}
use Rattle.std.proofs.Math.Nat.{le_trans}
use Rattle.bus.specs.declared.Symbol.{Symbol}
use Rattle.bus.specs.declared.Turn.{Turn}
use Rattle.bus.specs.Symbols.{is_stop}
use Rattle.bus.specs.Turns.{busy}
use Rattle.orders.specs.Orders.{Order}
use Rattle.scripts.specs.Scripts as script
use Rattle.progress.specs.Plans.{read_total}
use Rattle.progress.proofs.Room.{come_plan, come_next}
use Rattle.masters.specs.Standings as masters
use Rattle.driving.specs.declared.Standing.{Standing}
use Rattle.driving.specs.declared.Standing.TheVariants.{Idle, Waiting, Contending, Answered}
use Rattle.driving.specs.States.{Known}
use Rattle.driving_laws.specs.Meaning.{standing_at, progress_at, read_most}

-- a contender reads no more in a slot than was to come
becomes_few : (c p : Bool) (k : masters.Contender) (x : Symbol) → read_most (masters.becomes c p k x) ≤ read_most (masters.contending k)
becomes_few true true k x = let n = come_next k.progress.todo k.progress.notes x in omega arith
becomes_few true false k x = come_next k.progress.todo k.progress.notes x
becomes_few false p k x = omega arith

waits_few : (t : Turn) (x : Symbol) (ss : Order) (l : ℕ) (c : Bool) → read_most (masters.hears_as t x (cond c none (some (masters.starting (record { order = ss; losses = l })))) (masters.waiting (record { order = ss; losses = l }))) ≤ read_total ss
waits_few t x ss l true = omega arith
waits_few t x ss l false =
    let k = masters.starting (record { order = ss; losses = l }) in
    let b = becomes_few (masters.keeps t x (script.offer k.progress.todo)) (is_stop x) k x in
    let p = come_plan 0 ss in
    omega arith

pub hears_few : (ss : Order) (st : Standing) (t : Turn) (s : ℕ) (r : Known) (x : Symbol) → read_most (standing_at ss st t s r) ≤ read_total ss → read_most (masters.hears t x (standing_at ss st t s r)) ≤ read_total ss
hears_few ss Idle t s r x h = h
hears_few ss Waiting t s r x h = waits_few t x ss r.losses (busy t)
hears_few ss (Contending p i j) t s r x h =
    let k : masters.Contender = record { request = record { order = ss; losses = r.losses }; progress = progress_at ss p i j t s r } in
    let n : read_most (masters.hears t x (masters.contending k)) ≤ read_most (masters.contending k) = becomes_few (masters.keeps t x (script.offer k.progress.todo)) (is_stop x) k x in
    le_trans n h
hears_few ss Answered t s r x h = h
