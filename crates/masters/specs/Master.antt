-- What a master means, and what the calls do to a bank of masters. Assumes nothing.
--     Master         where the turns are, and how it stands
--     offered        what a bank offers: the least of its masters' offers
--     heard          a master after a slot
--     freed          a master on a bench put together anew
--     X-answer, X    of the master with a number: what the call X returns, and the bank afterwards
use Rattle.std.specs.Prelude.{ℕ, Bool, cond, ◌||◌, List, ◌++◌, length, drop, Ok, Err, Result, nat_lt}
use Rattle.refusals.specs.declared.Refusal.{Refusal}
use Rattle.refusals.specs.declared.Refusal.TheVariants.{NoSuchNumber, NotIdle, NotWaiting, BusNotFree, NotAnswered, ShortBuffer}
use Rattle.bus.specs.declared.Symbol.{Symbol}
use Rattle.bus.specs.declared.Turn.{Turn}
use Rattle.bus.specs.declared.Turn.TheVariants.{Free}
use Rattle.bus.specs.Turns.{next, busy}
use Rattle.bus.specs.Banks.{Bank, Single, Both, least_of, ask, alter}
use Rattle.orders.specs.declared.Answer.{Answer}
use Rattle.orders.specs.Orders.{Order}
use Rattle.orders.specs.Answers.{handed}
use Rattle.masters.specs.Standings.{Standing, idle, waiting, contending, answered, contender_in, hears, is_waiting, placed, withdrawn, collected}
use Rattle.masters.specs.Standings as standing

pub record Master : Type 0 where
  pub turn : Turn
  pub standing : Standing

abbrev pub standing_so : Master → Standing → Master
standing_so m st = record { turn = m.turn; standing = st }

abbrev pub offers : Master → Symbol
offers m = standing.offered (contender_in m.turn m.standing)

abbrev pub offered : Bank Master → Symbol
offered = least_of offers

abbrev pub heard : Symbol → Master → Master
heard x m = record { turn = next m.turn x; standing = hears m.turn x m.standing }

abbrev pub freed : Master → Master
freed m = record { turn = Free; standing = idle }

abbrev pub somebody_waits : Bank Master → Bool
somebody_waits (Single m) = is_waiting m.standing
somebody_waits (Both a b) = somebody_waits a || somebody_waits b

-- place: an order for an idle master
abbrev pub place_one : Standing → Result (Unit {0}) Refusal
place_one idle = Ok tt
place_one (waiting w) = Err NotIdle
place_one (contending k) = Err NotIdle
place_one (answered a) = Err NotIdle

abbrev pub placing : Order → Master → Master
placing o m = standing_so m (placed o m.standing)

abbrev pub place_answer : ℕ → Bank Master → Result (Unit {0}) Refusal
place_answer n = ask (Err NoSuchNumber) (λ m. place_one m.standing) n

abbrev pub place : ℕ → Order → Bank Master → Bank Master
place n o = alter (placing o) n

-- withdraw: a waiting order is taken back, on a free bus
abbrev pub withdraw_one : Turn → Standing → Result (Unit {0}) Refusal
withdraw_one t idle = Err NotWaiting
withdraw_one t (waiting w) = cond (busy t) (Err BusNotFree) (Ok tt)
withdraw_one t (contending k) = Err BusNotFree
withdraw_one t (answered a) = Err NotWaiting

abbrev pub withdrawing : Master → Master
withdrawing m = standing_so m (cond (busy m.turn) m.standing (withdrawn m.standing))

abbrev pub withdraw_answer : ℕ → Bank Master → Result (Unit {0}) Refusal
withdraw_answer n = ask (Err NoSuchNumber) (λ m. withdraw_one m.turn m.standing) n

abbrev pub withdraw : ℕ → Bank Master → Bank Master
withdraw n = alter withdrawing n

-- collect: an answer is handed over once, into a buffer of that many bytes
abbrev pub collect_one : ℕ → Standing → Result Answer Refusal
collect_one size idle = Err NotAnswered
collect_one size (waiting w) = Err NotAnswered
collect_one size (contending k) = Err NotAnswered
collect_one size (answered a) = cond (nat_lt size 32) (Err ShortBuffer) (Ok (handed a))

abbrev pub collecting : ℕ → Master → Master
collecting size m = standing_so m (cond (nat_lt size 32) m.standing (collected m.standing))

-- the bytes read, segment after segment, at the front of the buffer, and the rest as it was
abbrev pub filled : List ℕ → Standing → List ℕ
filled buffer idle = buffer
filled buffer (waiting w) = buffer
filled buffer (contending k) = buffer
filled buffer (answered a) = cond (nat_lt (length buffer) 32) buffer (a.bytes ++ drop (length a.bytes) buffer)

abbrev pub collect_answer : ℕ → ℕ → Bank Master → Result Answer Refusal
collect_answer n size = ask (Err NoSuchNumber) (λ m. collect_one size m.standing) n

abbrev pub collect : ℕ → ℕ → Bank Master → Bank Master
collect n size = alter (collecting size) n

abbrev pub collect_into : ℕ → List ℕ → Bank Master → List ℕ
collect_into n buffer = ask buffer (λ m. filled buffer m.standing) n
