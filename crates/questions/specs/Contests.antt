-- The keyed questions about contests, on a bench of two masters, a gauge at 72 and a memory at 80, all bytes 0. Assumes nothing.
--     bench_of    that bench as it is assembled
--     against     the bench once master 0 is given the one order and master 1 the other
--     Wins        who wins, in which slot, after how many slots the contest is over, with which outcome and bytes; the other waits with one loss
use Rattle.std.specs.Prelude.{◌≡◌, List, [], ◌∷◌, ℕ, suc, length, replicate}
use Rattle.bus.specs.declared.Turn.TheVariants.{Free}
use Rattle.bus.specs.Banks.{Bank, Single, Both}
use Rattle.orders.specs.declared.order.Order as code
use Rattle.orders.specs.declared.Outcome.{Outcome}
use Rattle.orders.specs.declared.Outcome.TheVariants.{Done, NoAddress, NoByte}
use Rattle.orders.specs.Orders.{Order, writing, reading}
use Rattle.orders.specs.Fills.{order_of}
use Rattle.masters.specs.Standings.{Standing, idle, waiting, contending, answered}
use Rattle.masters.specs.Master.{Master}
use Rattle.slaves.specs.Slave.{Slave}
use Rattle.slaves.specs.Machine.{slave_of}
use Rattle.chips.specs.Chips.{chip}
use Rattle.chips.specs.Rules.{gauge, memory}
use Rattle.chips.specs.States.{made}
use Rattle.law.specs.Model.{Model, assembled, standing, run_slots, ran}
use Rattle.law.specs.Calls.{Place, final}

abbrev pub idle_master : Master
idle_master = record { turn = Free; standing = idle }

abbrev pub masters_of : Bank Master
masters_of = Both (Single idle_master) (Single idle_master)

abbrev pub slaves_of : Bank Slave
slaves_of =
    Both (Single (slave_of (chip gauge) (made 72 (record { bytes = replicate 4 0; place = 0 }))))
    (Single (slave_of (chip memory) (made 80 (record { bytes = replicate 256 0; place = 0 }))))

abbrev pub bench_of : Model
bench_of = assembled masters_of slaves_of

abbrev pub against : code.Order → code.Order → Model
against a b = final bench_of (Place 0 a ∷ (Place 1 b ∷ []))

-- how a master stands, in short
pub data Stand : Type 0 where
  stands_idle : Stand
  waits_with : ℕ → Stand
  contends_with : ℕ → Stand
  answered_with : Outcome → ℕ → List ℕ → Stand

abbrev pub in_short : Standing → Stand
in_short idle = stands_idle
in_short (waiting w) = waits_with w.losses
in_short (contending k) = contends_with k.request.losses
in_short (answered a) = answered_with a.outcome a.losses a.bytes

-- how master i stands after n slots
abbrev pub stand : ℕ → ℕ → Model → Stand
stand i n w = in_short (standing i (ran n w))

-- for every two orders of that kind
abbrev pub For : Order → Order → (Model → Type 0) → Type 0
For o p Says = (a b : code.Order) → order_of a ≡ o → order_of b ≡ p → Says (against a b)

-- after so many slots both contend, and in the next one master j loses to master i; the contest is over after n slots
pub record Wins (i j before n : ℕ) (f : Outcome) (bs : List ℕ) (w : Model) : Type 0 where
  pub both : (stand i before w ≡ contends_with 0) × (stand j before w ≡ contends_with 0)
  pub lost : stand j (suc before) w ≡ waits_with 1
  pub won : stand i n w ≡ answered_with f 0 bs
  pub waits : stand j n w ≡ waits_with 1

-- write against read at 72: the write wins at slot 9, the direction
abbrev pub WriteAgainstRead : Type 0
WriteAgainstRead = For (writing 72 [] ∷ []) (reading 72 1 ∷ []) (Wins 0 1 8 11 Done [])

-- to 80, [0] against [0, 200]: P at the border is less than a 1; against [0, 7] a 0 is less than P
abbrev pub ShortAgainst200 : Type 0
ShortAgainst200 = For (writing 80 (0 ∷ []) ∷ []) (writing 80 (0 ∷ (200 ∷ [])) ∷ []) (Wins 0 1 19 20 Done [])

abbrev pub ShortAgainst7 : Type 0
ShortAgainst7 = For (writing 80 (0 ∷ []) ∷ []) (writing 80 (0 ∷ (7 ∷ [])) ∷ []) (Wins 1 0 19 29 Done [])

-- one byte against two at 72: the ninth slot of the byte is 0 for who wants more
abbrev pub OneAgainstTwo : Type 0
OneAgainstTwo = For (reading 72 1 ∷ []) (reading 72 2 ∷ []) (Wins 1 0 18 29 Done (0 ∷ (0 ∷ [])))

-- equal orders: both are answered, with no loss
pub record BothAnswered (n : ℕ) (bs : List ℕ) (w : Model) : Type 0 where
  pub first : stand 0 n w ≡ answered_with Done 0 bs
  pub second : stand 1 n w ≡ answered_with Done 0 bs

abbrev pub EqualOrders : Type 0
EqualOrders = For (reading 72 1 ∷ []) (reading 72 1 ∷ []) (BothAnswered 20 (0 ∷ []))

-- one order alone: how many slots it takes, and its outcome
pub record Takes (n : ℕ) (f : Outcome) (w : Model) : Type 0 where
  pub slots : length (run_slots 999 w) ≡ n
  pub outcome : stand 0 999 w ≡ answered_with f 0 []

abbrev pub Alone : Order → (Model → Type 0) → Type 0
Alone o Says = (a : code.Order) → order_of a ≡ o → Says (final bench_of (Place 0 a ∷ []))

abbrev pub NobodyAt81 : Type 0
NobodyAt81 = Alone (writing 81 [] ∷ []) (Takes 11 (NoAddress 0))

abbrev pub GaugeWritten4 : Type 0
GaugeWritten4 = Alone (writing 72 (4 ∷ []) ∷ []) (Takes 20 (NoByte 0 0))
