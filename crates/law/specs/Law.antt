-- The law of contests, over every list of calls since assembly. Assumes nothing.
--     Finished             a finished contest among the slots that a list of calls moves: from an S on a free bus to the first P
--     Contends             a master contends in it: it waited at that S, with that order and those losses
--     HasAlone             what that order has alone, with the slaves as they stood at that S
--     FairContest          what is promised of a finished contest
--     Law                  what is promised of a bench and the calls made on it since assembly
--     Always               the law, of every list of calls on a bench as it is assembled
--     Continues            the law, of every list of calls that leads to a bench, with one call more
--     ContestsAreLawful    both, of every bank of masters and every bank of slaves that keep to the turns
use Rattle.std.specs.Prelude.{◌≡◌, ℕ, ◌+◌, ◌*◌, ◌≤◌, min, true, cond, List, [], ◌∷◌, ◌++◌, length, ◌≢◌}
use Rattle.history.specs.Marks.{Less}
use Rattle.history.specs.Contest.{Rule, turn_after, Follows, EndsOnce}
use Rattle.bus.specs.declared.Symbol.{Symbol}
use Rattle.bus.specs.declared.Symbol.TheVariants.{Start}
use Rattle.bus.specs.declared.Turn.{Turn}
use Rattle.bus.specs.declared.Turn.TheVariants.{Free}
use Rattle.bus.specs.Symbols.{symbols}
use Rattle.bus.specs.Turns.{busy, bus}
use Rattle.bus.specs.Banks.{Bank, Single, Both, All}
use Rattle.orders.specs.Orders.{Answer}
use Rattle.scripts.specs.Alone.{AloneHistory, answer_of}
use Rattle.masters.specs.Standings.{Request, waiting, answered, is_waiting}
use Rattle.masters.specs.Master.{Master, somebody_waits}
use Rattle.slaves.specs.Slave.{Slave, Well, replies}
use Rattle.law.specs.Model.{Model, assembled, standing, Slot}
use Rattle.law.specs.Calls.{Call, Place, Withdraw, Tell, Step, Run, Collect, does, moves, final, slots, symbols_of, ranks, grown}

-- where the bus is after slots from assembly on
abbrev pub bus_after : List Slot → Turn
bus_after ss = turn_after bus Free (symbols_of ss)

-- the bench as the last of the slots leaves it
abbrev pub ended : Slot → List Slot → Model
ended s [] = s.after
ended s (s' ∷ ss) = ended s' ss

pub record Finished (ss : List Slot) : Type 0 where
  pub earlier : List Slot
  pub first : Slot
  pub rest : List Slot
  pub later : List Slot
  pub among : ss ≡ earlier ++ ((first ∷ rest) ++ later)
  pub was_free : bus_after earlier ≡ Free
  pub opens : first.symbol ≡ Start
  pub closes : EndsOnce bus (symbols_of (first ∷ rest))

-- a contest, by its first slot and the rest
module _ (first : Slot) (rest : List Slot) where
  abbrev pub history : List Symbol
  history = symbols_of (first ∷ rest)

  -- the slaves as they stood at its start
  abbrev pub slaves_then : Rule Symbol
  slaves_then = replies first.before.slaves

  abbrev pub Contends : ℕ → Request → Type 0
  Contends i k = standing i first.before ≡ waiting k

  abbrev pub HasAlone : Request → List Symbol → Type 0
  HasAlone k h = AloneHistory k.order slaves_then h

  pub record FairContest : Type 0 where
    -- it carried the history that one of its contenders would have had alone
    pub carried_alone : (i : ℕ) × (k : Request) × Contends i k × HasAlone k history
    -- no contender's history alone is less
    pub none_less : (i : ℕ) (k : Request) → Contends i k → (g : List Symbol) → HasAlone k g → ¬ Less symbols g history
    -- as it ends, each contender of that history has the answer it would have had alone, with the losses it had at the start
    pub winners_answered : (i : ℕ) (k : Request) → Contends i k → HasAlone k history → standing i (ended first rest) ≡ answered (answer_of k.losses history)
    -- every other contender waits on, its order unaltered, with one loss more, up to 999
    pub losers_wait : (i : ℕ) (k : Request) → Contends i k → ¬ HasAlone k history
        → standing i (ended first rest) ≡ waiting (record { order = k.order; losses = min 999 (k.losses + 1) })

-- how many orders wait; a contender counts as waiting
abbrev pub waiting_in : Bank Master → ℕ
waiting_in (Single m) = cond (is_waiting m.standing) 1 0
waiting_in (Both a b) = waiting_in a + waiting_in b

abbrev pub orders_waiting : Model → ℕ
orders_waiting w = waiting_in w.masters

abbrev pub WithoutPlace : List Call → Type 0
WithoutPlace [] = Unit {0}
WithoutPlace (Place n o ∷ cs) = ⊥
WithoutPlace (Withdraw n ∷ cs) = WithoutPlace cs
WithoutPlace (Tell n p b ∷ cs) = WithoutPlace cs
WithoutPlace (Step ∷ cs) = WithoutPlace cs
WithoutPlace (Run n left ∷ cs) = WithoutPlace cs
WithoutPlace (Collect n size ∷ cs) = WithoutPlace cs

-- no call collects from master i
abbrev pub WithoutCollect : ℕ → List Call → Type 0
WithoutCollect i [] = Unit {0}
WithoutCollect i (Place n o ∷ cs) = WithoutCollect i cs
WithoutCollect i (Withdraw n ∷ cs) = WithoutCollect i cs
WithoutCollect i (Tell n p b ∷ cs) = WithoutCollect i cs
WithoutCollect i (Step ∷ cs) = WithoutCollect i cs
WithoutCollect i (Run n left ∷ cs) = WithoutCollect i cs
WithoutCollect i (Collect n size ∷ cs) = (n ≢ i) × WithoutCollect i cs

-- of a bench w as assembled and the calls cs made on it since
pub record Law (w : Model) (cs : List Call) : Type 0 where
  -- the slots moved follow the turns from a free bus
  pub follows : Follows bus Free (symbols_of (slots w cs))
  -- each finished contest is fair
  pub fair : (f : Finished (slots w cs)) → FairContest f.first f.rest
  -- any further calls without place that move 329 slots for each order that waits leave none waiting
  pub served : (ds : List Call) → WithoutPlace ds → 329 * orders_waiting (final w cs) ≤ length (slots (final w cs) ds) → orders_waiting (final (final w cs) ds) ≡ 0
  -- an answer stands until it is collected
  pub kept : (i : ℕ) (a : Answer) → standing i (final w cs) ≡ answered a → (ds : List Call) → WithoutCollect i ds → standing i (final (final w cs) ds) ≡ answered a
  -- somebody waits while the bus is not free
  pub held : busy (bus_after (slots w cs)) ≡ true → somebody_waits (final w cs).masters ≡ true
  -- all masters and slaves are where the slots moved so far lead from a free bus
  pub together : All (λ (m : Master). m.turn ≡ bus_after (slots w cs)) (final w cs).masters × All (λ (s : Slave). s.turn ≡ bus_after (slots w cs)) (final w cs).slaves

abbrev pub Always : Model → Type 0
Always w = (cs : List Call) → Law w cs

-- the calls cs on the assembled bench w₀, and then c, which returned or marked those ranks, lead to v, and the law holds of them
pub record Continued (w₀ : Model) (cs : List Call) (c : Call) (rs : List ℕ) (v : Model) : Type 0 where
  pub leads : final w₀ (cs ++ (c ∷ [])) ≡ v
  pub marks : ranks (slots w₀ (cs ++ (c ∷ []))) ≡ ranks (slots w₀ cs) ++ rs
  pub law : Law w₀ (cs ++ (c ∷ []))

abbrev pub Continues : Model → Call → List ℕ → Model → Type 0
Continues w c rs v =
    (ms : Bank Master) (ss : Bank Slave) → All Well ss → (cs : List Call) → final (assembled ms ss) cs ≡ w → Continued (assembled ms ss) cs c rs v

-- the law holds of whatever is assembled of slaves that keep to the turns, and goes on with every call, whatever it marks in a book
pub record ContestsAreLawful : Type 0 where
  pub always : (ms : Bank Master) (ss : Bank Slave) (w : Model) → All Well ss → w ≡ assembled ms ss → Always w
  pub continues : (c : Call) (w v : Model) (rs : List ℕ) → v ≡ does c w → rs ≡ ranks (moves c w) → Continues w c rs v
  pub marks : (c : Call) (w v : Model) (before after : List ℕ) → v ≡ does c w → after ≡ before ++ ranks (moves c w) → Continues w c (grown before after) v
