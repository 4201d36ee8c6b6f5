-- The law of contests, over lists of calls. Assumes nothing.
use Rattle.std.proofs.Common.{◌≡◌, ℕ, ◌+◌, ◌*◌, ◌≤◌, min, List, [], ◌∷◌, ◌++◌, map, length, get_or}
use mathlib.Core.Option.{Option}
use Rattle.history.specs.Marks.{Less}
use Rattle.history.specs.Contest.{Rule, Polite, Then, Contest, FairStart, Fair}
use Rattle.bus.specs.declared.Symbol.{Symbol}
use Rattle.bus.specs.declared.Symbol.TheVariants.{Start}
use Rattle.bus.specs.declared.Turn.{Turn}
use Rattle.bus.specs.declared.Turn.TheVariants.{Free}
use Rattle.bus.specs.Symbols.{symbols, is_stop}
use Rattle.bus.specs.Turns.{bus}
use Rattle.orders.specs.Orders.{Answer}
use Rattle.scripts.specs.Alone.{AloneHistory, answer_of}
use Rattle.masters.specs.Standings.{Request, Standing, idle, waiting, answered}
use Rattle.law.proofs.One.{Bench, Call, place, withdraw, tell, step, run, collect, Slot, slots, final, assembled, orders_waiting}

-- the last of the slots, and no other, carries P
abbrev pub Closes : List Slot → Type 0
Closes [] = ⊥
Closes (s ∷ ss) = Then bus (is_stop s.symbol) (ss ≡ []) (Closes ss)

-- the bench as the last of the slots leaves it
abbrev pub ended : Slot → List Slot → Bench
ended s [] = s.after
ended s (s' ∷ ss) = ended s' ss

-- a finished contest among the slots: from an S on a free bus to the first P
pub record Finished (ss : List Slot) : Type 0 where
  pub earlier : List Slot
  pub first : Slot
  pub rest : List Slot
  pub later : List Slot
  pub among : ss ≡ earlier ++ ((first ∷ rest) ++ later)
  pub was_free : first.before.turn ≡ Free
  pub opens : first.symbol ≡ Start
  pub closes : Closes (first ∷ rest)

-- a contest, by its first slot and the rest
module _ (first : Slot) (rest : List Slot) where
  abbrev pub history : List Symbol
  history = map (λ (s : Slot). s.symbol) (first ∷ rest)

  -- the slaves as they stood at its start
  abbrev pub slaves : Rule Symbol
  slaves = first.before.rule

  -- master i contends, with that order and those losses at its start
  abbrev pub Contends : ℕ → Request → Type 0
  Contends i w = get_or first.before.masters i idle ≡ waiting w

  -- how master i stands as it ends
  abbrev pub standing : ℕ → Standing
  standing i = get_or (ended first rest).masters i idle

  pub record FairContest : Type 0 where
    pub carried_alone : (i : ℕ) × (w : Request) × Contends i w × AloneHistory w.order slaves history
    pub none_less : (i : ℕ) (w : Request) → Contends i w → (g : List Symbol) → AloneHistory w.order slaves g → ¬ Less symbols g history
    pub winners_answered : (i : ℕ) (w : Request) → Contends i w → AloneHistory w.order slaves history → standing i ≡ answered (answer_of w.losses history)
    pub losers_wait : (i : ℕ) (w : Request) → Contends i w → ¬ AloneHistory w.order slaves history → standing i ≡ waiting (record { order = w.order; losses = min 999 (w.losses + 1) })

abbrev pub WithoutPlace : List Call → Type 0
WithoutPlace [] = Unit {0}
WithoutPlace (place i o l ∷ cs) = ⊥
WithoutPlace (withdraw i ∷ cs) = WithoutPlace cs
WithoutPlace (tell r p ∷ cs) = WithoutPlace cs
WithoutPlace (step ∷ cs) = WithoutPlace cs
WithoutPlace (run n ∷ cs) = WithoutPlace cs
WithoutPlace (collect i ∷ cs) = WithoutPlace cs

-- any family of contenders, given by scripts
abbrev pub AnyContestIsFair : Type 0
AnyContestIsFair =
    (t : Turn) (cs : ℕ → Option (Rule Symbol)) (r : Rule Symbol) (h : List Symbol) → FairStart bus t cs r → Contest bus t cs r h → Fair bus t cs r h

-- the law of contests
abbrev pub ContestsAreFair : Type 0
ContestsAreFair =
    (n : ℕ) (r : Rule Symbol) → Polite bus Free r → (cs : List Call)
    → ((f : Finished (slots (assembled n r) cs)) → FairContest f.first f.rest)
    × ((ds : List Call) → WithoutPlace ds → 329 * orders_waiting (final (assembled n r) cs) ≤ length (slots (final (assembled n r) cs) ds)
    → orders_waiting (final (final (assembled n r) cs) ds) ≡ 0)

-- an answer stands until it is collected
abbrev pub WithoutCollect : ℕ → List Call → Type 0
WithoutCollect i [] = Unit {0}
WithoutCollect i (place j o l ∷ cs) = WithoutCollect i cs
WithoutCollect i (withdraw j ∷ cs) = WithoutCollect i cs
WithoutCollect i (tell r p ∷ cs) = WithoutCollect i cs
WithoutCollect i (step ∷ cs) = WithoutCollect i cs
WithoutCollect i (run n ∷ cs) = WithoutCollect i cs
WithoutCollect i (collect j ∷ cs) = (j ≡ i → ⊥) × WithoutCollect i cs

abbrev pub AnswersKeep : Type 0
AnswersKeep =
    (b : Bench) (i : ℕ) (a : Answer) → get_or b.masters i idle ≡ answered a → (cs : List Call) → WithoutCollect i cs
    → get_or (final b cs).masters i idle ≡ answered a
