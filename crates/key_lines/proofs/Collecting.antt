-- What a collect writes. Assumes nothing.
use Rattle.std.proofs.Common.{◌≡◌, ℕ, zero, suc, ◌≤◌, cond, ltb, List, [], ◌∷◌, ◌++◌, length, take, drop, Some, None, Ok, Err, Result, sym, refl, ap, ◌∙◌, subst, arith, length-append}
use Rattle.std.proofs.lemmas.List.{take_at}
use Rattle.refusals.specs.declared.Refusal.{Refusal}
use Rattle.refusals.specs.Numbers.{number, returned}
use Rattle.bus.specs.Banks.{Bank, Single, Both, beyond, ask}
use Rattle.orders.specs.declared.Answer as code
use Rattle.orders.specs.Orders.{Answer}
use Rattle.orders.specs.Answers.{handed, outcome_number, segment_at_fault, byte_at_fault}
use Rattle.masters.specs.Standings.{Standing, idle, waiting, contending, answered}
use Rattle.masters.specs.Master.{Master, collect_one, collect_answer, collect_into, filled}
use Rattle.law.specs.Model.{Model, standing}
use Rattle.key_lines.specs.Commands.{collect}
use Rattle.key_lines.specs.Replies.{reply, answer_numbers}

-- what is handed over, and the buffer afterwards, by how the master stands
abbrev pub Handed : List ℕ → Standing → Result code.Answer Refusal → List ℕ → Type 0
Handed buffer st (Ok a) b = (x : Answer) × (st ≡ answered x) × (a ≡ handed x) × (b ≡ x.bytes ++ drop (length x.bytes) buffer)
Handed buffer st (Err e) b = answer_numbers st ≡ []

handed_one : (buffer : List ℕ) → length buffer ≡ 32 → (st : Standing) → Handed buffer st (collect_one 32 st) (filled buffer st)
handed_one buffer l idle = refl
handed_one buffer l (waiting w) = refl
handed_one buffer l (contending k) = refl
handed_one buffer l (answered a) = (a, refl, refl, ap (λ (n : ℕ). cond (ltb n 32) buffer (a.bytes ++ drop (length a.bytes) buffer)) l)

handed_by : (buffer : List ℕ) → length buffer ≡ 32 → (n : ℕ) (b : Bank Master)
    → Handed buffer (ask idle (λ (m : Master). m.standing) n b) (collect_answer n 32 b) (collect_into n buffer b)
handed_by buffer l zero (Single m) = handed_one buffer l m.standing
handed_by buffer l (suc n) (Single m) = refl
handed_by buffer l n (Both a b) =
    elim (beyond n a) as (λ o. Handed buffer
    (elim o [ None ↦ ask idle (λ (m : Master). m.standing) n a | Some k ↦ ask idle (λ (m : Master). m.standing) k b ])
    (elim o [ None ↦ collect_answer n 32 a | Some k ↦ collect_answer k 32 b ])
    (elim o [ None ↦ collect_into n buffer a | Some k ↦ collect_into k buffer b ]))
    [ None ↦ handed_by buffer l n a | Some k ↦ handed_by buffer l k b ]

-- the line of a collect that returned r and left b in the buffer
abbrev pub Collected : Model → ℕ → Result code.Answer Refusal → List ℕ → Type 0
Collected w n (Ok a) b =
    (a.count ≤ length b)
    × (5 ∷ (n ∷ (0 ∷ (outcome_number a.outcome ∷ (segment_at_fault a.outcome ∷ (byte_at_fault a.outcome ∷ (a.losses ∷ (a.count ∷ take a.count b))))))) ≡ reply (collect n) w)
Collected w n (Err e) b = 5 ∷ (n ∷ (number e ∷ [])) ≡ reply (collect n) w

line_of : (w : Model) (n : ℕ) (buffer b : List ℕ) (r : Result code.Answer Refusal) → r ≡ collect_answer n 32 w.masters → Handed buffer (standing n w) r b → Collected w n r b
line_of w n buffer b (Ok a) e h =
    let x = h.0 in
    let o = x.outcome in
    let count : a.count ≡ length x.bytes = ap (λ (v : code.Answer). v.count) h.2 in
    let bytes : take (length x.bytes) b ≡ x.bytes = ap (take (length x.bytes)) h.3 ∙ take_at x.bytes (drop (length x.bytes) buffer) (length x.bytes) refl in (
      omega (arith, count, ap length h.3, length-append x.bytes (drop (length x.bytes) buffer)),
      ap (λ (v : code.Answer). 5 ∷ (n ∷ (0 ∷ (outcome_number v.outcome ∷ (segment_at_fault v.outcome ∷ (byte_at_fault v.outcome ∷ (v.losses ∷ (v.count ∷ take v.count b)))))))) h.2
          ∙ ap (λ (l : List ℕ). 5 ∷ (n ∷ (0 ∷ (outcome_number o ∷ (segment_at_fault o ∷ (byte_at_fault o ∷ (x.losses ∷ (length x.bytes ∷ l)))))))) bytes
          ∙ ap (λ (v : Result code.Answer Refusal). 5 ∷ (n ∷ (returned v ∷ answer_numbers (answered x)))) e
          ∙ ap (λ (st : Standing). 5 ∷ (n ∷ (returned (collect_answer n 32 w.masters) ∷ answer_numbers st))) (sym h.1),
    )
line_of w n buffer b (Err f) e h =
    ap (λ (v : Result code.Answer Refusal). 5 ∷ (n ∷ (returned v ∷ []))) e ∙ ap (λ (l : List ℕ). 5 ∷ (n ∷ (returned (collect_answer n 32 w.masters) ∷ l))) (sym h)

-- the same for the call as it was made
pub collected : (w : Model) (n k : ℕ) (buffer buffer' : List ℕ) (r q : Result code.Answer Refusal) → length buffer ≡ 32 → k ≡ n
    → r ≡ collect_answer k 32 w.masters → r ≡ q → buffer' ≡ collect_into k buffer w.masters → Collected w n q buffer'
collected w n k buffer buffer' r q l ek er eq eb =
    let e : q ≡ collect_answer n 32 w.masters = sym eq ∙ er ∙ ap (λ (i : ℕ). collect_answer i 32 w.masters) ek in
    let f : collect_into n buffer w.masters ≡ buffer' = ap (λ (i : ℕ). collect_into i buffer w.masters) (sym ek) ∙ sym eb in
    let had = handed_by buffer l n w.masters in
    line_of w n buffer buffer' q e (subst (Handed buffer (standing n w) q) f (subst (λ (v : Result code.Answer Refusal). Handed buffer (standing n w) v (collect_into n buffer w.masters)) (sym e) had))
