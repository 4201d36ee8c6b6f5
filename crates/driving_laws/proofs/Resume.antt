-- A wait answered: the block and the plan go on together. Assumes nothing.
use Rattle.std.proofs.Common.{◌≡◌, ℕ, suc, ◌+◌, ◌-◌, Bool, true, false, cond, ltb, List, length, get_or, drop, sym, refl, ◌∙◌, subst, add-one, arith, drop-cons, ltb-false, ltb-true}
use borrow.Author.Tests.{clash}
use Rattle.bus.specs.declared.Symbol.{Symbol}
use Rattle.bus.specs.declared.Symbol.TheVariants as symbol
use Rattle.bus.specs.declared.Turn.{Turn}
use Rattle.bus.specs.declared.Turn.TheVariants as turn
use Rattle.bus.specs.Symbols.{is_stop}
use Rattle.bus.specs.Turns.{next}
use Rattle.orders.specs.declared.Outcome.{Outcome}
use Rattle.orders.specs.Orders.{writing, reading, Order}
use Rattle.scripts.specs.Scripts as script
use Rattle.progress.specs.Positions.{here}
use Rattle.progress.specs.Plans.{others, todo_at}
use Rattle.masters.specs.Standings as masters
use Rattle.masters.specs.Standings.{hears}
use Rattle.block.specs.declared.Block.{Block}
use Rattle.block.specs.declared.Task.TheVariants as task
use Rattle.block.specs.Slots.{same}
use Rattle.driving.specs.declared.Phase.{Phase}
use Rattle.driving.specs.declared.Phase.TheVariants.{Opening, Write, Read, Stopping}
use Rattle.driving.specs.declared.Standing.{Standing}
use Rattle.driving.specs.declared.Standing.TheVariants.{Contending}
use Rattle.driving.specs.States.{Known}
use Rattle.driving.specs.Driving.{standing_past, block_past, ended, received, sent, loss_cleared, retried, begun, with_standing, standing_on, block_on}
use Rattle.driving_laws.specs.Tied.{at_border, in_read, patched, tied, turned, real, unacked}
use Rattle.driving_laws.specs.Meaning.{standing_of, stage_at, notes_at}
use Rattle.driving_laws.specs.Agreement.{Heard}
use Rattle.std.proofs.lemmas.List.{drop_all}

abbrev pub waiting_block : Block → Turn → Bool → Bool → Block
waiting_block b t a r = patched b t task.NinthWait a true r

-- what the next phase starts with
pub record Resumed (ss : Order) (t : Turn) (k : List script.Act) (st : Standing) (b : Block) : Type 0 where
  pub is_tied : b ≡ tied ss st b.turn b
  pub same_turn : b.turn ≡ t
  pub is_turned : turned ss st b.shift b.turn ≡ true
  pub is_unacked : unacked st b.turn b.status.ackd0 ≡ true
  pub is_real : real ss st ≡ true
  pub phase : Phase
  pub segment : ℕ
  pub byte : ℕ
  pub is_phase : st ≡ Contending phase segment byte
  pub does : todo_at ss segment (stage_at phase byte b.turn) ≡ k
  pub notes : (bs : List ℕ) (f : Outcome) → notes_at phase b.turn bs b.shift f ≡ record { bytes = bs; part = 0; outcome = f }
  pub ald_same : (x : Symbol) → same x symbol.Stop ≡ false → loss_cleared x b ≡ b

module _ (ss : Order) (b : Block) (a : Bool) (i : ℕ) (here-is : ltb i (length ss) ≡ true) where
  not_stopped : (x : Symbol) (m : Block) → same x symbol.Stop ≡ false → loss_cleared x m ≡ m
  not_stopped x m e = rw e refl

  begun_waiting : (r : Bool) (t : Turn) → begun (waiting_block b t a r) ≡ patched b t task.Start false true r
  begun_waiting r t = grind arith

  -- after the segment
  resume_past : (r : Bool) (t : Turn) → at_border t ≡ true → Resumed ss t (others ss i) (standing_past ss i) (block_past ss i (waiting_block b t a r))
  resume_past r t e = go (ltb (i + 1) (length ss)) refl
    where
      opens : ltb (i + 1) (length ss) ≡ true → Resumed ss t (others ss i) (Contending Opening (i + 1) 0) (patched b t task.Start false true r)
      opens q = record {
        is_tied = refl;
        same_turn = refl;
        is_turned = e;
        is_unacked = refl;
        is_real = q;
        phase = Opening;
        segment = i + 1;
        byte = 0;
        is_phase = refl;
        does = refl;
        notes = λ bs f. refl;
        ald_same = λ x z. not_stopped x _ z;
      }

      go : (c : Bool) → ltb (i + 1) (length ss) ≡ c
          → Resumed ss t (others ss i) (cond c (Contending Opening (i + 1) 0) (Contending Stopping i 0)) (cond c (begun (waiting_block b t a r)) (ended (waiting_block b t a r)))
      go true q = subst (λ (m : Block). Resumed ss t (others ss i) (Contending Opening (i + 1) 0) m) (sym (begun_waiting r t)) (opens q)
      go false q = record {
        is_tied = refl;
        same_turn = refl;
        is_turned = e;
        is_unacked = refl;
        is_real = refl;
        phase = Stopping;
        segment = i;
        byte = 0;
        is_phase = refl;
        does = let z = ltb-false (i + 1) (length ss) q in rw (drop_all (i + 1) ss (omega arith)) refl;
        notes = λ bs f. refl;
        ald_same = λ x z. not_stopped x _ z;
      }

  -- a byte more, or after the segment
  pub resume_write : (j a' : ℕ) (bs : List ℕ) → here ss i ≡ writing a' bs
      → Resumed ss turn.Border (script.send i j (drop j bs) (others ss i)) (standing_on ss i j) (block_on ss i j (waiting_block b turn.Border a true))
  resume_write j a' bs e = go (ltb j (length bs)) refl
    where
      go : (c : Bool) → ltb j (length bs) ≡ c
          → Resumed ss turn.Border (script.send i j (drop j bs) (others ss i)) (standing_on ss i j) (block_on ss i j (waiting_block b turn.Border a true))
      go true q =
          let est : standing_on ss i j ≡ Contending Write i j = rw (e, q) refl in
          let ebl : block_on ss i j (waiting_block b turn.Border a true) ≡ sent (get_or bs j 0) (waiting_block b turn.Border a true) = rw (e, q) refl in
          let z = ltb-true j (length bs) q in
          let w : Resumed ss turn.Border (script.send i j (drop j bs) (others ss i)) (Contending Write i j) (sent (get_or bs j 0) (waiting_block b turn.Border a true)) = record {
            is_tied = rw e refl;
            same_turn = refl;
            is_turned = refl;
            is_unacked = refl;
            is_real = rw (e, here-is, q) refl;
            phase = Write;
            segment = i;
            byte = j;
            is_phase = refl;
            does = rw (e, drop-cons bs j 0 z) (rw (add-one j) refl);
            notes = λ bs f. refl;
            ald_same = λ x z. not_stopped x _ z;
          } in
          subst (λ (v : Standing). Resumed ss turn.Border (script.send i j (drop j bs) (others ss i)) v (block_on ss i j (waiting_block b turn.Border a true))) (sym est)
          (subst (λ (v : Block). Resumed ss turn.Border (script.send i j (drop j bs) (others ss i)) (Contending Write i j) v) (sym ebl) w)
      go false q =
          let est : standing_on ss i j ≡ standing_past ss i = rw (e, q) refl in
          let ebl : block_on ss i j (waiting_block b turn.Border a true) ≡ block_past ss i (waiting_block b turn.Border a true) = rw (e, q) refl in
          let z = ltb-false j (length bs) q in
          let k : others ss i ≡ script.send i j (drop j bs) (others ss i) = rw (drop_all j bs z) refl in
          let w : Resumed ss turn.Border (script.send i j (drop j bs) (others ss i)) (standing_past ss i) (block_past ss i (waiting_block b turn.Border a true)) =
          subst (λ (v : List script.Act). Resumed ss turn.Border v (standing_past ss i) (block_past ss i (waiting_block b turn.Border a true))) k (resume_past true turn.Border refl) in
          subst (λ (v : Standing). Resumed ss turn.Border (script.send i j (drop j bs) (others ss i)) v (block_on ss i j (waiting_block b turn.Border a true))) (sym est)
          (subst (λ (v : Block). Resumed ss turn.Border (script.send i j (drop j bs) (others ss i)) (standing_past ss i) v) (sym ebl) w)

  pub resume_read : (r : Bool) (j a' n : ℕ) → here ss i ≡ reading a' n → ltb j n ≡ true → b.shift ≡ 0
      → Resumed ss (turn.Read 7) (script.receive (n - j) (others ss i)) (standing_on ss i j) (block_on ss i j (waiting_block b (turn.Read 7) a r))
  resume_read r j a' n e q s0 =
      let m = waiting_block b (turn.Read 7) a r in
      let k = script.receive (n - j) (others ss i) in
      let est : standing_on ss i j ≡ Contending Read i j = rw (e, q) refl in
      let ebl : block_on ss i j m ≡ received (ltb (j + 1) n) m = rw (e, q) refl in
      subst (λ (v : Standing). Resumed ss (turn.Read 7) k v (block_on ss i j m)) (sym est)
      (subst (λ (v : Block). Resumed ss (turn.Read 7) k (Contending Read i j) v) (sym ebl) (go (ltb (j + 1) n) refl))
    where
      z : n - j ≡ suc (n - (j + 1))
      z = let y = ltb-true j n q in omega arith

      turned_so : (m : Block) → m.shift ≡ 0 → in_read m.shift (turn.Read 7) ≡ true
      turned_so m y = rw y refl

      go : (c : Bool) → ltb (j + 1) n ≡ c → Resumed ss (turn.Read 7) (script.receive (n - j) (others ss i)) (Contending Read i j) (received c (waiting_block b (turn.Read 7) a r))
      go true y = record {
        is_tied = rw (e, y) refl;
        same_turn = refl;
        is_turned = turned_so b s0;
        is_unacked = refl;
        is_real = rw (e, here-is, q) refl;
        phase = Read;
        segment = i;
        byte = j;
        is_phase = refl;
        does = rw e (rw z refl);
        notes = λ bs f. rw s0 refl;
        ald_same = λ x w. not_stopped x _ w;
      }
      go false y = record {
        is_tied = rw (e, y) refl;
        same_turn = refl;
        is_turned = turned_so b s0;
        is_unacked = refl;
        is_real = rw (e, here-is, q) refl;
        phase = Read;
        segment = i;
        byte = j;
        is_phase = refl;
        does = rw e (rw z refl);
        notes = λ bs f. rw s0 refl;
        ald_same = λ x w. not_stopped x _ w;
      }

  pub resume_read_past : (r : Bool) (j a' n : ℕ) → here ss i ≡ reading a' n → ltb j n ≡ false
      → Resumed ss turn.ClosingBorder (script.receive (n - j) (others ss i)) (standing_on ss i j) (block_on ss i j (waiting_block b turn.ClosingBorder a r))
  resume_read_past r j a' n e q =
      let m = waiting_block b turn.ClosingBorder a r in
      let k = script.receive (n - j) (others ss i) in
      let est : standing_on ss i j ≡ standing_past ss i = rw (e, q) refl in
      let ebl : block_on ss i j m ≡ block_past ss i m = rw (e, q) refl in
      let y = ltb-false j n q in
      let z : n - j ≡ 0 = omega arith in
      let ek : others ss i ≡ k = rw z refl in
      subst (λ (v : Standing). Resumed ss turn.ClosingBorder k v (block_on ss i j m)) (sym est)
      (subst (λ (v : Block). Resumed ss turn.ClosingBorder k (standing_past ss i) v) (sym ebl)
      (subst (λ (v : List script.Act). Resumed ss turn.ClosingBorder v (standing_past ss i) (block_past ss i m)) ek (resume_past r turn.ClosingBorder refl)))

not_stop : (x : Symbol) → same x symbol.Stop ≡ false → is_stop x ≡ false
not_stop x e = grind arith

-- a wait answered in the slot that made it
pub resumed_hears : (ss : Order) (r₀ r : Known) (b : Block) (x : Symbol) (t : Turn) (k : List script.Act) (st : Standing) (b' : Block)
    → Resumed ss t k st b' → t ≡ next b.turn x → same x symbol.Stop ≡ false
    → masters.contending (record { request = record { order = ss; losses = r.losses }; progress = record { todo = k; notes = record { bytes = r.bytes; part = 0; outcome = r.outcome } } }) ≡ hears b.turn x (standing_of ss r₀ b)
    → Heard ss r₀ b x (with_standing r st) (retried st (loss_cleared x b'))
resumed_hears ss r₀ r b x t k st b' w n z e =
    let est = w.is_phase in
    let ew : retried st (loss_cleared x b') ≡ b' = rw est (w.ald_same x z) in
    let d : standing_of ss (with_standing r st) b' ≡ hears b.turn x (standing_of ss r₀ b) =
    (rw est (rw (w.does, w.notes r.bytes r.outcome) refl)) ∙ e in
    subst (λ (v : Block). Heard ss r₀ b x (with_standing r st) v) (sym ew)
    (record {
      sound = record { is_tied = w.is_tied; is_turned = w.is_turned; is_unacked = w.is_unacked; is_real = w.is_real };
      turn = w.same_turn ∙ n;
      standing = d;
      clears = λ y. absurd (clash (sym (not_stop x z) ∙ y));
    })
