-- The law of contests, from what is seen of a bench. Assumes nothing.
use Rattle.std.proofs.Common.{◌≡◌, ℕ, zero, suc, ◌*◌, ◌≤◌, Bool, true, false, List, [], ◌∷◌, ◌++◌, map, length, get_or, sym, refl, ap, ◌∙◌, subst, append_assoc, append-nil, arith}
use mathlib.Core.List.{map-append}
use borrow.Author.Tests.{clash}
use Rattle.bus.specs.declared.Symbol.{Symbol}
use Rattle.bus.specs.declared.Turn.{Turn}
use Rattle.bus.specs.declared.Turn.TheVariants.{Free}
use Rattle.history.specs.Marks.{Less}
use Rattle.history.specs.Contest.{Then, EndsOnce}
use Rattle.bus.specs.Symbols.{symbols, rank, is_stop}
use Rattle.bus.specs.Turns.{next, bus}
use Rattle.orders.specs.Orders.{Answer}
use Rattle.scripts.specs.Alone.{AloneHistory, answer_of}
use Rattle.masters.specs.Standings.{Request, Contender, Standing, idle, contending, answered}
use Rattle.law.proofs.One.{all_waits}
use Rattle.law.proofs.One as one
use Rattle.law.proofs.OneLaw as one-law
use Rattle.law.proofs.OneFair.{Linked, linked_calls, fair_contest}
use Rattle.law.proofs.OneServed.{all_served}
use Rattle.law.proofs.OneKeeping.{answers_keep}
use Rattle.bus.specs.Banks.{Bank, Single, Both, each, All}
use Rattle.bus.proofs.Banks.{ask_listed}
use Rattle.masters.specs.Master as m
use Rattle.masters.specs.Master.{Master, somebody_waits}
use Rattle.slaves.specs.Slave.{Slave, Well}
use Rattle.law.specs.Model.{Model, assembled, standing, Slot}
use Rattle.law.specs.Calls.{Call, does, moves, final, slots, symbols_of, ranks}
use Rattle.law.specs.Law.{bus_after, ended, Finished, history, slaves_then, Contends, HasAlone, FairContest, orders_waiting, WithoutPlace, WithoutCollect, Law, Continues}
use Rattle.law.proofs.Views.{standings, view, waiting_view, somebody_true, bank_polite, well_freed, at_first}
use Rattle.law.proofs.Mirror.{Good, see, seen, on_to, seen_append, Mirror, mirror, busy_waits}

-- as assembled
get_or_all : (l r : List Standing) → ((i : ℕ) → get_or l i idle ≡ idle) → ((i : ℕ) → get_or r i idle ≡ idle) → (i : ℕ) → get_or (l ++ r) i idle ≡ idle
get_or_all [] r h k i = k i
get_or_all (st ∷ l) r h k zero = h 0
get_or_all (st ∷ l) r h k (suc i) = get_or_all l r (λ i. h (suc i)) k i

idle_first : (ms : Bank Master) (i : ℕ) → get_or (standings (each m.freed ms)) i idle ≡ idle
idle_first (Single k) zero = refl
idle_first (Single k) (suc i) = refl
idle_first (Both a b) i = get_or_all (standings (each m.freed a)) (standings (each m.freed b)) (idle_first a) (idle_first b) i

pub good_first : (ms : Bank Master) (ss : Bank Slave) → All Well ss → Good Free (assembled ms ss)
good_first ms ss w = record {
  at = at_first ms ss;
  well = well_freed ss w;
  sound = record {
    polite = bank_polite Free (assembled ms ss).slaves (at_first ms ss).1 (well_freed ss w);
    lawful = λ i. rw (idle_first ms i) tt;
    fits = λ i k e. absurd (never i k e);
    held = λ u. absurd (clash u);
    calm = λ u i k e. never i k e;
    short = λ i k e. absurd (never i k e);
  };
}
  where
    never : (i : ℕ) (k : Contender) → get_or (standings (each m.freed ms)) i idle ≡ contending k → ⊥
    never i k e = let f = idle_first ms i in let z : ◌≡◌ {A = ℕ} 0 1 = cc in omega arith

-- what is seen of slots
symbols_seen : (ss : List Slot) (t : Turn) → map (λ (s : one.Slot). s.symbol) (seen t ss) ≡ symbols_of ss
symbols_seen [] t = refl
symbols_seen (s ∷ ss) t = ap (λ (l : List Symbol). s.symbol ∷ l) (symbols_seen ss (next t s.symbol))

length_seen : (ss : List Slot) (t : Turn) → length (seen t ss) ≡ length ss
length_seen [] t = refl
length_seen (s ∷ ss) t = ap suc (length_seen ss (next t s.symbol))

ended_seen : (ss : List Slot) (s : Slot) (t : Turn) → (one-law.ended (see t s) (seen (next t s.symbol) ss)).masters ≡ standings (ended s ss).masters
ended_seen [] s t = refl
ended_seen (s' ∷ ss) s t = ended_seen ss s' (next t s.symbol)

none_seen : (ss : List Slot) (t : Turn) → symbols_of ss ≡ [] → seen t ss ≡ []
none_seen [] t e = refl
none_seen (s ∷ ss) t e = absurd (let z : ◌≡◌ {A = ℕ} 0 1 = cc in omega arith)

closes_seen : (ss : List Slot) (t : Turn) → EndsOnce bus (symbols_of ss) → one-law.Closes (seen t ss)
closes_seen [] t h = h
closes_seen (s ∷ ss) t h = go (is_stop s.symbol) (closes_seen ss (next t s.symbol)) h
  where
    rest : List one.Slot
    rest = seen (next t s.symbol) ss

    go : (v : Bool) → (EndsOnce bus (symbols_of ss) → one-law.Closes rest) → Then bus v (symbols_of ss ≡ []) (EndsOnce bus (symbols_of ss)) → Then bus v (rest ≡ []) (one-law.Closes rest)
    go true ih e = none_seen ss (next t s.symbol) e
    go false ih h = ih h

-- how a master stands
standing_seen : (i : ℕ) (w : Model) → standing i w ≡ get_or (standings w.masters) i idle
standing_seen i w = ask_listed idle (λ (m : Master). m.standing) i w.masters

-- a contest is fair if it is seen to be
module _ (t : Turn) (first : Slot) (rest : List Slot) where
  abbrev first' : one.Slot
  first' = see t first

  abbrev rest' : List one.Slot
  rest' = seen (next t first.symbol) rest

  same_history : one-law.history first' rest' ≡ history first rest
  same_history = symbols_seen (first ∷ rest) t

  contends : (i : ℕ) (k : Request) → Contends first rest i k → one-law.Contends first' rest' i k
  contends i k e = sym (standing_seen i first.before) ∙ e

  alone : (k : Request) → HasAlone first rest k (history first rest) → AloneHistory k.order (slaves_then first rest) (one-law.history first' rest')
  alone k a = subst (λ (h : List Symbol). AloneHistory k.order (slaves_then first rest) h) (sym same_history) a

  alone' : (k : Request) → AloneHistory k.order (slaves_then first rest) (one-law.history first' rest') → HasAlone first rest k (history first rest)
  alone' k a = subst (λ (h : List Symbol). AloneHistory k.order (slaves_then first rest) h) same_history a

  at_end : (i : ℕ) → standing i (ended first rest) ≡ one-law.standing first' rest' i
  at_end i = standing_seen i (ended first rest) ∙ ap (λ (l : List Standing). get_or l i idle) (sym (ended_seen rest first t))

  pub fair_seen : one-law.FairContest first' rest' → FairContest first rest
  fair_seen f = record {
    carried_alone = let v = f.carried_alone in (v.0, v.1, standing_seen v.0 first.before ∙ v.2, alone' v.1 v.3);
    none_less = λ i k e g a l. f.none_less i k (contends i k e) g a (subst (λ (h : List Symbol). Less symbols g h) (sym same_history) l);
    winners_answered = λ i k e a. at_end i ∙ f.winners_answered i k (contends i k e) (alone k a) ∙ ap (λ (h : List Symbol). answered (answer_of k.losses h)) same_history;
    losers_wait = λ i k e n. at_end i ∙ f.losers_wait i k (contends i k e) (λ a. n (alone' k a));
  }

finished_seen : (ss : List Slot) (f : Finished ss) → one-law.Finished (seen Free ss)
finished_seen ss f =
    let t = on_to Free f.earlier in
    record {
      earlier = seen Free f.earlier;
      first = see t f.first;
      rest = seen (next t f.first.symbol) f.rest;
      later = seen (on_to t (f.first ∷ f.rest)) f.later;
      among =
          ap (seen Free) f.among ∙ seen_append f.earlier ((f.first ∷ f.rest) ++ f.later) Free
          ∙ ap (λ (l : List one.Slot). seen Free f.earlier ++ l) (seen_append (f.first ∷ f.rest) f.later t);
      was_free = f.was_free;
      opens = f.opens;
      closes = closes_seen (f.first ∷ f.rest) t f.closes;
    }

module _ (w : Model) (g : Good Free w) (cs : List Call) where
  seen_so : Mirror Free w cs
  seen_so = mirror cs Free w g

  pub fair : (f : Finished (slots w cs)) → FairContest f.first f.rest
  unfolding finished_seen
  fair f =
      let linked = subst (λ (ss : List one.Slot). Linked (view Free w) ss) (sym seen_so.mirrors.same_slots) (linked_calls seen_so.calls (view Free w)) in
      fair_seen (on_to Free f.earlier) f.first f.rest (fair_contest (view Free w) (seen Free (slots w cs)) g.sound linked (finished_seen (slots w cs) f))

-- the rest, from any bench that calls have reached
served : (t : Turn) (w : Model) → Good t w → (ds : List Call) → WithoutPlace ds → 329 * orders_waiting w ≤ length (slots w ds) → orders_waiting (final w ds) ≡ 0
served t w g ds np l =
    let k = mirror ds t w g in
    let long = ap length k.mirrors.same_slots in
    let same = length_seen (slots w ds) t in
    let first = waiting_view w.masters in
    let last = waiting_view (final w ds).masters in
    let end = ap one.orders_waiting k.mirrors.same_bench in
    let none = all_served (view t w) g.sound k.calls (k.no_place np) (omega arith) in
    omega arith

kept : (t : Turn) (w : Model) → Good t w → (i : ℕ) (a : Answer) → standing i w ≡ answered a → (ds : List Call) → WithoutCollect i ds → standing i (final w ds) ≡ answered a
kept t w g i a e ds nc =
    let k = mirror ds t w g in
    standing_seen i (final w ds)
    ∙ ap (λ (b : one.Bench). get_or b.masters i idle) k.mirrors.same_bench
    ∙ answers_keep (view t w) i a (sym (standing_seen i w) ∙ e) k.calls (k.no_collect i nc)

pub lawful : (w : Model) → Good Free w → (cs : List Call) → Law w cs
lawful w g cs =
    let t = bus_after (slots w cs) in
    let m = (mirror cs Free w g).mirrors in
    let h = m.good in
    record {
      follows = m.follows;
      fair = fair w g cs;
      served = served t (final w cs) h;
      kept = kept t (final w cs) h;
      held = λ e. somebody_true (final w cs).masters (busy_waits t (final w cs) h e);
      together = h.at;
    }

pub always : (ms : Bank Master) (ss : Bank Slave) → All Well ss → (cs : List Call) → Law (assembled ms ss) cs
always ms ss w cs = lawful (assembled ms ss) (good_first ms ss w) cs

-- one call more
final_more : (cs : List Call) (c : Call) (w : Model) → final w (cs ++ (c ∷ [])) ≡ does c (final w cs)
final_more [] c w = refl
final_more (d ∷ cs) c w = final_more cs c (does d w)

slots_more : (cs : List Call) (c : Call) (w : Model) → slots w (cs ++ (c ∷ [])) ≡ slots w cs ++ moves c (final w cs)
slots_more [] c w = append-nil (moves c w)
slots_more (d ∷ cs) c w = ap (λ (l : List Slot). moves d w ++ l) (slots_more cs c (does d w)) ∙ sym (append_assoc (moves d w) (slots (does d w) cs) (moves c (final (does d w) cs)))

abbrev rank_of : Slot → ℕ
rank_of s = rank s.symbol

pub continues : (c : Call) (w v : Model) (rs : List ℕ) → v ≡ does c w → rs ≡ ranks (moves c w) → Continues w c rs v
continues c w v rs e r ms ss well cs l =
    let w₀ = assembled ms ss in
    record {
      leads = final_more cs c w₀ ∙ ap (does c) l ∙ sym e;
      marks =
          ap ranks (slots_more cs c w₀) ∙ map-append rank_of (slots w₀ cs) (moves c (final w₀ cs))
          ∙ ap (λ (u : Model). ranks (slots w₀ cs) ++ ranks (moves c u)) l
          ∙ ap (λ (l : List ℕ). ranks (slots w₀ cs) ++ l) (sym r);
      law = always ms ss well (cs ++ (c ∷ []));
    }
