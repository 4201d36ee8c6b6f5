-- Every order that waits is served within `longest` slots for each. Assumes nothing.
use Rattle.std.proofs.Common.{◌≡◌, ℕ, zero, suc, ◌+◌, ◌-◌, ◌*◌, ◌≤◌, Bool, true, false, cond, leb, List, [], ◌∷◌, ◌++◌, map, length, get_or, sym, refl, ap, ◌∙◌, inl, inr, zero-le, arith, length-append}
use mathlib.Core.Option.{Option, none, some}
use borrow.Author.Tests.{clash}
use Rattle.history.specs.Contest.{stays}
use Rattle.bus.specs.declared.Symbol.{Symbol}
use Rattle.bus.specs.declared.Turn.{Turn}
use Rattle.bus.specs.Turns.{busy, bus}
use Rattle.bus.specs.Symbols.{is_stop}
use Rattle.scripts.specs.Alone.{longest}
use Rattle.scripts.specs.Scripts.{offer}
use Rattle.masters.specs.Standings.{Contender, Standing, idle, waiting, contending, answered, starting, contender_in, becomes, withdrawn, collected}
use Rattle.law.proofs.One.{Bench, hears, carried, moved, waits, all_waits, orders_waiting, Call, place, withdraw, tell, step, run, collect, alter, with_masters, with_rule, at_rest, ran, after_call, slot, run_slots, call_slots, slots, final}
use Rattle.law.proofs.OneLaw.{WithoutPlace}
use Rattle.scripts.proofs.Plans.{shorter}
use Rattle.law.proofs.OneSlot.{at, Sound, Somebody, Nobody, somebody, staked_is, hears_staked, hears_unstaked, at_moved, contending_after, onward, stayer, goes_on, free_start, nobody_free, sound_moved, fits_staked, short_staked, staked_nonempty, staked_free, not_some}
use Rattle.law.proofs.OneFair.{quiet_place, quiet_withdraw, quiet_tell, quiet_collect, Steady, same_steady, withdrawn_steady, collected_steady, alter_kept, after_slot}

-- how many wait, over a list
each_le : (f : Standing → Standing) → ((st : Standing) → waits (f st) ≤ waits st) → (ms : List Standing) → all_waits (map f ms) ≤ all_waits ms
each_le f h [] = zero-le
each_le f h (st ∷ ms) = omega (arith, h st, each_le f h ms)

one_less : (f : Standing → Standing) → ((st : Standing) → waits (f st) ≤ waits st) → (ms : List Standing) (i : ℕ) → waits (f (get_or ms i idle)) + 1 ≤ waits (get_or ms i idle) → all_waits (map f ms) + 1 ≤ all_waits ms
one_less f h [] i d = absurd (omega arith)
one_less f h (st ∷ ms) zero d = omega (arith, each_le f h ms)
one_less f h (st ∷ ms) (suc i) d = omega (arith, h st, one_less f h ms i d)

pub one_of : (ms : List Standing) (i : ℕ) → waits (get_or ms i idle) ≤ all_waits ms
one_of [] i = zero-le
one_of (st ∷ ms) zero = omega arith
one_of (st ∷ ms) (suc i) = omega (arith, one_of ms i)

alter_le : (f : Standing → Standing) → ((st : Standing) → waits (f st) ≤ waits st) → (i : ℕ) (ms : List Standing) → all_waits (alter f i ms) ≤ all_waits ms
alter_le f h i [] = zero-le
alter_le f h zero (st ∷ ms) = omega (arith, h st)
alter_le f h (suc i) (st ∷ ms) = omega (arith, alter_le f h i ms)

staked_waits : (t : Turn) (st : Standing) (k : Contender) → contender_in t st ≡ some k → waits st ≡ 1
staked_waits t st k e = elim (staked_is t st k e) [ inl w ↦ rw w.2 | inr c ↦ rw c ]

settled_waits : (a p : Bool) (k : Contender) (x : Symbol) → waits (becomes a p k x) ≤ 1
settled_waits true true k x = zero-le
settled_waits true false k x = omega arith
settled_waits false p k x = omega arith

hears_waits : (t : Turn) (x : Symbol) (st : Standing) → waits (hears t x st) ≤ waits st
hears_waits t x st = go (contender_in t st) refl
  where
    go : (o : Option Contender) → contender_in t st ≡ o → waits (hears t x st) ≤ waits st
    go none e = omega (arith, ap waits (hears_unstaked t x st e))
    go (some k) e =
        omega (arith, ap waits (hears_staked t x st k e), settled_waits (stays bus t x (offer k.progress.todo)) (is_stop x) k x, staked_waits t st k e)

-- room for those who wait in n slots
record Room (b : Bench) (n : ℕ) : Type 0 where
  when_free : busy b.turn ≡ false → longest * orders_waiting b ≤ n
  when_busy : busy b.turn ≡ true → (i : ℕ) (k : Contender) → at b i ≡ contending k → longest * orders_waiting b + length k.progress.todo ≤ n + longest

unstaked_free : (t : Turn) (st : Standing) → busy t ≡ false → contender_in t st ≡ none → waits st ≡ 0
unstaked_free t idle e n = refl
unstaked_free t (waiting w) e n = absurd (not_some (contender_in t (waiting w)) (starting w) n (staked_free t w e))
unstaked_free t (contending k) e n = absurd (not_some (some k) k n refl)
unstaked_free t (answered a) e n = refl

none_wait : (t : Turn) (ms : List Standing) → busy t ≡ false → ((i : ℕ) → contender_in t (get_or ms i idle) ≡ none) → all_waits ms ≡ 0
none_wait t [] e n = refl
none_wait t (st ∷ ms) e n = omega (arith, unstaked_free t st e (n 0), none_wait t ms e (λ i. n (suc i)))

moved_le : (b : Bench) → orders_waiting (moved b) ≤ orders_waiting b
moved_le b = each_le (hears b.turn (carried b)) (hears_waits b.turn (carried b)) b.masters

staked_counts : (b : Bench) (i : ℕ) (k : Contender) → contender_in b.turn (at b i) ≡ some k → 1 ≤ orders_waiting b
staked_counts b i k e = omega (arith, staked_waits b.turn (at b i) k e, one_of b.masters i)

-- a contest that ends serves somebody
served : (b : Bench) → Sound b → Somebody b → is_stop (carried b) ≡ true → orders_waiting (moved b) + 1 ≤ orders_waiting b
served b s w p =
    let v = stayer b s w in
    one_less (hears b.turn (carried b)) (hears_waits b.turn (carried b)) b.masters v.0
    (omega (arith, ap waits (sym (at_moved b v.0) ∙ after_slot b v.0 v.1 true true v.2 v.3 p), staked_waits b.turn (at b v.0) v.1 v.2))

busy_staked : (b : Bench) (i : ℕ) (k : Contender) → busy b.turn ≡ true → contender_in b.turn (at b i) ≡ some k → at b i ≡ contending k
busy_staked b i k u e = elim (staked_is b.turn (at b i) k e) [ inl w ↦ absurd (clash (sym w.1 ∙ u)) | inr c ↦ c ]

stop_busy : (b : Bench) → Sound b → Somebody b → is_stop (carried b) ≡ true → busy b.turn ≡ true
stop_busy b s w p = go (busy b.turn) refl
  where
    go : (v : Bool) → busy b.turn ≡ v → v ≡ true
    go true e = refl
    go false e = absurd (clash (sym (ap is_stop (free_start b s w e)) ∙ p))

slot_room : (b : Bench) (n : ℕ) → Sound b → Room b n → Room (moved b) (n - 1)
slot_room b n s r = elim (somebody b) [ inl w ↦ by w (is_stop (carried b)) refl | inr v ↦ idle_room v ]
  where
    was : (i : ℕ) (k' : Contender) → at (moved b) i ≡ contending k'
        → (k : Contender) × (contender_in b.turn (at b i) ≡ some k) × (stays bus b.turn (carried b) (offer k.progress.todo) ≡ true) × (is_stop (carried b) ≡ false) × (k' ≡ onward k (carried b))
    was i k' e = contending_after b.turn (carried b) (at b i) k' (sym (at_moved b i) ∙ e)

    idle_room : Nobody b → Room (moved b) (n - 1)
    idle_room v = record {
      when_free = λ u. omega (arith, moved_le b, none_wait b.turn b.masters (nobody_free b s v) v);
      when_busy = λ u i k' e. let q = was i k' e in absurd (not_some (contender_in b.turn (at b i)) q.0 (v i) q.1);
    }

    room_before : (v : Bool) → busy b.turn ≡ v → (i : ℕ) (k : Contender) → contender_in b.turn (at b i) ≡ some k → longest * orders_waiting b + length k.progress.todo ≤ n + longest
    room_before true u i k e = r.when_busy u i k (busy_staked b i k u e)
    room_before false u i k e = omega (arith, r.when_free u, short_staked b s i k e)

    by : Somebody b → (p : Bool) → is_stop (carried b) ≡ p → Room (moved b) (n - 1)
    by w true p = record {
      when_free = λ u.
          let v = stayer b s w in
          let room = room_before true (stop_busy b s w p) v.0 v.1 v.2 in
          let some_left = staked_nonempty b s v.0 v.1 v.2 in
          let fewer = served b s w p in
          omega arith;
      when_busy = λ u i k' e. absurd (clash (sym (was i k' e).3 ∙ p));
    }
    by w false p = record {
      when_free = λ u. absurd (clash (sym u ∙ goes_on b s w p));
      when_busy = λ u i k' e.
          let v = was i k' e in
          let room = room_before (busy b.turn) refl i v.0 v.1 in
          let fewer = shorter v.0.progress b.turn (carried b) (fits_staked b s i v.0 v.1) (staked_nonempty b s i v.0 v.1) in
          let counts = staked_counts b i v.0 v.1 in
          let not_more = moved_le b in
          let same = ap (λ (k : Contender). length k.progress.todo) v.4 in
          omega arith;
    }

-- calls without place
room_masters : (b : Bench) (ms : List Standing) (n : ℕ) → ((i : ℕ) → Steady (at b i) (get_or ms i idle)) → all_waits ms ≤ all_waits b.masters → Room b n → Room (with_masters b ms) n
room_masters b ms n e l r = record {
  when_free = λ u. omega (arith, r.when_free u);
  when_busy = λ u i k c. omega (arith, r.when_busy u i k ((e i k).1 c));
}

withdrawn_waits : (st : Standing) → waits (withdrawn st) ≤ waits st
withdrawn_waits idle = zero-le
withdrawn_waits (waiting w) = zero-le
withdrawn_waits (contending k) = omega arith
withdrawn_waits (answered a) = zero-le

collected_waits : (st : Standing) → waits (collected st) ≤ waits st
collected_waits idle = zero-le
collected_waits (waiting w) = omega arith
collected_waits (contending k) = omega arith
collected_waits (answered a) = zero-le

room_less : (b : Bench) (m n : ℕ) → m ≤ n → Room b m → Room b n
room_less b m n l r = record { when_free = λ u. omega (arith, r.when_free u); when_busy = λ u i k c. omega (arith, r.when_busy u i k c) }

sound_ran : (m : ℕ) (b : Bench) → Sound b → Sound (ran m b)
sound_ran zero b s = s
sound_ran (suc m) b s = go (at_rest b) (sound_ran m (moved b) (sound_moved b s))
  where
    go : (v : Bool) → Sound (ran m (moved b)) → Sound (cond v b (ran m (moved b)))
    go true ih = s
    go false ih = ih

pub sound_call : (c : Call) (b : Bench) → Sound b → Sound (after_call b c)
sound_call (place i o l) b s = (quiet_place b i o l).sound s
sound_call (withdraw i) b s = (quiet_withdraw b i).sound s
sound_call (tell q p) b s = (quiet_tell b q p).sound s
sound_call step b s = sound_moved b s
sound_call (run m) b s = go (leb m 999)
  where
    go : (v : Bool) → Sound (cond v (ran m b) b)
    go true = sound_ran m b s
    go false = s
sound_call (collect i) b s = (quiet_collect b i).sound s

pub sound_final : (cs : List Call) (b : Bench) → Sound b → Sound (final b cs)
sound_final [] b s = s
sound_final (c ∷ cs) b s = sound_final cs (after_call b c) (sound_call c b s)

room_ran : (m : ℕ) (b : Bench) (n : ℕ) → Sound b → Room b n → Room (ran m b) (n - length (run_slots m b))
room_ran zero b n s r = room_less b n (n - 0) (omega arith) r
room_ran (suc m) b n s r = go (at_rest b) (room_ran m (moved b) (n - 1) (sound_moved b s) (slot_room b n s r))
  where
    go : (v : Bool) → Room (ran m (moved b)) (n - 1 - length (run_slots m (moved b))) → Room (cond v b (ran m (moved b))) (n - length (cond v [] (slot b ∷ run_slots m (moved b))))
    go true ih = room_less b n (n - 0) (omega arith) r
    go false ih = room_less (ran m (moved b)) (n - 1 - length (run_slots m (moved b))) (n - suc (length (run_slots m (moved b)))) (omega arith) ih

room_call : (c : Call) (cs : List Call) (b : Bench) (n : ℕ) → WithoutPlace (c ∷ cs) → Sound b → Room b n → Room (after_call b c) (n - length (call_slots b c)) × WithoutPlace cs
room_call (place i o l) cs b n np s r = absurd np
room_call (withdraw i) cs b n np s r = (go (busy b.turn), np)
  where
    go : (v : Bool) → Room (cond v b (with_masters b (alter withdrawn i b.masters))) (n - 0)
    go true = room_less b n (n - 0) (omega arith) r
    go false =
        room_less (with_masters b (alter withdrawn i b.masters)) n (n - 0) (omega arith)
        (room_masters b (alter withdrawn i b.masters) n (alter_kept Steady withdrawn same_steady withdrawn_steady i b.masters) (alter_le withdrawn withdrawn_waits i b.masters) r)
room_call (tell q p) cs b n np s r = (go (busy b.turn), np)
  where
    go : (v : Bool) → Room (cond v b (with_rule b q)) (n - 0)
    go true = room_less b n (n - 0) (omega arith) r
    go false = record { when_free = λ u. omega (arith, r.when_free u); when_busy = λ u i k c. omega (arith, r.when_busy u i k c) }
room_call step cs b n np s r = (slot_room b n s r, np)
room_call (run m) cs b n np s r = (go (leb m 999), np)
  where
    go : (v : Bool) → Room (cond v (ran m b) b) (n - length (cond v (run_slots m b) []))
    go true = room_ran m b n s r
    go false = room_less b n (n - 0) (omega arith) r
room_call (collect i) cs b n np s r = (
  room_less (with_masters b (alter collected i b.masters)) n (n - 0) (omega arith)
      (room_masters b (alter collected i b.masters) n (alter_kept Steady collected same_steady collected_steady i b.masters) (alter_le collected collected_waits i b.masters) r),
  np,
)

rooms : (ds : List Call) (b : Bench) (n : ℕ) → WithoutPlace ds → Sound b → Room b n → Room (final b ds) (n - length (slots b ds))
rooms [] b n np s r = room_less b n (n - 0) (omega arith) r
rooms (c ∷ ds) b n np s r =
    let q = room_call c ds b n np s r in
    let b' = after_call b c in
    room_less (final b' ds) (n - length (call_slots b c) - length (slots b' ds)) (n - length (call_slots b c ++ slots b' ds))
    (omega (arith, length-append (call_slots b c) (slots b' ds)))
    (rooms ds b' (n - length (call_slots b c)) q.1 (sound_call c b s) q.0)

no_room : (b : Bench) → Sound b → Room b 0 → orders_waiting b ≡ 0
no_room b s r = go (busy b.turn) refl
  where
    go : (v : Bool) → busy b.turn ≡ v → orders_waiting b ≡ 0
    go false u = omega (arith, r.when_free u)
    go true u =
        let w = s.held u in
        let e : contender_in b.turn (at b w.0) ≡ some w.1 = rw w.2 refl in
        absurd (omega (arith, r.when_busy u w.0 w.1 w.2, staked_counts b w.0 w.1 e, staked_nonempty b s w.0 w.1 e))

pub all_served : (b : Bench) → Sound b → (ds : List Call) → WithoutPlace ds → longest * orders_waiting b ≤ length (slots b ds) → orders_waiting (final b ds) ≡ 0
all_served b s ds np l =
    let start-room : Room b (longest * orders_waiting b) = record {
      when_free = λ u. omega arith;
      when_busy = λ u i k c. omega (arith, s.short i k c);
    } in
    no_room (final b ds) (sound_final ds b s)
    (room_less (final b ds) (longest * orders_waiting b - length (slots b ds)) 0 (omega arith) (rooms ds b (longest * orders_waiting b) np s start-room))
