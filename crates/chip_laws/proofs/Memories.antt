-- The memory's law. Assumes nothing.
use Rattle.std.proofs.Common.{◌≡◌, ℕ, zero, suc, ◌+◌, ◌%◌, ◌<◌, ◌≤◌, Bool, true, false, List, [], ◌∷◌, length, get_or, set, sym, refl, ap, ◌∙◌, subst, mod-lt, mod-eq_of_lt, arith, length-set, get_or-set_other, get_or-set_same}
use native.Mathlib.Nat.{mod-add-mod}
use Rattle.bus.specs.declared.Symbol.{Symbol}
use Rattle.orders.specs.declared.Outcome.TheVariants.{Done}
use Rattle.orders.specs.Orders.{writing, AllBytes}
use Rattle.scripts.specs.Alone.{AloneHistory}
use Rattle.slaves.specs.Slave.{replies}
use Rattle.chips.specs.Store.{Store}
use Rattle.chips.specs.Rules.{memory, memory_wrote}
use Rattle.chips.specs.Chips.{Chip}
use Rattle.chips.specs.States.{made}
use Rattle.chip_laws.specs.Served.{Served, ended, takes_in, serves}
use Rattle.chip_laws.specs.Laws.{Gives, Brings, Ready, only, after, read_from}
use Rattle.chip_laws.specs.Memories.{Written, MemoryLaw}
use Rattle.chip_laws.proofs.Cycles.{Fine, Cyclic, set_small, counted_all, lawful_write, serves_write, gives, acknowledges, reads, points, reads_from, stays, is_told, told_from, told_in_place}

cyclic : Cyclic memory 256
cyclic = record {
  some = omega arith;
  few = omega arith;
  moves_on = λ s. refl;
  accepts = λ q l. refl;
  points = λ q s l. refl;
  keeps = keeps;
}
  where
    keeps : (f : Bool) (b : ℕ) (s : Store) → b < 256 → Fine 256 s → Fine 256 (memory_wrote f b s)
    keeps true b s small fine = record { count = fine.count; all_bytes = fine.all_bytes; within = small }
    keeps false b s small fine = record {
      count = length-set s.bytes s.place b ∙ fine.count;
      all_bytes = set_small s.bytes s.place b fine.all_bytes small;
      within = mod-lt (s.place + 1) (let p : 0 < 256 = omega arith in p);
    }

-- cells after bytes are stored from a place on
abbrev stored_from : ℕ → List ℕ → List ℕ → List ℕ
stored_from q [] cells = cells
stored_from q (b ∷ bs) cells = stored_from ((q + 1) % 256) bs (set cells q b)

next_place : (q k : ℕ) → ((q + 1) % 256 + k) % 256 ≡ (q + suc k) % 256
next_place q k = mod-add-mod (q + 1) 256 k ∙ ap (λ (x : ℕ). x % 256) (let e : q + 1 + k ≡ q + suc k = omega arith in e)

this_place : (q : ℕ) → q < 256 → (q + 0) % 256 ≡ q
this_place q l = ap (λ (x : ℕ). x % 256) (let e : q + 0 ≡ q = omega arith in e) ∙ mod-eq_of_lt l

takes : (i j q : ℕ) (bs cells : List ℕ) (rest : Store → Served) → q < 256
    → takes_in memory i j false bs rest (record { bytes = cells; place = q }) ≡ rest (record { bytes = stored_from q bs cells; place = (q + length bs) % 256 })
takes i j q [] cells rest l = ap (λ (x : ℕ). rest (record { bytes = cells; place = x })) (sym (this_place q l))
takes i j q (b ∷ bs) cells rest l =
    takes i (suc j) ((q + 1) % 256) bs (set cells q b) rest (mod-lt (q + 1) (let p : 0 < 256 = omega arith in p))
    ∙ ap (λ (x : ℕ). rest (record { bytes = stored_from q (b ∷ bs) cells; place = x })) (next_place q (length bs))

outside : (bs : List ℕ) (q p : ℕ) (cells : List ℕ) → q < 256 → ((k : ℕ) → k < length bs → ¬ (p ≡ (q + k) % 256)) → get_or (stored_from q bs cells) p 0 ≡ get_or cells p 0
outside [] q p cells l away = refl
outside (b ∷ bs) q p cells l away =
    outside bs ((q + 1) % 256) p (set cells q b) (mod-lt (q + 1) (let z : 0 < 256 = omega arith in z))
    (λ k more e. away (suc k) (omega (arith, more)) (e ∙ next_place q k))
    ∙ get_or-set_other cells q p b 0 (λ e. away 0 (omega arith) (e ∙ sym (this_place q l)))

inside : (bs : List ℕ) (q k : ℕ) (cells : List ℕ) → q < 256 → length cells ≡ 256 → length bs ≤ 256 → k < length bs → get_or (stored_from q bs cells) ((q + k) % 256) 0 ≡ get_or bs k 0
inside [] q k cells l size few more = absurd (omega arith)
inside (b ∷ bs) q zero cells l size few more =
    ap (λ (x : ℕ). get_or (stored_from q (b ∷ bs) cells) x 0) (this_place q l)
    ∙ outside bs ((q + 1) % 256) q (set cells q b) (mod-lt (q + 1) (let z : 0 < 256 = omega arith in z))
    (λ k below e. let far : q ≡ (q + suc k) % 256 = e ∙ next_place q k in omega (arith, far))
    ∙ get_or-set_same cells q b 0 (rw size l)
inside (b ∷ bs) q (suc k) cells l size few more =
    ap (λ (x : ℕ). get_or (stored_from q (b ∷ bs) cells) x 0) (sym (next_place q k))
    ∙ inside bs ((q + 1) % 256) k (set cells q b) (mod-lt (q + 1) (let z : 0 < 256 = omega arith in z)) (length-set cells q b ∙ size) (omega arith) (omega arith)

module _ (c : Chip) (w : Ready 256 c) where
  abbrev a : ℕ
  a = c.port.address

  -- the byte at p, as a master reads it
  one_byte : (p : ℕ) → p < 256 → Brings (only memory c) (read_from a p 1) (get_or c.store.bytes p 0 ∷ [])
  one_byte p l =
      subst (λ (x : ℕ). Brings (only memory c) (read_from a p 1) (get_or c.store.bytes x 0 ∷ [])) (this_place p l)
      (reads_from memory 256 cyclic c w p 1 l (omega arith) (omega arith)).answer

  module _ (q : ℕ) (bs : List ℕ) (l : q < 256) (all : AllBytes bs) (few : length bs ≤ 31) where
    abbrev left : Store
    left = record { bytes = stored_from q bs c.store.bytes; place = (q + length bs) % 256 }

    wrote : Gives memory c (writing a (q ∷ bs) ∷ []) (ended Done left)
    wrote =
        gives memory 256 cyclic c w (writing a (q ∷ bs) ∷ []) (ended Done left) (lawful_write a (q ∷ bs) w.lowest w.highest (l, all) (omega arith))
        (serves_write memory a (q ∷ bs) c.store ∙ takes 0 1 q bs c.store.bytes (serves memory a 1 []) l)

    written : (h : List Symbol) → AloneHistory (writing a (q ∷ bs) ∷ []) (replies (only memory c)) h → Written c q bs (after memory c h)
    written h alone =
        let e : after memory c h ≡ made a left = wrote.leaves h alone in
        let ready = subst (λ (d : Chip). Ready 256 d) e (stays memory 256 cyclic c w (writing a (q ∷ bs) ∷ []) (lawful_write a (q ∷ bs) w.lowest w.highest (l, all) (omega arith)) h alone) in
        subst (λ (d : Chip). Written c q bs d) (sym e) (made_written ready)
      where
        made_written : Ready 256 (made a left) → Written c q bs (made a left)
        made_written ready = record {
          ready = ready;
          same_address = refl;
          moved_on = refl;
          there = λ some.
              subst (λ (x : List ℕ). Brings (only memory (made a left)) (read_from a q (length bs)) x)
              (counted_all bs (λ k. get_or (stored_from q bs c.store.bytes) ((q + k) % 256) 0) (λ k more. inside bs q k c.store.bytes l w.count (omega arith) more))
              (reads_from memory 256 cyclic (made a left) ready q (length bs) l some few).answer;
          elsewhere = λ p in_p away. (
            get_or c.store.bytes p 0,
            one_byte p in_p,
            subst (λ (x : ℕ). Brings (only memory (made a left)) (read_from a p 1) (x ∷ []))
                (ap (λ (x : ℕ). get_or (stored_from q bs c.store.bytes) x 0) (this_place p in_p) ∙ outside bs q p c.store.bytes l away)
                (reads_from memory 256 cyclic (made a left) ready p 1 in_p (omega arith) (omega arith)).answer,
          );
        }

pub memory_law : (c : Chip) → Ready 256 c → MemoryLaw c
memory_law c w = record {
  acknowledges = acknowledges memory 256 cyclic c w;
  reads = reads memory 256 cyclic c w;
  points = points memory 256 cyclic c w;
  reads_from = reads_from memory 256 cyclic c w;
  accepts = λ q bs l all few. (wrote c w q bs l all few).answer;
  writes = λ q bs l all few h alone. written c w q bs l all few h alone;
  stays = stays memory 256 cyclic c w;
  is_told = λ q l. is_told memory 256 cyclic c w q 0 l (omega arith);
  tells = told_from memory 256 cyclic c w;
  tells_in_place = told_in_place memory 256 cyclic c w;
}
