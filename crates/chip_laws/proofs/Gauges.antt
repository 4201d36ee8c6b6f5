-- The gauge's law. Assumes nothing.
use Rattle.std.proofs.Common.{◌≡◌, ℕ, ◌<◌, ◌≤◌, Bool, true, false, cond, ltb, List, [], ◌∷◌, length, refl, ap, ◌∙◌, arith, ltb-true, le-ltb, lt-ltb}
use Rattle.bus.specs.declared.Symbol.{Symbol}
use Rattle.orders.specs.declared.Outcome.TheVariants.{NoByte}
use Rattle.orders.specs.Orders.{Order, writing, Lawful, AllBytes}
use Rattle.scripts.specs.Alone.{AloneHistory}
use Rattle.slaves.specs.Slave.{replies}
use Rattle.chips.specs.Store.{Store, pointed}
use Rattle.chips.specs.Rules.{gauge, gauge_wrote}
use Rattle.chips.specs.Chips.{Chip}
use Rattle.chip_laws.specs.Served.{ended}
use Rattle.chip_laws.specs.Laws.{Gives, Ready, only, after}
use Rattle.chip_laws.specs.Gauges.{GaugeLaw}
use Rattle.chip_laws.proofs.Serving.{served}
use Rattle.chip_laws.proofs.Cycles.{Fine, Cyclic, lawful_write, serves_write, serves_keeps, gives, acknowledges, reads, points, reads_from, stays, is_told, told_from, told_in_place}

-- a written byte at most sets the pointer
wrote_keeps : (P : Store → Type 0) (f : Bool) (b : ℕ) (s : Store) → P s → (b < 4 → P (pointed b s)) → P (gauge_wrote f b s)
wrote_keeps P false b s p q = p
wrote_keeps P true b s p q = go (ltb b 4) refl
  where
    go : (v : Bool) → ltb b 4 ≡ v → P (cond v (pointed b s) s)
    go true e = q (ltb-true b 4 e)
    go false e = p

cyclic : Cyclic gauge 4
cyclic = record {
  some = omega arith;
  few = omega arith;
  moves_on = λ s. refl;
  accepts = λ q l. lt-ltb q 4 l;
  points = λ q s l. rw (lt-ltb q 4 l) refl;
  keeps = λ f b s small fine. wrote_keeps (Fine 4) f b s fine (λ l. record { count = fine.count; all_bytes = fine.all_bytes; within = l });
}

pub gauge_law : (c : Chip) → Ready 4 c → GaugeLaw c
gauge_law c w = record {
  acknowledges = acknowledges gauge 4 cyclic c w;
  reads = reads gauge 4 cyclic c w;
  points = λ v l. points gauge 4 cyclic c w v (omega arith);
  reads_from = λ v n l some few. reads_from gauge 4 cyclic c w v n (omega arith) some few;
  refuses = refuses;
  refuses_more = refuses_more;
  stays = λ o l h alone. (stays gauge 4 cyclic c w o l h alone, unaltered o l h alone);
  is_told = λ q l. is_told gauge 4 cyclic c w q 0 (omega arith) (omega arith);
  tells = λ q b l small v l'. told_from gauge 4 cyclic c w q b (omega arith) (omega arith) v (omega arith);
  tells_in_place = λ q b l small. told_in_place gauge 4 cyclic c w q b (omega arith) (omega arith);
}
  where
    a : ℕ
    a = c.port.address

    refuses : (v : ℕ) (bs : List ℕ) → 4 ≤ v → v ≤ 255 → AllBytes bs → length bs ≤ 31 → Gives gauge c (writing a (v ∷ bs) ∷ []) (ended (NoByte 0 0) c.store)
    refuses v bs high small all few =
        gives gauge 4 cyclic c w (writing a (v ∷ bs) ∷ []) (ended (NoByte 0 0) c.store)
        (lawful_write a (v ∷ bs) w.lowest w.highest (omega arith, all) (omega arith))
        (serves_write gauge a (v ∷ bs) c.store ∙ rw (le-ltb v 4 high) refl)

    refuses_more : (v w' : ℕ) (bs : List ℕ) → v ≤ 3 → w' ≤ 255 → AllBytes bs → length bs ≤ 30
        → Gives gauge c (writing a (v ∷ (w' ∷ bs)) ∷ []) (ended (NoByte 0 1) (pointed v c.store))
    refuses_more v w' bs low small all few =
        gives gauge 4 cyclic c w (writing a (v ∷ (w' ∷ bs)) ∷ []) (ended (NoByte 0 1) (pointed v c.store))
        (lawful_write a (v ∷ (w' ∷ bs)) w.lowest w.highest (omega arith, (omega arith, all)) (omega arith))
        (serves_write gauge a (v ∷ (w' ∷ bs)) c.store ∙ rw (lt-ltb v 4 (omega arith)) refl)

    unaltered : (o : Order) → Lawful o → (h : List Symbol) → AloneHistory o (replies (only gauge c)) h → (after gauge c h).store.bytes ≡ c.store.bytes
    unaltered o l h alone =
        ap (λ (x : Chip). x.store.bytes) ((served gauge c o w.free l).leaves h alone)
        ∙ serves_keeps gauge a (λ s. s.bytes ≡ c.store.bytes) (λ f b s small same. wrote_keeps (λ s. s.bytes ≡ c.store.bytes) f b s same (λ low. same))
        (λ s same. same) o 0 c.store l.each refl
