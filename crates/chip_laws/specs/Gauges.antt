-- What a master finds of a gauge. Assumes nothing.
--     GaugeLaw    of a gauge with four registers and its pointer among them, on a free bus
use Rattle.std.specs.Prelude.{◌≡◌, ℕ, ◌+◌, ◌%◌, ◌≤◌, cond, List, [], ◌∷◌, length, Ok, ◌==◌, slice_index}
use Rattle.bus.specs.declared.Symbol.{Symbol}
use Rattle.orders.specs.declared.Outcome.TheVariants.{Done, NoByte}
use Rattle.orders.specs.Orders.{Order, writing, reading, Lawful, AllBytes}
use Rattle.scripts.specs.Alone.{AloneHistory}
use Rattle.slaves.specs.Slave.{replies, told, tell}
use Rattle.chips.specs.Rules.{gauge}
use Rattle.chips.specs.Chips.{Chip}
use Rattle.chip_laws.specs.Served.{ended}
use Rattle.chip_laws.specs.Laws.{Gives, Brings, Ready, only, after, at_place, read_from, counted}

module _ (c : Chip) where
  abbrev pub address : ℕ
  address = c.port.address

  abbrev pub register : ℕ → ℕ
  register k = slice_index c.store.bytes k

  abbrev pub pointer : ℕ
  pointer = c.store.place

  pub record GaugeLaw : Type 0 where
    -- it acknowledges its address
    pub acknowledges : Gives gauge c (writing address [] ∷ []) (ended Done c.store)
    -- a read brings the register at the pointer and those after it, 3 to 0, and leaves the pointer after the last
    pub reads : (n : ℕ) → 1 ≤ n → n ≤ 32
        → Gives gauge c (reading address n ∷ []) (record { outcome = Done; bytes = counted n (λ k. register ((pointer + k) % 4)); store = at_place ((pointer + n) % 4) c.store })
    -- a byte of 0 to 3 becomes the pointer
    pub points : (v : ℕ) → v ≤ 3 → Gives gauge c (writing address (v ∷ []) ∷ []) (ended Done (at_place v c.store))
    -- and a read may follow in the same order
    pub reads_from : (v n : ℕ) → v ≤ 3 → 1 ≤ n → n ≤ 31
        → Gives gauge c (read_from address v n) (record { outcome = Done; bytes = counted n (λ k. register ((v + k) % 4)); store = at_place ((v + n) % 4) c.store })
    -- any other first byte is refused and alters nothing
    pub refuses : (v : ℕ) (bs : List ℕ) → 4 ≤ v → v ≤ 255 → AllBytes bs → length bs ≤ 31
        → Gives gauge c (writing address (v ∷ bs) ∷ []) (ended (NoByte 0 0) c.store)
    -- and so is every second byte
    pub refuses_more : (v w : ℕ) (bs : List ℕ) → v ≤ 3 → w ≤ 255 → AllBytes bs → length bs ≤ 30
        → Gives gauge c (writing address (v ∷ (w ∷ bs)) ∷ []) (ended (NoByte 0 1) (at_place v c.store))
    -- no order alters a register or leaves the pointer beyond the last
    pub stays : (o : Order) → Lawful o → (h : List Symbol) → AloneHistory o (replies (only gauge c)) h
        → Ready 4 (after gauge c h) × ((after gauge c h).store.bytes ≡ c.store.bytes)
    -- a register of 0 to 3 can be told; it then has the byte told, and the others and the pointer are what they were
    pub is_told : (q : ℕ) → q ≤ 3 → told 0 q (only gauge c) ≡ Ok tt
    pub tells : (q b : ℕ) → q ≤ 3 → b ≤ 255 → (v : ℕ) → v ≤ 3
        → Brings (tell 0 q b (only gauge c)) (read_from address v 1) (cond (v == q) b (register v) ∷ [])
    pub tells_in_place : (q b : ℕ) → q ≤ 3 → b ≤ 255
        → Brings (tell 0 q b (only gauge c)) (reading address 1 ∷ []) (cond (pointer == q) b (register pointer) ∷ [])

abbrev pub GaugesKeepTheirLaw : Type 0
GaugesKeepTheirLaw = (c : Chip) → Ready 4 c → GaugeLaw c
