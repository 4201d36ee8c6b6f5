-- What a master finds of a memory. Assumes nothing.
--     Written      what a write leaves to be read: what was written, and elsewhere what was there before
--     MemoryLaw    of a memory with 256 cells and its place among them, on a free bus
use Rattle.std.specs.Prelude.{◌≡◌, ℕ, ◌+◌, ◌%◌, ◌<◌, ◌≤◌, cond, List, [], ◌∷◌, length, Ok, ◌==◌, slice_index}
use Rattle.bus.specs.declared.Symbol.{Symbol}
use Rattle.orders.specs.declared.Outcome.TheVariants.{Done}
use Rattle.orders.specs.Orders.{Order, writing, reading, Lawful, AllBytes}
use Rattle.scripts.specs.Alone.{AloneHistory}
use Rattle.slaves.specs.Slave.{replies, told, tell}
use Rattle.chips.specs.Rules.{memory}
use Rattle.chips.specs.Chips.{Chip}
use Rattle.chip_laws.specs.Served.{ended}
use Rattle.chip_laws.specs.Laws.{Gives, Brings, Ready, only, after, at_place, read_from, counted}

-- d is the memory c after bs was written from place q on
pub record Written (c : Chip) (q : ℕ) (bs : List ℕ) (d : Chip) : Type 0 where
  pub ready : Ready 256 d
  pub same_address : d.port.address ≡ c.port.address
  pub moved_on : d.store.place ≡ (q + length bs) % 256
  -- reading as many from that place brings what was written
  pub there : 1 ≤ length bs → Brings (only memory d) (read_from c.port.address q (length bs)) bs
  -- any other place brings the byte that it would have brought before
  pub elsewhere : (p : ℕ) → p < 256 → ((k : ℕ) → k < length bs → ¬ (p ≡ (q + k) % 256))
      → (b : ℕ) × Brings (only memory c) (read_from c.port.address p 1) (b ∷ []) × Brings (only memory d) (read_from c.port.address p 1) (b ∷ [])

module _ (c : Chip) where
  abbrev pub address : ℕ
  address = c.port.address

  abbrev pub cell : ℕ → ℕ
  cell k = slice_index c.store.bytes k

  abbrev pub place : ℕ
  place = c.store.place

  pub record MemoryLaw : Type 0 where
    -- it acknowledges its address
    pub acknowledges : Gives memory c (writing address [] ∷ []) (ended Done c.store)
    -- a read brings the byte at the place and those after it, 255 to 0, and leaves the place after the last
    pub reads : (n : ℕ) → 1 ≤ n → n ≤ 32
        → Gives memory c (reading address n ∷ []) (record { outcome = Done; bytes = counted n (λ k. cell ((place + k) % 256)); store = at_place ((place + n) % 256) c.store })
    -- a first byte becomes the place, and a read may follow in the same order
    pub points : (q : ℕ) → q < 256 → Gives memory c (writing address (q ∷ []) ∷ []) (ended Done (at_place q c.store))
    pub reads_from : (q n : ℕ) → q < 256 → 1 ≤ n → n ≤ 31
        → Gives memory c (read_from address q n) (record { outcome = Done; bytes = counted n (λ k. cell ((q + k) % 256)); store = at_place ((q + n) % 256) c.store })
    -- all further bytes are accepted, and are there to be read
    pub accepts : (q : ℕ) (bs : List ℕ) → q < 256 → AllBytes bs → length bs ≤ 31 → Brings (only memory c) (writing address (q ∷ bs) ∷ []) []
    pub writes : (q : ℕ) (bs : List ℕ) → q < 256 → AllBytes bs → length bs ≤ 31
        → (h : List Symbol) → AloneHistory (writing address (q ∷ bs) ∷ []) (replies (only memory c)) h → Written c q bs (after memory c h)
    -- no order leaves the place beyond the last, or a cell with more than a byte
    pub stays : (o : Order) → Lawful o → (h : List Symbol) → AloneHistory o (replies (only memory c)) h → Ready 256 (after memory c h)
    -- a cell can be told; it then has the byte told, and the others and the place are what they were
    pub is_told : (q : ℕ) → q < 256 → told 0 q (only memory c) ≡ Ok tt
    pub tells : (q b : ℕ) → q < 256 → b < 256 → (p : ℕ) → p < 256
        → Brings (tell 0 q b (only memory c)) (read_from address p 1) (cond (p == q) b (cell p) ∷ [])
    pub tells_in_place : (q b : ℕ) → q < 256 → b < 256
        → Brings (tell 0 q b (only memory c)) (reading address 1 ∷ []) (cond (place == q) b (cell place) ∷ [])

abbrev pub MemoriesKeepTheirLaw : Type 0
MemoriesKeepTheirLaw = (c : Chip) → Ready 256 c → MemoryLaw c
