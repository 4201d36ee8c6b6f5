-- What a block shows, offers and refuses in a few short runs. Assumes nothing.
--     reads_status    what IICSE0 reads as after these events since reset
--     returns         what a write returns after these events
--     alone           what the block offers in so many slots that carry its own offers
--     status          its value, by its upper eight bits: MSTS0 ALD0 EXC0 COI0 TRC0 ACKD0 STD0 SPD0
use Rattle.std.specs.Prelude.{◌≡◌, ℕ, zero, suc, ◌+◌, ◌*◌, ◌/◌, List, [], ◌∷◌, ◌++◌}
use Rattle.bus.specs.declared.Symbol.{Symbol}
use Rattle.bus.specs.declared.Symbol.TheVariants.{Zero, Stop, Start, One}
use Rattle.bus.specs.Symbols.{bit}
use Rattle.block.specs.declared.Block.{Block}
use Rattle.block.specs.Tasks.{offers}
use Rattle.block.specs.Heard.{heard}
use Rattle.block.specs.Access.{IIC0, IICC0, SVA0, IICSE0, IICF0, read_number, read_value, write_number, reset_block}
use Rattle.block_laws.specs.Laws.{Event, Write, Slot, ran}

abbrev pub status : (a b c d e f g h : ℕ) → ℕ
status a b c d e f g h = 256 * (128 * a + (64 * b + (32 * c + (16 * d + (8 * e + (4 * f + (2 * g + h)))))))

abbrev pub reads_status : List Event → ℕ
reads_status l = read_value (ran reset_block l) IICSE0

-- a byte on the bus and its ninth slot
abbrev pub byte : ℕ → Symbol → List Event
byte v ninth =
    Slot (bit (v / 128)) ∷ Slot (bit (v / 64)) ∷ Slot (bit (v / 32)) ∷ Slot (bit (v / 16)) ∷
    Slot (bit (v / 8)) ∷ Slot (bit (v / 4)) ∷ Slot (bit (v / 2)) ∷ Slot (bit v) ∷ Slot ninth ∷ []

-- IICE0 and WTIM0, then STT0 too; its S, and the address byte into IIC0
abbrev pub addressed : ℕ → List Event
addressed a = Write IICC0 136 ∷ Write IICC0 138 ∷ Slot Start ∷ Write IIC0 a ∷ []

-- SPT0, and its P
abbrev pub ended : List Event
ended = Write IICC0 137 ∷ Slot Stop ∷ []

-- a write of the byte 7 to address 80
abbrev pub writes_address : List Event
writes_address = addressed 160 ++ byte 160 Zero

abbrev pub writes_byte : List Event
writes_byte = writes_address ++ (Write IIC0 7 ∷ byte 7 Zero)

-- a read of one byte from address 72: WREL0 with ACKE0 = 0, and the slave sends 25
abbrev pub reads_address : List Event
reads_address = addressed 145 ++ byte 145 Zero

abbrev pub reads_byte : List Event
reads_byte = reads_address ++ (Write IICC0 168 ∷ byte 25 One)

-- the same write, then S again and a read
abbrev pub restarts : List Event
restarts = writes_byte ++ (Write IICC0 138 ∷ Slot Start ∷ [])

abbrev pub reads_after : List Event
reads_after = restarts ++ (Write IIC0 145 ∷ byte 145 Zero)

-- address 80 against one that begins 1, 0, 0: the third address slot carries 0
abbrev pub loses : List Event
loses = addressed 160 ++ (Slot One ∷ Slot Zero ∷ Slot Zero ∷ [])

-- another master writes to address 80, and this one has 80 in SVA0, where bit 0 does not count
abbrev pub follows : List Event
follows = Write IICC0 136 ∷ Write SVA0 161 ∷ Slot Start ∷ byte 160 Zero

abbrev pub offered : ℕ → Block → List Symbol
offered zero b = []
offered (suc n) b = offers b ∷ offered n (heard b (offers b))

abbrev pub alone : ℕ → List Event → List Symbol
alone n l = offered n (ran reset_block l)

abbrev pub returns : List Event → ℕ → ℕ → ℕ
returns l o v = write_number (ran reset_block l) o v

-- a master that keeps the bus, one that loses, one that follows
pub record StatusRows : Type 0 where
  pub write_address : reads_status writes_address ≡ status 1 0 0 0 1 1 1 0
  pub write_byte : reads_status writes_byte ≡ status 1 0 0 0 1 1 0 0
  pub write_stop : reads_status (writes_byte ++ ended) ≡ status 0 0 0 0 0 0 0 1
  pub read_address : reads_status reads_address ≡ status 1 0 0 0 0 1 1 0
  pub read_byte : reads_status reads_byte ≡ status 1 0 0 0 0 0 0 0
  pub read_stop : reads_status (reads_byte ++ ended) ≡ status 0 0 0 0 0 0 0 1
  pub restart : reads_status restarts ≡ status 1 0 0 0 1 1 1 0
  pub read_after : reads_status reads_after ≡ status 1 0 0 0 0 1 1 0
  pub loser : reads_status loses ≡ status 0 1 0 0 0 0 1 0
  -- extension codes 0000xxx and 1111xxx, and the addresses next to them
  pub code_15 : reads_status (addressed 15 ++ byte 15 Zero) ≡ status 1 0 1 0 0 1 1 0
  pub code_16 : reads_status (addressed 16 ++ byte 16 Zero) ≡ status 1 0 0 0 1 1 1 0
  pub code_239 : reads_status (addressed 239 ++ byte 239 Zero) ≡ status 1 0 0 0 0 1 1 0
  pub code_240 : reads_status (addressed 240 ++ byte 240 Zero) ≡ status 1 0 1 0 1 1 1 0
  pub follower : reads_status follows ≡ status 0 0 0 1 0 1 1 0

-- WREL0 clears TRC0; LREL0 all but ALD0 and SPD0; IICE0 = 0 all; SPD0 lasts until the first address slot
pub record FurtherRows : Type 0 where
  pub again : reads_status (writes_byte ++ (ended ++ (Write IICC0 138 ∷ Slot Start ∷ []))) ≡ status 1 0 0 0 1 0 1 1
  pub again_address : reads_status (writes_byte ++ (ended ++ writes_address)) ≡ status 1 0 0 0 1 1 1 0
  pub receives : reads_status (writes_address ++ (Write IICC0 168 ∷ [])) ≡ status 1 0 0 0 0 1 1 0
  pub leaves : reads_status (writes_address ++ (Write IICC0 200 ∷ [])) ≡ status 0 0 0 0 0 0 0 0
  pub follower_leaves : reads_status (follows ++ (Write IICC0 200 ∷ [])) ≡ status 0 0 0 0 0 0 0 0
  pub loser_leaves : reads_status (loses ++ (Write IICC0 200 ∷ [])) ≡ status 0 1 0 0 0 0 0 0
  pub stopped_leaves : reads_status (writes_byte ++ (ended ++ (Write IICC0 200 ∷ []))) ≡ status 0 0 0 0 0 0 0 1
  pub stopped_off : reads_status (writes_byte ++ (ended ++ (Write IICC0 8 ∷ []))) ≡ status 0 0 0 0 0 0 0 0

-- what is offered: S, a byte's bits, 0 in the ninth slot of a byte received with ACKE0 = 1, P; IIC0 is the last byte moved
pub record OfferRows : Type 0 where
  pub offers_start : alone 1 (Write IICC0 136 ∷ Write IICC0 138 ∷ []) ≡ Start ∷ []
  pub offers_byte : alone 8 (addressed 160) ≡ One ∷ Zero ∷ One ∷ Zero ∷ Zero ∷ Zero ∷ Zero ∷ Zero ∷ []
  pub offers_more : alone 9 (reads_address ++ (Write IICC0 172 ∷ [])) ≡ One ∷ One ∷ One ∷ One ∷ One ∷ One ∷ One ∷ One ∷ Zero ∷ []
  pub offers_last : alone 9 (reads_address ++ (Write IICC0 168 ∷ [])) ≡ One ∷ One ∷ One ∷ One ∷ One ∷ One ∷ One ∷ One ∷ One ∷ []
  pub offers_stop : alone 1 (writes_byte ++ (Write IICC0 137 ∷ [])) ≡ Stop ∷ []
  pub offers_wait : alone 2 writes_byte ≡ One ∷ One ∷ []
  pub offers_lost : alone 3 loses ≡ One ∷ One ∷ One ∷ []
  pub moved_out : read_value (ran reset_block writes_byte) IIC0 ≡ 7
  pub moved_in : read_value (ran reset_block reads_byte) IIC0 ≡ 25

-- what is refused, down the table
pub record RefusalRows : Type 0 where
  pub no_register : returns [] 4 0 ≡ 15
  pub read_only : returns [] IICSE0 256 ≡ 15
  pub over : returns [] IICF0 256 ≡ 16
  pub early_wait : returns [] IICC0 128 ≡ 16
  pub no_wait : returns (Write IICC0 136 ∷ []) IIC0 160 ≡ 17
  pub off_start : returns [] IICC0 10 ≡ 17
  pub busy_start : returns (Write IICC0 136 ∷ Slot Start ∷ []) IICC0 138 ≡ 17
  pub start_wait : returns (Write IICC0 138 ∷ Slot Start ∷ []) IICC0 138 ≡ 17
  pub start_wait_stop : returns (Write IICC0 138 ∷ Slot Start ∷ []) IICC0 137 ≡ 17
  pub start_wait_byte : returns (Write IICC0 138 ∷ Slot Start ∷ []) IIC0 255 ≡ 0
  pub answered : returns (writes_address ++ (Write IIC0 7 ∷ [])) IIC0 7 ≡ 17
  pub no_wait_two : returns (Write IICC0 136 ∷ []) IICC0 232 ≡ 17
  pub wait_two : returns writes_address IICC0 232 ≡ 18
  pub wait_start_stop : returns writes_address IICC0 139 ≡ 18
  pub always_leaves : returns (addressed 160) IICC0 200 ≡ 0
  pub byte_moves : read_number (ran reset_block (addressed 160)) IIC0 ≡ 17
  pub byte_moved : read_number (ran reset_block writes_address) IIC0 ≡ 0
