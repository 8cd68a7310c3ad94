-- "Measures": the measures and the capacities of a store, their ranges, and the lengths of its two buffers.
use Rattle.std.specs.Prelude.{ℕ, ◌+◌, ◌-◌, ◌*◌, ◌/◌, Bool, [], ◌∷◌, eqb, leb}
use Rattle.lists.specs.Lists.{all_of, is_in}

-- A block's bytes, a segment's blocks, and the percentage of a record's positions from which a removal copies the others together.
pub record Measures : Type 0 where
  pub block_bytes : ℕ
  pub segment_blocks : ℕ
  pub rebuild_percent : ℕ

-- the room of a store: tills, versions per till, blocks per image, segment records, cells
pub record Capacities : Type 0 where
  pub tills : ℕ
  pub versions : ℕ
  pub blocks : ℕ
  pub records : ℕ
  pub cells : ℕ

-- the eight capacities that a store is laid out with
pub record Shape : Type 0 where
  pub measures : Measures
  pub capacities : Capacities

-- The measures of 01's page: a block is 64 bytes and a segment is eight blocks; 002's default threshold is 20%.
abbrev pub base_measures : Measures
base_measures = record { block_bytes = 64; segment_blocks = 8; rebuild_percent = 20 }

unfoldable pub is_base : Measures → Bool
is_base m = all_of (eqb m.block_bytes 64 ∷ eqb m.segment_blocks 8 ∷ eqb m.rebuild_percent 20 ∷ [])

unfoldable pub is_within : ℕ → ℕ → ℕ → Bool
is_within low high n = all_of (leb low n ∷ leb n high ∷ [])

-- a block size of 64, 128, 256 or 512, blocks per segment 4, 8 or 16, and a rebuild percentage from 0 to 100
unfoldable pub are_measures : Measures → Bool
are_measures m =
    all_of (is_in m.block_bytes (64 ∷ 128 ∷ 256 ∷ 512 ∷ []) ∷ is_in m.segment_blocks (4 ∷ 8 ∷ 16 ∷ []) ∷ leb m.rebuild_percent 100 ∷ [])

-- Tills 1 to 16, versions per till 1 to 64, segment records 1 to 4,096, cells 1 to 32,768. An image is at most 65,536 bytes, so blocks per image stop at
-- 65,536 divided by the block size.
unfoldable pub in_range : Shape → Bool
in_range s =
    all_of
    (is_within 1 16 s.capacities.tills
    ∷ is_within 1 64 s.capacities.versions
    ∷ is_within 1 (65536 / s.measures.block_bytes) s.capacities.blocks
    ∷ is_within 1 4096 s.capacities.records
    ∷ is_within 1 32768 s.capacities.cells
    ∷ are_measures s.measures
    ∷ [])

-- how many parts of `k` hold `n`: blocks for bytes, segments for bytes
unfoldable pub parts_for : ℕ → ℕ → ℕ
parts_for k n = (n + (k - 1)) / k

-- ---- lengths. The table is a header, the tills, the records; docs/FORMAT.md has every word.

abbrev pub header_words : ℕ
header_words = 8

-- a version's slot, for images of `b` blocks
abbrev pub slot_words : ℕ → ℕ
slot_words b = 3 + b

-- a till, for `v` versions of `b` blocks
abbrev pub till_words : ℕ → ℕ → ℕ
till_words v b = 4 + v * slot_words b

-- a record of `n` positions
abbrev pub record_words : ℕ → ℕ
record_words n = 3 + 2 * n

-- where the records begin, behind the tills
abbrev pub records_at : Capacities → ℕ
records_at c = header_words + c.tills * till_words c.versions c.blocks

unfoldable pub table_words : Shape → ℕ
table_words s = records_at s.capacities + s.capacities.records * record_words s.measures.segment_blocks

unfoldable pub pool_bytes : Shape → ℕ
pool_bytes s = s.capacities.cells * s.measures.block_bytes
