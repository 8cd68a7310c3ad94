-- The ranges of the eight capacities as numbers, as code needs them; `in_range` of the model tells whether they hold.
use Rattle.std.specs.Prelude.{◌≡◌, ◌*◌, ◌%◌, ◌≤◌}
use Rattle.model.specs.Measures.{Measures, Shape}

-- That a block's bytes are one of four and a segment's blocks one of three is told by `in_range` alone.
pub record Measured (m : Measures) : Type 0 where
  pub some_bytes : 64 ≤ m.block_bytes
  pub most_bytes : m.block_bytes ≤ 512
  pub pieces : m.block_bytes % 64 ≡ 0
  pub some_blocks : 4 ≤ m.segment_blocks
  pub most_blocks : m.segment_blocks ≤ 16
  pub most_percent : m.rebuild_percent ≤ 100

pub record Ranges (s : Shape) : Type 0 where
  pub some_tills : 1 ≤ s.capacities.tills
  pub tills : s.capacities.tills ≤ 16
  pub some_versions : 1 ≤ s.capacities.versions
  pub versions : s.capacities.versions ≤ 64
  pub some_blocks : 1 ≤ s.capacities.blocks
  pub blocks : s.capacities.blocks ≤ 1024
  pub some_records : 1 ≤ s.capacities.records
  pub records : s.capacities.records ≤ 4096
  pub some_cells : 1 ≤ s.capacities.cells
  pub cells : s.capacities.cells ≤ 32768
  pub measured : Measured s.measures
  -- an image's bytes
  pub image : s.capacities.blocks * s.measures.block_bytes ≤ 65536
