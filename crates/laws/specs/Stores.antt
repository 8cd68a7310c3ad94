-- A sound store, read from its buffers: where its parts begin in the table, and what its header says.
use Rattle.std.specs.Prelude.{◌≡◌, List, ℕ, ◌+◌, ◌*◌, ◌≤◌, length, get_or}
use Rattle.std.proofs.Math.Option.{some}
use Rattle.model.specs.Measures.{Shape, till_words}
use Rattle.model.specs.Table.{shape_of, state_in}
use Rattle.model.specs.Sound.{Store, store_of}
use Rattle.laws.specs.Ranges.{Measured}

-- a till's words begin here
abbrev pub till_at : Shape → ℕ → ℕ
till_at s t = 8 + t * till_words s.capacities.versions s.capacities.blocks

abbrev pub store_read : List ℕ → List ℕ → Store
store_read pool table = record { shape = shape_of table; state = state_in (shape_of table) pool table }

-- the buffers are a sound store, which is what they are read as
pub record Sound (pool table : List ℕ) : Type 0 where
  pub is : store_of pool table ≡ some (store_read pool table)

-- what the header says, as numbers
pub record HeaderRanges (table : List ℕ) : Type 0 where
  pub eight : 8 ≤ length table
  pub tills : get_or table 0 0 ≤ 16
  pub versions : get_or table 1 0 ≤ 64
  pub blocks : get_or table 2 0 ≤ 1024
  pub records : get_or table 3 0 ≤ 4096
  pub cells : get_or table 4 0 ≤ 32768
  pub measured : Measured (shape_of table).measures
  pub image : get_or table 2 0 * (shape_of table).measures.block_bytes ≤ 65536
