-- What placing a segment asks for.
use Rattle.std.specs.Prelude.{◌≡◌, Bool, List, ◌<◌, ◌≤◌, ℕ, length}
use Rattle.std.proofs.Math.Option.{none}
use Rattle.lists.specs.Lists.{first_from}
use Rattle.model.specs.Image.{blocks_from, with_blanks}
use Rattle.model.specs.Measures.{Measures}
use Rattle.model.specs.Records.{equals}
use Rattle.model.specs.Runs.{free_cells}
use Rattle.model.specs.Table.{records_in, storage_in}
use Rattle.place_words.specs.Marks.{blank_mask, stored_mask}
use Rattle.storage.specs.Stored.{Countable, Stored}

-- every count can be raised once more, and `words` has room for the segment's pointers
pub record SegmentPre (m : Measures) (from : ℕ) (pool ws : List ℕ) (free : List Bool) (words : List ℕ) : Type 0 where
  pub begins : from ≤ 65536
  pub stored : Stored m pool ws
  pub counts : Countable 4294967295 (records_in m.segment_blocks ws)
  pub cells : free ≡ free_cells (storage_in m pool ws)
  pub room : length words ≡ m.segment_blocks

-- the masks are those of a segment that has a stored block
pub record Masked (m : Measures) (image : List ℕ) (from mask blank : ℕ) : Type 0 where
  pub is : mask ≡ stored_mask (blocks_from m.block_bytes image from m.segment_blocks)
  pub blanks : blank ≡ blank_mask (blocks_from m.block_bytes image from m.segment_blocks)
  pub some : 0 < mask

-- no record serves the segment
abbrev pub Unmatched : Measures → List ℕ → ℕ → List ℕ → List ℕ → Type 0
Unmatched m image from pool ws =
    first_from (equals with_blanks (storage_in m pool ws) (blocks_from m.block_bytes image from m.segment_blocks)) 0 (records_in m.segment_blocks ws) ≡ none
