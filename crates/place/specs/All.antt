-- Placing all segments of an image: what is asked, and what is left.
use Rattle.std.specs.Prelude.{◌≡◌, Bool, List, [], map, ◌*◌, ◌≤◌, ℕ, length}
use Rattle.model.specs.Image.{image_segments, with_blanks}
use Rattle.model.specs.Measures.{Measures, parts_for}
use Rattle.model.specs.Place.{Placed, place_all}
use Rattle.model.specs.Runs.{free_cells}
use Rattle.model.specs.State.{Storage, Outcome, done, refused}
use Rattle.model.specs.Table.{pointer_word, records_in, storage_in}
use Rattle.storage.specs.Stored.{Countable, Stored, Encodes}
use Rattle.place_undo.specs.Undo.{undo_upto}

abbrev pub segments_in : Measures → List ℕ → ℕ
segments_in m image = parts_for (m.segment_blocks * m.block_bytes) (length image)

-- The counts have room for one more pointer from each segment, and `words` for a pointer word for each block of each segment.
pub record PlacePre (m : Measures) (image pool ws words : List ℕ) : Type 0 where
  pub most : length image ≤ 65536
  pub stored : Stored m pool ws
  pub counts : Countable 2147483648 (records_in m.segment_blocks ws)
  pub room : length words ≡ segments_in m image * m.segment_blocks

-- step 1 of a backup, on the storage that the buffers hold
abbrev pub placed_in : Measures → List ℕ → List ℕ → List ℕ → Outcome Placed
placed_in m image pool ws = place_all with_blanks (done (record { storage = storage_in m pool ws; pointers = [] })) (image_segments m.block_bytes m.segment_blocks image)

-- `placed` says for each segment where it went: undone, all is as it was; `free` which cells are free now
pub record PlaceDone (m : Measures) (segments : ℕ) (before : Storage) (p : Placed) (pool ws placed words : List ℕ) (free : List Bool) : Type 0 where
  pub encodes : Encodes m pool ws p.storage
  pub pointers : words ≡ map pointer_word p.pointers
  pub counts : Countable 2147483904 p.storage.records
  pub cells : free ≡ free_cells p.storage
  pub back : undo_upto m placed segments p.storage ≡ before

-- a refusal alters neither buffer, and says nothing of the free cells
abbrev pub PlaceResult : Measures → List ℕ → Outcome Placed → ℕ → List ℕ → List ℕ → List ℕ → List ℕ → List ℕ → List ℕ → List Bool → Type 0
PlaceResult m image (refused n) r pool₀ ws₀ pool ws placed words free = (r ≡ n) × (pool ≡ pool₀) × (ws ≡ ws₀)
PlaceResult m image (done p) r pool₀ ws₀ pool ws placed words free = (r ≡ 0) × PlaceDone m (segments_in m image) (storage_in m pool₀ ws₀) p pool ws placed words free
