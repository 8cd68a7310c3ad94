-- What placing a segment answers and leaves: the refusal, or 0 and the record (a number past the last one if none is needed).
use Rattle.std.specs.Prelude.{◌≡◌, Bool, List, Option, None, Some, Result, Ok, Err, map, ◌<◌, ℕ}
use Rattle.model.specs.Image.{blocks_from, with_blanks}
use Rattle.model.specs.Measures.{Measures}
use Rattle.model.specs.Place.{Placed, place_segment}
use Rattle.model.specs.Runs.{free_cells}
use Rattle.model.specs.State.{Outcome, Storage, done, refused}
use Rattle.model.specs.Table.{pointer_word, storage_in}
use Rattle.numbers.specs.declared.RecordNumber.{RecordNumber}
use Rattle.place_undo.specs.Undo.{undo_record}
use Rattle.refusals.specs.declared.Refusal.{Refusal}
use Rattle.storage.specs.Stored.{Encodes}

-- the buffers hold the placed storage; undone, it is the storage before
pub record SegmentDone (m : Measures) (s : Storage) (p : Placed) (k : ℕ) (pool ws : List ℕ) (free : List Bool) (words : List ℕ) : Type 0 where
  pub encodes : Encodes m pool ws p.storage
  pub cells : free ≡ free_cells p.storage
  pub pointers : words ≡ map pointer_word p.pointers
  pub undo : undo_record m p.storage k ≡ s

-- a refusal alters neither buffer
abbrev pub SegmentResult : Measures → Storage → Outcome Placed → ℕ → ℕ → List ℕ → List ℕ → List ℕ → List ℕ → List Bool → List ℕ → Type 0
SegmentResult m s (refused n) r k pool₀ ws₀ pool ws free words = (r ≡ n) × (0 < n) × (pool ≡ pool₀) × (ws ≡ ws₀)
SegmentResult m s (done p) r k pool₀ ws₀ pool ws free words = (r ≡ 0) × SegmentDone m s p k pool ws free words

-- the number of the record that a placing answers: 4096, past the last record, where none is needed, and 0 where it is refused
abbrev pub placed_number : Result (Option RecordNumber) Refusal → ℕ
placed_number (Ok (Some k)) = k.0
placed_number (Ok None) = 4096
placed_number (Err _) = 0

-- the image's segment that begins at a byte is placed on the storage that the buffers hold
abbrev pub SegmentResultAt : Measures → List ℕ → ℕ → ℕ → ℕ → List ℕ → List ℕ → List ℕ → List ℕ → List Bool → List ℕ → Type 0
SegmentResultAt m image from r k pool₀ ws₀ pool ws free words =
    SegmentResult m (storage_in m pool₀ ws₀) (place_segment with_blanks (storage_in m pool₀ ws₀) (blocks_from m.block_bytes image from m.segment_blocks)) r k pool₀ ws₀ pool ws free words
