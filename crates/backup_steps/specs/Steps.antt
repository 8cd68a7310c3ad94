-- What the three steps ask for, and what they leave.
use Rattle.std.specs.Prelude.{◌≡◌, Bool, true, false, List, map, ℕ, ◌≤◌, ◌<◌, length}
use Rattle.lists.specs.Each.{Each}
use Rattle.model.specs.Image.{image_blocks, with_blanks}
use Rattle.model.specs.Measures.{Measures}
use Rattle.model.specs.Place.{Placed}
use Rattle.model.specs.State.{Block, Pointer, Storage, Outcome, refused, done}
use Rattle.model.specs.Sweep.{release, sweep}
use Rattle.model.specs.Table.{records_in, storage_in, pointer_word, word_to_pointer}
use Rattle.model.specs.Turn.{turn, turning}
use Rattle.laws.specs.Storage.{StorageFits, Suffices}
use Rattle.place.specs.All.{PlacePre, segments_in}
use Rattle.place_undo.specs.Undo.{undo_upto}
use Rattle.storage.specs.Stored.{Countable, Encodes, Stored}
use Rattle.turn.specs.Turn.{Followable}
use Rattle.backup_steps.specs.Limit.{beyond}

-- the words are those of pointers that can be followed into the records' l words, of n positions each
pub record Pointed (n l : ℕ) (ws : List ℕ) : Type 0 where
  pub few : length ws ≤ 1024
  pub canonical : ws ≡ map pointer_word (map word_to_pointer ws)
  pub good : Each (Followable n l) (map word_to_pointer ws)

pub record TurnPre (m : Measures) (image pool ws prev placed : List ℕ) : Type 0 where
  pub short : length image ≤ 65536
  pub stored : Stored m pool ws
  pub pointers : Pointed m.segment_blocks (length ws) prev
  pub suffices : Suffices (records_in m.segment_blocks ws) (map word_to_pointer prev)
  pub counts : Countable 2147483904 (records_in m.segment_blocks ws)
  pub placings : length placed ≡ 256

pub record TurnDone (m : Measures) (storage : Storage) (blocks : List Block) (ps : List Pointer) (pool ws prev : List ℕ) : Type 0 where
  pub encodes : Encodes m pool ws (sweep m (release storage (turning with_blanks storage blocks ps)))
  pub words : prev ≡ map pointer_word (turn with_blanks storage blocks ps)

-- beyond the limit the storage is as it was before
abbrev pub TurnResultIf : Bool → Measures → Storage → List Block → List Pointer → Storage → ℕ → List ℕ → List ℕ → List ℕ → Type 0
TurnResultIf true m storage blocks ps before r pool ws prev = (r ≡ 21) × Encodes m pool ws before
TurnResultIf false m storage blocks ps before r pool ws prev = (r ≡ 0) × TurnDone m storage blocks ps pool ws prev

abbrev pub TurnResult : ℕ → ℕ → Measures → List ℕ → Storage → List Pointer → List ℕ → ℕ → List ℕ → List ℕ → List ℕ → Type 0
TurnResult others most m image storage ps placed r pool ws prev =
    TurnResultIf (beyond others most m storage (turning with_blanks storage (image_blocks m.block_bytes image) ps)) m storage (image_blocks m.block_bytes image) ps
    (undo_upto m placed (segments_in m image) storage) r pool ws prev

pub record StorePre (m : Measures) (image pool ws words prev : List ℕ) : Type 0 where
  pub ready : PlacePre m image pool ws words
  pub fits : StorageFits m (storage_in m pool ws)
  pub pointers : Pointed m.segment_blocks (length ws) prev
  pub suffices : Suffices (records_in m.segment_blocks ws) (map word_to_pointer prev)

-- a refusal alters neither buffer
abbrev pub StoreResult : Measures → List ℕ → List Pointer → Outcome Placed → ℕ → List ℕ → List ℕ → List ℕ → List ℕ → List ℕ → List ℕ → Type 0
StoreResult m image ps (refused n) r pool₀ ws₀ pool ws words prev = (r ≡ n) × (0 < n) × (pool ≡ pool₀) × (ws ≡ ws₀)
StoreResult m image ps (done p) r pool₀ ws₀ pool ws words prev =
    (r ≡ 0) × TurnDone m p.storage (image_blocks m.block_bytes image) ps pool ws prev × (words ≡ map pointer_word p.pointers)
