-- The limit of a chain, on the storage: counts lowered and the cells that are left counted, before anything is removed.
use Rattle.std.specs.Prelude.{◌≡◌, Bool, true, false, cond, List, map, ℕ, zero, suc, ◌+◌, ◌≤◌, ◌<◌, ◌^◌, length, get_or, take, ltb}
use Rattle.model.specs.Image.{with_blanks}
use Rattle.model.specs.Measures.{Measures}
use Rattle.model.specs.Place.{Placed}
use Rattle.model.specs.Records.{count_of, named_cells}
use Rattle.model.specs.State.{Block, Pointer, Storage, Outcome, refused, done}
use Rattle.model.specs.Sweep.{release, sweep}
use Rattle.model.specs.Table.{records_in, word_to_pointer}
use Rattle.model.specs.Turn.{turning}
use Rattle.laws.specs.Storage.{Suffices}
use Rattle.storage.specs.Fits.{WithinRecords, NamesHeld}
use Rattle.storage.specs.Stored.{Countable, Stored, Encodes, position_in}

abbrev pub is_count : ℕ → Bool
is_count zero = false
is_count (suc n) = true

-- the cells left would exceed the limit, beside the others'
abbrev pub beyond : ℕ → ℕ → Measures → Storage → List Pointer → Bool
beyond others most m storage gone = ltb most (others + length (named_cells (sweep m (release storage gone)).records))

-- what step 1 did, or 21: `ps` are the previous version's pointers
abbrev pub limited : ℕ → ℕ → Measures → List Block → List Pointer → Outcome Placed → Outcome Placed
limited others most m blocks ps (refused n) = refused n
limited others most m blocks ps (done p) = cond (beyond others most m p.storage (turning with_blanks p.storage blocks ps)) (refused 21) (done p)

-- what taking back asks: each pointer let go names a held position, whose count has room
pub record TakeBackPre (m : Measures) (pool ws gone placed : List ℕ) (segments : ℕ) : Type 0 where
  pub stored : Stored m pool ws
  pub resolves : (i : ℕ) → i < length gone → WithinRecords m.segment_blocks (length ws) (word_to_pointer (get_or gone i 0)) × NamesHeld (records_in m.segment_blocks ws) (word_to_pointer (get_or gone i 0))
  pub room : (k i : ℕ) → count_of (position_in (records_in m.segment_blocks ws) k i) + length gone < 2 ^ 32
  pub inside : segments ≤ length placed

-- what letting go asks: the counts suffice, so that they can rise again
pub record RemovePre (m : Measures) (pool ws out : List ℕ) (count : ℕ) (placed : List ℕ) (segments : ℕ) : Type 0 where
  pub stored : Stored m pool ws
  pub few : count ≤ 1024
  pub within : count ≤ length out
  pub resolves : (i : ℕ) → i < length (take count out) → WithinRecords m.segment_blocks (length ws) (word_to_pointer (get_or (take count out) i 0))
  pub suffices : Suffices (records_in m.segment_blocks ws) (map word_to_pointer (take count out))
  pub counts : Countable 2147483904 (records_in m.segment_blocks ws)
  pub inside : segments ≤ length placed

-- beyond the limit the storage is as it was before; else it is swept
abbrev pub RemoveResult : Bool → Measures → Storage → List Pointer → Storage → ℕ → List ℕ → List ℕ → Type 0
RemoveResult true m storage gone before r pool ws = (r ≡ 21) × Encodes m pool ws before
RemoveResult false m storage gone before r pool ws = (r ≡ 0) × Encodes m pool ws (sweep m (release storage gone))
