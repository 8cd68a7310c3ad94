-- When a pool and the records' words are those of a storage.
use Rattle.std.specs.Prelude.{◌≡◌, true, List, [], ℕ, ◌*◌, ◌≤◌, ◌<◌, length, get_or}
use Rattle.lists.specs.Each.{Each}
use Rattle.lists.specs.Rows.{joined, rows}
use Rattle.model.specs.Measures.{Measures, record_words}
use Rattle.model.specs.Records.{is_held, count_of}
use Rattle.model.specs.State.{Block, Position, null_position, Segment, Storage}
use Rattle.model.specs.Table.{record_to_words, storage_in}
use Rattle.laws.specs.Storage.{Exact}
use Rattle.laws.specs.Ranges.{Measured}

-- the words are those of the records, which have `n` positions each
pub record EncodesRecords (n : ℕ) (ws : List ℕ) (segs : List Segment) : Type 0 where
  pub sized : Each (λ (s : Segment). length s ≡ n) segs
  pub words : ws ≡ rows record_to_words segs

-- the bytes are those of the cells, which have so many bytes each
pub record EncodesCells (bytes : ℕ) (pool : List ℕ) (cells : List Block) : Type 0 where
  pub blocks : Each (λ (b : Block). length b ≡ bytes) cells
  pub joins : pool ≡ joined cells

-- the pool and the words are those of the storage
pub record Encodes (m : Measures) (pool words : List ℕ) (storage : Storage) : Type 0 where
  pub cells : EncodesCells m.block_bytes pool storage.cells
  pub records : EncodesRecords m.segment_blocks words storage.records

-- they are those of the storage that they are read as; its cells are named exactly, and are 1 to 32,768, beside at most 4,096 records
pub record Stored (m : Measures) (pool words : List ℕ) : Type 0 where
  pub measured : Measured m
  pub encodes : Encodes m pool words (storage_in m pool words)
  pub exact : Exact (storage_in m pool words)
  pub some : m.block_bytes ≤ length pool
  pub few : length pool ≤ 32768 * m.block_bytes
  pub short : length words ≤ 4096 * record_words m.segment_blocks

abbrev pub position_in : List Segment → ℕ → ℕ → Position
position_in segs k i = get_or (get_or segs k []) i null_position

-- every held position has a count of at least 1, and no count reaches the bound
pub record Countable (bound : ℕ) (segs : List Segment) : Type 0 where
  pub some : (k i : ℕ) → is_held (position_in segs k i) ≡ true → 0 < count_of (position_in segs k i)
  pub below : (k i : ℕ) → count_of (position_in segs k i) < bound
