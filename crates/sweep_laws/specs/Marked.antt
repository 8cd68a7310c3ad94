-- What the pool, the records' words and the marks of the occupied cells are, for a storage.
use Rattle.std.specs.Prelude.{◌≡◌, Bool, List, [], map, ℕ, ◌+◌, ◌*◌, ◌≤◌, ◌<◌, length, get_or}
use Rattle.lists.specs.Masks.{mask_of}
use Rattle.model.specs.Measures.{Measures, record_words}
use Rattle.model.specs.Records.{cell_of}
use Rattle.model.specs.State.{Storage}
use Rattle.model.specs.Sound.{is_filled}
use Rattle.model.specs.Sweep.{is_unreferenced}
use Rattle.model.specs.Table.{records_in, storage_in}
use Rattle.laws.specs.Storage.{Exact}
use Rattle.laws.specs.Ranges.{Measured}
use Rattle.records.specs.Records.{record_of}
use Rattle.records.specs.declared.Record.{Record}
use Rattle.storage.specs.Stored.{EncodesRecords, Encodes}

-- the pool, the words and the marks of a storage: its occupied cells, those that are not all zero, are marked
pub record EncodesMarked (m : Measures) (pool words : List ℕ) (marks : List Bool) (storage : Storage) : Type 0 where
  pub encodes : Encodes m pool words storage
  pub marked : marks ≡ map is_filled storage.cells

-- they are those of the storage that they are read as, whose cells are named exactly
pub record StoredMarked (m : Measures) (pool words : List ℕ) (marks : List Bool) : Type 0 where
  pub measured : Measured m
  pub encodes_marked : EncodesMarked m pool words marks (storage_in m pool words)
  pub exact : Exact (storage_in m pool words)
  pub some : 1 ≤ length marks
  pub few : length marks ≤ 32768
  pub bytes : length pool ≡ length marks * m.block_bytes
  pub short : length words ≤ 4096 * record_words m.segment_blocks

-- the records of the words, of n positions each, whose cells are below l
pub record NamedIn (n : ℕ) (words : List ℕ) (l : ℕ) : Type 0 where
  pub encodes : EncodesRecords n words (records_in n words)
  pub inside : (k j : ℕ) → k < length (records_in n words) → get_or (map cell_of (get_or (records_in n words) k [])) j 0 < l
  pub positions : n ≤ 16
  pub short : length words ≤ 4096 * record_words n

-- record k of the words, as the code has it, and the mask of those of its positions that go
pub record Loaded (n : ℕ) (words : List ℕ) (k : ℕ) (r : Record) (unreferenced : ℕ) : Type 0 where
  pub inside : k < length (records_in n words)
  pub room : k * record_words n + record_words n ≤ length words
  pub is : r ≡ record_of (get_or (records_in n words) k [])
  pub gone : unreferenced ≡ mask_of is_unreferenced (get_or (records_in n words) k [])
