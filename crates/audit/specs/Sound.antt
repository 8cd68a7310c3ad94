-- What the whole check tells, part by part.
use Rattle.std.specs.Prelude.{◌≡◌, ℕ, ◌+◌, ◌*◌, ◌<◌, List, length, get_or, take, drop}
use Rattle.lists.specs.Rows.{chunks}
use Rattle.lists.specs.Each.{Each}
use Rattle.model.specs.Measures.{Measures, till_words, record_words, records_at}
use Rattle.model.specs.Table.{shape_of, tills_part, records_part, storage_in}
use Rattle.laws.specs.Stores.{HeaderRanges}
use Rattle.audit_words.specs.Words.{RecordForm}
use Rattle.audit_cells.specs.Cells.{CellsSound}
use Rattle.audit_counts.specs.Counters.{CountsExact}
use Rattle.audit_tills.specs.Sound.{tills_pointers, TillSound}

-- a table's capacities are in range, and the buffers have the lengths of a store of these measures
pub record Sized (m : Measures) (pool ws : List ℕ) : Type 0 where
  pub header : HeaderRanges ws
  pub bytes : length pool ≡ get_or ws 4 0 * m.block_bytes
  pub words : length ws ≡ records_at (shape_of ws).capacities + get_or ws 3 0 * record_words m.segment_blocks

-- the words of `count` tills of `v` versions of `b` blocks, and those of the records
pub record Body (m : Measures) (pool tills records : List ℕ) (count v b : ℕ) : Type 0 where
  pub forms : Each (RecordForm m.segment_blocks) (chunks (record_words m.segment_blocks) records)
  pub cells : CellsSound (storage_in m pool records)
  pub tills_sound : (t : ℕ) → t < count → TillSound m.block_bytes (storage_in m pool records) v b (take (till_words v b) (drop (t * till_words v b) tills))
  pub counts : CountsExact m.segment_blocks (tills_pointers m.block_bytes v b count tills) records

-- those behind a table's header
abbrev pub TableBody : Measures → List ℕ → List ℕ → Type 0
TableBody m pool ws =
    (let c = (shape_of ws).capacities in Body m pool (tills_part c ws) (records_part c ws) c.tills c.versions c.blocks)
