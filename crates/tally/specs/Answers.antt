-- What a tally counts, in a record and in all of them.
use Rattle.std.specs.Prelude.{◌≡◌, cond, not, List, Result, Ok, Err, ℕ, zero, suc, ◌*◌, ◌≤◌, length}
use Rattle.lists.specs.Lists.{count, total}
use Rattle.model.specs.Measures.{record_words}
use Rattle.model.specs.State.{Segment}
use Rattle.model.specs.Records.{is_free, cells_of, named_cells, count_of}
use Rattle.model.specs.Table.{record_to_words, segment_in, records_in}
use Rattle.model.specs.Calls as calls
use Rattle.storage.specs.Stored.{EncodesRecords}
use Rattle.refusals.specs.declared.Refusal.{Refusal}
use Rattle.refusals.specs.Refusals.{number_of}
use Rattle.tally.specs.declared.Tallied.{Tallied}

abbrev pub tally_result : Result Tallied Refusal → calls.TallyAnswer
tally_result (Ok r) = record { refusal = 0; cells = r.cells; records = r.records; counts = r.counts }
tally_result (Err e) = record { refusal = number_of e; cells = 0; records = 0; counts = 0 }

-- the sum of numbers
abbrev pub sum : List ℕ → ℕ
sum ns = total (λ n. n) ns

-- 1 for a record in use, from its three masks
abbrev pub in_use : ℕ → ℕ → ℕ → ℕ
in_use zero zero zero = 0
in_use zero zero (suc b) = 1
in_use zero (suc r) b = 1
in_use (suc h) r b = 1

-- a row of words is that of a record of n positions
pub record TallyRow (n : ℕ) (row : List ℕ) : Type 0 where
  pub sized : length (segment_in n row) ≡ n
  pub words : row ≡ record_to_words (segment_in n row)
  pub few : total count_of (segment_in n row) ≤ 1048576

-- the tally of one record
pub record TallyOfRecord (seg : Segment) (r : Tallied) : Type 0 where
  pub cells : r.cells ≡ length (cells_of seg)
  pub records : r.records ≡ cond (not (is_free seg)) 1 0
  pub counts : r.counts ≡ total count_of seg

-- words are records', whose counts are not too large to add
pub record TallyRows (n : ℕ) (ws : List ℕ) : Type 0 where
  pub encodes : EncodesRecords n ws (records_in n ws)
  pub short : length ws ≤ 4096 * record_words n
  pub few : total (total count_of) (records_in n ws) ≤ 1048576

-- the tally of all records
abbrev pub tally_of_records : List Segment → calls.TallyAnswer
tally_of_records segs = record { refusal = 0; cells = length (named_cells segs); records = count (λ seg. not (is_free seg)) segs; counts = total (total count_of) segs }
