-- The ways of removal, on the storage that the pool and the words are read as.
use Rattle.std.specs.Prelude.{◌≡◌, List, [], ℕ, ◌-◌, ◌<◌, get_or}
use Rattle.std.proofs.Math.Option.{some}
use Rattle.lists.specs.Lists.{count}
use Rattle.model.specs.Measures.{Measures}
use Rattle.model.specs.Records.{is_held}
use Rattle.model.specs.Runs.{Run, find_run}
use Rattle.model.specs.State.{Segment, Storage}
use Rattle.model.specs.Sweep.{is_unreferenced, free_record, strike_only, compact, remove_from}
use Rattle.model.specs.Table.{records_in, storage_in}

abbrev pub segment_at : ℕ → List ℕ → ℕ → Segment
segment_at n words k = get_or (records_in n words) k []

-- how many of record k's positions go, are held, and stay
abbrev pub unreferenced_at : ℕ → List ℕ → ℕ → ℕ
unreferenced_at n words k = count is_unreferenced (segment_at n words k)

abbrev pub held_at : ℕ → List ℕ → ℕ → ℕ
held_at n words k = count is_held (segment_at n words k)

abbrev pub referenced_at : ℕ → List ℕ → ℕ → ℕ
referenced_at n words k = held_at n words k - unreferenced_at n words k

abbrev pub freed : Measures → List ℕ → List ℕ → ℕ → Storage
freed m pool words k = free_record m (storage_in m pool words) k (segment_at m.segment_blocks words k)

abbrev pub struck_only : Measures → List ℕ → List ℕ → ℕ → Storage
struck_only m pool words k = strike_only m (storage_in m pool words) k (segment_at m.segment_blocks words k)

abbrev pub compacted : Measures → List ℕ → List ℕ → ℕ → Storage
compacted m pool words k =
    compact m (storage_in m pool words) k (segment_at m.segment_blocks words k) (find_run (storage_in m pool words) (referenced_at m.segment_blocks words k))

abbrev pub removed_at : Measures → List ℕ → List ℕ → ℕ → Storage
removed_at m pool words k = remove_from m (storage_in m pool words) k (segment_at m.segment_blocks words k) (unreferenced_at m.segment_blocks words k) (held_at m.segment_blocks words k)

-- the run for the positions of record k that stay begins at a cell
pub record Chosen (m : Measures) (pool words : List ℕ) (k start : ℕ) : Type 0 where
  pub run : Run
  pub found : find_run (storage_in m pool words) (referenced_at m.segment_blocks words k) ≡ some run
  pub at : run.start ≡ start
  pub needed : 0 < referenced_at m.segment_blocks words k
