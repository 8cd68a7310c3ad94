-- Placings undone, the last first.
use Rattle.std.specs.Prelude.{cond, List, [], map, suc, zero, ℕ, get_or, set}
use Rattle.lists.specs.Lists.{all_zero}
use Rattle.model.specs.Measures.{Measures}
use Rattle.model.specs.Records.{count_of}
use Rattle.model.specs.State.{Segment, Storage}
use Rattle.model.specs.Sweep.{free_record, one_less}

-- a placing into record `k`: each count falls by 1, and a record whose counts are then all 0 was free before
unfoldable pub undo_in : Measures → Storage → ℕ → Segment → Storage
undo_in m storage k rec =
    cond (all_zero (map count_of rec)) (free_record m storage k rec) (record { records = set storage.records k rec; cells = storage.cells })

-- a number past the last record, of a placing that needed none, leaves the storage as it is
unfoldable pub undo_record : Measures → Storage → ℕ → Storage
undo_record m storage k = undo_in m storage k (map one_less (get_or storage.records k []))

-- the first `j` placings undone, whose records are given
unfoldable pub undo_upto : Measures → List ℕ → ℕ → Storage → Storage
undo_upto m placed zero s = s
undo_upto m placed (suc j) s = undo_upto m placed j (undo_record m s (get_or placed j 0))
