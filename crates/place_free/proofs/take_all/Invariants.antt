use Rattle.std.proofs.Common.{◌≡◌, drop, length}
use Rattle.std.specs.Slice.Iter.{chunks_exact_rest, chunks_exact_size}
use Rattle.model.specs.Records.{named_cells}
use Rattle.model.specs.Table.{records_in}
use Rattle.place_free.specs.Free.{without_cells}
use Rattle.place_free.proofs.Chunked.{Chunked}
use Rattle.place_free.proofs.take_all.Given as goal

abbrev pub invariant-loop-row : goal.invariant-loop-row
invariant-loop-row l =
    (goal.iterator-loop-row).can_next l.row-iterator
    × (goal.iterator-loop-row).is_finite l.row-iterator
    × Chunked l.n l.records (chunks_exact_size l.row-iterator) (length l.yielded) (chunks_exact_rest l.row-iterator)
    × (length l.free ≡ length l.initial.free)
    × (without_cells (named_cells (drop (length l.yielded) (records_in l.n l.records))) l.free ≡ without_cells (named_cells (records_in l.n l.records)) l.initial.free)
