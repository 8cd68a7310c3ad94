use Rattle.std.proofs.Common.{◌≡◌, drop}
use Rattle.std.specs.Iterator.Adapters.{enumerate_source, enumerate_count}
use Rattle.std.specs.Slice.Iter.{chunks_exact_rest, chunks_exact_size}
use Rattle.lists.specs.Lists.{first_from}
use Rattle.model.specs.Records.{is_free}
use Rattle.model.specs.Table.{records_in}
use Rattle.place_free.proofs.Chunked.{Chunked}
use Rattle.place_free.proofs.free_record.Given as goal

abbrev pub invariant-loop-k : goal.invariant-loop-k
invariant-loop-k l =
    (goal.iterator-loop-k).can_next l.k-iterator
    × (goal.iterator-loop-k).is_finite l.k-iterator
    × Chunked l.n l.records (chunks_exact_size (enumerate_source l.k-iterator)) (enumerate_count l.k-iterator) (chunks_exact_rest (enumerate_source l.k-iterator))
    × (first_from is_free (enumerate_count l.k-iterator) (drop (enumerate_count l.k-iterator) (records_in l.n l.records)) ≡ first_from is_free 0 (records_in l.n l.records))
