use Rattle.std.proofs.Common.{◌≡◌}
use Rattle.std.specs.Slice.Iter.{chunks_exact_rest, chunks_exact_size}
use Rattle.sha1_definition.specs.Sha1.{absorbed}
use Rattle.sha1_message.proofs.absorb_all.Given as goal

abbrev pub invariant-loop-chunk : goal.invariant-loop-chunk
invariant-loop-chunk l = (chunks_exact_size l.chunk-iterator ≡ 64) × (absorbed l.s (chunks_exact_rest l.chunk-iterator) ≡ absorbed l.initial.s l.bytes)
