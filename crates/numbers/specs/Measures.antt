-- A store's measures as the code has them.
use Rattle.model.specs.Measures as model
use Rattle.numbers.specs.declared.Measures.{Measures}

abbrev pub measures_of : Measures → model.Measures
measures_of m = record { block_bytes = m.bytes; segment_blocks = m.blocks; rebuild_percent = m.percent }
