use Rattle.model.specs.Table.{records_in, storage_in}
use Rattle.numbers.specs.Measures.{measures_of}
use Rattle.sent_find.proofs.Finding.{FoundTo}
use Rattle.sent_find.proofs.find_down.Given as goal

abbrev pub invariant-loop-k : goal.invariant-loop-k
invariant-loop-k l = FoundTo (measures_of l.m) (storage_in (measures_of l.m) l.pool l.words) (records_in l.m.blocks l.words) l.fingerprints l.initial.numbers l.numbers l.k
