use Rattle.lists.specs.Lists.{counted}
use Rattle.lists.specs.Rows.{joined}
use Rattle.model.specs.Table.{storage_in, versions_in}
use Rattle.model.specs.Trace.{hops, traced_block}
use Rattle.numbers.specs.Measures.{measures_of}
use Rattle.restore_trace.proofs.Restores.{Restoring}
use Rattle.restore_trace.proofs.restore_image.Given as goal

abbrev pub invariant-loop-n : goal.invariant-loop-n
invariant-loop-n l = Restoring l.bytes (joined (counted (traced_block l.bytes (storage_in (measures_of l.m) l.pool l.words) (versions_in l.bytes l.b l.h l.slots)) 0 l.count)) (hops (versions_in l.bytes l.b l.h l.slots)) l.initial.out l.len l.count l.out l.most l.n
