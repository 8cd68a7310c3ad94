use mathlib.Core.Path.{◌≡◌}
use lib.ListN.{length}
use Rattle.model.specs.Table.{storage_in}
use Rattle.numbers.specs.Measures.{measures_of}
use Rattle.sent.specs.Sent.{segment_bytes}
use Rattle.sent_laws.proofs.Assembling.{At}
use Rattle.sent_assemble.proofs.gather.Given as goal

abbrev pub invariant-loop-j : goal.invariant-loop-j
invariant-loop-j l = (l.width ≡ segment_bytes (measures_of l.m)) × (length l.out ≡ length l.initial.out) × At (measures_of l.m) (storage_in (measures_of l.m) l.pool l.words) l.bytes l.fingerprints l.marks l.segments l.j l.s l.out
