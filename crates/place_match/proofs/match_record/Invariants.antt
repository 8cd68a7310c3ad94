use mathlib.Core.Path.{◌≡◌}
use Prim.Native.Nat.{◌*◌, ◌-◌, ◌<◌, ◌≤◌}
use lib.ListN.{drop}
use Rattle.lists.specs.Lists.{first_from}
use Rattle.model.specs.Image.{blocks_from, with_blanks}
use Rattle.model.specs.Records.{equals}
use Rattle.model.specs.Table.{records_in, storage_in}
use Rattle.numbers.specs.Measures.{measures_of}
use Rattle.place_match.specs.Fit.{RowFits}
use Rattle.place_match.proofs.match_record.Given as goal

abbrev pub invariant-loop-k : goal.invariant-loop-k
invariant-loop-k l = (l.k ≤ l.stop) × (l.k < l.stop → RowFits l.mask l.blank l.records (l.k * l.width)) × (let f = equals with_blanks (storage_in (measures_of l.m) l.pool l.records) (blocks_from l.m.bytes l.image l.from l.m.blocks) in first_from f l.k (drop l.k (records_in l.m.blocks l.records)) ≡ first_from f 0 (records_in l.m.blocks l.records))

abbrev pub decreases-loop-k : goal.decreases-loop-k
decreases-loop-k l = l.stop - l.k
