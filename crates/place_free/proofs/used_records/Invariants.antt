use Rattle.std.proofs.Common.{◌≤◌, length}
use Rattle.model.specs.Table.{records_in}
use Rattle.place_free.specs.Free.{RestFree}
use Rattle.place_free.proofs.used_records.Given as goal

abbrev pub invariant-loop-last : goal.invariant-loop-last
invariant-loop-last l = (l.last ≤ length (records_in l.n l.records)) × (l.last ≤ 4096) × RestFree l.last (records_in l.n l.records)
