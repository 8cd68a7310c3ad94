use mathlib.Core.Path.{refl}
use Rattle.lists.specs.Rows.{fill}
use Rattle.records.proofs.Records.{free_record_lem}
use Rattle.records.proofs.Record.free.Goals as goal

pub returns : goal.returns
unfolding fill
returns c = free_record_lem _ _ refl refl refl refl refl refl
