-- A search's answer as the model's: the number of the record that is found.
use Rattle.std.specs.Prelude.{Option, None, Some, ℕ}
use Rattle.std.proofs.Math.Option as model
use Rattle.numbers.specs.declared.RecordNumber.{RecordNumber}

abbrev pub found : Option RecordNumber → model.Option ℕ
found None = model.none
found (Some k) = model.some k.0
