-- What sound asks of a storage's cells.
use Rattle.std.specs.Prelude.{true, ◌≡◌}
use Rattle.model.specs.State.{Storage}
use Rattle.model.specs.Records.{named_cells}
use Rattle.model.specs.Sound.{has_cells, are_filled}

pub record CellsSound (storage : Storage) : Type 0 where
  pub named : has_cells storage ≡ true
  pub filled : are_filled (named_cells storage.records) 0 storage.cells ≡ true
