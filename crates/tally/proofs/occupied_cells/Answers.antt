use native.Mathlib.Omega.{arith}
use mathlib.Core.Path.{◌∙◌}
use Rattle.laws.proofs.Stores.{header, records_room}
use Rattle.tally.proofs.Cases.{rows_read, cells_read}
use Rattle.tally.proofs.occupied_cells.Goals as goal

pub measures_in-m-requires : goal.measures_in-m-requires
measures_in-m-requires c = (header c.requires).eight

pub records_at-at-requires : goal.records_at-at-requires
records_at-at-requires c = header c.requires

pub offset_bounds-table-at : goal.offset_bounds-table-at
offset_bounds-table-at c = let (p, q) = records_room c.requires _ c.records_at-at.ensures in omega (arith, p, q)

pub slice_bounds-cells_in-count : goal.slice_bounds-cells_in-count
slice_bounds-cells_in-count c = (records_room c.requires _ c.records_at-at.ensures).0

pub slice_bounds-cells_in-start : goal.slice_bounds-cells_in-start
slice_bounds-cells_in-start c = (records_room c.requires _ c.records_at-at.ensures).0

pub cells_in-requires : goal.cells_in-requires
cells_in-requires c = rows_read c.requires _ c.records_at-at.ensures _ c.measures_in-m.ensures

pub returns : goal.returns
returns c = let (p, q) = c.cells_in.ensures in
    (p ∙ cells_read c.requires _ c.records_at-at.ensures _ c.measures_in-m.ensures, q)
