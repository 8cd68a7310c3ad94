use native.Mathlib.Omega.{arith}
use mathlib.Core.Path.{◌∙◌}
use Rattle.laws.proofs.Stores.{header, records_room}
use Rattle.tally.proofs.Cases.{rows_read, tally_read}
use Rattle.tally.proofs.tally_store.Goals as goal

pub measures_in-m-requires : goal.measures_in-m-requires
measures_in-m-requires c = (header c.requires).eight

pub records_at-at-requires : goal.records_at-at-requires
records_at-at-requires c = header c.requires

pub offset_bounds-table-at : goal.offset_bounds-table-at
offset_bounds-table-at c = let (p, q) = records_room c.requires _ c.records_at-at.ensures in omega (arith, p, q)

pub slice_bounds-tally_rows-count : goal.slice_bounds-tally_rows-count
slice_bounds-tally_rows-count c = (records_room c.requires _ c.records_at-at.ensures).0

pub slice_bounds-tally_rows-start : goal.slice_bounds-tally_rows-start
slice_bounds-tally_rows-start c = (records_room c.requires _ c.records_at-at.ensures).0

pub tally_rows-requires : goal.tally_rows-requires
tally_rows-requires c = rows_read c.requires _ c.records_at-at.ensures _ c.measures_in-m.ensures

pub returns : goal.returns
returns c = c.tally_rows.ensures ∙ tally_read c.requires _ c.records_at-at.ensures _ c.measures_in-m.ensures
