use native.Mathlib.Omega.{arith}
use Rattle.tally.proofs.Cases.{row_long, counts_few, row_counted}
use Rattle.tally.proofs.tally_row.Goals as goal

pub bounds-row-0 : goal.bounds-row-0
bounds-row-0 c = omega (arith, row_long _ _ c.requires.1)

pub bounds-row-1 : goal.bounds-row-1
bounds-row-1 c = omega (arith, row_long _ _ c.requires.1)

pub bounds-row-2 : goal.bounds-row-2
bounds-row-2 c = omega (arith, row_long _ _ c.requires.1)

pub slice_bounds-add_all-count : goal.slice_bounds-add_all-count
slice_bounds-add_all-count c = omega (arith, row_long _ _ c.requires.1)

pub slice_bounds-add_all-start : goal.slice_bounds-add_all-start
slice_bounds-add_all-start c = omega (arith, row_long _ _ c.requires.1)

pub add_all-counts-requires : goal.add_all-counts-requires
add_all-counts-requires c = counts_few _ _ c.requires.1

pub bounds-row-0-2 : goal.bounds-row-0-2
bounds-row-0-2 c = omega (arith, row_long _ _ c.requires.1)

pub returns : goal.returns
returns c = row_counted _ _ c.requires.1 _ _ c.in_use-records.ensures c.add_all-counts.ensures
