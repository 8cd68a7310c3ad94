use native.Mathlib.Omega.{arith}
use mathlib.Core.Path.{◌∙◌}
use Rattle.laws.proofs.Stores.{header}
use Rattle.bill_sums.proofs.Stored.{tills_asked, bill_read, too_dear}
use Rattle.bill_sums.proofs.bill_store.Goals as goal

pub returns-then-price-gt10000 : goal.returns-then-price-gt10000
returns-then-price-gt10000 c = too_dear c.requires _ c.if-price-gt10000.true

pub measures_in-m-requires : goal.measures_in-m-requires
measures_in-m-requires c = (header c.requires).eight

pub till_words-width-requires : goal.till_words-width-requires
till_words-width-requires c = header c.requires

pub bounds-table-0 : goal.bounds-table-0
bounds-table-0 c = omega (arith, (header c.requires).eight)

pub overflow_cast-count : goal.overflow_cast-count
overflow_cast-count c = omega (arith, (header c.requires).tills)

pub bounds-table-2 : goal.bounds-table-2
bounds-table-2 c = omega (arith, (header c.requires).eight)

pub overflow_cast-blocks : goal.overflow_cast-blocks
overflow_cast-blocks c = omega (arith, (header c.requires).blocks)

pub bounds-table-3 : goal.bounds-table-3
bounds-table-3 c = omega (arith, (header c.requires).eight)

pub overflow_cast-records : goal.overflow_cast-records
overflow_cast-records c = omega (arith, (header c.requires).records)

pub slice_bounds-bill_tills-count : goal.slice_bounds-bill_tills-count
slice_bounds-bill_tills-count c = omega (arith, (header c.requires).eight)

pub slice_bounds-bill_tills-start : goal.slice_bounds-bill_tills-start
slice_bounds-bill_tills-start c = omega (arith, (header c.requires).eight)

pub bill_tills-requires : goal.bill_tills-requires
bill_tills-requires c = tills_asked c.requires _ c.measures_in-m.ensures _ c.till_words-width.ensures _ c.if-price-gt10000.false

pub returns : goal.returns
returns c = c.bill_tills.ensures ∙ bill_read c.requires _ c.measures_in-m.ensures _ c.till_words-width.ensures _ c.if-price-gt10000.false
