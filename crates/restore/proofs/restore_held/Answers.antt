use Rattle.restore.proofs.Lent.{slots_in, lent, from_there}
use Rattle.laws.proofs.Stores.{header}
use mathlib.Core.Path.{◌∙◌}
use native.Mathlib.Omega.{arith}
use Rattle.restore.proofs.restore_held.Goals as goal

pub records_at-records-requires : goal.records_at-records-requires
records_at-records-requires c = header c.requires.0

pub bounds-table-2 : goal.bounds-table-2
bounds-table-2 c = omega (arith, (header c.requires.0).eight)

pub overflow_cast-blocks : goal.overflow_cast-blocks
overflow_cast-blocks c = omega (arith, (header c.requires.0).blocks)

pub overflow_add-width : goal.overflow_add-width
overflow_add-width c = omega (arith, (header c.requires.0).blocks)

pub overflow_add-slots : goal.overflow_add-slots
overflow_add-slots c = let p = c.requires in omega (arith, slots_in p.0 _ p.1 _ p.2 _ p.3 _ c.records_at-records.ensures _ p.4)

pub overflow_mul-slot : goal.overflow_mul-slot
overflow_mul-slot c = let p = c.requires in omega (arith, slots_in p.0 _ p.1 _ p.2 _ p.3 _ c.records_at-records.ensures _ p.4)

pub overflow_add-slot : goal.overflow_add-slot
overflow_add-slot c = let p = c.requires in omega (arith, slots_in p.0 _ p.1 _ p.2 _ p.3 _ c.records_at-records.ensures _ p.4)

pub overflow_mul-end : goal.overflow_mul-end
overflow_mul-end c = let p = c.requires in omega (arith, slots_in p.0 _ p.1 _ p.2 _ p.3 _ c.records_at-records.ensures _ p.4)

pub overflow_add-end : goal.overflow_add-end
overflow_add-end c = let p = c.requires in omega (arith, slots_in p.0 _ p.1 _ p.2 _ p.3 _ c.records_at-records.ensures _ p.4)

pub offset_bounds-table-records : goal.offset_bounds-table-records
offset_bounds-table-records c = let p = c.requires in omega (arith, slots_in p.0 _ p.1 _ p.2 _ p.3 _ c.records_at-records.ensures _ p.4)

pub slice_bounds-restore_slots-count : goal.slice_bounds-restore_slots-count
slice_bounds-restore_slots-count c = let p = c.requires in omega (arith, slots_in p.0 _ p.1 _ p.2 _ p.3 _ c.records_at-records.ensures _ p.4)

pub slice_bounds-restore_slots-start : goal.slice_bounds-restore_slots-start
slice_bounds-restore_slots-start c = let p = c.requires in omega (arith, slots_in p.0 _ p.1 _ p.2 _ p.3 _ c.records_at-records.ensures _ p.4)

pub slice_bounds-restore_slots-end : goal.slice_bounds-restore_slots-end
slice_bounds-restore_slots-end c = let p = c.requires in omega (arith, slots_in p.0 _ p.1 _ p.2 _ p.3 _ c.records_at-records.ensures _ p.4)

pub offset_bounds-table-slot : goal.offset_bounds-table-slot
offset_bounds-table-slot c = let p = c.requires in omega (arith, slots_in p.0 _ p.1 _ p.2 _ p.3 _ c.records_at-records.ensures _ p.4)

pub slice_bounds-restore_slots-count-2 : goal.slice_bounds-restore_slots-count-2
slice_bounds-restore_slots-count-2 c = let p = c.requires in omega (arith, slots_in p.0 _ p.1 _ p.2 _ p.3 _ c.records_at-records.ensures _ p.4)

pub slice_bounds-restore_slots-start-2 : goal.slice_bounds-restore_slots-start-2
slice_bounds-restore_slots-start-2 c = let p = c.requires in omega (arith, slots_in p.0 _ p.1 _ p.2 _ p.3 _ c.records_at-records.ensures _ p.4)

pub slice_bounds-restore_slots-end-2 : goal.slice_bounds-restore_slots-end-2
slice_bounds-restore_slots-end-2 c = let p = c.requires in omega (arith, slots_in p.0 _ p.1 _ p.2 _ p.3 _ c.records_at-records.ensures _ p.4)

pub overflow_sub-held : goal.overflow_sub-held
overflow_sub-held c = omega (arith, c.requires.3)

pub restore_slots-requires : goal.restore_slots-requires
restore_slots-requires c = let p = c.requires in lent p.0 _ p.1 _ p.2 _ p.3 _ c.records_at-records.ensures _ p.4

pub returns : goal.returns
returns c = let p = c.requires in c.restore_slots.ensures ∙ from_there p.0 _ p.1 _ p.2 _ p.3 _ c.records_at-records.ensures _ p.4 _
