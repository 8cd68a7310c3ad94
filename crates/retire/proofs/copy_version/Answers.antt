use native.Mathlib.Omega.{arith}
use Rattle.laws.proofs.Stores.{header}
use Rattle.retire.proofs.Cases.{by_bytes, room, copy_in_table, copy_room, copied}
use Rattle.retire.proofs.copy_version.Goals as goal

pub bounds-table-2 : goal.bounds-table-2
bounds-table-2 c = omega (arith, room c.requires.0)

pub overflow_cast-width : goal.overflow_cast-width
overflow_cast-width c = omega (arith, room c.requires.0)

pub overflow_add-width : goal.overflow_add-width
overflow_add-width c = omega (arith, room c.requires.0)

pub overflow_mul-slot : goal.overflow_mul-slot
overflow_mul-slot c = omega (arith, room c.requires.0)

pub overflow_add-slot : goal.overflow_add-slot
overflow_add-slot c = omega (arith, room c.requires.0)

pub overflow_add-slot-2 : goal.overflow_add-slot-2
overflow_add-slot-2 c = omega (arith, room c.requires.0)

pub overflow_add-length : goal.overflow_add-length
overflow_add-length c = omega (arith, room c.requires.0)

pub offset_bounds-table-slot : goal.offset_bounds-table-slot
offset_bounds-table-slot c = omega (arith, room c.requires.0)

pub bounds-table-slot : goal.bounds-table-slot
bounds-table-slot c = omega (arith, room c.requires.0)

pub overflow_cast-length : goal.overflow_cast-length
overflow_cast-length c = omega (arith, (room c.requires.0).3)

pub parts_for-count-requires : goal.parts_for-count-requires
parts_for-count-requires c = let d = (header c.requires.0.sound).measured in (omega (arith, c.requires.2, d.some_bytes), omega (arith, c.requires.2, d.most_bytes), omega (arith, (room c.requires.0).3))

pub overflow_add-slot-3 : goal.overflow_add-slot-3
overflow_add-slot-3 c = omega (arith, room c.requires.0)

pub overflow_add-slot-4 : goal.overflow_add-slot-4
overflow_add-slot-4 c = omega (arith, room c.requires.0)

pub overflow_add-slot-5 : goal.overflow_add-slot-5
overflow_add-slot-5 c = omega (arith, room c.requires.0, copy_in_table c.requires.0 _ (by_bytes _ _ _ _ c.requires.2 c.parts_for-count.ensures))

pub offset_bounds-table-slot-2 : goal.offset_bounds-table-slot-2
offset_bounds-table-slot-2 c = omega (arith, room c.requires.0)

pub slice_bounds-copy_in-end : goal.slice_bounds-copy_in-end
slice_bounds-copy_in-end c = copy_in_table c.requires.0 _ (by_bytes _ _ _ _ c.requires.2 c.parts_for-count.ensures)

pub copy_in-requires : goal.copy_in-requires
copy_in-requires c = copy_room c.requires.0 _ (by_bytes _ _ _ _ c.requires.2 c.parts_for-count.ensures) c.args.pointers.now c.requires.1

pub returns : goal.returns
returns c = copied c.requires.0 _ (by_bytes _ _ _ _ c.requires.2 c.parts_for-count.ensures) _ _ c.requires.1 c.copy_in.ensures
