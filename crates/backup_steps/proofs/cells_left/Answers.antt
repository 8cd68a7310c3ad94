use native.Mathlib.Omega.{arith}
use Prim.Native.Nat.{◌*◌, ◌+◌, ◌≤◌}
use native.Mathlib.Nat.{zero-add, zero-mul}
use Rattle.lists.proofs.Places.{row_next}
use lib.ListN.{length}
use Rattle.storage.proofs.Along.{at_length, at_next, at_room, at_start}
use Rattle.backup_steps.proofs.Counting.{leaving_next, leaving_end}
use Rattle.backup_steps.proofs.cells_left.Goals as goal

pub loop-k-init : goal.loop-k-init
loop-k-init c = (rw (zero-mul c.row_words-width.result) (at_start _ _ _ _ c.row_words-width.ensures.0 c.rows-rows.ensures), zero-add _)

pub overflow_mul-at : goal.overflow_mul-at
overflow_mul-at c =
    let room : c.loop-k.k * c.row_words-width.result + c.row_words-width.result ≤ length c.args.records.now = (at_room c.loop-k.invariant.0 (omega arith) c.requires.1) in
    omega (arith, room)

pub overflow_add-at : goal.overflow_add-at
overflow_add-at c =
    let room : c.loop-k.k * c.row_words-width.result + c.row_words-width.result ≤ length c.args.records.now = (at_room c.loop-k.invariant.0 (omega arith) c.requires.1) in
    omega (arith, room)

pub offset_bounds-records-at : goal.offset_bounds-records-at
offset_bounds-records-at c =
    let room : c.loop-k.k * c.row_words-width.result + c.row_words-width.result ≤ length c.args.records.now = (at_room c.loop-k.invariant.0 (omega arith) c.requires.1) in
    omega (arith, room)

pub slice_bounds-row_left-count : goal.slice_bounds-row_left-count
slice_bounds-row_left-count c =
    let room : c.loop-k.k * c.row_words-width.result + c.row_words-width.result ≤ length c.args.records.now = (at_room c.loop-k.invariant.0 (omega arith) c.requires.1) in
    omega (arith, room)

pub slice_bounds-row_left-start : goal.slice_bounds-row_left-start
slice_bounds-row_left-start c =
    let room : c.loop-k.k * c.row_words-width.result + c.row_words-width.result ≤ length c.args.records.now = (at_room c.loop-k.invariant.0 (omega arith) c.requires.1) in
    omega (arith, room)

pub slice_bounds-row_left-end : goal.slice_bounds-row_left-end
slice_bounds-row_left-end c =
    let room : c.loop-k.k * c.row_words-width.result + c.row_words-width.result ≤ length c.args.records.now = (at_room c.loop-k.invariant.0 (omega arith) c.requires.1) in
    omega (arith, room)

pub row_left-left-requires : goal.row_left-left-requires
row_left-left-requires c = (c.requires.0, at_length c.loop-k.invariant.0 (omega arith) c.requires.1)

pub overflow_add-left : goal.overflow_add-left
overflow_add-left c = omega (arith, (leaving_next c.loop-k.invariant.0 c.requires.1 c.requires.0 c.requires.2 (omega arith) _ _ c.loop-k.invariant.1 c.row_left-left.ensures).1)

pub loop-k-preserved : goal.loop-k-preserved
loop-k-preserved c = (rw (row_next c.loop-k.k c.row_words-width.result) (at_next c.loop-k.invariant.0 (omega arith) c.requires.1), (leaving_next c.loop-k.invariant.0 c.requires.1 c.requires.0 c.requires.2 (omega arith) _ _ c.loop-k.invariant.1 c.row_left-left.ensures).0)

pub returns : goal.returns
returns c = leaving_end c.loop-k.invariant.0 c.requires.1 c.requires.0 c.requires.2 (omega arith) _ c.loop-k.invariant.1
