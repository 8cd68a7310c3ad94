use Rattle.std.proofs.Common.{arith, ◌≡◌, ◌*◌, ◌+◌}
use native.Mathlib.Nat.{zero-mul}
use Rattle.lists.proofs.Places.{row_next}
use Rattle.place_match.proofs.Copying.{block_low, copied_end, copied_room, copied_start, copied_step}
use Rattle.place_match.proofs.copy_blocks.Goals as goal

pub loop-i-init : goal.loop-i-init
loop-i-init c = let a = c.args in
    let y : a.from + 0 * a.bytes ≡ a.from = omega (arith, zero-mul a.bytes) in
    rw y (copied_start a.bytes a.image.now a.pool.now a.n a.mask a.first.0 a.from c.requires.1 c.requires.2)

pub copy_if-requires : goal.copy_if-requires
copy_if-requires c = let l = c.loop-i in
    (omega (arith, block_low c.args.from c.args.bytes c.args.n l.i c.requires.0 c.requires.5 c.requires.6 l.invariant.within), omega arith, copied_room l.invariant (omega arith) c.requires.4, c.requires.4, c.requires.5)

pub overflow_add-cell : goal.overflow_add-cell
overflow_add-cell c = omega (arith, c.loop-i.invariant.room, c.requires.3)

pub loop-i-preserved : goal.loop-i-preserved
loop-i-preserved c = let l = c.loop-i in
    let a = c.args in
    let next : a.from + (l.i + 1) * a.bytes ≡ a.from + l.i * a.bytes + a.bytes = omega (arith, row_next l.i a.bytes) in
    rw next (copied_step l.invariant (omega arith) _ (omega arith) c.copy_if.ensures)

pub returns : goal.returns
returns c = copied_end c.loop-i.invariant (omega arith)
