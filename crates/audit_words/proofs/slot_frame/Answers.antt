use Rattle.std.proofs.Common.{◌≡◌, ℕ, ◌*◌, ◌≤◌, ◌<◌, arith}
use native.Mathlib.Nat.{mul_comm}
use Rattle.model.specs.Measures.{parts_for}
use Rattle.laws.proofs.Measures.{parts_least}
use Rattle.audit_words.proofs.slot_frame.Goals as goal

few : (bytes blocks length parts : ℕ) → 0 < bytes → length ≤ bytes * blocks → parts ≡ parts_for bytes length → parts ≤ blocks
few bytes blocks length parts s l e = rw e (parts_least _ _ _ s (omega (arith, mul_comm blocks bytes)))

pub overflow_add-end : goal.overflow_add-end
overflow_add-end c = omega (arith, few _ _ _ _ c.requires.2 c.if-bytes-blocks.false c.parts_for-end.ensures)

pub offset_bounds-row-end : goal.offset_bounds-row-end
offset_bounds-row-end c = omega (arith, few _ _ _ _ c.requires.2 c.if-bytes-blocks.false c.parts_for-end.ensures)

pub slice_bounds-zeros-count : goal.slice_bounds-zeros-count
slice_bounds-zeros-count c = omega (arith, few _ _ _ _ c.requires.2 c.if-bytes-blocks.false c.parts_for-end.ensures)

pub slice_bounds-zeros-start : goal.slice_bounds-zeros-start
slice_bounds-zeros-start c = omega (arith, few _ _ _ _ c.requires.2 c.if-bytes-blocks.false c.parts_for-end.ensures)
