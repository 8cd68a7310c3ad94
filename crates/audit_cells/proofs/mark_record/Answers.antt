use native.Mathlib.Omega.{arith}
use borrow.Author.Rules.{rules}
use mathlib.Core.Path.{◌≡◌, ◌∙◌}
use Prim.Native.Nat.{◌*◌, ◌^◌, ◌%◌, ◌<◌}
use lib.Count.{count_trailing_zeros}
use lib.Pow.{pow_pos}
use Rattle.lists.proofs.Masks.{First, trailing_first, first_le, first_lt, one_shl}
use Rattle.audit_cells.proofs.Held.{left_all, left_done, left_past, left_less, left_fails}
use Rattle.audit_cells.proofs.mark_record.Goals as goal

pub loop-m-init : goal.loop-m-init
loop-m-init c = (omega (arith, c.type_inv.row 0), left_all _ _ _ c.requires.1 _)

pub overflow_cast-i : goal.overflow_cast-i
overflow_cast-i c =
    let first : First c.loop-m.m (count_trailing_zeros 32 c.loop-m.m) = (trailing_first 32 _ (omega arith) c.loop-m.invariant.0) in
    let small : count_trailing_zeros 32 c.loop-m.m < 32 = (first_lt 32 (first) c.loop-m.invariant.0) in
    omega (arith, small)

pub shape_of-occupied-then-n-i : goal.shape_of-occupied-then-n-i
shape_of-occupied-then-n-i c = c.loop-m.invariant.1.kept

pub returns-then-n-i : goal.returns-then-n-i
returns-then-n-i c =
    let first : First c.loop-m.m (count_trailing_zeros 32 c.loop-m.m) = (trailing_first 32 _ (omega arith) c.loop-m.invariant.0) in
    left_past _ _ _ c.requires.1 _ _ (first) _ _ c.loop-m.invariant.1 c.if-n-i.true

pub overflow_add-i : goal.overflow_add-i
overflow_add-i c =
    let first : First c.loop-m.m (count_trailing_zeros 32 c.loop-m.m) = (trailing_first 32 _ (omega arith) c.loop-m.invariant.0) in
    let small : count_trailing_zeros 32 c.loop-m.m < 32 = (first_lt 32 (first) c.loop-m.invariant.0) in
    omega (arith, small)

pub offset_bounds-row-i : goal.offset_bounds-row-i
offset_bounds-row-i c =
    let first : First c.loop-m.m (count_trailing_zeros 32 c.loop-m.m) = (trailing_first 32 _ (omega arith) c.loop-m.invariant.0) in
    let small : count_trailing_zeros 32 c.loop-m.m < 32 = (first_lt 32 (first) c.loop-m.invariant.0) in
    omega (arith, small)

pub mark_cell-requires : goal.mark_cell-requires
mark_cell-requires c = omega (arith, c.loop-m.invariant.1.kept, c.requires.2)

pub shape_of-occupied-then-not-mark_cell : goal.shape_of-occupied-then-not-mark_cell
shape_of-occupied-then-not-mark_cell c = c.mark_cell.auto.occupied ∙ c.loop-m.invariant.1.kept

pub returns-then-not-mark_cell : goal.returns-then-not-mark_cell
returns-then-not-mark_cell c =
    let first : First c.loop-m.m (count_trailing_zeros 32 c.loop-m.m) = (trailing_first 32 _ (omega arith) c.loop-m.invariant.0) in
    left_fails _ _ _ c.requires.1 _ _ (first) _ _ c.loop-m.invariant.1 _ _ (search rules) c.mark_cell.ensures c.if-not-mark_cell.true

pub overflow_shl-m : goal.overflow_shl-m
overflow_shl-m c =
    let first : First c.loop-m.m (count_trailing_zeros 32 c.loop-m.m) = (trailing_first 32 _ (omega arith) c.loop-m.invariant.0) in
    let small : count_trailing_zeros 32 c.loop-m.m < 32 = (first_lt 32 (first) c.loop-m.invariant.0) in
    omega (arith, small)

pub overflow_sub-m : goal.overflow_sub-m
overflow_sub-m c =
    let first : First c.loop-m.m (count_trailing_zeros 32 c.loop-m.m) = (trailing_first 32 _ (omega arith) c.loop-m.invariant.0) in
    let small : count_trailing_zeros 32 c.loop-m.m < 32 = (first_lt 32 (first) c.loop-m.invariant.0) in
    let power : 1 * 2 ^ count_trailing_zeros 32 c.loop-m.m % 2 ^ 32 ≡ 2 ^ count_trailing_zeros 32 c.loop-m.m = (one_shl _ 32 (small)) in
    omega (arith, power, first_le (first))

pub loop-m-smaller : goal.loop-m-smaller
loop-m-smaller c =
    let first : First c.loop-m.m (count_trailing_zeros 32 c.loop-m.m) = (trailing_first 32 _ (omega arith) c.loop-m.invariant.0) in
    let small : count_trailing_zeros 32 c.loop-m.m < 32 = (first_lt 32 (first) c.loop-m.invariant.0) in
    let power : 1 * 2 ^ count_trailing_zeros 32 c.loop-m.m % 2 ^ 32 ≡ 2 ^ count_trailing_zeros 32 c.loop-m.m = (one_shl _ 32 (small)) in
    omega (arith, power, first_le (first), pow_pos (count_trailing_zeros 32 c.loop-m.m))

pub loop-m-preserved : goal.loop-m-preserved
loop-m-preserved c =
    let first : First c.loop-m.m (count_trailing_zeros 32 c.loop-m.m) = (trailing_first 32 _ (omega arith) c.loop-m.invariant.0) in
    let small : count_trailing_zeros 32 c.loop-m.m < 32 = (first_lt 32 (first) c.loop-m.invariant.0) in
    let power : 1 * 2 ^ count_trailing_zeros 32 c.loop-m.m % 2 ^ 32 ≡ 2 ^ count_trailing_zeros 32 c.loop-m.m = (one_shl _ 32 (small)) in
    rw (power) (omega (arith, c.loop-m.invariant.0), left_less _ _ _ c.requires.1 _ _ (first) _ _ c.loop-m.invariant.1 _ _ (search rules) c.mark_cell.auto.occupied c.mark_cell.ensures c.if-not-mark_cell.false)

pub shape_of-occupied : goal.shape_of-occupied
shape_of-occupied c = c.loop-m.invariant.1.kept

pub returns : goal.returns
returns c = left_done _ _ _ c.requires.1 _ _ _ c.loop-m.invariant.1 c.loop-m-test.false
