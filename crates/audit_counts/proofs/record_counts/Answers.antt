use native.Mathlib.Omega.{arith}
use mathlib.Core.Path.{◌≡◌}
use Prim.Native.Nat.{◌*◌, ◌^◌, ◌%◌, ◌<◌}
use lib.Count.{count_trailing_zeros}
use lib.Pow.{pow_pos}
use Rattle.lists.proofs.Checkers.{is_so, is_not, refutes, proves}
use Rattle.lists.proofs.Masks.{First, trailing_first, first_le, first_lt, one_shl}
use Rattle.audit_counts.proofs.Held.{left_all, left_done, left_past, left_held, left_less}
use mathlib.Core.Path.{ap}
use mathlib.Core.Bool.{not}
use Rattle.audit_counts.proofs.record_counts.Goals as goal

pub loop-m-init : goal.loop-m-init
loop-m-init c = (omega (arith, c.type_inv.row 0), left_all _ _ _)

pub overflow_cast-i : goal.overflow_cast-i
overflow_cast-i c =
    let first : First c.loop-m.m (count_trailing_zeros 32 c.loop-m.m) = (trailing_first 32 _ (omega arith) c.loop-m.invariant.0) in
    let small : count_trailing_zeros 32 c.loop-m.m < 32 = (first_lt 32 (first) c.loop-m.invariant.0) in
    omega (arith, small)

pub returns-then-n-i : goal.returns-then-n-i
returns-then-n-i c =
    let first : First c.loop-m.m (count_trailing_zeros 32 c.loop-m.m) = (trailing_first 32 _ (omega arith) c.loop-m.invariant.0) in
    is_so (left_past _ _ _ _ _ (first) c.loop-m.invariant.1 c.if-n-i.true)

pub overflow_add-n : goal.overflow_add-n
overflow_add-n c =
    let first : First c.loop-m.m (count_trailing_zeros 32 c.loop-m.m) = (trailing_first 32 _ (omega arith) c.loop-m.invariant.0) in
    let small : count_trailing_zeros 32 c.loop-m.m < 32 = (first_lt 32 (first) c.loop-m.invariant.0) in
    omega (arith, small)

pub overflow_add-n-in-loop-m : goal.overflow_add-n-in-loop-m
overflow_add-n-in-loop-m c =
    let first : First c.loop-m.m (count_trailing_zeros 32 c.loop-m.m) = (trailing_first 32 _ (omega arith) c.loop-m.invariant.0) in
    let small : count_trailing_zeros 32 c.loop-m.m < 32 = (first_lt 32 (first) c.loop-m.invariant.0) in
    omega (arith, small, c.requires.0)

pub offset_bounds-row-n : goal.offset_bounds-row-n
offset_bounds-row-n c =
    let first : First c.loop-m.m (count_trailing_zeros 32 c.loop-m.m) = (trailing_first 32 _ (omega arith) c.loop-m.invariant.0) in
    let small : count_trailing_zeros 32 c.loop-m.m < 32 = (first_lt 32 (first) c.loop-m.invariant.0) in
    omega (arith, small, c.requires.0)

pub offset_bounds-counts-i : goal.offset_bounds-counts-i
offset_bounds-counts-i c =
    let first : First c.loop-m.m (count_trailing_zeros 32 c.loop-m.m) = (trailing_first 32 _ (omega arith) c.loop-m.invariant.0) in
    let small : count_trailing_zeros 32 c.loop-m.m < 32 = (first_lt 32 (first) c.loop-m.invariant.0) in
    omega (arith, small)

pub returns-then-not-count_exact : goal.returns-then-not-count_exact
returns-then-not-count_exact c =
    let first : First c.loop-m.m (count_trailing_zeros 32 c.loop-m.m) = (trailing_first 32 _ (omega arith) c.loop-m.invariant.0) in
    is_not (λ f. refutes c.count_exact.ensures (ap not c.if-not-count_exact.true) (f _ c.if-n-i.false (left_held _ _ _ _ _ (first) c.loop-m.invariant.1)))

pub overflow_shl-m : goal.overflow_shl-m
overflow_shl-m c =
    let first : First c.loop-m.m (count_trailing_zeros 32 c.loop-m.m) = (trailing_first 32 _ (omega arith) c.loop-m.invariant.0) in
    let small : count_trailing_zeros 32 c.loop-m.m < 32 = (first_lt 32 (first) c.loop-m.invariant.0) in
    omega (arith, small)

pub overflow_sub-m : goal.overflow_sub-m
overflow_sub-m c =
    let first : First c.loop-m.m (count_trailing_zeros 32 c.loop-m.m) = (trailing_first 32 _ (omega arith) c.loop-m.invariant.0) in
    let small : count_trailing_zeros 32 c.loop-m.m < 32 = (first_lt 32 (first) c.loop-m.invariant.0) in
    let power : 1 * 2 ^ count_trailing_zeros 32 c.loop-m.m % 2 ^ 32 ≡ 2 ^ count_trailing_zeros 32 c.loop-m.m = (one_shl _ 32 (small)) in
    omega (arith, power, first_le (first))

pub loop-m-smaller : goal.loop-m-smaller
loop-m-smaller c =
    let first : First c.loop-m.m (count_trailing_zeros 32 c.loop-m.m) = (trailing_first 32 _ (omega arith) c.loop-m.invariant.0) in
    let small : count_trailing_zeros 32 c.loop-m.m < 32 = (first_lt 32 (first) c.loop-m.invariant.0) in
    let power : 1 * 2 ^ count_trailing_zeros 32 c.loop-m.m % 2 ^ 32 ≡ 2 ^ count_trailing_zeros 32 c.loop-m.m = (one_shl _ 32 (small)) in
    omega (arith, power, first_le (first), pow_pos (count_trailing_zeros 32 c.loop-m.m))

pub loop-m-preserved : goal.loop-m-preserved
loop-m-preserved c =
    let first : First c.loop-m.m (count_trailing_zeros 32 c.loop-m.m) = (trailing_first 32 _ (omega arith) c.loop-m.invariant.0) in
    let small : count_trailing_zeros 32 c.loop-m.m < 32 = (first_lt 32 (first) c.loop-m.invariant.0) in
    let power : 1 * 2 ^ count_trailing_zeros 32 c.loop-m.m % 2 ^ 32 ≡ 2 ^ count_trailing_zeros 32 c.loop-m.m = (one_shl _ 32 (small)) in
    rw (power) (omega (arith, c.loop-m.invariant.0), left_less _ _ _ _ _ (first) c.loop-m.invariant.1 (proves c.count_exact.ensures (ap not c.if-not-count_exact.false)))

pub returns : goal.returns
returns c = is_so (left_done _ _ _ _ c.loop-m.invariant.1 c.loop-m-test.false)
