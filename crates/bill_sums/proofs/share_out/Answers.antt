use mathlib.Core.Path.{◌≡◌, refl, sym, ◌∙◌}
use Prim.Native.Nat.{ℕ, ◌+◌, ◌*◌, ◌-◌, ◌^◌, ◌%◌, ◌≤◌, ◌<◌}
use native.Mathlib.Omega.{arith}
use lib.Count.{ones, ones-le, count_trailing_zeros}
use lib.ListN.{length, get_or, length-set}
use lib.Pow.{pow_pos}
use Rattle.lists.proofs.Masks.{First, trailing_first, first_le, first_lt, first_ones, one_shl}
use Rattle.lists.proofs.Sets.{set_any}
use Rattle.bill_sums.specs.Marks.{part_of}
use Rattle.bill_sums.proofs.Passes.{first_out, share_none}
use Rattle.bill_sums.proofs.share_out.Goals as goal

pub loop-m-init : goal.loop-m-init
loop-m-init c = (c.requires.1, refl, refl, λ t. omega (arith, c.requires.3 t, ones-le 16 c.args.mark c.requires.1))

pub overflow_cast-t : goal.overflow_cast-t
overflow_cast-t c =
    let bit : First c.loop-m.m (count_trailing_zeros 32 c.loop-m.m) = (trailing_first 32 _ (omega arith) (omega arith)) in
    let small : count_trailing_zeros 32 c.loop-m.m < 16 = (first_lt 16 (bit) c.loop-m.invariant.0) in
    omega (arith, small)

pub offset_bounds-sums-t : goal.offset_bounds-sums-t
offset_bounds-sums-t c =
    let bit : First c.loop-m.m (count_trailing_zeros 32 c.loop-m.m) = (trailing_first 32 _ (omega arith) (omega arith)) in
    let small : count_trailing_zeros 32 c.loop-m.m < 16 = (first_lt 16 (bit) c.loop-m.invariant.0) in
    omega (arith, small)

pub bounds-sums-t : goal.bounds-sums-t
bounds-sums-t c =
    let bit : First c.loop-m.m (count_trailing_zeros 32 c.loop-m.m) = (trailing_first 32 _ (omega arith) (omega arith)) in
    let small : count_trailing_zeros 32 c.loop-m.m < 16 = (first_lt 16 (bit) c.loop-m.invariant.0) in
    let inside : count_trailing_zeros 32 c.loop-m.m < length c.loop-m.sums = (omega (arith, small, c.loop-m.invariant.1, c.requires.2)) in
    inside

pub part-requires : goal.part-requires
part-requires c = c.requires.0

pub overflow_add-sums : goal.overflow_add-sums
overflow_add-sums c = omega (arith, c.loop-m.invariant.3 (count_trailing_zeros 32 c.loop-m.m), c.part.ensures.1)

pub bounds-sums-t-in-loop-m : goal.bounds-sums-t-in-loop-m
bounds-sums-t-in-loop-m c =
    let bit : First c.loop-m.m (count_trailing_zeros 32 c.loop-m.m) = (trailing_first 32 _ (omega arith) (omega arith)) in
    let small : count_trailing_zeros 32 c.loop-m.m < 16 = (first_lt 16 (bit) c.loop-m.invariant.0) in
    let inside : count_trailing_zeros 32 c.loop-m.m < length c.loop-m.sums = (omega (arith, small, c.loop-m.invariant.1, c.requires.2)) in
    inside

pub overflow_shl-m : goal.overflow_shl-m
overflow_shl-m c =
    let bit : First c.loop-m.m (count_trailing_zeros 32 c.loop-m.m) = (trailing_first 32 _ (omega arith) (omega arith)) in
    let small : count_trailing_zeros 32 c.loop-m.m < 16 = (first_lt 16 (bit) c.loop-m.invariant.0) in
    omega (arith, small)

pub overflow_sub-m : goal.overflow_sub-m
overflow_sub-m c =
    let bit : First c.loop-m.m (count_trailing_zeros 32 c.loop-m.m) = (trailing_first 32 _ (omega arith) (omega arith)) in
    let small : count_trailing_zeros 32 c.loop-m.m < 16 = (first_lt 16 (bit) c.loop-m.invariant.0) in
    let power : 1 * 2 ^ count_trailing_zeros 32 c.loop-m.m % 2 ^ 32 ≡ 2 ^ count_trailing_zeros 32 c.loop-m.m = (one_shl _ 32 (omega (arith, small))) in
    omega (arith, power, first_le (bit))

pub loop-m-smaller : goal.loop-m-smaller
loop-m-smaller c =
    let bit : First c.loop-m.m (count_trailing_zeros 32 c.loop-m.m) = (trailing_first 32 _ (omega arith) (omega arith)) in
    let small : count_trailing_zeros 32 c.loop-m.m < 16 = (first_lt 16 (bit) c.loop-m.invariant.0) in
    let power : 1 * 2 ^ count_trailing_zeros 32 c.loop-m.m % 2 ^ 32 ≡ 2 ^ count_trailing_zeros 32 c.loop-m.m = (one_shl _ 32 (omega (arith, small))) in
    omega (arith, power, first_le (bit), pow_pos (count_trailing_zeros 32 c.loop-m.m))

pub loop-m-preserved : goal.loop-m-preserved
loop-m-preserved c =
    let bit : First c.loop-m.m (count_trailing_zeros 32 c.loop-m.m) = (trailing_first 32 _ (omega arith) (omega arith)) in
    let small : count_trailing_zeros 32 c.loop-m.m < 16 = (first_lt 16 (bit) c.loop-m.invariant.0) in
    let power : 1 * 2 ^ count_trailing_zeros 32 c.loop-m.m % 2 ^ 32 ≡ 2 ^ count_trailing_zeros 32 c.loop-m.m = (one_shl _ 32 (omega (arith, small))) in
    let inside : count_trailing_zeros 32 c.loop-m.m < length c.loop-m.sums = (omega (arith, small, c.loop-m.invariant.1, c.requires.2)) in
    let l = c.loop-m in
    let i = c.loop-m.invariant in
    rw (power, c.part.ensures.0, c.saturating_sub-left.ensures) (
      omega arith,
      length-set l.sums (count_trailing_zeros 32 l.m) (get_or l.sums (count_trailing_zeros 32 l.m) 0 + part_of c.args.quotient 1 l.left) ∙ i.1,
      sym (first_out (bit) _ _ _ (inside)) ∙ i.2,
      set_any (λ (n : ℕ). n + 10001 * ones (l.m - 2 ^ count_trailing_zeros 32 l.m) ≤ 1000160016) 0 l.sums (count_trailing_zeros 32 l.m) (get_or l.sums (count_trailing_zeros 32 l.m) 0 + part_of c.args.quotient 1 l.left)
          (omega (arith, first_ones (bit), i.3 (count_trailing_zeros 32 l.m), c.part.ensures.0, c.part.ensures.1))
          (λ t. omega (arith, first_ones (bit), i.3 t)),
    )

pub shape_of-sums : goal.shape_of-sums
shape_of-sums c = c.loop-m.invariant.1

pub returns : goal.returns
returns c = let l = c.loop-m in
    let e : l.m ≡ 0 = c.loop-m-test.false in
    share_none _ _ _ ∙ (rw e at l.invariant.2)
