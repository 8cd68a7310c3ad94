use Rattle.std.proofs.Common.{◌≡◌, sym, ◌∙◌, ◌+◌, ◌-◌, ◌^◌, length-set, arith}
use Rattle.std.specs.Int.Count.{ones, count_trailing_zeros}
use Rattle.lists.proofs.Masks.{first_lt, first_ones}
use Rattle.numbers.proofs.Bits.{lowest, bit_value}
use Rattle.pool.specs.Pool.{mark_at}
use Rattle.pool.proofs.Pool.{first_along, along_none}
use Rattle.pool.proofs.take_marked.Goals as goal

pub bounds-cells-i : goal.bounds-cells-i
bounds-cells-i c = let l = c.loop-left in first_lt _ (lowest l.left c.loop-left-test.true l.invariant.0) l.invariant.4

pub loop-left-preserved : goal.loop-left-preserved
loop-left-preserved c =
    let l = c.loop-left in
    let i = l.invariant in
    let t = c.loop-left-test.true in
    let bit = lowest l.left t i.0 in
    let f = first_ones bit in
    let n : ones c.args.mask - ones (l.left - 2 ^ count_trailing_zeros 32 l.left) ≡ ones c.args.mask - ones l.left + 1 = omega (arith, f) in
    rw (bit_value l.left t i.0) (
      omega arith,
      omega (arith, f),
      simp length-set i.2,
      rw n (sym (first_along mark_at _ _ _ (first_lt _ bit i.4) bit) ∙ i.3),
      omega (arith, i.4),
    )

pub returns : goal.returns
returns c = sym (along_none mark_at (ones c.args.mask - ones 0) _ _) ∙ (rw c.loop-left-test.false at c.loop-left.invariant.3)
