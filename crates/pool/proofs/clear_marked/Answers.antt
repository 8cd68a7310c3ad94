use Rattle.std.proofs.Common.{◌≡◌, sym, ◌∙◌, ◌+◌, ◌-◌, ◌^◌, length, length-set, arith, rules}
use Rattle.std.specs.Int.Count.{ones, count_trailing_zeros}
use Rattle.lists.proofs.Masks.{first_ones}
use Rattle.numbers.proofs.Bits.{lowest, bit_place, bit_value}
use Rattle.pool.specs.Pool.{clear_at, free_at}
use Rattle.pool.proofs.Pool.{first_along, along_none}
use Rattle.pool.proofs.clear_marked.Goals as goal

pub loop-left-preserved : goal.loop-left-preserved
unfolding clear_at
loop-left-preserved c =
    let l = c.loop-left in
    let i = l.invariant in
    let t = c.loop-left-test.true in
    let bit = lowest l.left t i.0 in
    let place = bit_place l.left t i.0 in
    let sixteen : length c.args.cells ≡ 16 = search rules in
    let f = first_ones bit in
    let n : ones c.args.mask - ones (l.left - 2 ^ count_trailing_zeros 32 l.left) ≡ ones c.args.mask - ones l.left + 1 = omega (arith, f) in
    rw (bit_value l.left t i.0) (
      omega arith,
      omega (arith, f),
      omega (arith, c.clear_cell.auto.pool),
      simp length-set i.3,
      rw (n, c.clear_cell.ensures) (sym (first_along (clear_at _) _ _ _ (omega (arith, sixteen, place)) bit) ∙ i.4),
      rw n (sym (first_along free_at _ _ _ (omega (arith, sixteen, place)) bit) ∙ i.5),
    )

pub returns-clause-bytes : goal.returns-clause-bytes
returns-clause-bytes c = sym (along_none (clear_at _) (ones c.args.mask - ones 0) _ _) ∙ (rw c.loop-left-test.false at c.loop-left.invariant.4)

pub returns-clause-marks : goal.returns-clause-marks
returns-clause-marks c = sym (along_none free_at (ones c.args.mask - ones 0) _ _) ∙ (rw c.loop-left-test.false at c.loop-left.invariant.5)
