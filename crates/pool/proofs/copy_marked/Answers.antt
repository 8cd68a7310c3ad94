use Rattle.std.proofs.Common.{◌≡◌, sym, ◌∙◌, ◌<◌, length, get_or, length-set, arith, rules}
use Rattle.std.specs.Int.Count.{count_trailing_zeros}
use Rattle.lists.proofs.Places.{row_room}
use Rattle.lists.proofs.Masks.{first_ones}
use Rattle.numbers.proofs.Bits.{lowest, bit_place, bit_value, bit_counts}
use Rattle.pool.specs.Pool.{copy_to, take_at}
use Rattle.pool.proofs.Pool.{first_along, along_none}
use Rattle.pool.proofs.copy_marked.Goals as goal

pub move_block-requires : goal.move_block-requires
move_block-requires c =
    let l = c.loop-left in
    let cell : get_or c.args.cells (count_trailing_zeros 32 l.left) 0 < length c.args.occupied.now = c.requires.2 (count_trailing_zeros 32 l.left) in
    let room : l.at < length c.args.occupied.now = omega (arith, bit_counts l.left c.loop-left-test.true l.invariant.0) in
    omega (arith, row_room _ _ c.args.bytes cell, row_room _ _ c.args.bytes room)

pub loop-left-preserved : goal.loop-left-preserved
loop-left-preserved c =
    let l = c.loop-left in
    let i = l.invariant in
    let t = c.loop-left-test.true in
    let bit = lowest l.left t i.0 in
    let place = bit_place l.left t i.0 in
    let sixteen : length c.args.cells ≡ 16 = search rules in
    rw (bit_value l.left t i.0) (
      omega arith,
      omega (arith, first_ones bit),
      omega (arith, c.move_block.auto.pool),
      simp length-set i.3,
      rw c.move_block.ensures (sym (first_along (copy_to _) _ _ _ (omega (arith, sixteen, place)) bit) ∙ i.4),
      sym (first_along take_at _ _ _ (omega (arith, sixteen, place)) bit) ∙ i.5,
    )

pub returns-clause-bytes : goal.returns-clause-bytes
returns-clause-bytes c = sym (along_none (copy_to _) c.loop-left.at _ _) ∙ (rw c.loop-left-test.false at c.loop-left.invariant.4)

pub returns-clause-marks : goal.returns-clause-marks
returns-clause-marks c = sym (along_none take_at c.loop-left.at _ _) ∙ (rw c.loop-left-test.false at c.loop-left.invariant.5)
