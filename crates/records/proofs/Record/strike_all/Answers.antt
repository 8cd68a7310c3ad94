use Rattle.numbers.proofs.Bits.{lowest, bit_value, bit_inside}
use Rattle.records.proofs.Records.{left_small, next_small, next_held, next_struck, all_struck}
use Rattle.records.proofs.Record.strike_all.Goals as goal

pub strike-now-requires-clause-position_in_bounds : goal.strike-now-requires-clause-position_in_bounds
strike-now-requires-clause-position_in_bounds c =
    let l = c.loop-left in
    let bit = lowest l.left c.loop-left-test.true (left_small _ _ _ l.invariant) in
    (next_small _ _ _ _ l.invariant bit, next_held _ _ _ _ l.invariant bit)

pub overflow_sub-left : goal.overflow_sub-left
overflow_sub-left c = let l = c.loop-left in bit_inside l.left c.loop-left-test.true (left_small _ _ _ l.invariant)

pub loop-left-preserved : goal.loop-left-preserved
loop-left-preserved c =
    let l = c.loop-left in
    let t = c.loop-left-test.true in
    let small = left_small _ _ _ l.invariant in
    rw (bit_value l.left t small) (next_struck _ _ _ _ l.invariant (lowest l.left t small) _ c.strike-now.ensures)

pub returns : goal.returns
returns c = all_struck _ _ _ c.loop-left.invariant c.loop-left-test.false
