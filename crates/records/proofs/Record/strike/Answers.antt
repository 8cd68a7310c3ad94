use Rattle.std.proofs.Common.{arith}
use Rattle.std.proofs.Math.Pow.{pow-lt}
use Rattle.records.proofs.Records.{held_bit, struck_of, removed_small, position_small, position_bit}
use Rattle.records.proofs.Record.strike.Goals as goal

pub overflow_sub-self : goal.overflow_sub-self
overflow_sub-self c =
    let f = c.requires.formed in
    let p = c.requires.position_in_bounds in
    rw (position_bit _ f _ p.0) (held_bit _ f _ p.0 p.1)

pub overflow_add-self : goal.overflow_add-self
overflow_add-self c =
    let f = c.requires.formed in
    let p = c.requires.position_in_bounds in
    omega (arith, position_bit _ f _ p.0, pow-lt {i = c.args.position} {j = 16} (position_small _ f _ p.0), removed_small _ f)

pub returns : goal.returns
returns c =
    let f = c.requires.formed in
    let p = c.requires.position_in_bounds in
    rw (position_bit _ f _ p.0) (struck_of _ f _ p.0 p.1)
