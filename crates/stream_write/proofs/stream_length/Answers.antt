use native.Mathlib.Omega.{arith}
use mathlib.Core.Path.{sym, ap}
use Prim.Native.Nat.{◌+◌}
use lib.ListN.{length}
use Rattle.stream_write.proofs.Laws.{groups_end, length_next, stream_size}
use Rattle.stream_write.proofs.stream_length.Goals as goal

pub loop-from-init : goal.loop-from-init
loop-from-init c = (omega arith, omega arith, sym (stream_size c.args.image.now))

pub loop-from-preserved : goal.loop-from-preserved
loop-from-preserved c = let l = c.loop-from in
    let g = c.group_length-n.ensures in
    (omega arith, omega (arith, g.1), omega (arith, length_next c.args.image.now l.from (omega arith), l.invariant.2, g.0))

pub returns : goal.returns
returns c = let l = c.loop-from in
    (omega (arith, l.invariant.2, ap length (groups_end c.args.image.now l.from (omega arith))), omega arith)

-- after the last group
pub returns-2 : goal.returns-2
returns-2 c = let image = c.args.image.now in
    let l = c.loop-from in
    let g = c.group_length-n.ensures in
    (omega (arith, length_next image l.from (omega arith), l.invariant.2, g.0, ap length (groups_end image (l.from + 512) (omega arith))), omega (arith, g.1))
