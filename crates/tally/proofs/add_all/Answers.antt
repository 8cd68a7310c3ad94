use Rattle.std.proofs.Common.{zero-add, arith}
use Rattle.lists.proofs.Counts.{sum_next, sum_end}
use Rattle.tally.proofs.add_all.Goals as goal

pub loop-word-init : goal.loop-word-init
loop-word-init c = zero-add _

pub overflow_add-n : goal.overflow_add-n
overflow_add-n c = omega (arith, sum_next c.args.words.now c.loop-word.word-index c.loop-word.n (omega arith) c.loop-word.invariant, c.requires)

pub loop-word-preserved : goal.loop-word-preserved
loop-word-preserved c = sum_next c.args.words.now c.loop-word.word-index c.loop-word.n (omega arith) c.loop-word.invariant

pub returns : goal.returns
returns c = sum_end c.args.words.now c.loop-word.word-index c.loop-word.n (omega arith) c.loop-word.invariant
