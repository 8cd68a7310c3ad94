use Rattle.std.proofs.Common.{◌≡◌, arith, rules}
use Rattle.trial_compare.specs.Bytes.{differing}
use Rattle.trial_compare.proofs.Wrong.{differing_next, differing_end, none_differing}
use Rattle.trial_compare.proofs.differing_words.Goals as goal

pub loop-i-preserved : goal.loop-i-preserved
loop-i-preserved c = (omega arith, omega (arith, differing_next c.args.words.now c.args.copy.now c.loop-i.i (search rules), c.word_differs_at-n.ensures.0))

pub returns : goal.returns
returns c =
    let e : c.loop-i.n ≡ differing c.args.words.now c.args.copy.now = omega (arith, differing_end c.args.words.now c.args.copy.now c.loop-i.i (search rules)) in
    record { count = e; few = omega arith; same = λ z. none_differing c.args.words.now c.args.copy.now (omega (arith, e, z)) }
