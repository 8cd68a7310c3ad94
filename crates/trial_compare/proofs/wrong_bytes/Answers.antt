use Rattle.std.proofs.Common.{◌≡◌, ◌+◌, arith}
use Rattle.trial_compare.specs.Bytes.{wrong_bytes}
use Rattle.trial_compare.proofs.Wrong.{none_wrong}
use Rattle.trial_compare.proofs.wrong_bytes.Goals as goal

pub returns : goal.returns
unfolding wrong_bytes
returns c =
    let e : c.differing_bytes.result + c.saturating_sub.result ≡ wrong_bytes c.args.a.now c.args.b.now = omega (arith, c.differing_bytes.ensures.count) in
    record { count = e; same = λ z. none_wrong c.args.a.now c.args.b.now (omega (arith, e, z)) }
