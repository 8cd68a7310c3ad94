use Rattle.std.proofs.Common.{◌≡◌, ◌∙◌, not, eqb, count_by, rules}
use Rattle.trial_compare.proofs.Wrong.{others_count}
use Rattle.trial_compare.proofs.others_than.Goals as goal

pub returns : goal.returns
returns c =
    let e : c.count.result ≡ count_by (λ y. not (eqb y c.args.byte)) c.args.bytes.now = search rules in
    e ∙ others_count c.args.byte c.args.bytes.now
