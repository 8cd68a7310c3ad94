use Rattle.std.proofs.Common.{◌≡◌, ◌∙◌, not, eqb, count_by, rules}
use Rattle.trial_compare.proofs.Wrong.{others_count}
use Rattle.trial_compare.proofs.filled_words.Goals as goal

pub returns : goal.returns
returns c =
    let e : c.count.result ≡ count_by (λ y. not (eqb y 0)) c.args.words.now = search rules in
    e ∙ others_count 0 c.args.words.now
