use Rattle.std.proofs.Common.{ℕ, ap, ◌∙◌}
use Rattle.trial_report.specs.Counts.{answered_with}
use Rattle.trial_judge.specs.Judge.{retires}
use Rattle.trial_judge.proofs.Wanted.{wanted_told}
use Rattle.trial_judge.proofs.retire_number.Goals as goal

pub returns : goal.returns
returns c =
    let told = wanted_told c.refusal_of-may.result c.retire_refusal.result c.and-wanted.result _ _ c.refusal_of-may.ensures c.retire_refusal.ensures c.and-wanted.ensures in
    c.answered-2.ensures ∙ ap (λ (n : ℕ). answered_with c.args.counts.now retires c.args.refusal n) (c.answered.ensures ∙ told)
