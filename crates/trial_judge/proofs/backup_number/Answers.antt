use Rattle.std.proofs.Common.{ℕ, ap, ◌∙◌}
use Rattle.trial_report.specs.Counts.{answered_with}
use Rattle.trial_judge.specs.Judge.{backups, or_full}
use Rattle.trial_judge.proofs.Wanted.{wanted_told}
use Rattle.trial_judge.proofs.backup_number.Goals as goal

pub returns : goal.returns
returns c =
    let told = wanted_told c.refusal_of-may.result c.backup_refusal.result c.and-wanted.result _ _ c.refusal_of-may.ensures c.backup_refusal.ensures c.and-wanted.ensures in
    c.answered.ensures ∙ ap (λ (n : ℕ). answered_with c.args.counts.now backups c.args.refusal n) (c.or_full.ensures ∙ ap (λ (n : ℕ). or_full n c.args.refusal) told)
