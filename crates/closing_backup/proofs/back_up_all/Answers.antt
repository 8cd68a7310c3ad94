use mathlib.Core.Path.{refl, sym, ◌∙◌}
use Rattle.lists.proofs.Answers.{answer_yes}
use Rattle.closing_backup.proofs.Whole.{refused_whole, done_whole}
use mathlib.Core.Path.{ap}
use mathlib.Core.Bool.{not}
use Rattle.closing_backup.proofs.back_up_all.Goals as goal

pub returns-then-not-lists_fit : goal.returns-then-not-lists_fit
returns-then-not-lists_fit c = let a = c.args in
    refused_whole a.limit.others a.limit.most a.pool.now a.table.now a.user a.tills.now a.lengths.now a.images.now (sym c.lists_fit.ensures ∙ c.if-not-lists_fit.true)

pub back_up_each-requires : goal.back_up_each-requires
back_up_each-requires c = (c.requires.0, answer_yes c.lists_fit.ensures (ap not c.if-not-lists_fit.false), refl, refl, c.requires.1)

pub returns : goal.returns
returns c = let a = c.args in
    done_whole a.limit.others a.limit.most a.pool.now a.table.now a.user a.tills.now a.lengths.now a.images.now (answer_yes c.lists_fit.ensures (ap not c.if-not-lists_fit.false)) _ c.back_up_each.ensures
