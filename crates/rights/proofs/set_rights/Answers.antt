use Rattle.std.proofs.Common.{◌-◌, List, ap, ◌∙◌, set}
use Rattle.std.proofs.lemmas.Result.{err_from_is_err_and}
use Rattle.laws.proofs.Stores.{header}
use Rattle.refusals.proofs.Numbers.{not_accepted}
use Rattle.model.specs.State.{Rights}
use Rattle.model.specs.Table.{rights_word}
use Rattle.rights.specs.Answers.{rights_given}
use Rattle.rights.proofs.Cases.{word_few, rights_read, rights_put, refused_set, accepted, accepted_set}
use Rattle.rights.proofs.set_rights.Goals as goal

pub set_refusal-requires : goal.set_refusal-requires
set_refusal-requires c = header c.requires

pub returns-in_err-set_refusal : goal.returns-in_err-set_refusal
returns-in_err-set_refusal c =
    let p = err_from_is_err_and c.from_residual.result c.from_residual.ensures.1 in
    rw (p.1, p.2) (refused_set c.requires c.args.user c.args.subject c.args.till (rights_given c.args.rights) _ c.in_err-set_refusal.ensures (not_accepted _))

pub word_with-requires : goal.word_with-requires
word_with-requires c =
    let a = accepted c.requires c.args.user c.args.subject c.args.till (rights_given c.args.rights) c.in_ok-set_refusal.ensures in
    (a.some, a.few, word_few c.requires c.args.till a.there _ c.rights_at-at.ensures)

pub returns : goal.returns
returns c =
    let a = accepted c.requires c.args.user c.args.subject c.args.till (rights_given c.args.rights) c.in_ok-set_refusal.ensures in
    let o = c.rights_at-at.ensures in
    let read = ap (λ (rs : List Rights). rights_word (set rs (c.args.subject - 1) (rights_given c.args.rights))) (rights_read c.requires c.args.till a.there _ o) in
    accepted_set c.requires c.args.user c.args.subject c.args.till (rights_given c.args.rights) c.in_ok-set_refusal.ensures _
    (rights_put c.requires c.args.till a.there _ o c.args.subject (rights_given c.args.rights) _ (c.word_with.ensures ∙ read))
