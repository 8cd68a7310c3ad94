use Rattle.std.proofs.Common.{arith, ◌∙◌}
use Rattle.std.proofs.lemmas.Result.{err_from_is_err_and}
use Rattle.retire.proofs.Cases.{no_till_lem, not_held_lem, held_at, holds}
use Rattle.retire.proofs.retire_version.Goals as goal

pub returns-then-table-till : goal.returns-then-table-till
returns-then-table-till c = no_till_lem c.requires _ _ c.if-table-till.true

pub returns-in_err-place : goal.returns-in_err-place
returns-in_err-place c =
    let p = err_from_is_err_and c.from_residual.result c.from_residual.ensures.1 in
    rw (p.1, p.2) (not_held_lem c.requires c.args.till c.args.version (omega (arith, c.if-table-till.false)) _ c.till_head-head.ensures c.look_up.result c.look_up.ensures c.in_err-place.field-0.0 c.in_err-place.was)

pub retire_held-requires : goal.retire_held-requires
retire_held-requires c =
    (holds c.requires c.args.till c.args.version (omega (arith, c.if-table-till.false)) _ c.till_head-head.ensures c.look_up.result c.look_up.ensures c.in_ok-place.place c.in_ok-place.was, c.measures_in-m.ensures)

pub returns : goal.returns
returns c =
    c.retire_held.ensures
    ∙ held_at c.requires c.args.till c.args.version (omega (arith, c.if-table-till.false)) _ c.till_head-head.ensures c.look_up.result c.look_up.ensures c.in_ok-place.place c.in_ok-place.was
