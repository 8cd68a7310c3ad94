use Rattle.std.proofs.Common.{arith, ◌∙◌}
use Rattle.std.proofs.lemmas.Result.{err_from_is_err_and}
use Rattle.restore.proofs.Cases.{no_till_lem, not_held_lem, held_at}
use Rattle.restore.proofs.restore_version.Goals as goal

pub returns-then-table-till : goal.returns-then-table-till
returns-then-table-till c = no_till_lem c.requires _ _ _ c.if-table-till.true

pub returns-in_err-place : goal.returns-in_err-place
returns-in_err-place c =
    let p = err_from_is_err_and c.from_residual.result c.from_residual.ensures.1 in
    rw (p.1, p.2) (not_held_lem c.requires c.args.till c.args.version c.args.output.now (omega (arith, c.if-table-till.false)) c.look_up.result c.look_up.ensures c.in_err-place.field-0.0 c.in_err-place.was)

pub restore_held-requires : goal.restore_held-requires
restore_held-requires c =
    let h = c.till_head-head in
    (c.requires, omega (arith, c.if-table-till.false), h.ensures, omega (arith, h.ensures.held, c.look_up.ensures.inside c.in_ok-place.place c.in_ok-place.was), c.measures_in-m.ensures)

pub returns : goal.returns
returns c =
    c.restore_held.ensures
    ∙ held_at c.requires c.args.till c.args.version c.args.output.now (omega (arith, c.if-table-till.false)) c.look_up.result c.look_up.ensures c.in_ok-place.place c.in_ok-place.was
