use native.Mathlib.Omega.{arith}
use Rattle.model.specs.Table.{shape_of, state_in}
use Rattle.laws.proofs.Stores.{header}
use Rattle.sent_accept.proofs.Fits.{sent_3, sent_4, sent_till}
use mathlib.Core.Path.{ap}
use mathlib.Core.Bool.{not}
use Rattle.sent_accept.proofs.sent_refusal.Goals as goal

pub bounds-table-0 : goal.bounds-table-0
bounds-table-0 c = omega (arith, (header c.requires).eight)

pub returns-then-table-till : goal.returns-then-table-till
returns-then-table-till c = sent_3 c.args.table.now (state_in (shape_of c.args.table.now) c.args.pool.now c.args.table.now) c.args.till c.args.length c.args.fingerprints.now c.args.marks.now c.args.segments.now c.if-table-till.true

pub lists_fit-requires : goal.lists_fit-requires
lists_fit-requires c = header c.requires

pub returns-then-not-lists_fit : goal.returns-then-not-lists_fit
returns-then-not-lists_fit c = sent_4 c.args.table.now (state_in (shape_of c.args.table.now) c.args.pool.now c.args.table.now) c.args.till c.args.length c.args.fingerprints.now c.args.marks.now c.args.segments.now (omega arith) _ c.lists_fit.ensures (ap not c.if-not-lists_fit.true)

pub returns : goal.returns
returns c = sent_till c.args.table.now (state_in (shape_of c.args.table.now) c.args.pool.now c.args.table.now) c.args.till c.args.length c.args.fingerprints.now c.args.marks.now c.args.segments.now (omega arith) _ c.lists_fit.ensures (ap not c.if-not-lists_fit.false) _ c.till_refusal.ensures
