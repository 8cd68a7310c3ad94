use native.Mathlib.Omega.{arith}
use Rattle.sent_accept.proofs.Fits.{offer_3, offer_none, offer_many, offer_part, offer_fits_lem, blocks_few, most_few}
use Rattle.sent_accept.proofs.offer_refusal.Goals as goal

pub returns-then-table-till : goal.returns-then-table-till
returns-then-table-till c = offer_3 c.args.table.now c.args.till c.args.fingerprints.now c.args.marks.now c.if-table-till.true

pub returns-then-n-eq0 : goal.returns-then-n-eq0
returns-then-n-eq0 c = offer_none c.args.table.now c.args.till c.args.fingerprints.now c.args.marks.now (omega arith) _ c.measures_in-m.ensures c.if-n-eq0.true

pub parts_for-requires : goal.parts_for-requires
parts_for-requires c = blocks_few _ c.requires _ c.measures_in-m.ensures

pub returns-then-parts_for-n : goal.returns-then-parts_for-n
returns-then-parts_for-n c = offer_many c.args.table.now c.args.till c.args.fingerprints.now c.args.marks.now (omega arith) _ c.measures_in-m.ensures c.if-n-eq0.false (omega (arith, c.parts_for.ensures, c.if-parts_for-n.true))

pub overflow_mul-n : goal.overflow_mul-n
overflow_mul-n c = omega (arith, c.parts_for.ensures, c.if-parts_for-n.false, most_few _ c.requires _ c.measures_in-m.ensures)

pub returns-then-fingerprints-n : goal.returns-then-fingerprints-n
returns-then-fingerprints-n c = offer_part c.args.table.now c.args.till c.args.fingerprints.now c.args.marks.now (omega arith) _ c.measures_in-m.ensures c.if-n-eq0.false (omega (arith, c.parts_for.ensures, c.if-parts_for-n.false)) c.if-fingerprints-n.true

pub returns : goal.returns
returns c = offer_fits_lem c.args.table.now c.args.till c.args.fingerprints.now c.args.marks.now (omega arith) _ c.measures_in-m.ensures c.if-n-eq0.false (omega (arith, c.parts_for.ensures, c.if-parts_for-n.false)) c.if-fingerprints-n.false
