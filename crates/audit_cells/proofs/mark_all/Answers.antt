use Rattle.std.proofs.Common.{◌∙◌, arith}
use Rattle.audit_cells.proofs.Records.{again, fails, ends}
use Rattle.audit_cells.proofs.mark_all.Goals as goal

pub mark_record-requires : goal.mark_record-requires
mark_record-requires c = let s = c.in-Some.ensures.steps in
    (c.requires.0, s.1.1 ∙ c.loop-row.invariant.width, omega (arith, c.loop-row.invariant.going.kept, c.requires.1))

pub returns-then-not-mark_record : goal.returns-then-not-mark_record
returns-then-not-mark_record c = let s = c.in-Some.ensures.steps in
    let v = c.loop-row.invariant in
    fails _ _ c.args.records.now _ _ _ v.going _ _ _ _ s.1.0 (s.1.1 ∙ v.width) c.mark_record.ensures c.if-not-mark_record.true

pub loop-row-preserved : goal.loop-row-preserved
loop-row-preserved c = let s = c.in-Some.ensures.steps in
    let v = c.loop-row.invariant in
    record {
      can_next = omega (arith, s.0, v.can_next);
      is_finite = tt;
      width = s.0 ∙ v.width;
      going = again _ _ c.args.records.now _ _ _ v.going _ _ _ _ s.1.0 (s.1.1 ∙ v.width) c.mark_record.ensures c.mark_record.auto.occupied c.if-not-mark_record.false;
    }

pub returns : goal.returns
returns c = let s = c.in-None.ensures.steps in
    let v = c.loop-row.invariant in
    ends _ _ c.args.records.now _ _ _ v.going (omega (arith, s.1.0, v.width))
