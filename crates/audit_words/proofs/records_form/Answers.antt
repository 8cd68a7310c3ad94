use Rattle.std.proofs.Common.{not, ap, ◌∙◌, arith}
use Rattle.lists.proofs.Checkers.{is_so, is_not, refutes, proves}
use Rattle.audit_words.specs.Words.{RecordForm}
use Rattle.audit_words.proofs.Chunks.{each_row, row_each, each_end}
use Rattle.audit_words.proofs.records_form.Goals as goal

pub record_form-requires : goal.record_form-requires
record_form-requires c = (c.in-Some.ensures.steps.1.1 ∙ c.loop-row.invariant.size, c.requires)

pub returns-then-not-record_form : goal.returns-then-not-record_form
returns-then-not-record_form c =
    let s = c.in-Some.ensures.steps in
    is_not (λ e. refutes c.record_form.ensures (ap not c.if-not-record_form.true) (each_row (RecordForm c.args.n) _ _ _ s.1.0 (s.1.1 ∙ c.loop-row.invariant.size) (omega arith) (c.loop-row.invariant.all e)).0)

pub loop-row-preserved : goal.loop-row-preserved
loop-row-preserved c =
    let s = c.in-Some.ensures.steps in
    let l = s.1.1 ∙ c.loop-row.invariant.size in
    record {
      can_next = omega (arith, s.0, c.loop-row.invariant.can_next);
      is_finite = tt;
      size = s.0 ∙ c.loop-row.invariant.size;
      left = λ e. c.loop-row.invariant.left (row_each (RecordForm c.args.n) _ _ _ s.1.0 l (omega arith) (proves c.record_form.ensures (ap not c.if-not-record_form.false), e));
      all = λ e. (each_row (RecordForm c.args.n) _ _ _ s.1.0 l (omega arith) (c.loop-row.invariant.all e)).1;
    }

pub returns : goal.returns
returns c = let s = c.in-None.ensures.steps in is_so (c.loop-row.invariant.left (each_end (RecordForm c.args.n) _ (omega (arith, s.1.0, c.loop-row.invariant.size))))
