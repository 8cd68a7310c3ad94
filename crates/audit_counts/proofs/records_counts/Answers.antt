use Rattle.std.proofs.Common.{◌*◌, not, inl, inr, length, length-drop, ap, ◌∙◌, arith}
use borrow.Author.Count.{below_more}
use Rattle.lists.proofs.Checkers.{is_so, is_not, refutes, proves}
use Rattle.lists.proofs.Places.{rows_few, rows_short}
use Rattle.model.specs.Measures.{record_words}
use Rattle.audit_words.proofs.Chunks.{front, behind, one_of, one_more}
use Rattle.audit_counts.proofs.Rows.{row}
use Rattle.audit_counts.proofs.records_counts.Goals as goal

pub record_counts-requires : goal.record_counts-requires
record_counts-requires c = let s = c.in-Some.ensures.steps in
    let v = c.loop-row.invariant in
    (c.requires.0, s.0.1.1 ∙ v.width, omega (arith, s.1.1.1, v.most, c.requires.0))

pub returns-then-not-record_counts : goal.returns-then-not-record_counts
returns-then-not-record_counts c = let s = c.in-Some.ensures.steps in
    let v = c.loop-row.invariant in
    let k = length c.loop-row.yielded in
    let w = record_words c.args.n in
    let e = v.records ∙ s.0.1.0 in
    let l = s.0.1.1 ∙ v.width in
    is_not (λ f. refutes (row _ k c.args.records.now c.args.counts.now _ _ c.requires.0 (front _ _ _ k w e l) (front _ _ _ k 16 (v.counts ∙ s.1.1.0) (s.1.1.1 ∙ v.most)) c.record_counts.ensures)
    (ap not c.if-not-record_counts.true) (f k (one_of _ _ _ k w e l (omega arith))))

pub loop-row-preserved : goal.loop-row-preserved
loop-row-preserved c = let s = c.in-Some.ensures.steps in
    let v = c.loop-row.invariant in
    let k = length c.loop-row.yielded in
    let w = record_words c.args.n in
    let e = v.records ∙ s.0.1.0 in
    let l = s.0.1.1 ∙ v.width in
    let e' = v.counts ∙ s.1.1.0 in
    let l' = s.1.1.1 ∙ v.most in
    rw (one_more c.loop-row.yielded (c.in-Some.row, c.in-Some.of_row)) (record {
      can_next = (omega (arith, s.0.0, v.can_next), omega (arith, s.1.0, v.can_next));
      is_finite = tt;
      width = s.0.0 ∙ v.width;
      most = s.1.0 ∙ v.most;
      records = behind _ _ _ k w e l;
      counts = behind _ _ _ k 16 e' l';
      upto = below_more _ _ v.upto (proves (row _ k c.args.records.now c.args.counts.now _ _ c.requires.0 (front _ _ _ k w e l) (front _ _ _ k 16 e' l') c.record_counts.ensures) (ap not c.if-not-record_counts.false));
    })

pub returns : goal.returns
returns c =
    let v = c.loop-row.invariant in
    let k = length c.loop-row.yielded in
    let w = record_words c.args.n in
    is_so (elim c.in-None.ensures.steps [
      | inl a ↦ let q = rows_short (length c.args.records.now) w (omega arith) k (omega (arith, a.1.1.0, v.width, ap length v.records, length-drop (k * w) c.args.records.now)) in λ j h. v.upto j (omega (arith, q, h))
      | inr b ↦ let q = rows_few (length c.args.records.now) w (omega arith) 4096 c.requires.1 in
          λ j h. v.upto j (omega (arith, q, h, b.1.1.0, v.most, ap length v.counts, length-drop (k * 16) c.args.counts.now, c.requires.2))
    ])
