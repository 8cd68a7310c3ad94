use Rattle.std.proofs.Common.{◌≡◌, ◌*◌, ◌/◌, ◌<◌, length, length-drop, refl, ap, ◌∙◌, arith}
use Rattle.lists.proofs.Places.{rows_short}
use Rattle.model.specs.Measures.{record_words}
use Rattle.audit_words.proofs.Chunks.{front, behind, one_of, one_more}
use Rattle.tally.proofs.Cases.{going_start, row_at_k, going_small, going_next, going_end}
use Rattle.tally.proofs.tally_rows.Goals as goal

pub tally_row-one-requires : goal.tally_row-one-requires
tally_row-one-requires c = let s = c.in-Some.ensures.steps in
    let v = c.loop-row.invariant in
    let k = length c.loop-row.yielded in
    let w = record_words c.args.n in
    let e = v.left ∙ s.1.0 in
    let l = s.1.1 ∙ v.width in
    (c.requires.0, rw (front _ _ _ k w e l) at (row_at_k c.args.n w refl c.requires.0 c.args.words.now c.requires.1 k (one_of _ _ _ k w e l (omega arith))))

pub overflow_add-cells : goal.overflow_add-cells
overflow_add-cells c = let s = c.in-Some.ensures.steps in
    let v = c.loop-row.invariant in
    let k = length c.loop-row.yielded in
    let w = record_words c.args.n in
    let e = v.left ∙ s.1.0 in
    let l = s.1.1 ∙ v.width in
    omega (arith, (going_small c.args.n w refl c.requires.0 c.args.words.now c.requires.1 k (one_of _ _ _ k w e l (omega arith)) _ _ _ v.going c.tally_row-one.result (rw (front _ _ _ k w e l) c.tally_row-one.ensures)).0)

pub overflow_add-records : goal.overflow_add-records
overflow_add-records c = let s = c.in-Some.ensures.steps in
    let v = c.loop-row.invariant in
    let k = length c.loop-row.yielded in
    let w = record_words c.args.n in
    let e = v.left ∙ s.1.0 in
    let l = s.1.1 ∙ v.width in
    omega (arith, (going_small c.args.n w refl c.requires.0 c.args.words.now c.requires.1 k (one_of _ _ _ k w e l (omega arith)) _ _ _ v.going c.tally_row-one.result (rw (front _ _ _ k w e l) c.tally_row-one.ensures)).1)

pub overflow_add-counts : goal.overflow_add-counts
overflow_add-counts c = let s = c.in-Some.ensures.steps in
    let v = c.loop-row.invariant in
    let k = length c.loop-row.yielded in
    let w = record_words c.args.n in
    let e = v.left ∙ s.1.0 in
    let l = s.1.1 ∙ v.width in
    omega (arith, (going_small c.args.n w refl c.requires.0 c.args.words.now c.requires.1 k (one_of _ _ _ k w e l (omega arith)) _ _ _ v.going c.tally_row-one.result (rw (front _ _ _ k w e l) c.tally_row-one.ensures)).2)

pub loop-row-preserved : goal.loop-row-preserved
loop-row-preserved c = let s = c.in-Some.ensures.steps in
    let v = c.loop-row.invariant in
    let k = length c.loop-row.yielded in
    let w = record_words c.args.n in
    let e = v.left ∙ s.1.0 in
    let l = s.1.1 ∙ v.width in
    rw (one_more c.loop-row.yielded c.in-Some.row) (record {
      can_next = omega (arith, s.0, v.can_next);
      is_finite = tt;
      width = s.0 ∙ v.width;
      left = behind _ _ _ k w e l;
      going = going_next c.args.n w refl c.requires.0 c.args.words.now c.requires.1 k (one_of _ _ _ k w e l (omega arith)) _ _ _ v.going _ (rw (front _ _ _ k w e l) c.tally_row-one.ensures);
    })

pub returns : goal.returns
returns c = let s = c.in-None.ensures.steps in
    let v = c.loop-row.invariant in
    let k = length c.loop-row.yielded in
    let w = record_words c.args.n in
    going_end c.args.n w refl c.requires.0 c.args.words.now c.requires.1 k _ _ _ (rows_short (length c.args.words.now) w (omega arith) k (omega (arith, s.1.0, v.width, ap length v.left, length-drop (k * w) c.args.words.now))) v.going
