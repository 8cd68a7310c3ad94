use Rattle.std.proofs.Common.{◌*◌, false, not, inl, inr, length, length-drop, sym, ap, ◌∙◌, arith}
use borrow.Author.Count.{below_more}
use Rattle.lists.proofs.Checkers.{is_so, is_not, refutes, proves}
use Rattle.lists.proofs.Places.{rows_short}
use Rattle.model.specs.Sound.{is_filled}
use Rattle.audit_words.proofs.Chunks.{front, behind, one_of, front_one, behind_one, one_more}
use Rattle.audit_cells.proofs.cells_filled.Goals as goal

pub cell_matches-requires : goal.cell_matches-requires
cell_matches-requires c = let l = c.in-Some.ensures.steps.0.1.1 ∙ c.loop-cell.invariant.size in rw l (c.requires.4, c.requires.5)

pub returns-then-not-cell_matches : goal.returns-then-not-cell_matches
returns-then-not-cell_matches c = let s = c.in-Some.ensures.steps in
    let v = c.loop-cell.invariant in
    let k = length c.loop-cell.yielded in
    let e = v.pool ∙ s.0.1.0 in
    let l = s.0.1.1 ∙ v.size in
    is_not (λ f. refutes c.cell_matches.ensures (ap not c.if-not-cell_matches.true)
    (sym (front_one _ _ _ k (v.occupied ∙ s.1) false) ∙ f k (one_of _ _ _ k c.args.bytes e l c.requires.0) ∙ ap is_filled (front _ _ _ k c.args.bytes e l)))

pub loop-cell-preserved : goal.loop-cell-preserved
loop-cell-preserved c = let s = c.in-Some.ensures.steps in
    let v = c.loop-cell.invariant in
    let k = length c.loop-cell.yielded in
    let e = v.pool ∙ s.0.1.0 in
    let l = s.0.1.1 ∙ v.size in
    let e' = v.occupied ∙ s.1 in
    rw (one_more c.loop-cell.yielded (c.in-Some.cell, c.in-Some.field-0-1)) (record {
      can_next = (omega (arith, s.0.0, v.can_next), tt);
      is_finite = tt;
      size = s.0.0 ∙ v.size;
      pool = behind _ _ _ k c.args.bytes e l;
      occupied = behind_one _ _ _ k e';
      upto = below_more _ _ v.upto (front_one _ _ _ k e' false ∙ proves c.cell_matches.ensures (ap not c.if-not-cell_matches.false) ∙ ap is_filled (sym (front _ _ _ k c.args.bytes e l)));
    })

pub returns : goal.returns
returns c =
    let v = c.loop-cell.invariant in
    let k = length c.loop-cell.yielded in
    is_so (elim c.in-None.ensures.steps [
      | inl a ↦ let q = rows_short (length c.args.pool.now) c.args.bytes c.requires.0 k (omega (arith, a.1.1.0, v.size, ap length v.pool, length-drop (k * c.args.bytes) c.args.pool.now)) in λ j h. v.upto j (omega (arith, q, h))
      | inr b ↦ λ j h. v.upto j (omega (arith, h, b.1.0, ap length v.occupied, length-drop k c.args.occupied.now, c.requires.2))
    ])
