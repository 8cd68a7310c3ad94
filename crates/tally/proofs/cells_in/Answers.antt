use Rattle.std.proofs.Common.{◌≡◌, ◌+◌, ◌*◌, ◌/◌, ◌<◌, List, ◌++◌, drop, length, length-drop, get_or, refl, ap, sym, ◌∙◌, zero-add, arith, ℕ}
use lib.Count.{ones}
use Rattle.lists.proofs.Cuts.{part_word}
use Rattle.lists.proofs.Places.{rows_short}
use Rattle.model.specs.Measures.{record_words}
use Rattle.audit_words.proofs.Chunks.{front, behind, one_of, one_more}
use Rattle.tally.proofs.Cases.{cells_next, cells_end}
use Rattle.tally.proofs.cells_in.Goals as goal

pub bounds-row-0 : goal.bounds-row-0
bounds-row-0 c = omega (arith, c.in-Some.ensures.steps.1.1, c.loop-row.invariant.width)

-- the row's first word
mask : (ws x rest : List ℕ) (k w : ℕ) → drop (k * w) ws ≡ x ++ rest → length x ≡ w → 0 < w → get_or x 0 0 ≡ get_or ws (k * w) 0
mask ws x rest k w e l p =
    let z : k * w + 0 ≡ k * w = omega arith in
    ap (λ (r : List ℕ). get_or r 0 0) (sym (front ws x rest k w e l)) ∙ part_word w ws k 0 0 p ∙ ap (λ (i : ℕ). get_or ws i 0) z

pub overflow_add-cells : goal.overflow_add-cells
overflow_add-cells c = let s = c.in-Some.ensures.steps in
    let v = c.loop-row.invariant in
    let k = length c.loop-row.yielded in
    let w = record_words c.args.n in
    let e = v.left ∙ s.1.0 in
    let l = s.1.1 ∙ v.width in
    rw (mask _ _ _ k w e l (omega arith)) (omega (arith, (cells_next c.args.n w refl c.requires.0 c.args.words.now c.requires.1 k (one_of _ _ _ k w e l (omega arith)) _ v.cells).1))

pub loop-row-preserved : goal.loop-row-preserved
loop-row-preserved c = let s = c.in-Some.ensures.steps in
    let v = c.loop-row.invariant in
    let k = length c.loop-row.yielded in
    let w = record_words c.args.n in
    let e = v.left ∙ s.1.0 in
    let l = s.1.1 ∙ v.width in
    rw (one_more c.loop-row.yielded c.in-Some.row) (record {
      can_next = omega (arith, s.0, v.can_next);
      is_finite = tt;
      width = s.0 ∙ v.width;
      left = behind _ _ _ k w e l;
      cells = rw (mask _ _ _ k w e l (omega arith)) ((cells_next c.args.n w refl c.requires.0 c.args.words.now c.requires.1 k (one_of _ _ _ k w e l (omega arith)) _ v.cells).0);
    })

pub returns : goal.returns
returns c = let s = c.in-None.ensures.steps in
    let v = c.loop-row.invariant in
    let k = length c.loop-row.yielded in
    let w = record_words c.args.n in
    cells_end c.args.n w refl c.requires.0 c.args.words.now c.requires.1 k _ (rows_short (length c.args.words.now) w (omega arith) k (omega (arith, s.1.0, v.width, ap length v.left, length-drop (k * w) c.args.words.now))) v.cells
