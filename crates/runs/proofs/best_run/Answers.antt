use Rattle.std.proofs.Common.{arith, ap, sym, ◌∙◌, ◌≡◌, ◌-◌, ◌%◌, ℕ, [], ◌∷◌, length, drop, map, length-append, length-drop}
use Rattle.runs.specs.Runs.{free_if, run_found}
use Rattle.model.specs.Runs.{scan}
use Rattle.runs.proofs.Runs.{piece_next, scan_fits, went, went_all}
use Rattle.runs.proofs.best_run.Goals as goal

pub returns-in-Some-best : goal.returns-in-Some-best
returns-in-Some-best c =
    let s = c.loop-piece.search in
    let a = c.args in
    let fs = map (free_if a.free) (drop s.at a.marks.now) in
    let e = ap run_found c.in-Some-best.is in
    e ∙ scan_fits a.need fs s.at s.run _ c.if-run-need.true ∙ ap (scan a.need fs s.at s.run) (sym e) ∙ c.loop-piece.invariant.7

pub loop-piece-preserved : goal.loop-piece-preserved
loop-piece-preserved c =
    let i = c.loop-piece.invariant in
    let s = c.loop-piece.search in
    let t = c.by_piece-search in
    let a = c.args in
    let n = c.in-Some.ensures.steps in
    let p = piece_next (free_if a.free) a.marks.now _ c.in-Some.piece.now _ s.at 64 i.3 n.1.0 (n.1.1 ∙ i.2) i.5 in (
      omega (arith, n.0, i.2),
      tt,
      n.0 ∙ i.2,
      p.0 ∙ ap (λ (k : ℕ). drop k a.marks.now) (sym t.ensures.0),
      omega (arith, t.ensures.0, i.4, length-append c.loop-piece.yielded (c.in-Some.piece ∷ [])),
      omega (arith, t.ensures.0, p.2),
      t.ensures.1,
      went a.free a.need a.marks.now s t.result c.in-Some.piece.now _ t.ensures.0 t.ensures.2 p.1 ∙ i.7,
    )

pub returns : goal.returns
returns c =
    let i = c.loop-piece.invariant in
    let s = c.loop-piece.search in
    let a = c.args in
    let n = c.in-None.ensures.steps in
    let k : length a.marks.now - s.at ≡ length (drop s.at a.marks.now) = sym (length-drop s.at a.marks.now) in
    let e : length a.marks.now - length a.marks.now % 64 ≡ s.at = omega (arith, n.1.0, i.2, ap length i.3, k, i.4, i.5) in
    let r = c.remainder-rest.ensures ∙ c.chunks_exact-pieces.ensures.remainder ∙ ap (λ (m : ℕ). drop m a.marks.now) e in
    c.or.ensures ∙ went_all a.free a.need a.marks.now s c.by_cell-end.result c.remainder-rest.result.now r c.by_cell-end.ensures.2 ∙ i.7
