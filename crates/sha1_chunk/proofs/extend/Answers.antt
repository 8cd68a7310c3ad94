use Rattle.std.proofs.Common.{◌≡◌, ℕ, List, ◌++◌, drop, set, sym, ap, ◌∙◌, append-nil, arith, take-append-drop, drop_of_length-le}
use Rattle.sha1_definition.specs.Sha1.{mixed, schedule}
use Rattle.sha1_chunk.proofs.Schedule.{extend_more}
use Rattle.sha1_chunk.proofs.extend.Goals as goal

pub loop-t-init : goal.loop-t-init
loop-t-init c = let w = c.args.words.now in
    λ chunk e. sym (take-append-drop 16 w) ∙ ap (λ (l : List ℕ). l ++ drop 16 w) e

pub loop-t-preserved : goal.loop-t-preserved
unfolding mixed
loop-t-preserved c = let h = c.loop-t in
    let w = c.args.words.now in
    λ chunk e. ap (set h.words h.t) c.rotate_left.ensures ∙ ap (λ (l : List ℕ). set l h.t (mixed l h.t)) (h.invariant chunk e) ∙ extend_more chunk w h.t (omega arith) (omega arith)

pub returns : goal.returns
returns c = let h = c.loop-t in
    let w = c.args.words.now in
    let e : h.t ≡ 80 = omega arith in
    λ chunk p. h.invariant chunk p ∙ ap (λ (t : ℕ). schedule chunk t ++ drop t w) e
    ∙ ap (λ (l : List ℕ). schedule chunk 80 ++ l) (drop_of_length-le w {i = 80} (omega arith)) ∙ append-nil (schedule chunk 80)
