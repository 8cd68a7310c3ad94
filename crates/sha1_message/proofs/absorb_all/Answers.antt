use Rattle.std.proofs.Common.{sym, ◌∙◌, arith}
use Rattle.sha1_message.proofs.Loops.{absorb_chunk, absorb_none}
use Rattle.sha1_message.proofs.absorb_all.Goals as goal

pub loop-chunk-preserved : goal.loop-chunk-preserved
loop-chunk-preserved c = let v = c.loop-chunk.invariant in
    let q = c.in-Some.ensures.steps in
    (q.0 ∙ v.0, absorb_chunk _ _ _ _ _ q.1.0 (q.1.1 ∙ v.0) c.compress-s.ensures ∙ v.1)

pub returns : goal.returns
returns c = let v = c.loop-chunk.invariant in
    let q = c.in-None.ensures.steps in
    sym (absorb_none _ _ (omega (arith, q.1.0, v.0))) ∙ v.1
