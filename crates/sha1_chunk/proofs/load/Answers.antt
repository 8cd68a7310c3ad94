use Rattle.std.proofs.Common.{◌≡◌, ℕ, List, ◌++◌, drop, set, refl, ap, ◌∙◌, ap₂, arith}
use Rattle.sha1_definition.specs.Sha1.{chunk_word, schedule}
use Rattle.sha1_chunk.proofs.Schedule.{load_more}
use Rattle.sha1_chunk.proofs.load.Goals as goal

pub loop-t-init : goal.loop-t-init
unfolding schedule
loop-t-init c = refl

pub loop-t-preserved : goal.loop-t-preserved
unfolding chunk_word
loop-t-preserved c = let h = c.loop-t in
    let a = c.args in
    ap₂ (λ (l : List ℕ) (v : ℕ). set l h.t v) h.invariant c.from_be_bytes.ensures ∙ load_more a.chunk.now a.words.now h.t (omega arith) (omega arith)

pub returns : goal.returns
returns c = let h = c.loop-t in
    let e : h.t ≡ 16 = omega arith in
    h.invariant ∙ ap (λ (t : ℕ). schedule c.args.chunk.now t ++ drop t c.args.words.now) e
