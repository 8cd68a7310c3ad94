use Rattle.std.proofs.Common.{ap, ◌∙◌}
use Rattle.model.specs.Measures.{Measures}
use Rattle.numbers.specs.Measures.{measures_of}
use Rattle.numbers.proofs.Header.{base_tests}
use Rattle.numbers.proofs.Measures.is_base.Goals as goal

pub returns : goal.returns
returns c = let b = c.base.ensures.0 in
    c.eq.ensures ∙ base_tests (measures_of c.args.self) _ _ _ (ap (λ (m : Measures). m.block_bytes) b) (ap (λ (m : Measures). m.segment_blocks) b) (ap (λ (m : Measures). m.rebuild_percent) b)
