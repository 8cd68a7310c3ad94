use Rattle.std.proofs.Common.{◌∙◌, ◌<◌, ap, ℕ, arith}
use Rattle.model.specs.Measures.{parts_for}
use Rattle.numbers.proofs.Products.{parts_up, segment_some}
use Rattle.numbers.proofs.Measures.segments.Goals as goal

pub returns : goal.returns
returns c =
    let w = c.segment_bytes-width in
    let some : 0 < w.result = omega (arith, w.ensures.0, segment_some c.args.self.blocks c.args.self.bytes c.requires.0.some_blocks c.requires.0.some_bytes) in
    c.div_ceil.ensures ∙ parts_up c.args.length w.result some ∙ ap (λ (k : ℕ). parts_for k c.args.length) w.ensures.0
