use native.Mathlib.Omega.{arith}
use mathlib.Core.Path.{sym, ◌∙◌}
use Rattle.model.specs.Image.{block_from}
use Rattle.stream_write.proofs.Laws.{part_null, part_size, part_put}
use Rattle.stream_write.proofs.put_if.Goals as goal

pub returns-then-block_zero : goal.returns-then-block_zero
returns-then-block_zero c = let a = c.args in
    part_null (block_from 64 a.image.now a.from) a.at a.output.now (sym c.block_zero.ensures ∙ c.if-block_zero.true)

pub slice_bounds-put_block-end : goal.slice_bounds-put_block-end
slice_bounds-put_block-end c = let a = c.args in
    omega (arith, part_size a.image.now a.from (sym c.block_zero.ensures ∙ c.if-block_zero.false))

pub returns : goal.returns
returns c = let a = c.args in
    part_put a.image.now a.from a.at a.output.now _ (sym c.block_zero.ensures ∙ c.if-block_zero.false) c.requires.1 c.put_block.ensures
