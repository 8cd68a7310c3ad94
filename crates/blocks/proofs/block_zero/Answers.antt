use Rattle.std.proofs.Common.{ap, sym, ◌∙◌}
use Rattle.lists.specs.Lists.{all_zero}
use Rattle.lists.proofs.Rows.{zero_fill}
use Rattle.blocks.proofs.block_zero.Goals as goal

pub returns : goal.returns
returns c = let b = c.block_part in
    c.all_zero.ensures ∙ sym (zero_fill c.args.bytes b.result.now b.ensures.0) ∙ ap all_zero b.ensures.1
