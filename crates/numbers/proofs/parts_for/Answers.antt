use Rattle.std.proofs.Common.{◌∙◌}
use Rattle.numbers.proofs.Products.{parts_up}
use Rattle.numbers.proofs.parts_for.Goals as goal

pub returns : goal.returns
returns c = c.div_ceil.ensures ∙ parts_up c.args.length c.args.width c.requires.0
