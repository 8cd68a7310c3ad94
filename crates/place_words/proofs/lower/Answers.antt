use Rattle.std.proofs.Common.{rules}
use Rattle.lists.specs.Walk.{out_less}
use Rattle.place_words.proofs.lower.Goals as goal

pub returns : goal.returns
returns c = c.step_each.ensures (λ b x. out_less b 0 x) (λ b x y e. search rules)
