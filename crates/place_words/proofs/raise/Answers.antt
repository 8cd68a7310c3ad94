use Rattle.std.proofs.Common.{rules}
use Rattle.lists.specs.Walk.{out_more}
use Rattle.place_words.proofs.raise.Goals as goal

pub returns : goal.returns
returns c = c.step_each.ensures (λ b x. out_more b 0 x) (λ b x y e. search rules)
