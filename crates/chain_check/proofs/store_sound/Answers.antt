use mathlib.Core.Path.{◌∙◌}
use Rattle.lists.specs.Lists.{is_some}
use Rattle.model.specs.Sound.{store_of}
use Rattle.chain.specs.Chain.{is_store_at}
use Rattle.chain_check.proofs.Parts.{lent}
use Rattle.chain_check.proofs.store_sound.Goals as goal

pub returns : goal.returns
unfolding is_store_at
returns c = c.sound.ensures ∙ lent _ c.requires.0 _ c.requires.1 _ c.place_of-p.ensures.1 (λ pool table. is_some (store_of pool table))
