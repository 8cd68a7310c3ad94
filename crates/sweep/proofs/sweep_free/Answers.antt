use Rattle.sweep_laws.proofs.Named.{kept_flipped}
use Rattle.sweep.proofs.sweep_free.Goals as goal

pub sweep_marked-requires : goal.sweep_marked-requires
sweep_marked-requires c = kept_flipped _ _ _ c.requires.stored _ _ c.requires.free_value c.flip.ensures
