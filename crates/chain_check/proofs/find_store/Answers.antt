use mathlib.Core.Path.{sym}
use Rattle.chain_check.proofs.Refusals.{fitting, is_there}
use Rattle.chain_check.proofs.find_store.Goals as goal

pub place_of-requires : goal.place_of-requires
place_of-requires c = (fitting _ _ (sym (c.in_ok-refusal.ensures)), is_there _ _ (sym (c.in_ok-refusal.ensures)))
