use native.Mathlib.Omega.{arith}
use Rattle.lists.proofs.Masks.{one_shl}
use Rattle.audit_words.proofs.past_masks.Goals as goal

pub returns : goal.returns
returns c = one_shl _ 32 (omega arith)
