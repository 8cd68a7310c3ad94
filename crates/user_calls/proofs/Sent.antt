-- The limit and a user's sent backup: the user's refusals come first.
use mathlib.Core.Path.{◌≡◌}
use mathlib.Core.List.{List}
use Prim.Native.Nat.{ℕ}
use Rattle.model.specs.Sound.{store_of}
use Rattle.model.specs.Rights.{to_back_up, refusal_for, unless, backup_refusal}
use Rattle.sent.specs.Sent.{backup_sent_of, backup_sent_as}
use Rattle.chain.specs.Limit.{within}
use Rattle.chain.proofs.Within.{within_unless}

pub within_sent : (others limit : ℕ) (pool table : List ℕ) (user t bytes : ℕ) (fingerprints marks segments : List ℕ)
    → within others limit pool table (backup_sent_as pool table user t bytes fingerprints marks segments)
    ≡ unless (refusal_for (store_of pool table) user t to_back_up) (backup_refusal pool table)
    (within others limit pool table (backup_sent_of pool table t bytes fingerprints marks segments))
unfolding backup_sent_as
within_sent others limit pool table user t bytes fingerprints marks segments =
    within_unless others limit pool table (refusal_for (store_of pool table) user t to_back_up) (backup_sent_of pool table t bytes fingerprints marks segments)
