-- A store alone has no limit.
use mathlib.Core.Path.{◌≡◌, ◌∙◌}
use mathlib.Core.List.{List}
use Prim.Native.Nat.{ℕ}
use Rattle.model.specs.Calls.{BackupAnswer}
use Rattle.laws.specs.Stores.{Sound}
use Rattle.closing.specs.Closing.{BackupAllAnswer, backup_all_as}
use Rattle.chain.specs.Limit.{within, backup_all_within}
use Rattle.chain.proofs.Within.{within_none, all_none}

module _ (others most : ℕ) (e : (others ≡ 0) × (most ≡ 4294967295)) (pool table : List ℕ) where
  pub alone : (x a : BackupAnswer) → x ≡ within others most pool table a → x ≡ a
  alone x a f = f ∙ rw (e.0, e.1) (within_none pool table a)

  pub all_alone : Sound pool table → (user : ℕ) (tills lengths images : List ℕ) (x : BackupAllAnswer)
      → x ≡ backup_all_within others most pool table user tills lengths images → x ≡ backup_all_as pool table user tills lengths images
  all_alone h user tills lengths images x f = f ∙ rw (e.0, e.1) (all_none pool table user tills lengths images _ h.is)
