-- The call's answer, by whether the lists fit.
use mathlib.Core.Path.{◌≡◌, ◌∙◌}
use mathlib.Core.Bool.{true, false}
use mathlib.Core.List.{List}
use Prim.Native.Nat.{ℕ}
use lib.ListN.{replicate}
use Rattle.lists.proofs.Rows.{fill_zeros}
use Rattle.chain.specs.Limit.{image_within, backup_all_within}
use Rattle.closing.specs.Closing.{images_in, closing_fits, all_refused, BackupAllAnswer}
use Rattle.closing.specs.Singly.{made_each, answer_to}

module _ (others most : ℕ) (pool table : List ℕ) (user : ℕ) (tills lengths bytes : List ℕ) where
  pub refused_whole : closing_fits tills lengths bytes ≡ false
      → record { answer = record { refusal = 4; refusals = replicate 16 0; versions = replicate 16 0 }; pool = pool; table = table } ≡ backup_all_within others most pool table user tills lengths bytes
  unfolding backup_all_within all_refused
  refused_whole e = rw (e, fill_zeros 16)

  pub done_whole : closing_fits tills lengths bytes ≡ true → (a : BackupAllAnswer) → a ≡ answer_to (made_each (image_within others most user) pool table (images_in tills lengths bytes))
      → a ≡ backup_all_within others most pool table user tills lengths bytes
  unfolding backup_all_within
  done_whole e a q = q ∙ rw e
