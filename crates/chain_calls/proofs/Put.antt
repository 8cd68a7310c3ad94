-- An answer with the parts that come back put in their places, accepted or refused.
use mathlib.Core.Path.{◌≡◌, refl}
use Rattle.std.proofs.Common.{ℕ, List, Result, Ok, Err}
use Rattle.refusals.specs.declared.Refusal.{Refusal}
use Rattle.backup.specs.Call.{backup_result}
use Rattle.retire.specs.Answers.{retire_result}
use Rattle.closing_backup.specs.declared.Each.{Each}
use Rattle.closing_backup.specs.Answers.{closing_result}
use Rattle.chain.specs.Chain.{Chain, pools_with, tables_with}
use Rattle.chain.specs.Calls.{backup_on_chain, retire_on_chain, all_on_chain}

module _ (c : Chain) (i : ℕ) where
  pub backup_put : (r : Result ℕ Refusal) (pool table : List ℕ) → backup_on_chain c i (backup_result r pool table) ≡ backup_result r (pools_with c i pool) (tables_with c i table)
  unfolding backup_on_chain
  backup_put (Ok version) pool table = refl
  backup_put (Err r) pool table = refl

  pub retire_put : (r : Result ℕ Refusal) (pool table : List ℕ) → retire_on_chain c i (retire_result r pool table) ≡ retire_result r (pools_with c i pool) (tables_with c i table)
  unfolding retire_on_chain
  retire_put (Ok length) pool table = refl
  retire_put (Err r) pool table = refl

  pub closing_put : (r : Result Each Refusal) (pool table : List ℕ) → all_on_chain c i (closing_result r pool table) ≡ closing_result r (pools_with c i pool) (tables_with c i table)
  unfolding all_on_chain
  closing_put (Ok each) pool table = refl
  closing_put (Err r) pool table = refl
