-- What is the owner's only, of a sound store.
use mathlib.Core.Path.{◌≡◌}
use mathlib.Core.List.{List}
use Prim.Native.Nat.{ℕ}
use Rattle.model.specs.Sound.{store_of}
use Rattle.model.specs.Rights.{owner_refusal, not_owner}
use Rattle.laws.specs.Stores.{Sound}

pub for_owner : (pool table : List ℕ) → Sound pool table → (n user : ℕ) → n ≡ not_owner user → n ≡ owner_refusal (store_of pool table) user
unfolding owner_refusal
for_owner pool table h n user e = rw h.is e
