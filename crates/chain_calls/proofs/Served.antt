-- A call on a chain, by what the check of the chain found: it is refused, or it is the call on the store's own parts.
use mathlib.Core.Path.{◌≡◌, refl, sym, ap, ap₂, ◌∙◌}
use mathlib.Core.List.{List, ◌++◌}
use Prim.Native.Nat.{ℕ, ◌-◌, ◌<◌}
use lib.ListN.{take, drop}
use Rattle.model.specs.Rights.{unless}
use Rattle.laws.specs.Stores.{Sound}
use Rattle.chain.specs.Chain.{Chain, store_count, pool_at, table_at, pools_with, tables_with, chain_refusal}
use Rattle.chain.specs.Limit.{other_cells}
use Rattle.refusals.specs.declared.Refusal.{Refusal}
use Rattle.refusals.specs.Refusals.{number_of}
use Rattle.refusals.proofs.Numbers.{not_accepted}
use Rattle.laws.proofs.Unless.{user_refused, user_served}
use Rattle.chain_check.specs.declared.Place.{Place}
use Rattle.chain_check.specs.Places.{Lengths, Lies}
use Rattle.chain_check.proofs.Refusals.{is_there, fitting, sound_chain}
use Rattle.chain_check.proofs.Parts.{lent, sound_lent, pool_returned, table_returned}

pub refused : (c : Chain) (i : ℕ) (r : Refusal) → number_of r ≡ chain_refusal c i → {A : Type 0} (refuse : ℕ → A) (answer : A) → refuse (number_of r) ≡ unless (chain_refusal c i) refuse answer
refused c i r e refuse answer = user_refused refuse answer (number_of r) (chain_refusal c i) e (not_accepted r)

module _ (c : Chain) (i : ℕ) (p : Place) (e : 0 ≡ chain_refusal c i) (q : Lies c i p) where
  none : chain_refusal c i ≡ 0
  none = sym e

  fit : Lengths c
  fit = fitting c i none

  there : i < store_count c
  there = is_there c i none

  pub sound_part : Sound (take (p.end - p.from) (drop p.from c.pools)) (take (p.stop - p.at) (drop p.at c.tables))
  sound_part = sound_lent c fit i there p q ((sound_chain c i none).stores i there)

  -- a call that reads
  pub served : {A : Type 0} (refuse : ℕ → A) (call : List ℕ → List ℕ → A) (a : A)
      → a ≡ call (take (p.end - p.from) (drop p.from c.pools)) (take (p.stop - p.at) (drop p.at c.tables))
      → a ≡ unless (chain_refusal c i) refuse (call (pool_at c i) (table_at c i))
  served refuse call a f = user_served refuse (call (pool_at c i) (table_at c i)) 0 (chain_refusal c i) e refl a (f ∙ lent c fit i there p q call)

  -- a call that alters: the parts that come back are put in their places
  module _ {A : Type 0} (refuse : ℕ → A) (put : A → A) (answer : List ℕ → List ℕ → A) (pool table : List ℕ) where
    pub altered : put (answer pool table) ≡ answer (pools_with c i pool) (tables_with c i table) → (call : List ℕ → List ℕ → A)
        → answer pool table ≡ call (take (p.end - p.from) (drop p.from c.pools)) (take (p.stop - p.at) (drop p.at c.tables))
        → answer (take p.from c.pools ++ (pool ++ drop (p.end - p.from) (drop p.from c.pools)))
        (take p.at c.tables ++ (table ++ drop (p.stop - p.at) (drop p.at c.tables)))
        ≡ unless (chain_refusal c i) refuse (put (call (pool_at c i) (table_at c i)))
    altered g call f =
        user_served refuse (put (call (pool_at c i) (table_at c i))) 0 (chain_refusal c i) e refl _
        (ap₂ answer (pool_returned c fit i there p q pool) (table_returned c fit i there p q table) ∙ sym g ∙ ap put (f ∙ lent c fit i there p q call))

    -- a backup, with its limit as the code has it
    pub limited : put (answer pool table) ≡ answer (pools_with c i pool) (tables_with c i table) → (call : ℕ → ℕ → List ℕ → List ℕ → A) (others most limit : ℕ)
        → others ≡ other_cells c i → most ≡ limit
        → answer pool table ≡ call others most (take (p.end - p.from) (drop p.from c.pools)) (take (p.stop - p.at) (drop p.at c.tables))
        → answer (take p.from c.pools ++ (pool ++ drop (p.end - p.from) (drop p.from c.pools)))
        (take p.at c.tables ++ (table ++ drop (p.stop - p.at) (drop p.at c.tables)))
        ≡ unless (chain_refusal c i) refuse (put (call (other_cells c i) limit (pool_at c i) (table_at c i)))
    limited g call others most limit k l f =
        altered g (call (other_cells c i) limit)
        (f ∙ ap₂ (λ (m n : ℕ). call m n (take (p.end - p.from) (drop p.from c.pools)) (take (p.stop - p.at) (drop p.at c.tables))) k l)
