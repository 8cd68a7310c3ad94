-- The records' words of a sound table, lent to the end: those of its storage.
use mathlib.Core.Path.{◌≡◌, sym, ap, ◌∙◌, subst}
use mathlib.Core.List.{List}
use Prim.Native.Nat.{ℕ, ◌-◌}
use lib.ListN.{length, take, drop}
use Rattle.lists.proofs.Slices.{tail_all}
use Rattle.model.specs.Measures.{Measures, records_at}
use Rattle.model.specs.Table.{shape_of, state_in, storage_in, state_to_bytes, records_part}
use Rattle.laws.specs.Stores.{Sound}
use Rattle.laws.proofs.Stores.{found}
use Rattle.storage.specs.Stored.{Stored}
use Rattle.sound_laws.proofs.Storage.{sound_stored}

module _ {pool table : List ℕ} (h : Sound pool table) (r : ℕ) (e : r ≡ records_at (shape_of table).capacities) where
  pub part_is : take (length table - r) (drop r table) ≡ drop (records_at (shape_of table).capacities) table
  part_is = tail_all table r ∙ ap (λ (k : ℕ). drop k table) e

  stored : Stored (shape_of table).measures pool (take (length table - r) (drop r table))
  unfolding shape_of
  stored =
      subst (λ (w : List ℕ). Stored (shape_of table).measures pool w) (sym part_is)
      (subst (λ (p : List ℕ). Stored (shape_of table).measures p (drop (records_at (shape_of table).capacities) table)) (found h).bytes
      (subst (λ (w : List ℕ). Stored (shape_of table).measures (state_to_bytes (state_in (shape_of table) pool table)) (records_part (shape_of table).capacities w)) (found h).words
      (sound_stored (shape_of table) (state_in (shape_of table) pool table) (found h).sound)))

  pub storage_is : storage_in (shape_of table).measures pool (take (length table - r) (drop r table)) ≡ (state_in (shape_of table) pool table).storage
  unfolding state_in shape_of
  storage_is = ap (storage_in (shape_of table).measures pool) part_is

  -- with the measures as the code read them
  pub stored_read : (m : Measures) → m ≡ (shape_of table).measures → Stored m pool (take (length table - r) (drop r table))
  stored_read m em = rw em stored
