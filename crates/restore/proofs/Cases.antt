-- The refusals of a restore, and the accepted call.
use mathlib.Core.Path.{◌≡◌, refl, sym, ◌∙◌}
use mathlib.Core.List.{List, [], ◌∷◌}
use Prim.Native.Nat.{ℕ, ◌≤◌, ◌<◌}
use lib.ListN.{get_or, take, drop}
use borrow.Author.Tests.{le-leb, lt-leb}
use Rattle.model.specs.State.{Version}
use Rattle.model.specs.Table.{shape_of, state_in}
use Rattle.model.specs.Calls.{till_of, Lookup, missing, first_of, look_up, restore_refusal, restore_from, restore, restore_in, restore_of}
use Rattle.laws.specs.Stores.{Sound}
use Rattle.std.proofs.Common.{Result, Ok, Err}
use Rattle.refusals.specs.declared.Refusal.{Refusal}
use Rattle.refusals.specs.Refusals.{number_of}
use Rattle.tills.specs.Answers.{LookedUp, versions_held}

module _ {pool table : List ℕ} (h : Sound pool table) (t v : ℕ) (output : List ℕ) where
  pub no_till_lem : get_or table 0 0 ≤ t → record { refusal = 3; length = 0; hops = 0; output = output } ≡ restore_of pool table t v output
  unfolding restore_of restore_in restore restore_refusal shape_of
  no_till_lem n = rw (h.is, le-leb _ _ n)

  module _ (in_table : t < get_or table 0 0) (f : Result ℕ Refusal) (p : LookedUp pool table t v f) where
    answer : (l : Lookup) → look_up (till_of (state_in (shape_of table) pool table) t) v ≡ l
        → restore_of pool table t v output ≡ restore_from (shape_of table).measures.block_bytes (state_in (shape_of table) pool table).storage l output
    unfolding restore_of restore_in restore shape_of
    answer l e = rw (h.is, lt-leb _ _ in_table, e)

    pub not_held_lem : (e : Refusal) → f ≡ Err e → record { refusal = number_of e; length = 0; hops = 0; output = output } ≡ restore_of pool table t v output
    unfolding restore_from restore_refusal
    not_held_lem e q = sym (answer (missing (number_of e)) (p.missing e q))

    pub held_at : (j : ℕ) → f ≡ Ok j
        → restore_from (shape_of table).measures.block_bytes (state_in (shape_of table) pool table).storage (first_of 0 [] (drop j (versions_held pool table t))) output ≡ restore_of pool table t v output
    held_at j q = sym (answer _ (p.held j q) ∙ older_apart (drop j (versions_held pool table t)))
      where
        -- a restore needs none of the older ones
        older_apart : (vs : List Version)
            → restore_from (shape_of table).measures.block_bytes (state_in (shape_of table) pool table).storage (first_of 0 (take j (versions_held pool table t)) vs) output
            ≡ restore_from (shape_of table).measures.block_bytes (state_in (shape_of table) pool table).storage (first_of 0 [] vs) output
        older_apart [] = unfold first_of in refl
        older_apart (w ∷ vs) = unfold first_of restore_from in refl
