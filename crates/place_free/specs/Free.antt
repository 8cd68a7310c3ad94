-- The cells and the records that are still free.
use Rattle.std.specs.Prelude.{◌≡◌, Bool, false, true, List, [], ◌∷◌, ◌<◌, ◌≤◌, ℕ, get_or, length, set}
use Rattle.model.specs.Records.{is_free}
use Rattle.model.specs.State.{Segment}

-- without the cells that the list names, which are no longer free
unfoldable pub without_cells : List ℕ → List Bool → List Bool
without_cells [] fs = fs
without_cells (c ∷ cs) fs = without_cells cs (set fs c false)

-- all records from `u` on are free
abbrev pub RestFree : ℕ → List Segment → Type 0
RestFree u recs = (j : ℕ) → u ≤ j → j < length recs → is_free (get_or recs j []) ≡ true
