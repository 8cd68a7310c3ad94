-- Laws of the cells that are taken.
use mathlib.Core.Path.{◌∙◌, ◌≡◌, ap, refl, sym}
use mathlib.Core.Bool.{Bool, false}
use mathlib.Core.List.{List, [], ◌++◌, ◌∷◌}
use Prim.Native.Nat.{◌+◌, ◌<◌, ◌≤◌, ℕ}
use lib.ListN.{drop, get_or, length, length-set, set}
use Rattle.lists.specs.Rows.{joined}
use Rattle.lists.proofs.Slices.{drop_end, drop_next}
use Rattle.model.specs.Records.{cells_of, named_cells}
use Rattle.model.specs.State.{Segment}
use Rattle.model.specs.Table.{record_to_words}
use Rattle.storage.proofs.Free.{row_names_none}
use Rattle.place_free.specs.Free.{without_cells}

pub taken_append : (xs ys : List ℕ) (fs : List Bool) → without_cells (xs ++ ys) fs ≡ without_cells ys (without_cells xs fs)
unfolding without_cells
taken_append [] ys fs = refl
taken_append (x ∷ xs) ys fs = taken_append xs ys (set fs x false)

pub length_taken : (cs : List ℕ) (fs : List Bool) → length (without_cells cs fs) ≡ length fs
unfolding without_cells
length_taken [] fs = refl
length_taken (c ∷ cs) fs = length_taken cs (set fs c false) ∙ length-set fs c false

-- a record that holds no position takes none
pub taken_none : (seg : Segment) (row : List ℕ) → row ≡ record_to_words seg → get_or row 0 0 ≡ 0 → (fs : List Bool) → fs ≡ without_cells (cells_of seg) fs
unfolding without_cells
taken_none seg row s z fs = ap (λ (cs : List ℕ). without_cells cs fs) (sym (row_names_none seg row s z))

-- record by record
pub named_step : (segs : List Segment) (k : ℕ) (fs : List Bool) → k < length segs
    → without_cells (named_cells (drop k segs)) fs ≡ without_cells (named_cells (drop (k + 1) segs)) (without_cells (cells_of (get_or segs k [])) fs)
unfolding named_cells joined
named_step segs k fs h = rw (drop_next segs k [] h) (taken_append (cells_of (get_or segs k [])) _ fs)

pub named_done : (segs : List Segment) (k : ℕ) (fs : List Bool) → length segs ≤ k → without_cells (named_cells (drop k segs)) fs ≡ fs
unfolding named_cells joined without_cells
named_done segs k fs h = rw (drop_end segs k h)
