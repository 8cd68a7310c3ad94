-- All cells are marked free, then those that are named are taken.
use mathlib.Core.Path.{◌∙◌, ◌≡◌, ap}
use mathlib.Core.Bool.{Bool, true}
use mathlib.Core.List.{List}
use Prim.Native.Nat.{ℕ}
use lib.ListN.{length, length-replicate, replicate}
use Rattle.model.specs.Measures.{Measures}
use Rattle.model.specs.Records.{named_cells}
use Rattle.model.specs.Runs.{free_cells}
use Rattle.model.specs.Table.{cells_in, records_in, storage_in}
use Rattle.place_free.specs.Free.{without_cells}
use Rattle.place_free.proofs.Free.{free_start}

pub marked_length : (n : ℕ) (free : List Bool) → free ≡ replicate n true → length free ≡ n
marked_length n free e = ap length e ∙ length-replicate n true

pub marked_free : (m : Measures) (pool ws : List ℕ) (free free' : List Bool) → free ≡ replicate (length (cells_in m.block_bytes pool)) true
    → free' ≡ without_cells (named_cells (records_in m.segment_blocks ws)) free → free' ≡ free_cells (storage_in m pool ws)
unfolding storage_in
marked_free m pool ws free free' e f = f ∙ ap (without_cells (named_cells (records_in m.segment_blocks ws))) e ∙ free_start (storage_in m pool ws)
