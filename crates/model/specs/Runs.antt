-- "The shortest maximal run of free cells that is long enough, the lowest of equals."
use Rattle.std.specs.Prelude.{ℕ, suc, ◌-◌, Bool, true, false, cond, not, List, [], ◌∷◌, length, ltb, leb}
use Rattle.std.proofs.Math.Option.{Option, none, some}
use Rattle.lists.specs.Lists.{counted, is_in}
use Rattle.model.specs.State.{Storage}
use Rattle.model.specs.Records.{named_cells}

-- consecutive cells from `start` on
pub record Run : Type 0 where
  pub start : ℕ
  pub cells : ℕ

-- for each cell, whether no position names it
unfoldable pub free_cells : Storage → List Bool
free_cells storage = let named = named_cells storage.records in counted (λ c. not (is_in c named)) 0 (length storage.cells)

-- the better of the best run so far and a later one of `k` cells up to place `i`: long enough for `need`, and shorter than the best
unfoldable pub better : ℕ → ℕ → ℕ → Option Run → Option Run
better need i k none = cond (leb need k) (some (record { start = i - k; cells = k })) none
better need i k (some best) = cond (leb need k) (cond (ltb k best.cells) (some (record { start = i - k; cells = k })) (some best)) (some best)

-- One pass over the cells. The list says of the cells from place `i` which are free; the `k` cells before `i` are free and the one before them is
-- not; `best` is the best run that ended before.
unfoldable pub scan : ℕ → List Bool → ℕ → ℕ → Option Run → Option Run
scan need [] i k best = better need i k best
scan need (true ∷ fs) i k best = scan need fs (suc i) (suc k) best
scan need (false ∷ fs) i k best = scan need fs (suc i) 0 (better need i k best)

unfoldable pub find_run : Storage → ℕ → Option Run
find_run storage need = scan need (free_cells storage) 0 0 none
