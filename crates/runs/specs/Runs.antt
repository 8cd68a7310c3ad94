-- The code's run as the model's, or none; and the cells that marks tell to be free.
use Rattle.std.specs.Prelude.{Bool, cond, not, List, map, ℕ, eqb, drop, Option as Answer, None, Some}
use Rattle.std.proofs.Math.Option.{Option, none, some}
use Rattle.runs.specs.declared.Run.{Run}
use Rattle.runs.specs.declared.Search.{Search}
use Rattle.model.specs.Runs as model

unfoldable pub run_of : ℕ → ℕ → Option model.Run
run_of start size = cond (eqb size 0) none (some (record { start = start; cells = size }))

abbrev pub as_run : Run → Option model.Run
as_run r = run_of r.start.0 r.size

-- what a search answers
abbrev pub run_found : Answer Run → Option model.Run
run_found None = none
run_found (Some r) = some (record { start = r.start.0; cells = r.size })

-- whether a cell is free, by its mark, where free cells have this mark
abbrev pub free_if : Bool → Bool → Bool
free_if free mark = cond free mark (not mark)

-- what a search will have found after the cells of which the list says which are free
abbrev pub left : ℕ → List Bool → Search → Option model.Run
left need fs s = model.scan need fs s.at s.run (run_found s.best)

-- what it will have found after all the marks that it has not passed
abbrev pub found_at_end : Bool → ℕ → List Bool → Search → Option model.Run
found_at_end free need marks s = left need (map (free_if free) (drop s.at marks)) s
