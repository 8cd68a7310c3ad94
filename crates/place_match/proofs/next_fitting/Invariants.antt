use Rattle.std.proofs.Common.{ℕ, ◌*◌, ◌<◌, ◌≤◌}
use Rattle.place_match.specs.Fit.{RowFits}
use Rattle.place_match.proofs.next_fitting.Given as goal

abbrev pub invariant-loop-j : goal.invariant-loop-j
invariant-loop-j l = (i : ℕ) → i < l.j → l.k ≤ i → RowFits l.mask l.blank l.records (i * l.width) → ⊥
