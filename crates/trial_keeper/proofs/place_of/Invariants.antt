use Rattle.std.proofs.Common.{◌≡◌, ◌≤◌}
use Rattle.trial_keeper.specs.Notes.{number_at, first_place}
use Rattle.trial_keeper.proofs.Places.{from}
use Rattle.trial_keeper.proofs.place_of.Given as goal

abbrev pub invariant-loop-place : goal.invariant-loop-place
invariant-loop-place l = (l.found ≤ 5) × (l.found ≡ first_place l.number l.place (from (number_at l.notes l.till) l.place))
