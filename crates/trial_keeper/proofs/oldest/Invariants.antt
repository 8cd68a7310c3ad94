use Rattle.std.proofs.Common.{◌≡◌}
use Rattle.trial_keeper.specs.Notes.{number_at, least_held}
use Rattle.trial_keeper.proofs.Places.{from}
use Rattle.trial_keeper.proofs.oldest.Given as goal

abbrev pub invariant-loop-place : goal.invariant-loop-place
invariant-loop-place l = l.least ≡ least_held (from (number_at l.notes l.till) l.place)
