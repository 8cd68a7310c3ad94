use Rattle.std.proofs.Common.{◌≡◌}
use Rattle.lists.specs.Lists.{largest}
use Rattle.trial_keeper.specs.Notes.{number_at}
use Rattle.trial_keeper.proofs.Places.{from}
use Rattle.trial_keeper.proofs.newest.Given as goal

abbrev pub invariant-loop-place : goal.invariant-loop-place
invariant-loop-place l = l.most ≡ largest (from (number_at l.notes l.till) l.place)
