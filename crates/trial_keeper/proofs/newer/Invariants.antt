use Rattle.std.proofs.Common.{◌≡◌, ◌+◌, ◌≤◌, ltb}
use Rattle.lists.specs.Lists.{count}
use Rattle.trial_keeper.specs.Notes.{number_at}
use Rattle.trial_keeper.proofs.Places.{from}
use Rattle.trial_keeper.proofs.newer.Given as goal

abbrev pub invariant-loop-place : goal.invariant-loop-place
invariant-loop-place l = (l.n + l.place ≤ 5) × (l.n ≡ count (ltb l.version) (from (number_at l.notes l.till) l.place))
