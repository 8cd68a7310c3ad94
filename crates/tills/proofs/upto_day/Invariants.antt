use Rattle.tills.proofs.Days.{Among}
use Rattle.tills.proofs.upto_day.Given as goal

abbrev pub invariant-loop-newest : goal.invariant-loop-newest
invariant-loop-newest l = Among l.pool l.table l.till l.day l.newest
