use Rattle.std.proofs.Common.{◌≡◌, ◌+◌, ◌-◌}
use Rattle.sha1_definition.specs.Sha1.{rounds}
use Rattle.sha1_chunk.proofs.twenty_rounds.Given as goal

abbrev pub invariant-loop-t : goal.invariant-loop-t
invariant-loop-t g l = rounds l.words l.t (l.from + 20 - l.t) l.s ≡ rounds l.words l.from 20 l.initial.s
