use mathlib.Core.Path.{◌≡◌}
use Prim.Native.Nat.{◌+◌, ◌-◌, ◌*◌, ◌≤◌, ◌<◌}
use lib.ListN.{length}
use Rattle.stream.specs.Stream.{stream_of}
use Rattle.stream_write.proofs.Laws.{groups_from}
use Rattle.stream_write.proofs.stream_length.Given as goal

abbrev pub invariant-loop-from : goal.invariant-loop-from
invariant-loop-from l = (l.from < length l.image + 512) × (l.n ≤ 4 + 2 * l.from) × (l.n + length (groups_from l.image l.from) ≡ length (stream_of l.image))

abbrev pub decreases-loop-from : goal.decreases-loop-from
decreases-loop-from l = length l.image - l.from
