use mathlib.Core.Path.{◌≡◌}
use Prim.Native.Nat.{◌+◌, ◌≤◌, ◌<◌}
use lib.Count.{ones}
use Rattle.records.proofs.Records.{renumbered}
use Rattle.records.proofs.Record.renumber.Given as goal

abbrev pub invariant-loop-left : goal.invariant-loop-left
invariant-loop-left l = (l.left < 65536)
    × (l.at + ones l.left ≤ 65552)
    × (l.self.held ≡ l.initial.self.held)
    × (l.self.removed ≡ l.initial.self.removed)
    × (l.self.blank ≡ l.initial.self.blank)
    × (l.self.used ≡ l.initial.self.used)
    × (renumbered l.left l.at l.self.cells ≡ renumbered l.initial.left l.initial.at l.initial.self.cells)
    × (l.self.counts ≡ l.initial.self.counts)

abbrev pub decreases-loop-left : goal.decreases-loop-left
decreases-loop-left l = l.left
