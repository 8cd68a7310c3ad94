use mathlib.Core.Path.{◌≡◌}
use Prim.Native.Nat.{◌+◌, ◌*◌, ◌-◌}
use lib.ListN.{drop}
use Rattle.model.specs.Table.{versions_in}
use Rattle.model.specs.Trace.{end_of}
use Rattle.audit_pointers.proofs.end_of.Given as goal

abbrev pub invariant-loop-i : goal.invariant-loop-i
invariant-loop-i l = end_of (versions_in l.bytes l.blocks (l.count - l.i) (drop (l.i * (3 + l.blocks)) l.slots)) l.b ≡ end_of (versions_in l.bytes l.blocks l.count l.slots) l.initial.b
