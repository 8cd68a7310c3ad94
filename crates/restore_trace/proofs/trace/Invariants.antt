use Prim.Native.Nat.{◌-◌}
use Rattle.restore_trace.proofs.Traces.{Tracing}
use Rattle.restore_trace.proofs.trace.Given as goal

abbrev pub invariant-loop-named : goal.invariant-loop-named
invariant-loop-named l = Tracing l.bytes l.b l.h l.slots l.initial.pointer.0 l.v l.pointer.0

abbrev pub decreases-loop-named : goal.decreases-loop-named
decreases-loop-named l = l.h - l.v
