use Prim.Native.Nat.{◌-◌, ◌≤◌}
use lib.ListN.{length, drop}
use Rattle.stream.specs.Stream.{read_blocks}
use Rattle.stream_laws.proofs.Steps.{Alike}
use Rattle.stream_check.proofs.check_blocks.Given as goal

abbrev pub invariant-loop-i : goal.invariant-loop-i
invariant-loop-i l = (l.at ≤ length l.stream) × Alike (read_blocks 8 l.bits l.bytes (drop l.from l.stream)) (read_blocks (8 - l.i) l.m l.left (drop l.at l.stream))
