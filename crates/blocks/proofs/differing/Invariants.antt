use Rattle.std.proofs.Common.{◌≡◌, ◌≤◌, eqb, take}
use Rattle.lists.specs.Lists.{same_numbers}
use Rattle.blocks.proofs.differing.Given as goal

abbrev pub invariant-loop-i : goal.invariant-loop-i
invariant-loop-i l = (l.count ≤ l.i) × (eqb l.count 0 ≡ same_numbers (take l.i l.a) (take l.i l.b))
