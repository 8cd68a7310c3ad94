use mathlib.Core.Path.{◌≡◌}
use Prim.Native.Nat.{◌*◌, ◌-◌, ◌≤◌}
use Rattle.lists.specs.Lists.{first_from, same_numbers}
use Rattle.model.specs.Image.{blocks_from, image_blocks}
use Rattle.turn.proofs.find_block.Given as goal

abbrev pub invariant-loop-k : goal.invariant-loop-k
invariant-loop-k l = (l.n ≤ l.count) × (first_from (same_numbers l.cell) l.n (blocks_from l.bytes l.image (l.n * l.bytes) (l.count - l.n)) ≡ first_from (same_numbers l.cell) 0 (image_blocks l.bytes l.image))

abbrev pub decreases-loop-k : goal.decreases-loop-k
decreases-loop-k l = l.count - l.n
