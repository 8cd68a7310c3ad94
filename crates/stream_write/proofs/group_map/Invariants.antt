use mathlib.Core.Path.{◌≡◌}
use Rattle.lists.specs.Masks.{mask_of}
use Rattle.model.specs.Sound.{is_filled}
use Rattle.stream_write.proofs.Laws.{blocks_left}
use Rattle.stream_write.proofs.group_map.Given as goal

abbrev pub invariant-loop-i : goal.invariant-loop-i
invariant-loop-i l = l.m ≡ mask_of is_filled (blocks_left l.image l.from l.i)
