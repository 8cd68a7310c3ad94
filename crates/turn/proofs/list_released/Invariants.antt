use mathlib.Core.Path.{◌≡◌}
use mathlib.Core.List.{◌++◌}
use Prim.Native.Nat.{◌+◌, ◌≤◌}
use lib.ListN.{length, take}
use Rattle.std.specs.Iterator.Adapters.{zip_first, zip_second}
use Rattle.std.specs.Slice.Iter.{iter_rest}
use Rattle.turn.specs.Turn.{released_of}
use Rattle.turn.proofs.list_released.Given as goal

abbrev pub invariant-loop-word : goal.invariant-loop-word
invariant-loop-word l =
    let ps = iter_rest (zip_first l.word-iterator) in
    let ts = iter_rest (zip_second l.word-iterator) in
    (length ps ≡ length ts) × (l.m + length ps ≤ length l.pointers) × (length l.out ≡ length l.initial.out) × (take l.m l.out ++ released_of ps ts ≡ released_of l.pointers l.targets)
