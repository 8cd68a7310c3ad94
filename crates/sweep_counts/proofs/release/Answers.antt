use mathlib.Core.Path.{refl}
use Prim.Native.Nat.{◌<◌}
use native.Mathlib.Omega.{arith}
use lib.ListN.{length}
use borrow.Author.Rules.{rules}
use Rattle.model.specs.Sweep.{one_less}
use Rattle.storage.proofs.Changes.{changing_next, changing_all}
use Rattle.sweep_counts.proofs.release.Goals as goal

pub loop-word-init : goal.loop-word-init
loop-word-init c = (c.requires.n_bound.0, record { inside = omega arith; long = refl; encodes = c.requires.n_bound.1; rest = refl })

pub lower-requires : goal.lower-requires
lower-requires c = let l = c.loop-word in
    record { n_bound = (l.invariant.0, l.invariant.1.encodes); within_records = rw l.invariant.1.long (c.requires.by_index l.word-index (search rules)) }

pub loop-word-preserved : goal.loop-word-preserved
loop-word-preserved c = let l = c.loop-word in
    let h : l.word-index < length c.args.pointers.now = search rules in
    (l.invariant.0, changing_next one_less _ _ _ _ l.word-index h l.invariant.1 _ c.lower.auto.words c.lower.ensures)

pub shape_of-words : goal.shape_of-words
shape_of-words c = c.loop-word.invariant.1.long

pub returns : goal.returns
returns c = changing_all one_less _ _ _ _ _ c.loop-word.invariant.1 (omega arith)
