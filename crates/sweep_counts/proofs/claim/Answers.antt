use mathlib.Core.Path.{refl}
use Prim.Native.Nat.{◌<◌}
use native.Mathlib.Omega.{arith}
use lib.ListN.{length}
use borrow.Author.Rules.{rules}
use Rattle.model.specs.Place.{one_more}
use Rattle.storage.proofs.Changes.{raising_next, names_still, changing_all}
use Rattle.sweep_counts.proofs.claim.Goals as goal

pub loop-word-init : goal.loop-word-init
loop-word-init c = (c.requires.n_bound.0, record { changing = record { inside = omega arith; long = refl; encodes = c.requires.n_bound.1; rest = refl }; same = λ k j. refl; most = λ k j. omega arith })

pub raise-requires : goal.raise-requires
raise-requires c = let l = c.loop-word in
    let v = l.invariant.1 in
    let h : l.word-index < length c.args.pointers.now = search rules in
    let q = c.requires.by_index l.word-index h in record { n_bound = (l.invariant.0, v.changing.encodes); within_records = (rw v.changing.long q.0, names_still _ _ v.same _ q.1); by_index = λ k j. omega (arith, v.most k j, c.requires.by_index_2 k j, h) }

pub loop-word-preserved : goal.loop-word-preserved
loop-word-preserved c = let l = c.loop-word in
    let h : l.word-index < length c.args.pointers.now = search rules in
    (l.invariant.0, raising_next _ _ _ _ l.word-index h l.invariant.1 _ c.raise.auto.words c.raise.ensures)

pub shape_of-words : goal.shape_of-words
shape_of-words c = c.loop-word.invariant.1.changing.long

pub returns : goal.returns
returns c = changing_all one_more _ _ _ _ _ c.loop-word.invariant.1.changing (omega arith)
