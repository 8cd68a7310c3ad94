use native.Mathlib.Omega.{arith}
use borrow.Author.Rules.{rules}
use mathlib.Core.Path.{refl, subst, sym}
use Prim.Native.Nat.{ℕ, ◌/◌, ◌<◌, ◌≤◌}
use lib.ListN.{length}
use Rattle.lists.proofs.Places.{rows_few}
use Rattle.model.specs.Measures.{record_words}
use Rattle.sweep_laws.specs.Marked.{NamedIn}
use Rattle.sweep_laws.proofs.Named.{marking_next, marking_all}
use Rattle.sweep.proofs.mark_named.Goals as goal

pub loop-k-init : goal.loop-k-init
loop-k-init c = record { inside = omega arith; all = c.rows-count.ensures; long = refl; rest = refl }

pub overflow_cast-k : goal.overflow_cast-k
overflow_cast-k c =
    let few : length c.args.words.now / record_words c.args.n ≤ 4096 = (rows_few _ (record_words c.args.n) (omega arith) 4096 c.requires.named_in.short) in
    omega (arith, few, c.loop-k.invariant.all)

pub mark_record-requires : goal.mark_record-requires
mark_record-requires c =
    let l = c.loop-k.invariant.long in
    record { named_in = subst (λ (i : ℕ). NamedIn c.args.n c.args.words.now i) (sym l) c.requires.named_in; occupied_len_bound = (omega (arith, l, c.requires.occupied_len_bound), omega (arith, c.loop-k.invariant.all)) }

pub loop-k-preserved : goal.loop-k-preserved
loop-k-preserved c =
    let inside : c.loop-k.k < length c.args.words.now / record_words c.args.n = (omega (arith, c.loop-k.invariant.all)) in
    let q = c.mark_record in
    marking_next _ _ _ (inside) _ _ _ c.loop-k.invariant _ q.auto.occupied q.ensures

pub returns : goal.returns
returns c = marking_all _ _ _ _ _ _ c.loop-k.invariant (search rules)
