use native.Mathlib.Omega.{arith}
use borrow.Author.Rules.{rules}
use Prim.Native.Nat.{◌/◌, ◌≤◌}
use lib.ListN.{length}
use Rattle.lists.proofs.Places.{rows_few}
use Rattle.model.specs.Measures.{record_words}
use Rattle.sweep_laws.proofs.Sweeps.{swept_start, swept_inside, swept_next, swept_all}
use Rattle.sweep.proofs.sweep_marked.Goals as goal

pub loop-k-init : goal.loop-k-init
loop-k-init c = swept_start _ _ _ _ _ c.requires c.rows-n.ensures

pub overflow_cast-k : goal.overflow_cast-k
overflow_cast-k c =
    let few : length c.args.words.now / record_words c.args.m.blocks ≤ 4096 = (rows_few _ (record_words c.args.m.blocks) (omega arith) 4096 c.requires.short) in
    omega (arith, few, c.loop-k.invariant.all)

pub sweep_record-requires : goal.sweep_record-requires
sweep_record-requires c = let l = c.loop-k in record { stored_marked = l.invariant.kept; number_in_bounds = swept_inside _ _ _ _ _ _ _ _ _ l.invariant (search rules) }

pub loop-k-preserved : goal.loop-k-preserved
loop-k-preserved c = let l = c.loop-k in
    let q = c.sweep_record in
    swept_next _ _ _ _ _ _ _ _ _ l.invariant (search rules) _ _ _ q.auto.pool q.auto.words q.auto.occupied q.ensures

pub returns : goal.returns
returns c = swept_all _ _ _ _ _ _ _ _ _ c.loop-k.invariant (search rules)
