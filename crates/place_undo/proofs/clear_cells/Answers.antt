use native.Mathlib.Omega.{arith}
use mathlib.Core.Path.{refl}
use Rattle.model.specs.Sweep.{clear_cells}
use Rattle.model.specs.Table.{cells_in}
use Rattle.place_words.proofs.Cells.{acted_end, acted_next, acted_start}
use Rattle.place_undo.proofs.Undoing.{clear_append}
use Rattle.place_undo.proofs.clear_cells.Goals as goal

pub loop-i-init : goal.loop-i-init
loop-i-init c = (refl, λ seg l s. acted_start (λ cs cells. clear_cells c.args.bytes cells cs) seg c.args.row.now s (cells_in c.args.bytes c.args.pool.now))

pub clear_if-requires : goal.clear_if-requires
clear_if-requires c = let l = c.loop-i in
    (omega arith, omega (arith, l.invariant.0, c.requires.1 l.i (omega arith)), c.requires.2, c.requires.3)

pub loop-i-preserved : goal.loop-i-preserved
loop-i-preserved c = let l = c.loop-i in
    let a = c.args in
    (omega arith, λ seg e s. rw c.clear_if.ensures (acted_next (λ cs cells. clear_cells a.bytes cells cs) seg a.row.now s (cells_in a.bytes a.pool.now) l.m l.i (cells_in a.bytes l.pool) (l.invariant.1 seg e s) (clear_append a.bytes (cells_in a.bytes l.pool)) (omega (arith, e))))

pub returns : goal.returns
returns c = λ seg e s.
    let l = c.loop-i in
    let a = c.args in
    acted_end (λ cs cells. clear_cells a.bytes cells cs) seg a.row.now s (cells_in a.bytes a.pool.now) l.m l.i (cells_in a.bytes l.pool) (l.invariant.1 seg e s) (unfold clear_cells in refl) (omega (arith, e))
