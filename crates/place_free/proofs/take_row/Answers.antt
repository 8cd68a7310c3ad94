use Rattle.std.proofs.Common.{arith, refl}
use Rattle.place_words.proofs.Cells.{acted_end, acted_next, acted_start}
use Rattle.place_free.specs.Free.{without_cells}
use Rattle.place_free.proofs.Searches.{taken_append, taken_none}
use Rattle.place_free.proofs.take_row.Goals as goal

pub returns-then-m-eq0 : goal.returns-then-m-eq0
returns-then-m-eq0 c = λ seg e s. taken_none seg _ s c.if-m-eq0.true _

pub loop-i-init : goal.loop-i-init
loop-i-init c = (refl, λ seg l s. acted_start without_cells seg c.args.row.now s c.args.free.now)

pub loop-i-preserved : goal.loop-i-preserved
loop-i-preserved c = let l = c.loop-i in
    let a = c.args in
    (omega arith, λ seg e s. rw c.take_if.ensures (acted_next without_cells seg a.row.now s a.free.now l.m l.i l.free (l.invariant.1 seg e s) (λ xs ys. taken_append xs ys l.free) (omega (arith, e))))

pub returns : goal.returns
returns c = λ seg e s.
    let l = c.loop-i in
    acted_end without_cells seg c.args.row.now s c.args.free.now l.m l.i l.free (l.invariant.1 seg e s) (unfold without_cells in refl) (omega (arith, e))
