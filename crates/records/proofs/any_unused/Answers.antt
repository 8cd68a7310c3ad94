use Rattle.std.proofs.Common.{arith}
use Rattle.lists.proofs.Checkers.{is_so, is_not}
use Rattle.records.proofs.Unreferenced.{unseen_start, seen, unseen_next, unseen_end}
use Rattle.records.proofs.any_unused.Goals as goal

pub loop-count-init : goal.loop-count-init
loop-count-init c = λ seg e q. unseen_start seg _ e

pub returns-then-unused : goal.returns-then-unused
returns-then-unused c = λ seg e q.
    let l = c.loop-count in
    is_so (seen seg _ q l.left l.count-index (l.invariant seg e q) (omega arith) _ c.unused.ensures c.if-unused.true)

pub loop-count-preserved : goal.loop-count-preserved
loop-count-preserved c = λ seg e q. let l = c.loop-count in
    unseen_next seg _ q l.left l.count-index (l.invariant seg e q) (omega arith) _ c.unused.ensures c.if-unused.false

pub returns : goal.returns
returns c = λ seg e q. let l = c.loop-count in
    is_not (λ x. omega (arith, unseen_end seg _ q l.left l.count-index (l.invariant seg e q) (omega arith)))
