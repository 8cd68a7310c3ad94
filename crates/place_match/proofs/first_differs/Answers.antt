use Rattle.std.proofs.Common.{arith, get_or}
use borrow.Author.Tests.{eqb-false, not-true}
use Rattle.place_match.proofs.Matching.{first_apart, mark_inside}
use Rattle.place_match.proofs.first_differs.Goals as goal

pub bounds-image-from : goal.bounds-image-from
bounds-image-from c = mark_inside c.args.bytes c.args.image.now c.args.from (omega (arith, c.requires.0))

pub returns-then-mask-eq1 : goal.returns-then-mask-eq1
returns-then-mask-eq1 c = λ t s p e q.
    first_apart c.args.bytes c.args.image.now c.args.from c.args.pool.now c.args.cell.0 c.requires.2 c.requires.1 (omega (arith, c.requires.0))
    (λ x. eqb-false (get_or c.args.pool.now c.byte.result 0) (get_or c.args.image.now c.args.from 0) (not-true _ t) (rw c.byte.ensures x))
    s p e q
