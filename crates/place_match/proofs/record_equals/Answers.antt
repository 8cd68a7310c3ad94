use Rattle.std.proofs.Common.{arith, ◌∙◌, ◌≡◌, ◌-◌, false}
use Rattle.place_match.proofs.Copying.{bit_first}
use Rattle.place_match.proofs.Matching.{equal_here, equal_no, equal_start}
use Rattle.place_match.proofs.record_equals.Goals as goal

pub first_differs-requires : goal.first_differs-requires
first_differs-requires c = let z : c.args.n - 0 ≡ c.args.n = omega arith in
    (bit_first c.args.bytes c.args.image.now c.args.n c.args.mask c.args.from 0 c.requires.10 (rw z c.requires.1), c.requires.4 0 c.requires.10, omega arith, c.requires.6)

pub returns-else-not-first_differs : goal.returns-else-not-first_differs
returns-else-not-first_differs c = λ s seg e l q.
    let t = equal_start s c.args.bytes c.args.image.now c.args.from c.args.n seg c.args.row.now q c.requires.3 c.requires.9 in
    rw c.if-not-first_differs.false (equal_no t l c.requires.10 c.args.row.now q
    (equal_here t l c.requires.10 c.args.row.now q false (λ p x y z w. c.first_differs.ensures c.if-not-first_differs.false s p e y)))
