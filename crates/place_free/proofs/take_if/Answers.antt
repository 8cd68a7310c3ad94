use Rattle.std.proofs.Common.{arith, ◌≡◌}
use Rattle.place_free.specs.Free.{without_cells}
use Rattle.place_free.proofs.take_if.Goals as goal

pub returns-then-bit-eq1 : goal.returns-then-bit-eq1
unfolding without_cells
returns-then-bit-eq1 c = rw c.if-bit-eq1.true

pub returns-else-bit-eq1 : goal.returns-else-bit-eq1
unfolding without_cells
returns-else-bit-eq1 c = let none : c.args.bit ≡ 0 = omega arith in
    rw none
