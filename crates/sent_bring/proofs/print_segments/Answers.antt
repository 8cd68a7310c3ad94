use native.Mathlib.Omega.{arith}
use borrow.Author.Rules.{rules}
use lib.ListN.{length}
use Rattle.lists.proofs.Places.{row_in}
use Rattle.sent_bring.proofs.Prints.{print_start, print_next, print_end}
use Rattle.sent_bring.proofs.print_segments.Goals as goal

pub loop-i-init : goal.loop-i-init
loop-i-init c = print_start _ _ _

pub overflow_mul-at : goal.overflow_mul-at
overflow_mul-at c = omega (arith, row_in (length c.args.segments.now) c.args.width c.requires.0 c.loop-i.i (omega (arith, c.parts-i-end.ensures)))

pub overflow_add-end : goal.overflow_add-end
overflow_add-end c = omega (arith, row_in (length c.args.segments.now) c.args.width c.requires.0 c.loop-i.i (omega (arith, c.parts-i-end.ensures)))

pub slice_bounds-sha1-end : goal.slice_bounds-sha1-end
slice_bounds-sha1-end c = omega (arith, row_in (length c.args.segments.now) c.args.width c.requires.0 c.loop-i.i (omega (arith, c.parts-i-end.ensures)))

pub overflow_mul-i : goal.overflow_mul-i
overflow_mul-i c = omega (arith, c.requires.1, c.parts-i-end.ensures, c.loop-i.invariant.same)

pub copy_part-requires : goal.copy_part-requires
copy_part-requires c = omega (arith, c.requires.1, c.parts-i-end.ensures, c.loop-i.invariant.same)

pub loop-i-preserved : goal.loop-i-preserved
loop-i-preserved c = print_next c.loop-i.invariant _ _ _ (omega (arith, c.requires.1, c.parts-i-end.ensures, c.loop-i.invariant.same)) c.sha1.ensures c.digest_bytes-print.ensures c.copy_part.ensures (search rules)

pub shape_of-prints : goal.shape_of-prints
shape_of-prints c = c.loop-i.invariant.same

pub returns : goal.returns
returns c = (c.loop-i.invariant.same, print_end c.loop-i.invariant c.requires.0 (omega (arith, c.parts-i-end.ensures)))
