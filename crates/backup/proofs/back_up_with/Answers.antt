use native.Mathlib.Omega.{arith}
use mathlib.Core.Path.{sym}
use lib.Seq.{length-take-le}
use Rattle.numbers.specs.Measures.{measures_of}
use Rattle.laws.proofs.Stores.{header}
use Rattle.backup.proofs.Joined.{measures_ok, few_segments, begun, count_is}
use Rattle.backup.proofs.back_up_with.Goals as goal

pub segments-requires : goal.segments-requires
segments-requires c = measures_ok c.requires.0 c.requires.4 c.requires.1

pub overflow_mul-count : goal.overflow_mul-count
overflow_mul-count c = omega (arith, count_is (measures_of c.args.m) c.args.image.now c.segments.result c.segments.ensures, few_segments c.requires.0 c.requires.4 c.requires.1)

pub slice_bounds-store_and_file-end : goal.slice_bounds-store_and_file-end
slice_bounds-store_and_file-end c = omega (arith, c.copy_newest-n.ensures.1, (header c.requires.0).blocks, c.copy_newest-n.auto.prev, c.requires.2)

pub slice_bounds-store_and_file-end-2 : goal.slice_bounds-store_and_file-end-2
slice_bounds-store_and_file-end-2 c = sym (length-take-le _ _ (omega (arith, c.copy_newest-n.ensures.1, (header c.requires.0).blocks, c.copy_newest-n.auto.prev, c.requires.2)))

pub slice_bounds-store_and_file-end-3 : goal.slice_bounds-store_and_file-end-3
slice_bounds-store_and_file-end-3 c = omega (arith, count_is (measures_of c.args.m) c.args.image.now c.segments.result c.segments.ensures, few_segments c.requires.0 c.requires.4 c.requires.1, c.requires.3)

pub slice_bounds-store_and_file-end-4 : goal.slice_bounds-store_and_file-end-4
slice_bounds-store_and_file-end-4 c = sym (length-take-le _ _ (omega (arith, count_is (measures_of c.args.m) c.args.image.now c.segments.result c.segments.ensures, few_segments c.requires.0 c.requires.4 c.requires.1, c.requires.3)))

pub store_and_file-requires : goal.store_and_file-requires
store_and_file-requires c = (begun c.requires.0 c.requires.4 c.requires.1 _ c.till_head-head.ensures _ _ _ _ (omega (arith, c.copy_newest-n.ensures.1, (header c.requires.0).blocks, c.copy_newest-n.auto.prev, c.requires.2)) c.copy_newest-n.ensures.0 c.copy_newest-n.ensures.1 c.requires.3 (count_is (measures_of c.args.m) c.args.image.now c.segments.result c.segments.ensures), c.requires.5)

pub returns : goal.returns
returns c = c.store_and_file.ensures
