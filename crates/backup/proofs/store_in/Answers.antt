use Rattle.numbers.specs.Measures.{measures_of}
use native.Mathlib.Omega.{arith}
use Rattle.backup.proofs.Tables.{from_small, from_in, readied, done_on}
use Rattle.backup.proofs.store_in.Goals as goal

pub offset_bounds-table-from : goal.offset_bounds-table-from
offset_bounds-table-from c = let q = from_small (measures_of c.args.m) c.args.image.now c.args.pool.now c.args.table.now c.args.from c.args.words.now c.args.prev.now c.requires.0 in omega (arith, q)

pub slice_bounds-store_image-count : goal.slice_bounds-store_image-count
slice_bounds-store_image-count c = from_in (measures_of c.args.m) c.args.image.now c.args.pool.now c.args.table.now c.args.from c.args.words.now c.args.prev.now c.requires.0

pub slice_bounds-store_image-start : goal.slice_bounds-store_image-start
slice_bounds-store_image-start c = let q = from_in (measures_of c.args.m) c.args.image.now c.args.pool.now c.args.table.now c.args.from c.args.words.now c.args.prev.now c.requires.0 in omega (arith, q)

pub store_image-requires : goal.store_image-requires
store_image-requires c = (readied (measures_of c.args.m) c.args.image.now c.args.pool.now c.args.table.now c.args.from c.args.words.now c.args.prev.now c.requires.0, c.requires.1)

pub returns : goal.returns
returns c = done_on (measures_of c.args.m) c.args.image.now c.args.pool.now c.args.table.now c.args.from c.args.words.now c.args.prev.now c.requires.0 c.args.limit.others c.args.limit.most _ _ _ _ _ _ c.store_image.ensures
