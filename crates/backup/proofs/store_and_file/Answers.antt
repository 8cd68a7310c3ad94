use Rattle.backup.proofs.Joined.{blocks_fit, last_fits, refused_all, file_pre, filed_all}
use lib.Seq.{length-take-le}
use mathlib.Core.Path.{refl, sym}
use Rattle.std.proofs.lemmas.Result.{err_from_is_err_and}
use Rattle.refusals.proofs.Numbers.{not_accepted}
use Rattle.backup.proofs.Joined.{till_in_lem, store_in_pre, bytes_ok, image_short}
use Rattle.laws.proofs.Stores.{header}
use native.Mathlib.Omega.{arith}
use Rattle.backup.proofs.store_and_file.Goals as goal

pub records_at-from-requires : goal.records_at-from-requires
records_at-from-requires c = header c.requires.0.sound

pub bounds-table-2 : goal.bounds-table-2
bounds-table-2 c = omega (arith, (header c.requires.0.sound).eight)

pub overflow_cast-b : goal.overflow_cast-b
overflow_cast-b c = omega (arith, (header c.requires.0.sound).blocks)

pub till_words-requires : goal.till_words-requires
till_words-requires c = header c.requires.0.sound

pub overflow_add-end : goal.overflow_add-end
overflow_add-end c = let p = c.requires.0 in let (x, y, z) = till_in_lem p.sound _ p.accepted.there _ _ p.head.at c.till_words.ensures in omega (arith, x, y, z)

pub store_in-requires : goal.store_in-requires
store_in-requires c = (store_in_pre c.requires.0 _ c.records_at-from.ensures, c.requires.1)

pub returns-in_err-store_in : goal.returns-in_err-store_in
returns-in_err-store_in c = let r = c.store_in.new in
    let p = err_from_is_err_and c.from_residual.result c.from_residual.ensures.1 in
    rw (p.1, p.2) (refused_all c.requires.0 c.args.limit.others c.args.limit.most _ r.pool r.table r.words r.prev c.in_err-store_in.ensures (not_accepted _))

pub parts_for-blocks-requires : goal.parts_for-blocks-requires
parts_for-blocks-requires c = bytes_ok c.requires.0

pub overflow_cast-bytes : goal.overflow_cast-bytes
overflow_cast-bytes c = let p = c.requires.0 in omega (arith, image_short p)

pub slice_bounds-file_in-end : goal.slice_bounds-file_in-end
slice_bounds-file_in-end c = omega (arith, blocks_fit c.requires.0 _ c.parts_for-blocks.ensures, c.store_in.auto.words)

pub slice_bounds-file_in-end-2 : goal.slice_bounds-file_in-end-2
slice_bounds-file_in-end-2 c = sym (length-take-le _ _ (omega (arith, blocks_fit c.requires.0 _ c.parts_for-blocks.ensures, c.store_in.auto.words)))

pub file_in-requires : goal.file_in-requires
file_in-requires c = file_pre c.requires.0 c.args.limit.others c.args.limit.most _ c.store_in.new.pool c.store_in.new.table c.store_in.new.words c.store_in.new.prev c.in_ok-store_in.ensures refl _ _ c.till_words.ensures c.parts_for-blocks.ensures c.store_in.auto.table c.store_in.auto.prev

pub overflow_add-result : goal.overflow_add-result
overflow_add-result c = omega (arith, last_fits c.requires.0)

pub returns : goal.returns
returns c = filed_all c.requires.0 c.args.limit.others c.args.limit.most _ c.store_in.new.pool c.store_in.new.table c.store_in.new.words c.store_in.new.prev c.in_ok-store_in.ensures refl _ _ c.till_words.ensures c.parts_for-blocks.ensures _ c.file_in.ensures
