use native.Mathlib.Omega.{arith}
use mathlib.Core.Path.{sym}
use lib.Seq.{length-take-le}
use Rattle.storage.proofs.Read.{stored_records}
use Rattle.backup_steps.proofs.Removing.{let_stored, let_free, let_backward, settled_back, settled_swept}
use Rattle.backup_steps.proofs.remove_or_take_back.Goals as goal

pub slice_bounds-release-end : goal.slice_bounds-release-end
slice_bounds-release-end c = sym (length-take-le _ c.args.out.now (omega (arith, c.requires.remove_pre.0.within)))

pub release-requires : goal.release-requires
release-requires c = let p = c.requires.remove_pre.0 in record { n_bound = (p.stored.measured.most_blocks, stored_records _ p.stored); by_index = p.resolves }

pub too_many-requires : goal.too_many-requires
too_many-requires c = let q = c.release in
    let st = let_stored c.requires.remove_pre.0 _ q.auto.words q.ensures in
    (st.measured.most_blocks, stored_records _ st, st.short, c.requires.remove_pre.1)

pub slice_bounds-take_back-end : goal.slice_bounds-take_back-end
slice_bounds-take_back-end c = sym (length-take-le _ c.args.out.now (omega (arith, c.requires.remove_pre.0.within)))

pub take_back-requires : goal.take_back-requires
take_back-requires c = let q = c.release in let_backward c.requires.remove_pre.0 _ q.auto.words q.ensures

pub returns-then-too_many : goal.returns-then-too_many
returns-then-too_many c = let q = c.release in
    settled_back c.requires.remove_pre.0 _ q.auto.words q.ensures c.args.limit.others c.args.limit.most _ c.too_many.ensures c.if-too_many.true _ _ c.take_back.ensures

pub sweep_free-requires : goal.sweep_free-requires
sweep_free-requires c = let q = c.release in
    record { stored = let_stored c.requires.remove_pre.0 _ q.auto.words q.ensures; free_value = let_free c.requires.remove_pre.0 _ q.auto.words q.ensures _ c.requires.free_value }

pub returns : goal.returns
returns c = let q = c.release in
    settled_swept c.requires.remove_pre.0 _ q.auto.words q.ensures c.args.limit.others c.args.limit.most _ c.too_many.ensures c.if-too_many.false _ _ c.sweep_free.ensures
