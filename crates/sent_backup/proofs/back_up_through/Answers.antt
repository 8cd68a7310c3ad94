use Rattle.refusals.proofs.Numbers.{not_accepted}
use mathlib.Core.Path.{refl, sym, ap, ◌∙◌}
use native.Mathlib.Omega.{arith}
use lib.Seq.{length-take-le}
use Rattle.laws.proofs.Stores.{header}
use Rattle.chain.specs.Limit.{within}
use Rattle.chain.proofs.Within.{within_still}
use Rattle.sent_accept.proofs.Fits.{fits_message}
use Rattle.sent_accept.proofs.After.{sent_early, sent_fits_lem, sent_late, sent_backed}
use Rattle.sent_backup.proofs.back_up_through.Goals as goal

pub returns-in-Err : goal.returns-in-Err
returns-in-Err c = let n = not_accepted c.in-Err.early in
    within_still c.args.limit.others c.args.limit.most c.args.pool.now c.args.table.now _ _ (sent_early c.requires.0 c.args.till c.args.bytes c.args.fingerprints.now c.args.marks.now c.args.segments.now _ c.in-Err.ensures n) n

pub assemble_in-requires : goal.assemble_in-requires
assemble_in-requires c = (c.requires.0, sent_fits_lem c.requires.0 c.args.till c.args.bytes c.args.fingerprints.now c.args.marks.now c.args.segments.now (sym c.in_default.ensures), c.requires.1)

pub returns-in-Err-assemble_in : goal.returns-in-Err-assemble_in
returns-in-Err-assemble_in c = let n = not_accepted c.in-Err-assemble_in.late in
    within_still c.args.limit.others c.args.limit.most c.args.pool.now c.args.table.now _ _ (sent_late c.requires.0 c.args.till c.args.bytes c.args.fingerprints.now c.args.marks.now c.args.segments.now (sym c.in_default.ensures) _ _ c.in-Err-assemble_in.ensures n) n

pub slice_bounds-back_up-end : goal.slice_bounds-back_up-end
slice_bounds-back_up-end c = omega (arith, (fits_message c.args.table.now (header c.requires.0) c.args.bytes c.args.fingerprints.now c.args.marks.now c.args.segments.now (sent_fits_lem c.requires.0 c.args.till c.args.bytes c.args.fingerprints.now c.args.marks.now c.args.segments.now (sym c.in_default.ensures))).few, c.assemble_in.auto.out, c.requires.1)

pub slice_bounds-back_up-end-2 : goal.slice_bounds-back_up-end-2
slice_bounds-back_up-end-2 c = sym (length-take-le c.args.bytes c.assemble_in.new.out (omega (arith, (fits_message c.args.table.now (header c.requires.0) c.args.bytes c.args.fingerprints.now c.args.marks.now c.args.segments.now (sent_fits_lem c.requires.0 c.args.till c.args.bytes c.args.fingerprints.now c.args.marks.now c.args.segments.now (sym c.in_default.ensures))).few, c.assemble_in.auto.out, c.requires.1)))

pub back_up-requires : goal.back_up-requires
back_up-requires c = (c.requires.0, c.requires.2)

pub returns : goal.returns
returns c = c.back_up.ensures ∙ ap (within c.args.limit.others c.args.limit.most c.args.pool.now c.args.table.now) (sent_backed c.requires.0 c.args.till c.args.bytes c.args.fingerprints.now c.args.marks.now c.args.segments.now (sym c.in_default.ensures) 0 _ c.in_default-assemble_in.ensures refl)
