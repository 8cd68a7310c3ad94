use mathlib.Core.Path.{sym}
use native.Mathlib.Omega.{arith}
use Rattle.std.proofs.lemmas.Result.{err_from_is_err_and}
use Rattle.refusals.proofs.Numbers.{not_accepted}
use Rattle.laws.proofs.Stores.{header, records_room}
use Rattle.sound_laws.proofs.Records.{stored_read}
use Rattle.sent_accept.proofs.Offers.{offer_early, offer_done, offer_whole, offer_few}
use Rattle.sent_offer.proofs.Marking.{marks_read}
use Rattle.sent_offer.proofs.offer_segments.Goals as goal

pub offer_refusal-requires : goal.offer_refusal-requires
offer_refusal-requires c = header c.requires

pub returns-in_err-offer_refusal : goal.returns-in_err-offer_refusal
returns-in_err-offer_refusal c = let p = err_from_is_err_and c.from_residual.result c.from_residual.ensures.1 in
    rw (p.1, p.2) (offer_early c.requires _ _ _ _ c.in_err-offer_refusal.ensures (not_accepted c.in_err-offer_refusal.field-0.0))

pub measures_in-m-requires : goal.measures_in-m-requires
measures_in-m-requires c = (header c.requires).eight

pub records_at-from-requires : goal.records_at-from-requires
records_at-from-requires c = header c.requires

pub offset_bounds-table-from : goal.offset_bounds-table-from
offset_bounds-table-from c = let (p, q) = records_room c.requires _ c.records_at-from.ensures in omega (arith, p, q)

pub slice_bounds-mark_all-count : goal.slice_bounds-mark_all-count
slice_bounds-mark_all-count c = (records_room c.requires _ c.records_at-from.ensures).0

pub slice_bounds-mark_all-start : goal.slice_bounds-mark_all-start
slice_bounds-mark_all-start c = (records_room c.requires _ c.records_at-from.ensures).0

pub mark_all-requires : goal.mark_all-requires
mark_all-requires c = let z = sym c.in_ok-offer_refusal.ensures in (stored_read c.requires _ c.records_at-from.ensures _ c.measures_in-m.ensures, offer_whole c.requires _ _ _ z, offer_few c.requires _ _ _ z)

pub returns : goal.returns
returns c = let z = sym c.in_ok-offer_refusal.ensures in offer_done c.requires _ _ _ z _ (marks_read c.requires _ c.records_at-from.ensures _ c.measures_in-m.ensures _ _ c.mark_all.ensures)
