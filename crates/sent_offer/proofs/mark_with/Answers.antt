use mathlib.Core.Path.{◌≡◌, sym, ap, ◌∙◌}
use native.Mathlib.Omega.{arith}
use lib.ListN.{length, take, drop}
use lib.Seq.{length-take-le, take_at}
use Rattle.model.specs.Table.{storage_in}
use Rattle.numbers.specs.Measures.{measures_of}
use Rattle.storage.proofs.Read.{records_count, records_of}
use Rattle.sent_offer.proofs.Marking.{all_marked}
use Rattle.sent_find.proofs.Finding.{found_length}
use Rattle.sent_offer.proofs.mark_with.Goals as goal

pub slice_bounds-find_records-end-2 : goal.slice_bounds-find_records-end-2
slice_bounds-find_records-end-2 c = sym (length-take-le _ _ (omega (arith, c.requires.2, c.requires.3)))

pub find_records-requires : goal.find_records-requires
find_records-requires c = (c.requires.0, let q : length (take (length c.args.marks.now) c.args.numbers.now) ≡ length c.args.marks.now = length-take-le _ _ (omega (arith, c.requires.2, c.requires.3)) in omega (arith, c.requires.1, q))

pub zero_digest-zero-requires : goal.zero_digest-zero-requires
zero_digest-zero-requires c = c.requires.0.measured

pub rows-count-requires : goal.rows-count-requires
rows-count-requires c = c.requires.0.measured.most_blocks

pub slice_bounds-write_marks-end-2 : goal.slice_bounds-write_marks-end-2
slice_bounds-write_marks-end-2 c = let l = found_length c.find_records.new.numbers c.args.marks.now c.args.numbers.now (omega (arith, c.requires.2, c.requires.3)) c.find_records.ensures.0 in sym (ap length (take_at c.find_records.new.numbers (drop (length c.args.marks.now) c.args.numbers.now) (length c.args.marks.now) l) ∙ l)

pub write_marks-requires : goal.write_marks-requires
write_marks-requires c = let l = found_length c.find_records.new.numbers c.args.marks.now c.args.numbers.now (omega (arith, c.requires.2, c.requires.3)) c.find_records.ensures.0 in (c.requires.1, ap length (take_at c.find_records.new.numbers (drop (length c.args.marks.now) c.args.numbers.now) (length c.args.marks.now) l) ∙ l, c.requires.2)

pub returns : goal.returns
returns c = let l = found_length c.find_records.new.numbers c.args.marks.now c.args.numbers.now (omega (arith, c.requires.2, c.requires.3)) c.find_records.ensures.0 in
    let m = measures_of c.args.m in
    all_marked m (storage_in m c.args.pool.now c.args.words.now) c.args.fingerprints.now c.find_records.new.numbers _ _ _
    (take_at c.find_records.new.numbers (drop (length c.args.marks.now) c.args.numbers.now) (length c.args.marks.now) l)
    c.find_records.ensures.1 (omega (arith, c.requires.1, l)) c.zero_digest-zero.ensures
    (c.rows-count.ensures ∙ sym (ap length (records_of m c.args.pool.now c.args.words.now) ∙ records_count c.args.m.blocks c.args.words.now))
    c.args.marks.now c.write_marks.new.marks (sym l) c.write_marks.ensures.0 c.write_marks.ensures.1
