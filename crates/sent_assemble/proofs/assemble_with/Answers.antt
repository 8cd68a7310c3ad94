use mathlib.Core.Path.{sym, ap, ◌∙◌}
use native.Mathlib.Omega.{arith}
use lib.ListN.{length, drop, length-append}
use lib.Seq.{length-take-le, take_at}
use Rattle.model.specs.Table.{storage_in}
use Rattle.numbers.specs.Measures.{measures_of}
use Rattle.sent_find.proofs.Finding.{found_length}
use Rattle.sent_assemble.proofs.Taking.{width_is}
use Rattle.sent_assemble.proofs.Gathering.{marks_few, prints_fit, prints_read, records_read}
use Rattle.sent_assemble.proofs.assemble_with.Goals as goal

pub segment_bytes-requires : goal.segment_bytes-requires
segment_bytes-requires c = (c.requires.0.measured.most_bytes, c.requires.0.measured.most_blocks)

pub print_segments-requires : goal.print_segments-requires
print_segments-requires c = let f = prints_fit (measures_of c.args.m) c.requires.0.measured c.args.bytes c.args.fingerprints.now c.args.marks.now c.args.segments.now c.requires.1 _ (width_is (measures_of c.args.m) _ c.segment_bytes.ensures.0) in (f.0, omega (arith, f.1, c.requires.2))

pub slice_bounds-find_records-end : goal.slice_bounds-find_records-end
slice_bounds-find_records-end c = omega (arith, marks_few (measures_of c.args.m) c.requires.0.measured c.args.bytes c.args.fingerprints.now c.args.marks.now c.args.segments.now c.requires.1, c.requires.3)

pub slice_bounds-find_records-end-2 : goal.slice_bounds-find_records-end-2
slice_bounds-find_records-end-2 c = sym (length-take-le (length c.args.marks.now) c.args.numbers.now (omega (arith, marks_few (measures_of c.args.m) c.requires.0.measured c.args.bytes c.args.fingerprints.now c.args.marks.now c.args.segments.now c.requires.1, c.requires.3)))

pub find_records-requires : goal.find_records-requires
find_records-requires c = (c.requires.0, let q = length-take-le (length c.args.marks.now) c.args.numbers.now (omega (arith, marks_few (measures_of c.args.m) c.requires.0.measured c.args.bytes c.args.fingerprints.now c.args.marks.now c.args.segments.now c.requires.1, c.requires.3)) in omega (arith, c.requires.1.whole, q))

pub slice_bounds-gather-end : goal.slice_bounds-gather-end
slice_bounds-gather-end c = omega (arith, found_length c.find_records.new.numbers c.args.marks.now c.args.numbers.now (omega (arith, marks_few (measures_of c.args.m) c.requires.0.measured c.args.bytes c.args.fingerprints.now c.args.marks.now c.args.segments.now c.requires.1, c.requires.3)) c.find_records.ensures.0, length-append c.find_records.new.numbers (drop (length c.args.marks.now) c.args.numbers.now))

pub slice_bounds-gather-end-2 : goal.slice_bounds-gather-end-2
slice_bounds-gather-end-2 c = sym (ap length (take_at c.find_records.new.numbers (drop (length c.args.marks.now) c.args.numbers.now) (length c.args.marks.now) (found_length c.find_records.new.numbers c.args.marks.now c.args.numbers.now (omega (arith, marks_few (measures_of c.args.m) c.requires.0.measured c.args.bytes c.args.fingerprints.now c.args.marks.now c.args.segments.now c.requires.1, c.requires.3)) c.find_records.ensures.0)) ∙ found_length c.find_records.new.numbers c.args.marks.now c.args.numbers.now (omega (arith, marks_few (measures_of c.args.m) c.requires.0.measured c.args.bytes c.args.fingerprints.now c.args.marks.now c.args.segments.now c.requires.1, c.requires.3)) c.find_records.ensures.0)

pub gather-requires : goal.gather-requires
gather-requires c = (
  c.requires.0,
  c.requires.1,
  prints_read (width_is (measures_of c.args.m) _ c.segment_bytes.ensures.0) c.args.segments.now _ c.print_segments.ensures.1,
  omega (arith, c.print_segments.ensures.0, c.requires.2),
  ap length (take_at c.find_records.new.numbers (drop (length c.args.marks.now) c.args.numbers.now) (length c.args.marks.now) (found_length c.find_records.new.numbers c.args.marks.now c.args.numbers.now (omega (arith, marks_few (measures_of c.args.m) c.requires.0.measured c.args.bytes c.args.fingerprints.now c.args.marks.now c.args.segments.now c.requires.1, c.requires.3)) c.find_records.ensures.0)) ∙ found_length c.find_records.new.numbers c.args.marks.now c.args.numbers.now (omega (arith, marks_few (measures_of c.args.m) c.requires.0.measured c.args.bytes c.args.fingerprints.now c.args.marks.now c.args.segments.now c.requires.1, c.requires.3)) c.find_records.ensures.0,
  records_read (measures_of c.args.m) (storage_in (measures_of c.args.m) c.args.pool.now c.args.words.now) c.args.fingerprints.now _ _ (take_at c.find_records.new.numbers (drop (length c.args.marks.now) c.args.numbers.now) (length c.args.marks.now) (found_length c.find_records.new.numbers c.args.marks.now c.args.numbers.now (omega (arith, marks_few (measures_of c.args.m) c.requires.0.measured c.args.bytes c.args.fingerprints.now c.args.marks.now c.args.segments.now c.requires.1, c.requires.3)) c.find_records.ensures.0)) c.find_records.ensures.1,
  c.requires.4,
)
