use native.Mathlib.Omega.{arith}
use Rattle.laws.proofs.Stores.{header, records_room}
use Rattle.sound_laws.proofs.Records.{stored_read}
use Rattle.sent_accept.proofs.Fits.{fits_message}
use Rattle.sent_backup.proofs.Reading.{message_read, assembled_read}
use Rattle.sent_backup.proofs.assemble_in.Goals as goal

pub measures_in-m-requires : goal.measures_in-m-requires
measures_in-m-requires c = (header c.requires.0).eight

pub records_at-from-requires : goal.records_at-from-requires
records_at-from-requires c = header c.requires.0

pub offset_bounds-table-from : goal.offset_bounds-table-from
offset_bounds-table-from c = let (p, q) = records_room c.requires.0 _ c.records_at-from.ensures in omega (arith, p, q)

pub slice_bounds-assemble-count : goal.slice_bounds-assemble-count
slice_bounds-assemble-count c = (records_room c.requires.0 _ c.records_at-from.ensures).0

pub slice_bounds-assemble-start : goal.slice_bounds-assemble-start
slice_bounds-assemble-start c = (records_room c.requires.0 _ c.records_at-from.ensures).0

pub assemble-requires : goal.assemble-requires
assemble-requires c = (stored_read c.requires.0 _ c.records_at-from.ensures _ c.measures_in-m.ensures, message_read _ _ c.measures_in-m.ensures c.args.bytes c.args.fingerprints.now c.args.marks.now c.args.segments.now (fits_message c.args.table.now (header c.requires.0) c.args.bytes c.args.fingerprints.now c.args.marks.now c.args.segments.now c.requires.1), c.requires.2)

pub returns : goal.returns
returns c = assembled_read c.requires.0 _ c.records_at-from.ensures _ c.measures_in-m.ensures c.args.bytes c.args.fingerprints.now c.args.marks.now c.args.segments.now _ _ c.assemble.ensures
