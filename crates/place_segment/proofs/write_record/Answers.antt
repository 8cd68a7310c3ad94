use native.Mathlib.Omega.{arith}
use mathlib.Core.Path.{◌∙◌, ◌≡◌, sym}
use mathlib.Core.Option.{none, some}
use Prim.Native.Nat.{◌+◌, ◌≤◌}
use lib.ListN.{length}
use Rattle.model.specs.Image.{blocks_from, with_blanks}
use Rattle.model.specs.Place.{new_positions, stored_blocks}
use Rattle.model.specs.Runs as model
use Rattle.model.specs.Table.{cells_in}
use Rattle.numbers.specs.Measures.{measures_of}
use Rattle.storage.proofs.Inside.{few_cells, few_records}
use Rattle.storage.proofs.Read.{part_again, part_length, part_room, stored_records}
use Rattle.place_segment.proofs.Results.{did_write, new_sized, seg_length, seg_room, write_room, write_row}
use Rattle.place_segment.proofs.write_record.Goals as goal

pub word-start-requires : goal.word-start-requires
word-start-requires c = c.requires.segment_pre.0.stored.measured.most_blocks

pub row_words-requires : goal.row_words-requires
row_words-requires c = c.requires.segment_pre.0.stored.measured.most_blocks

pub overflow_add-end : goal.overflow_add-end
overflow_add-end c =
    let rowed : c.word-start.result + c.row_words.result ≤ length c.args.records.now = (part_room c.args.m.blocks c.args.records.now _ (stored_records (measures_of c.args.m) c.requires.segment_pre.0.stored) c.args.k.0 c.requires.k_in_bounds.0 c.word-start.result c.row_words.result c.word-start.ensures c.row_words.ensures.0) in
    omega (arith, rowed)

pub copy_blocks-requires : goal.copy_blocks-requires
copy_blocks-requires c =
    let theRun : model.Run = (record { start = c.args.run.start.0; cells = c.args.run.size }) in
    let found : model.scan (length (stored_blocks with_blanks (blocks_from c.args.m.bytes c.args.image.now c.args.from c.args.m.blocks))) c.args.free.now 0 0 none ≡ some (theRun) = (sym c.requires.run_is) in
    let has_room : c.args.run.start.0 + length (stored_blocks with_blanks (blocks_from c.args.m.bytes c.args.image.now c.args.from c.args.m.blocks)) ≤ length (cells_in c.args.m.bytes c.args.pool.now) = (write_room c.requires.segment_pre.0 c.requires.segment_pre.1 c.requires.segment_pre.2 c.args.k.0 c.requires.k_in_bounds.0 c.requires.k_in_bounds.1 (theRun) (found)) in
    let st = c.requires.segment_pre.0.stored in
    (c.requires.segment_pre.0.begins, c.requires.segment_pre.1.is, has_room, few_cells st, omega (arith, st.measured.some_bytes), st.measured.most_bytes, st.measured.most_blocks)

pub offset_bounds-records-start : goal.offset_bounds-records-start
offset_bounds-records-start c =
    let rowed : c.word-start.result + c.row_words.result ≤ length c.args.records.now = (part_room c.args.m.blocks c.args.records.now _ (stored_records (measures_of c.args.m) c.requires.segment_pre.0.stored) c.args.k.0 c.requires.k_in_bounds.0 c.word-start.result c.row_words.result c.word-start.ensures c.row_words.ensures.0) in
    omega (arith, rowed)

pub slice_bounds-new_row-end : goal.slice_bounds-new_row-end
slice_bounds-new_row-end c =
    let rowed : c.word-start.result + c.row_words.result ≤ length c.args.records.now = (part_room c.args.m.blocks c.args.records.now _ (stored_records (measures_of c.args.m) c.requires.segment_pre.0.stored) c.args.k.0 c.requires.k_in_bounds.0 c.word-start.result c.row_words.result c.word-start.ensures c.row_words.ensures.0) in
    omega (arith, rowed)

pub new_row-requires : goal.new_row-requires
new_row-requires c =
    let theRun : model.Run = (record { start = c.args.run.start.0; cells = c.args.run.size }) in
    let found : model.scan (length (stored_blocks with_blanks (blocks_from c.args.m.bytes c.args.image.now c.args.from c.args.m.blocks))) c.args.free.now 0 0 none ≡ some (theRun) = (sym c.requires.run_is) in
    let has_room : c.args.run.start.0 + length (stored_blocks with_blanks (blocks_from c.args.m.bytes c.args.image.now c.args.from c.args.m.blocks)) ≤ length (cells_in c.args.m.bytes c.args.pool.now) = (write_room c.requires.segment_pre.0 c.requires.segment_pre.1 c.requires.segment_pre.2 c.args.k.0 c.requires.k_in_bounds.0 c.requires.k_in_bounds.1 (theRun) (found)) in
    let st = c.requires.segment_pre.0.stored in
    (st.measured.most_blocks, part_length c.args.m.blocks c.args.records.now _ (stored_records (measures_of c.args.m) st) c.args.k.0 c.requires.k_in_bounds.0 c.word-start.result c.row_words.result c.word-start.ensures c.row_words.ensures.0, omega (arith, has_room, few_cells st))

pub offset_bounds-records-start-2 : goal.offset_bounds-records-start-2
offset_bounds-records-start-2 c =
    let rowed : c.word-start.result + c.row_words.result ≤ length c.args.records.now = (part_room c.args.m.blocks c.args.records.now _ (stored_records (measures_of c.args.m) c.requires.segment_pre.0.stored) c.args.k.0 c.requires.k_in_bounds.0 c.word-start.result c.row_words.result c.word-start.ensures c.row_words.ensures.0) in
    omega (arith, rowed)

pub slice_bounds-take_row-end : goal.slice_bounds-take_row-end
slice_bounds-take_row-end c =
    let rowed : c.word-start.result + c.row_words.result ≤ length c.args.records.now = (part_room c.args.m.blocks c.args.records.now _ (stored_records (measures_of c.args.m) c.requires.segment_pre.0.stored) c.args.k.0 c.requires.k_in_bounds.0 c.word-start.result c.row_words.result c.word-start.ensures c.row_words.ensures.0) in
    omega (arith, rowed)

pub take_row-requires : goal.take_row-requires
take_row-requires c =
    let theRun : model.Run = (record { start = c.args.run.start.0; cells = c.args.run.size }) in
    let found : model.scan (length (stored_blocks with_blanks (blocks_from c.args.m.bytes c.args.image.now c.args.from c.args.m.blocks))) c.args.free.now 0 0 none ≡ some (theRun) = (sym c.requires.run_is) in
    let st = c.requires.segment_pre.0.stored in
    let w = write_row c.requires.segment_pre.0 c.requires.segment_pre.1 c.requires.segment_pre.2 c.args.k.0 c.requires.k_in_bounds.0 c.requires.k_in_bounds.1 (theRun) (found) _ (c.new_row.ensures _ (seg_length c.requires.segment_pre.0 c.args.image.now) c.requires.segment_pre.1.is c.requires.segment_pre.1.blanks) in
    let e = part_again c.args.m.blocks c.args.records.now _ (stored_records (measures_of c.args.m) st) c.args.k.0 c.requires.k_in_bounds.0 c.word-start.result c.row_words.result c.word-start.ensures c.row_words.ensures.0 c.new_row.new.row w.0 in
    (st.measured.most_blocks, rw e w.0, rw e w.1)

pub put_places-requires : goal.put_places-requires
put_places-requires c = (omega (arith, c.requires.segment_pre.0.room, c.requires.segment_pre.0.stored.measured.most_blocks), omega (arith, few_records c.requires.segment_pre.0.stored, c.requires.k_in_bounds.0))

pub returns : goal.returns
returns c =
    let theRun : model.Run = (record { start = c.args.run.start.0; cells = c.args.run.size }) in
    let found : model.scan (length (stored_blocks with_blanks (blocks_from c.args.m.bytes c.args.image.now c.args.from c.args.m.blocks))) c.args.free.now 0 0 none ≡ some (theRun) = (sym c.requires.run_is) in
    let st = c.requires.segment_pre.0.stored in
    let image = c.args.image.now in
    let new = c.new_row.ensures _ (seg_length c.requires.segment_pre.0 image) c.requires.segment_pre.1.is c.requires.segment_pre.1.blanks in
    let w = write_row c.requires.segment_pre.0 c.requires.segment_pre.1 c.requires.segment_pre.2 c.args.k.0 c.requires.k_in_bounds.0 c.requires.k_in_bounds.1 (theRun) (found) _ new in
    let e = part_again c.args.m.blocks c.args.records.now _ (stored_records (measures_of c.args.m) st) c.args.k.0 c.requires.k_in_bounds.0 c.word-start.result c.row_words.result c.word-start.ensures c.row_words.ensures.0 c.new_row.new.row w.0 in
    did_write c.requires.segment_pre.0 c.requires.segment_pre.1 c.requires.segment_pre.2 c.args.k.0 c.requires.k_in_bounds.0 c.requires.k_in_bounds.1 (theRun) (found)
    c.word-start.result c.row_words.result c.word-start.ensures c.row_words.ensures.0 _ _ _ _
    (omega (arith, c.copy_blocks.auto)) c.copy_blocks.ensures new
    (c.take_row.ensures (new_positions with_blanks c.args.run.start.0 (blocks_from c.args.m.bytes image c.args.from c.args.m.blocks)) (new_sized c.requires.segment_pre.0 c.requires.segment_pre.1 c.requires.segment_pre.2 c.args.k.0 c.requires.k_in_bounds.0 c.requires.k_in_bounds.1 (theRun) (found)) (e ∙ new))
    (c.put_places.ensures _ (seg_room c.requires.segment_pre.0 image) c.requires.segment_pre.1.is c.requires.segment_pre.1.blanks)
