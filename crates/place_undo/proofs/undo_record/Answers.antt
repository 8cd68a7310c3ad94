use native.Mathlib.Omega.{arith}
use mathlib.Core.Path.{◌∙◌, sym}
use Prim.Native.Nat.{◌+◌, ◌≤◌}
use lib.ListN.{length}
use Rattle.numbers.specs.Measures.{measures_of}
use Rattle.storage.proofs.Inside.{cell_inside, cell_room}
use Rattle.storage.proofs.Read.{count_at, part_length, part_room, row_part_lem, stored_records}
use Rattle.storage.proofs.Row.{cells_below}
use Rattle.place_undo.proofs.Undoing.{low_words, undo_freed, undo_lowered}
use Rattle.place_undo.proofs.undo_record.Goals as goal

pub word-start-requires : goal.word-start-requires
word-start-requires c = c.requires.0.measured.most_blocks

pub row_words-requires : goal.row_words-requires
row_words-requires c = c.requires.0.measured.most_blocks

pub overflow_add-end : goal.overflow_add-end
overflow_add-end c =
    let room : c.word-start.result + c.row_words.result ≤ length c.args.records.now = (part_room c.args.m.blocks c.args.records.now _ (stored_records (measures_of c.args.m) c.requires.0) c.args.k.0 c.requires.1 c.word-start.result c.row_words.result c.word-start.ensures c.row_words.ensures.0) in
    omega (arith, room)

pub overflow_add-counts : goal.overflow_add-counts
overflow_add-counts c = omega (arith, c.requires.0.measured.most_blocks)

pub overflow_add-counts-2 : goal.overflow_add-counts-2
overflow_add-counts-2 c =
    let room : c.word-start.result + c.row_words.result ≤ length c.args.records.now = (part_room c.args.m.blocks c.args.records.now _ (stored_records (measures_of c.args.m) c.requires.0) c.args.k.0 c.requires.1 c.word-start.result c.row_words.result c.word-start.ensures c.row_words.ensures.0) in
    omega (arith, room, c.row_words.ensures.0)

pub offset_bounds-records-counts : goal.offset_bounds-records-counts
offset_bounds-records-counts c =
    let room : c.word-start.result + c.row_words.result ≤ length c.args.records.now = (part_room c.args.m.blocks c.args.records.now _ (stored_records (measures_of c.args.m) c.requires.0) c.args.k.0 c.requires.1 c.word-start.result c.row_words.result c.word-start.ensures c.row_words.ensures.0) in
    omega (arith, room)

pub slice_bounds-words_low-count : goal.slice_bounds-words_low-count
slice_bounds-words_low-count c =
    let room : c.word-start.result + c.row_words.result ≤ length c.args.records.now = (part_room c.args.m.blocks c.args.records.now _ (stored_records (measures_of c.args.m) c.requires.0) c.args.k.0 c.requires.1 c.word-start.result c.row_words.result c.word-start.ensures c.row_words.ensures.0) in
    omega (arith, room, c.row_words.ensures.0)

pub slice_bounds-words_low-start : goal.slice_bounds-words_low-start
slice_bounds-words_low-start c =
    let room : c.word-start.result + c.row_words.result ≤ length c.args.records.now = (part_room c.args.m.blocks c.args.records.now _ (stored_records (measures_of c.args.m) c.requires.0) c.args.k.0 c.requires.1 c.word-start.result c.row_words.result c.word-start.ensures c.row_words.ensures.0) in
    omega (arith, room, c.row_words.ensures.0)

pub slice_bounds-words_low-end : goal.slice_bounds-words_low-end
slice_bounds-words_low-end c =
    let room : c.word-start.result + c.row_words.result ≤ length c.args.records.now = (part_room c.args.m.blocks c.args.records.now _ (stored_records (measures_of c.args.m) c.requires.0) c.args.k.0 c.requires.1 c.word-start.result c.row_words.result c.word-start.ensures c.row_words.ensures.0) in
    omega (arith, room)

pub offset_bounds-records-start : goal.offset_bounds-records-start
offset_bounds-records-start c =
    let room : c.word-start.result + c.row_words.result ≤ length c.args.records.now = (part_room c.args.m.blocks c.args.records.now _ (stored_records (measures_of c.args.m) c.requires.0) c.args.k.0 c.requires.1 c.word-start.result c.row_words.result c.word-start.ensures c.row_words.ensures.0) in
    omega (arith, room)

pub slice_bounds-clear_cells-end : goal.slice_bounds-clear_cells-end
slice_bounds-clear_cells-end c =
    let room : c.word-start.result + c.row_words.result ≤ length c.args.records.now = (part_room c.args.m.blocks c.args.records.now _ (stored_records (measures_of c.args.m) c.requires.0) c.args.k.0 c.requires.1 c.word-start.result c.row_words.result c.word-start.ensures c.row_words.ensures.0) in
    omega (arith, room)

pub clear_cells-requires : goal.clear_cells-requires
clear_cells-requires c = let st = c.requires.0 in
    let M = measures_of c.args.m in
    let wide = part_length c.args.m.blocks c.args.records.now _ (stored_records M st) c.args.k.0 c.requires.1 c.word-start.result c.row_words.result c.word-start.ensures c.row_words.ensures.0 in
    let row = row_part_lem c.args.m.blocks c.args.records.now _ (stored_records M st) c.args.k.0 c.requires.1 c.word-start.result c.row_words.result c.word-start.ensures c.row_words.ensures.0 in
    let sized = count_at c.args.m.blocks c.args.records.now _ (stored_records M st) c.args.k.0 c.requires.1 in
    (wide, λ i l. cell_room st _ (cells_below c.args.m.blocks _ _ sized (λ j. cell_inside st c.args.k.0 j) _ row i l), omega (arith, st.measured.some_bytes), st.measured.most_bytes, st.measured.most_blocks)

pub offset_bounds-records-start-then-words_low : goal.offset_bounds-records-start-then-words_low
offset_bounds-records-start-then-words_low c =
    let room : c.word-start.result + c.row_words.result ≤ length c.args.records.now = (part_room c.args.m.blocks c.args.records.now _ (stored_records (measures_of c.args.m) c.requires.0) c.args.k.0 c.requires.1 c.word-start.result c.row_words.result c.word-start.ensures c.row_words.ensures.0) in
    omega (arith, room)

pub slice_bounds-fill-end : goal.slice_bounds-fill-end
slice_bounds-fill-end c =
    let room : c.word-start.result + c.row_words.result ≤ length c.args.records.now = (part_room c.args.m.blocks c.args.records.now _ (stored_records (measures_of c.args.m) c.requires.0) c.args.k.0 c.requires.1 c.word-start.result c.row_words.result c.word-start.ensures c.row_words.ensures.0) in
    omega (arith, room)

pub returns-then-words_low : goal.returns-then-words_low
returns-then-words_low c = let st = c.requires.0 in
    let M = measures_of c.args.m in
    let row = row_part_lem c.args.m.blocks c.args.records.now _ (stored_records M st) c.args.k.0 c.requires.1 c.word-start.result c.row_words.result c.word-start.ensures c.row_words.ensures.0 in
    let sized = count_at c.args.m.blocks c.args.records.now _ (stored_records M st) c.args.k.0 c.requires.1 in
    undo_freed M c.args.pool.now c.args.records.now st c.args.k.0 c.requires.1 c.word-start.result c.row_words.result c.word-start.ensures c.row_words.ensures.0
    _ _ (sym c.if-words_low.true ∙ c.words_low.ensures ∙ low_words _) (omega arith) (c.clear_cells.ensures _ sized row) (c.fill.ensures.after (λ y e. e))

pub offset_bounds-records-start-2 : goal.offset_bounds-records-start-2
offset_bounds-records-start-2 c =
    let room : c.word-start.result + c.row_words.result ≤ length c.args.records.now = (part_room c.args.m.blocks c.args.records.now _ (stored_records (measures_of c.args.m) c.requires.0) c.args.k.0 c.requires.1 c.word-start.result c.row_words.result c.word-start.ensures c.row_words.ensures.0) in
    omega (arith, room)

pub slice_bounds-lower_row-end : goal.slice_bounds-lower_row-end
slice_bounds-lower_row-end c =
    let room : c.word-start.result + c.row_words.result ≤ length c.args.records.now = (part_room c.args.m.blocks c.args.records.now _ (stored_records (measures_of c.args.m) c.requires.0) c.args.k.0 c.requires.1 c.word-start.result c.row_words.result c.word-start.ensures c.row_words.ensures.0) in
    omega (arith, room)

pub lower_row-requires : goal.lower_row-requires
lower_row-requires c = let st = c.requires.0 in
    (st.measured.most_blocks, part_length c.args.m.blocks c.args.records.now _ (stored_records (measures_of c.args.m) st) c.args.k.0 c.requires.1 c.word-start.result c.row_words.result c.word-start.ensures c.row_words.ensures.0)

pub returns : goal.returns
returns c = let st = c.requires.0 in
    let M = measures_of c.args.m in
    let row = row_part_lem c.args.m.blocks c.args.records.now _ (stored_records M st) c.args.k.0 c.requires.1 c.word-start.result c.row_words.result c.word-start.ensures c.row_words.ensures.0 in
    let sized = count_at c.args.m.blocks c.args.records.now _ (stored_records M st) c.args.k.0 c.requires.1 in
    undo_lowered M c.args.pool.now c.args.records.now st c.args.k.0 c.requires.1 c.word-start.result c.row_words.result c.word-start.ensures c.row_words.ensures.0
    _ (sym c.if-words_low.false ∙ c.words_low.ensures ∙ low_words _) (c.lower_row.ensures _ sized row)
