use Rattle.std.proofs.Common.{arith, sym, ◌∙◌, ◌+◌, ◌<◌, ◌≤◌, [], length}
use Rattle.lists.proofs.Puts.{as_some, first_found}
use Rattle.model.specs.Image.{blocks_from, with_blanks}
use Rattle.model.specs.Records.{equals}
use Rattle.model.specs.Table.{records_in, storage_in}
use Rattle.numbers.specs.Measures.{measures_of}
use Rattle.storage.proofs.Read.{count_at, part_length, part_room, row_part_lem, stored_records}
use Rattle.storage.proofs.Row.{counts_below}
use Rattle.place_segment.proofs.Results.{did_share, seg_room}
use Rattle.place_segment.proofs.place_blocks.Goals as goal

pub slice_bounds-raise_row-end : goal.slice_bounds-raise_row-end
slice_bounds-raise_row-end c =
    let segs = records_in c.args.m.blocks c.args.records.now in
    let f = equals with_blanks (storage_in (measures_of c.args.m) c.args.pool.now c.args.records.now) (blocks_from c.args.m.bytes c.args.image.now c.args.from c.args.m.blocks) in
    let inside : c.in-Some.k.0 < length segs = (first_found [] f segs c.in-Some.k.0 (sym c.in-Some.ensures)).0 in
    let rowed : c.word-start.result + c.row_words.result ≤ length c.args.records.now = part_room c.args.m.blocks c.args.records.now _ (stored_records (measures_of c.args.m) c.requires.0.stored) _ inside c.word-start.result c.row_words.result c.word-start.ensures c.row_words.ensures.0 in
    omega (arith, rowed)

pub raise_row-requires : goal.raise_row-requires
raise_row-requires c =
    let segs = records_in c.args.m.blocks c.args.records.now in
    let f = equals with_blanks (storage_in (measures_of c.args.m) c.args.pool.now c.args.records.now) (blocks_from c.args.m.bytes c.args.image.now c.args.from c.args.m.blocks) in
    let h : c.in-Some.k.0 < length segs = (first_found [] f segs c.in-Some.k.0 (sym c.in-Some.ensures)).0 in
    let st = c.requires.0.stored in
    let t = stored_records (measures_of c.args.m) st in
    let n = c.args.m.blocks in
    let ws = c.args.records.now in (
      st.measured.most_blocks,
      part_length n ws _ t _ h c.word-start.result c.row_words.result c.word-start.ensures c.row_words.ensures.0,
      counts_below n _ _ (count_at n ws _ t _ h) (λ i. c.requires.0.counts.below _ i) _ (row_part_lem n ws _ t _ h c.word-start.result c.row_words.result c.word-start.ensures c.row_words.ensures.0),
    )

pub returns : goal.returns
returns c =
    let segs = records_in c.args.m.blocks c.args.records.now in
    let f = equals with_blanks (storage_in (measures_of c.args.m) c.args.pool.now c.args.records.now) (blocks_from c.args.m.bytes c.args.image.now c.args.from c.args.m.blocks) in
    let h : c.in-Some.k.0 < length segs = (first_found [] f segs c.in-Some.k.0 (sym c.in-Some.ensures)).0 in
    let st = c.requires.0.stored in
    let t = stored_records (measures_of c.args.m) st in
    let n = c.args.m.blocks in
    let ws = c.args.records.now in
    did_share c.requires.0 c.requires.1 _ h (as_some (length segs) c.in-Some.k.0 h ∙ c.in-Some.ensures) c.word-start.result c.row_words.result c.word-start.ensures c.row_words.ensures.0 _ _
    (c.raise_row.ensures _ (count_at n ws _ t _ h) (row_part_lem n ws _ t _ h c.word-start.result c.row_words.result c.word-start.ensures c.row_words.ensures.0))
    (c.put_places.ensures _ (seg_room c.requires.0 c.args.image.now) c.requires.1.is c.requires.1.blanks)
