use native.Mathlib.Omega.{arith}
use mathlib.Core.Path.{◌∙◌}
use Prim.Native.Nat.{◌+◌, ◌≤◌}
use lib.ListN.{length}
use Rattle.storage.proofs.Read.{part_length, part_room, row_part_lem, stored_records}
use Rattle.sent_bring.proofs.Records.{row_cells, row_content, segment_long}
use Rattle.sent_bring.proofs.put_record.Goals as goal

pub overflow_add-end : goal.overflow_add-end
overflow_add-end c =
    let room : c.word-at.result + c.row_words.result ≤ length c.args.words.now = (part_room _ _ _ (stored_records _ c.requires.0) c.args.number.0 c.requires.1 _ _ c.word-at.ensures c.row_words.ensures.0) in
    omega (arith, room)

pub offset_bounds-words-at : goal.offset_bounds-words-at
offset_bounds-words-at c =
    let room : c.word-at.result + c.row_words.result ≤ length c.args.words.now = (part_room _ _ _ (stored_records _ c.requires.0) c.args.number.0 c.requires.1 _ _ c.word-at.ensures c.row_words.ensures.0) in
    omega (arith, room)

pub slice_bounds-put_content-end : goal.slice_bounds-put_content-end
slice_bounds-put_content-end c =
    let room : c.word-at.result + c.row_words.result ≤ length c.args.words.now = (part_room _ _ _ (stored_records _ c.requires.0) c.args.number.0 c.requires.1 _ _ c.word-at.ensures c.row_words.ensures.0) in
    omega (arith, room)

pub put_content-requires : goal.put_content-requires
put_content-requires c = let d = stored_records _ c.requires.0 in
    let k = c.args.number.0 in (
      part_length _ _ _ d k c.requires.1 _ _ c.word-at.ensures c.row_words.ensures.0,
      row_cells c.requires.0 k c.requires.1 _ (row_part_lem _ _ _ d k c.requires.1 _ _ c.word-at.ensures c.row_words.ensures.0),
      c.requires.0.measured.some_bytes,
      c.requires.0.measured.most_bytes,
      c.requires.0.measured.most_blocks,
      c.requires.2 ∙ segment_long _,
    )

pub returns : goal.returns
returns c = let k = c.args.number.0 in
    row_content c.requires.0 k c.requires.1 _ (row_part_lem _ _ _ (stored_records _ c.requires.0) k c.requires.1 _ _ c.word-at.ensures c.row_words.ensures.0) _ c.put_content.ensures
