use native.Mathlib.Omega.{arith}
use Prim.Native.Nat.{◌-◌, ◌<◌}
use mathlib.Core.Path.{◌≡◌, sym, ◌∙◌}
use mathlib.Core.List.{[]}
use lib.ListN.{length, get_or}
use Rattle.model.specs.Table.{records_in, storage_in}
use Rattle.numbers.specs.Measures.{measures_of}
use Rattle.storage.proofs.Inside.{cell_inside, cell_room, few_records}
use Rattle.storage.proofs.Read.{cells_of, count_at, part_length, records_count, records_of, room_at, row_part_lem, stored_records}
use Rattle.storage.proofs.Row.{cells_below}
use Rattle.sent_find.proofs.Finding.{found_start, found_next, found_end}
use Rattle.sent_find.proofs.find_down.Goals as goal

pub row_words-width-requires : goal.row_words-width-requires
row_words-width-requires c = c.requires.0.measured.most_blocks

pub rows-k-requires : goal.rows-k-requires
rows-k-requires c = c.requires.0.measured.most_blocks

pub loop-k-init : goal.loop-k-init
loop-k-init c = let few = few_records c.requires.0 in
    let all : c.rows-k.result ≡ length (records_in c.args.m.blocks c.args.words.now) = c.rows-k.ensures ∙ sym (records_count c.args.m.blocks c.args.words.now) in
    found_start _ all few c.requires.2

pub word-at-requires : goal.word-at-requires
word-at-requires c = c.requires.0.measured.most_blocks

pub overflow_add-end : goal.overflow_add-end
overflow_add-end c = omega (arith, c.word-at.ensures, c.row_words-width.ensures.0, room_at c.args.m.blocks c.args.words.now _ (stored_records _ c.requires.0) (c.loop-k.k - 1) (omega (arith, c.loop-k.invariant.within)))

pub offset_bounds-words-at : goal.offset_bounds-words-at
offset_bounds-words-at c = omega (arith, c.word-at.ensures, c.row_words-width.ensures.0, room_at c.args.m.blocks c.args.words.now _ (stored_records _ c.requires.0) (c.loop-k.k - 1) (omega (arith, c.loop-k.invariant.within)))

pub slice_bounds-find_record-count : goal.slice_bounds-find_record-count
slice_bounds-find_record-count c = omega (arith, c.word-at.ensures, c.row_words-width.ensures.0, room_at c.args.m.blocks c.args.words.now _ (stored_records _ c.requires.0) (c.loop-k.k - 1) (omega (arith, c.loop-k.invariant.within)))

pub slice_bounds-find_record-start : goal.slice_bounds-find_record-start
slice_bounds-find_record-start c = omega (arith, c.word-at.ensures, c.row_words-width.ensures.0, room_at c.args.m.blocks c.args.words.now _ (stored_records _ c.requires.0) (c.loop-k.k - 1) (omega (arith, c.loop-k.invariant.within)))

pub slice_bounds-find_record-end : goal.slice_bounds-find_record-end
slice_bounds-find_record-end c = omega (arith, c.word-at.ensures, c.row_words-width.ensures.0, room_at c.args.m.blocks c.args.words.now _ (stored_records _ c.requires.0) (c.loop-k.k - 1) (omega (arith, c.loop-k.invariant.within)))

pub find_record-requires : goal.find_record-requires
find_record-requires c = let l = c.loop-k in
    let s = c.requires.0 in
    let r = stored_records _ s in
    let n = c.args.m.blocks in
    let ws = c.args.words.now in
    let at = c.word-at.result in
    let width = c.row_words-width.result in
    let h : l.k - 1 < length (records_in n ws) = omega (arith, l.invariant.within) in
    let below = cells_below n _ (get_or (records_in n ws) (l.k - 1) []) (count_at n ws _ r (l.k - 1) h) (λ i. cell_inside s (l.k - 1) i) _ (row_part_lem n ws _ r (l.k - 1) h at width c.word-at.ensures c.row_words-width.ensures.0) in
    (s.measured, part_length n ws _ r (l.k - 1) h at width c.word-at.ensures c.row_words-width.ensures.0, λ i q. cell_room s _ (below i q), omega (arith, c.requires.1, l.invariant.same))

pub loop-k-preserved : goal.loop-k-preserved
loop-k-preserved c = let l = c.loop-k in
    let s = c.requires.0 in
    let r = stored_records _ s in
    let n = c.args.m.blocks in
    let ws = c.args.words.now in
    let at = c.word-at.result in
    let width = c.row_words-width.result in
    let h : l.k - 1 < length (records_in n ws) = omega (arith, l.invariant.within) in
    let put = c.find_record.ensures.1 (storage_in (measures_of c.args.m) c.args.pool.now ws) (get_or (records_in n ws) (l.k - 1) []) (cells_of (measures_of c.args.m) c.args.pool.now ws) (count_at n ws _ r (l.k - 1) h)
    (row_part_lem n ws _ r (l.k - 1) h at width c.word-at.ensures c.row_words-width.ensures.0) in
    found_next l.invariant (l.k - 1) (omega arith) _ c.find_record.ensures.0 put

pub shape_of-numbers : goal.shape_of-numbers
shape_of-numbers c = c.loop-k.invariant.same

pub returns : goal.returns
returns c = let l = c.loop-k in
    let z : l.k ≡ 0 = omega arith in
    (l.invariant.same, found_end (records_of (measures_of c.args.m) c.args.pool.now c.args.words.now) (rw z at l.invariant))
