use native.Mathlib.Omega.{arith}
use mathlib.Core.Path.{◌∙◌, ◌≡◌, ap, sym}
use mathlib.Core.List.{[]}
use Prim.Native.Nat.{ℕ, ◌*◌, ◌+◌, ◌<◌, ◌≤◌}
use native.Mathlib.Nat.{zero-mul}
use lib.ListN.{get_or, length}
use Rattle.lists.proofs.Places.{row_next}
use Rattle.lists.proofs.Puts.{as_some, first_no, first_yes}
use Rattle.model.specs.Image.{blocks_from, with_blanks}
use Rattle.model.specs.Records.{equals}
use Rattle.model.specs.Table.{records_in, storage_in}
use Rattle.numbers.specs.Measures.{measures_of}
use Rattle.storage.proofs.Along.{AtRow, at_length, at_room, at_row, at_sized}
use Rattle.storage.proofs.Inside.{cell_inside, cell_room, few_records}
use Rattle.storage.proofs.Read.{cells_of, records_count, stored_records}
use Rattle.storage.proofs.Row.{cells_below}
use Rattle.place_free.specs.Free.{RestFree}
use Rattle.place_match.specs.Fit.{RowFits}
use Rattle.place_match.proofs.Fitting.{match_next, row_word, rows_room}
use Rattle.place_match.proofs.Matching.{none_rest}
use Rattle.place_match.proofs.match_record.Goals as goal

pub row_words-width-requires : goal.row_words-width-requires
row_words-width-requires c = c.requires.3.measured.most_blocks

pub rows-requires : goal.rows-requires
rows-requires c = c.requires.3.measured.most_blocks

pub next_fitting-k-requires : goal.next_fitting-k-requires
next_fitting-k-requires c =
    let all : c.rows.result ≡ length (records_in c.args.m.blocks c.args.records.now) = (c.rows.ensures ∙ sym (records_count c.args.m.blocks c.args.records.now)) in
    let some : c.min-stop.result ≤ length (records_in c.args.m.blocks c.args.records.now) = (omega (arith, c.min-stop.ensures, all)) in
    (omega arith, rows_room c.requires.3 _ c.row_words-width.ensures.0 _ (some), omega (arith, c.row_words-width.ensures.0))

pub loop-k-init : goal.loop-k-init
loop-k-init c =
    let all : c.rows.result ≡ length (records_in c.args.m.blocks c.args.records.now) = (c.rows.ensures ∙ sym (records_count c.args.m.blocks c.args.records.now)) in
    let some : c.min-stop.result ≤ length (records_in c.args.m.blocks c.args.records.now) = (omega (arith, c.min-stop.ensures, all)) in
    let s = c.next_fitting-k.ensures in
    (s.1, s.3, sym (match_next c.requires.3 _ c.row_words-width.ensures.0 c.args.image.now c.args.from c.args.mask c.args.blank c.requires.1 c.requires.5 0 _ s.0 (omega (arith, s.1, some)) s.2))

pub overflow_cast-record : goal.overflow_cast-record
overflow_cast-record c =
    let all : c.rows.result ≡ length (records_in c.args.m.blocks c.args.records.now) = (c.rows.ensures ∙ sym (records_count c.args.m.blocks c.args.records.now)) in
    omega (arith, c.min-stop.ensures, all, few_records c.requires.3)

pub word-at-requires : goal.word-at-requires
word-at-requires c = c.requires.3.measured.most_blocks

pub overflow_add-end : goal.overflow_add-end
overflow_add-end c =
    let all : c.rows.result ≡ length (records_in c.args.m.blocks c.args.records.now) = (c.rows.ensures ∙ sym (records_count c.args.m.blocks c.args.records.now)) in
    let here : AtRow c.args.m.blocks c.args.records.now c.row_words-width.result c.rows.result c.word-at.result c.loop-k.k = (record { within = omega (arith, c.min-stop.ensures, c.loop-k.invariant.0); all = all; wide = c.row_words-width.ensures.0; place = c.word-at.ensures }) in
    let below : c.loop-k.k < c.rows.result = (omega (arith, c.min-stop.ensures, c.loop-k-test.true)) in
    let room : c.word-at.result + c.row_words-width.result ≤ length c.args.records.now = (at_room (here) (below) (stored_records _ c.requires.3)) in
    omega (arith, room)

pub offset_bounds-records-at : goal.offset_bounds-records-at
offset_bounds-records-at c =
    let all : c.rows.result ≡ length (records_in c.args.m.blocks c.args.records.now) = (c.rows.ensures ∙ sym (records_count c.args.m.blocks c.args.records.now)) in
    let here : AtRow c.args.m.blocks c.args.records.now c.row_words-width.result c.rows.result c.word-at.result c.loop-k.k = (record { within = omega (arith, c.min-stop.ensures, c.loop-k.invariant.0); all = all; wide = c.row_words-width.ensures.0; place = c.word-at.ensures }) in
    let below : c.loop-k.k < c.rows.result = (omega (arith, c.min-stop.ensures, c.loop-k-test.true)) in
    let room : c.word-at.result + c.row_words-width.result ≤ length c.args.records.now = (at_room (here) (below) (stored_records _ c.requires.3)) in
    omega (arith, room)

pub slice_bounds-record_equals-count : goal.slice_bounds-record_equals-count
slice_bounds-record_equals-count c =
    let all : c.rows.result ≡ length (records_in c.args.m.blocks c.args.records.now) = (c.rows.ensures ∙ sym (records_count c.args.m.blocks c.args.records.now)) in
    let here : AtRow c.args.m.blocks c.args.records.now c.row_words-width.result c.rows.result c.word-at.result c.loop-k.k = (record { within = omega (arith, c.min-stop.ensures, c.loop-k.invariant.0); all = all; wide = c.row_words-width.ensures.0; place = c.word-at.ensures }) in
    let below : c.loop-k.k < c.rows.result = (omega (arith, c.min-stop.ensures, c.loop-k-test.true)) in
    let room : c.word-at.result + c.row_words-width.result ≤ length c.args.records.now = (at_room (here) (below) (stored_records _ c.requires.3)) in
    omega (arith, room)

pub slice_bounds-record_equals-start : goal.slice_bounds-record_equals-start
slice_bounds-record_equals-start c =
    let all : c.rows.result ≡ length (records_in c.args.m.blocks c.args.records.now) = (c.rows.ensures ∙ sym (records_count c.args.m.blocks c.args.records.now)) in
    let here : AtRow c.args.m.blocks c.args.records.now c.row_words-width.result c.rows.result c.word-at.result c.loop-k.k = (record { within = omega (arith, c.min-stop.ensures, c.loop-k.invariant.0); all = all; wide = c.row_words-width.ensures.0; place = c.word-at.ensures }) in
    let below : c.loop-k.k < c.rows.result = (omega (arith, c.min-stop.ensures, c.loop-k-test.true)) in
    let room : c.word-at.result + c.row_words-width.result ≤ length c.args.records.now = (at_room (here) (below) (stored_records _ c.requires.3)) in
    omega (arith, room)

pub slice_bounds-record_equals-end : goal.slice_bounds-record_equals-end
slice_bounds-record_equals-end c =
    let all : c.rows.result ≡ length (records_in c.args.m.blocks c.args.records.now) = (c.rows.ensures ∙ sym (records_count c.args.m.blocks c.args.records.now)) in
    let here : AtRow c.args.m.blocks c.args.records.now c.row_words-width.result c.rows.result c.word-at.result c.loop-k.k = (record { within = omega (arith, c.min-stop.ensures, c.loop-k.invariant.0); all = all; wide = c.row_words-width.ensures.0; place = c.word-at.ensures }) in
    let below : c.loop-k.k < c.rows.result = (omega (arith, c.min-stop.ensures, c.loop-k-test.true)) in
    let room : c.word-at.result + c.row_words-width.result ≤ length c.args.records.now = (at_room (here) (below) (stored_records _ c.requires.3)) in
    omega (arith, room)

pub record_equals-requires : goal.record_equals-requires
record_equals-requires c =
    let place : c.word-at.result ≡ c.loop-k.k * c.row_words-width.result = (c.word-at.ensures ∙ sym (ap (λ (w : ℕ). c.loop-k.k * w) c.row_words-width.ensures.0)) in
    let all : c.rows.result ≡ length (records_in c.args.m.blocks c.args.records.now) = (c.rows.ensures ∙ sym (records_count c.args.m.blocks c.args.records.now)) in
    let here : AtRow c.args.m.blocks c.args.records.now c.row_words-width.result c.rows.result c.word-at.result c.loop-k.k = (record { within = omega (arith, c.min-stop.ensures, c.loop-k.invariant.0); all = all; wide = c.row_words-width.ensures.0; place = c.word-at.ensures }) in
    let below : c.loop-k.k < c.rows.result = (omega (arith, c.min-stop.ensures, c.loop-k-test.true)) in
    let l = c.loop-k in
    let s = c.requires.3 in
    let r = stored_records _ s in
    let ws = c.args.records.now in
    let fit : RowFits c.args.mask c.args.blank ws c.word-at.result = rw (place) (l.invariant.1 c.loop-k-test.true) in
    let wide = c.row_words-width in
    let cells = cells_below c.args.m.blocks _ (get_or (records_in c.args.m.blocks ws) l.k []) (at_sized (here) (below) r) (λ i. cell_inside s l.k i) _ (at_row (here) (below) r) in
    (c.requires.0, c.requires.1, at_length (here) (below) r, row_word ws c.word-at.result wide.result 1 (omega (arith, wide.ensures.0)) ∙ fit.whole, λ i q. cell_room s _ (cells i q), s.measured.some_bytes, s.measured.most_bytes, s.measured.pieces, s.measured.most_blocks, row_word ws c.word-at.result wide.result 2 (omega (arith, wide.ensures.0)) ∙ fit.same ∙ c.requires.5, omega (arith, s.measured.some_blocks))

pub returns-then-record_equals : goal.returns-then-record_equals
returns-then-record_equals c =
    let all : c.rows.result ≡ length (records_in c.args.m.blocks c.args.records.now) = (c.rows.ensures ∙ sym (records_count c.args.m.blocks c.args.records.now)) in
    let here : AtRow c.args.m.blocks c.args.records.now c.row_words-width.result c.rows.result c.word-at.result c.loop-k.k = (record { within = omega (arith, c.min-stop.ensures, c.loop-k.invariant.0); all = all; wide = c.row_words-width.ensures.0; place = c.word-at.ensures }) in
    let below : c.loop-k.k < c.rows.result = (omega (arith, c.min-stop.ensures, c.loop-k-test.true)) in
    let l = c.loop-k in
    let r = stored_records _ c.requires.3 in
    let f = equals with_blanks (storage_in (measures_of c.args.m) c.args.pool.now c.args.records.now) (blocks_from c.args.m.bytes c.args.image.now c.args.from c.args.m.blocks) in
    let e = c.record_equals.ensures _ _ (cells_of (measures_of c.args.m) c.args.pool.now c.args.records.now) (at_sized (here) (below) r) (at_row (here) (below) r) in
    let inside : l.k < length (records_in c.args.m.blocks c.args.records.now) = omega (arith, here.all, below) in
    sym (as_some (length (records_in c.args.m.blocks c.args.records.now)) l.k inside) ∙ first_yes f [] _ l.k inside (sym c.if-record_equals.true ∙ e) ∙ l.invariant.2

pub overflow_add-k : goal.overflow_add-k
overflow_add-k c =
    let below : c.loop-k.k < c.rows.result = (omega (arith, c.min-stop.ensures, c.loop-k-test.true)) in
    let all : c.rows.result ≡ length (records_in c.args.m.blocks c.args.records.now) = (c.rows.ensures ∙ sym (records_count c.args.m.blocks c.args.records.now)) in
    omega (arith, below, few_records c.requires.3, all)

pub next_fitting-k-requires-in-loop-k : goal.next_fitting-k-requires-in-loop-k
next_fitting-k-requires-in-loop-k c =
    let place : c.word-at.result ≡ c.loop-k.k * c.row_words-width.result = (c.word-at.ensures ∙ sym (ap (λ (w : ℕ). c.loop-k.k * w) c.row_words-width.ensures.0)) in
    let all : c.rows.result ≡ length (records_in c.args.m.blocks c.args.records.now) = (c.rows.ensures ∙ sym (records_count c.args.m.blocks c.args.records.now)) in
    let some : c.min-stop.result ≤ length (records_in c.args.m.blocks c.args.records.now) = (omega (arith, c.min-stop.ensures, all)) in
    (omega arith, rows_room c.requires.3 _ c.row_words-width.ensures.0 _ (some), omega (arith, c.row_words-width.ensures.0))

pub loop-k-preserved : goal.loop-k-preserved
loop-k-preserved c =
    let all : c.rows.result ≡ length (records_in c.args.m.blocks c.args.records.now) = (c.rows.ensures ∙ sym (records_count c.args.m.blocks c.args.records.now)) in
    let here : AtRow c.args.m.blocks c.args.records.now c.row_words-width.result c.rows.result c.word-at.result c.loop-k.k = (record { within = omega (arith, c.min-stop.ensures, c.loop-k.invariant.0); all = all; wide = c.row_words-width.ensures.0; place = c.word-at.ensures }) in
    let below : c.loop-k.k < c.rows.result = (omega (arith, c.min-stop.ensures, c.loop-k-test.true)) in
    let some : c.min-stop.result ≤ length (records_in c.args.m.blocks c.args.records.now) = (omega (arith, c.min-stop.ensures, all)) in
    let l = c.loop-k in
    let r = stored_records _ c.requires.3 in
    let s = c.next_fitting-k-in-loop-k.ensures in
    let f = equals with_blanks (storage_in (measures_of c.args.m) c.args.pool.now c.args.records.now) (blocks_from c.args.m.bytes c.args.image.now c.args.from c.args.m.blocks) in
    let e = c.record_equals.ensures _ _ (cells_of (measures_of c.args.m) c.args.pool.now c.args.records.now) (at_sized (here) (below) r) (at_row (here) (below) r) in
    let on = first_no f [] (records_in c.args.m.blocks c.args.records.now) l.k (omega (arith, (here).all, below)) (sym c.if-record_equals.false ∙ e) in
    (s.1, s.3, sym (on ∙ match_next c.requires.3 _ c.row_words-width.ensures.0 c.args.image.now c.args.from c.args.mask c.args.blank c.requires.1 c.requires.5 (l.k + 1) _ s.0 (omega (arith, s.1, some)) s.2) ∙ l.invariant.2)

pub returns : goal.returns
returns c =
    let all : c.rows.result ≡ length (records_in c.args.m.blocks c.args.records.now) = (c.rows.ensures ∙ sym (records_count c.args.m.blocks c.args.records.now)) in
    let l = c.loop-k in
    let segs = records_in c.args.m.blocks c.args.records.now in
    let rest : RestFree l.k segs = λ j h m. c.requires.4 j (omega (arith, c.min-stop.ensures, all)) m in
    let none = none_rest (storage_in (measures_of c.args.m) c.args.pool.now c.args.records.now) (blocks_from c.args.m.bytes c.args.image.now c.args.from c.args.m.blocks) (omega (arith, c.requires.1, c.requires.2)) l.k l.k segs rest in
    sym none ∙ l.invariant.2
