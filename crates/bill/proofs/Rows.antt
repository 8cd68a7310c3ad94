-- Rows of the bill of §14, computed from the definitions on real blocks. One theorem, `rows_hold`.
use Prim.Native.Nat.{ℕ}
use mathlib.Core.Path.{◌≡◌, refl}
use mathlib.Core.Bool.{Bool, true, ◌&&◌}
use mathlib.Core.List.{List, [], ◌∷◌, ◌++◌}
use lib.ListN.{set, replicate}
use lib.Dec.{eqb}
use Rattle.lists.specs.Lists.{counted, every, keep, count, total, first_from, all_of, same_numbers, rises, is_in, distinct, all_zero, is_some, last_of}
use Rattle.lists.specs.Rows.{joined, parts, chunks, fill}
use Rattle.lists.specs.Masks.{mask_of}
use Rattle.model.specs.Measures.{is_within, are_measures, in_range, parts_for, table_words, pool_bytes, is_base, Shape}
use Rattle.model.specs.Image.{zero_block, blank_block, is_blank, is_bare, block_from, blocks_from, image_blocks, segments_from, image_segments}
use Rattle.model.specs.Records.{free_segment, is_free, cells_of, named_cells, cell_at, position_at, equals}
use Rattle.model.specs.Runs.{free_cells, better, scan, find_run}
use Rattle.model.specs.Place.{bare_pointer, bare_position, pointers_to, new_positions, stored_blocks, share, write, write_run, write_record, share_or_write, place_segment, after_some, place_next, place_all}
use Rattle.model.specs.Turn.{turns_to, target, turn, turning}
use Rattle.model.specs.Sweep.{change_at, change_all, release, claim, moved, clear_cells, free_record, strike_only, compact, remove_from, sweep_record, sweep_from, sweep}
use Rattle.model.specs.Trace.{hops_via, end_via, hops, end_of, block_at, traced_block}
use Rattle.model.specs.Table.{pointer_word, record_to_words, version_to_words, rights_bits, rights_word, till_to_words, measure_word, header_to_words, state_to_words, state_to_bytes, measures_in, shape_of, pointer_of, word_to_pointer, position_of, positions_in, segment_in, records_in, cells_in, storage_in, version_in, versions_in, is_odd, rights_of, rights_in, till_in, tills_in, state_in}
use Rattle.model.specs.Sound.{is_shaped, has_length, is_numbered, is_free_or_holds, has_cells, next_pointers, ends_zero, are_traceable, is_till, all_pointers, are_counted, all_counted, are_filled, is_sound, if_sound, has_lengths, store_as, store_of}
use Rattle.model.specs.Calls.{no_rights, empty_till, empty_state, layout_if, layout_of, till_of, held_from, with_till, newest_pointers, with_newest_pointers, newest_day, day_for, till_with, file_in, place_and_file, backup_answer, backup_in, backup_by, backup_of, held_before, first_of, not_held, look_up, close_up, retire_from, retire_answer, retire_in, retire_of, tally_in, tally_of, LayoutAnswer, BackupAnswer, RetireAnswer, TallyAnswer}
use Rattle.model.specs.Calls as Calls
use Rattle.model.specs.Rights.{owner_refusal}
use Rattle.model.proofs.Steps.{blocks}
use Rattle.bill.specs.Bill.{pays, shares, divided, added, bill_for, bill, BillAnswer, bill_refused, bill_in, bill_of, bill_as}

-- a backup or a retirement that is accepted; a bill with what it answers; the occupied cells
data Step : Type 0 where
  backup : (till : ℕ) (image : List ℕ) → Step
  retire : (till version : ℕ) → Step
  bills : (user price refusal : ℕ) (sums : List ℕ) → Step
  occupied : (cells : ℕ) → Step
  overwrite : (at word : ℕ) → Step

record Row : Type 0 where
  shape : Shape
  steps : List Step

unfoldable holds_from : List Step → List ℕ → List ℕ → Bool
holds_from [] pool table = true
holds_from (backup t image ∷ steps) pool table =
    let a : BackupAnswer = backup_of pool table t image in
    eqb a.refusal 0 && holds_from steps a.pool a.table
holds_from (retire t v ∷ steps) pool table =
    let a : RetireAnswer = retire_of pool table t v in
    eqb a.refusal 0 && holds_from steps a.pool a.table
holds_from (bills u p n sums ∷ steps) pool table =
    let a : BillAnswer = bill_as pool table u p in
    eqb a.refusal n && same_numbers a.sums (fill 16 sums) && holds_from steps pool table
holds_from (occupied c ∷ steps) pool table =
    let a : TallyAnswer = tally_of pool table in
    eqb a.cells c && holds_from steps pool table
holds_from (overwrite at word ∷ steps) pool table = holds_from steps pool (set table at word)

unfoldable holds : Row → Bool
holds row =
    let a : LayoutAnswer = layout_of row.shape (replicate (pool_bytes row.shape) 1) (replicate (table_words row.shape) 1) in
    eqb a.refusal 0 && holds_from row.steps a.pool a.table

-- 3 tills with 2 versions of 8 blocks; 4 blocks per segment
shop : Shape
shop = record {
  measures = record { block_bytes = 64; segment_blocks = 4; rebuild_percent = 20 };
  capacities = record { tills = 3; versions = 2; blocks = 8; records = 3; cells = 12 };
}

ABCD : List ℕ
ABCD = blocks (65 ∷ 66 ∷ 67 ∷ 68 ∷ [])

ABCE : List ℕ
ABCE = blocks (65 ∷ 66 ∷ 67 ∷ 69 ∷ [])

EFGH : List ℕ
EFGH = blocks (69 ∷ 70 ∷ 71 ∷ 72 ∷ [])

rows : List Row
rows =
    -- Nothing is occupied; then one till pays for four cells, then three tills do. The price ends at 10,000.
    record {
      shape = shop;
      steps =
          bills 0 10000 0 []
          ∷ backup 1 ABCD
          ∷ bills 0 100 0 (0 ∷ 400 ∷ [])
          ∷ backup 0 ABCD
          ∷ backup 2 ABCD
          ∷ occupied 4
          ∷ bills 0 100 0 (136 ∷ 132 ∷ 132 ∷ [])
          ∷ bills 0 2 0 (4 ∷ 4 ∷ 0 ∷ [])
          ∷ bills 0 0 0 []
          ∷ bills 0 10000 0 (13336 ∷ 13332 ∷ 13332 ∷ [])
          ∷ bills 0 10001 30 []
          -- whoever asks: 10, 22 and 23 come before 30
          ∷ bills 8 10001 22 []
          ∷ bills 1 10001 23 []
          ∷ bills 7 1 23 []
          ∷ overwrite 0 17
          ∷ bills 0 10001 10 []
          ∷ bills 8 10001 10 []
          ∷ [];
    }
    -- two segments of one image are one record: till 1 refers to each cell twice, and pays once
    ∷ record {
      shape = shop;
      steps = backup 1 (ABCD ++ ABCD) ∷ backup 2 ABCD ∷ occupied 4 ∷ bills 0 3 0 (0 ∷ 8 ∷ 4 ∷ []) ∷ [];
    }
    -- till 0 has gone from the cells of till 1
    ∷ record {
      shape = shop;
      steps = backup 0 ABCD ∷ backup 1 ABCD ∷ retire 0 1 ∷ occupied 4 ∷ bills 0 3 0 (0 ∷ 12 ∷ []) ∷ [];
    }
    -- A, B and C of the older version are indirect, and their positions removed: D's cell stays, beside four new ones. The other till pays for its own alone
    ∷ record {
      shape = shop;
      steps = backup 0 ABCD ∷ backup 0 ABCE ∷ occupied 5 ∷ bills 0 3 0 (15 ∷ []) ∷ backup 1 EFGH ∷ occupied 9 ∷ bills 0 3 0 (15 ∷ 12 ∷ []) ∷ [];
    }
    ∷ []

rows_hold : every holds rows ≡ true
unfolding rows shop ABCD ABCE EFGH blocks holds holds_from pays shares divided added bill_for bill bill_refused bill_in bill_of bill_as owner_refusal
    counted every keep count total is_some first_from all_of same_numbers rises is_in distinct all_zero joined parts chunks fill mask_of is_within are_measures in_range parts_for
    table_words pool_bytes zero_block blank_block is_blank is_bare block_from blocks_from image_blocks segments_from image_segments free_segment is_free cells_of named_cells cell_at position_at
    equals free_cells better scan find_run bare_pointer bare_position pointers_to new_positions stored_blocks share write write_run write_record share_or_write place_segment after_some
    place_next place_all turns_to target turn turning change_at change_all release claim moved clear_cells free_record strike_only compact remove_from sweep_record sweep_from
    sweep hops_via end_via hops end_of block_at traced_block pointer_word record_to_words version_to_words rights_bits rights_word till_to_words
    is_base measure_word header_to_words state_to_words state_to_bytes measures_in shape_of pointer_of word_to_pointer position_of positions_in segment_in records_in cells_in storage_in version_in
    versions_in is_odd rights_of rights_in till_in tills_in state_in is_shaped has_length is_numbered is_free_or_holds has_cells next_pointers ends_zero are_traceable is_till all_pointers are_counted
    all_counted are_filled is_sound if_sound has_lengths store_as store_of no_rights empty_till empty_state layout_if layout_of till_of held_from with_till
    last_of newest_pointers with_newest_pointers newest_day day_for till_with file_in place_and_file Calls.backup backup_answer backup_in backup_by backup_of held_before first_of not_held look_up
    close_up retire_from Calls.retire retire_answer retire_in retire_of tally_in tally_of
rows_hold = refl
