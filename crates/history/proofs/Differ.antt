-- §10: "Cells and records may differ, because one call can take a position from a record that the other would have matched." Two tills close, in either
-- order, on the same store; the calls are computed from their definitions on real blocks.
use Prim.Native.Nat.{ℕ, ◌*◌}
use mathlib.Core.Path.{◌≡◌, refl}
use mathlib.Core.Bool.{true}
use mathlib.Core.List.{List, [], ◌∷◌, ◌++◌}
use Rattle.lists.specs.Lists.{counted, every, keep, count, total, first_from, all_of, same_numbers, rises, is_in, distinct, all_zero, largest, is_some, last_of}
use Rattle.lists.specs.Rows.{joined, parts, chunks, fill}
use Rattle.lists.specs.Masks.{mask_of}
use Rattle.model.specs.Measures.{is_within, are_measures, in_range, parts_for, table_words, pool_bytes, is_base, Shape}
use Rattle.model.specs.Image.{zero_block, blank_block, is_blank, is_bare, block_from, blocks_from, image_blocks, segments_from, image_segments}
use Rattle.model.specs.Records.{free_segment, is_free, cells_of, named_cells, cell_at, position_at, equals}
use Rattle.model.specs.Runs.{free_cells, better, scan, find_run}
use Rattle.model.specs.Place.{bare_pointer, bare_position, pointers_to, new_positions, stored_blocks, share, write, write_run, write_record, share_or_write, place_segment, after_some, place_next, place_all}
use Rattle.model.specs.Turn.{turns_to, target, turn, turning}
use Rattle.model.specs.Sweep.{change_at, change_all, release, moved, clear_cells, free_record, strike_only, compact, remove_from, sweep_record, sweep_from, sweep}
use Rattle.model.specs.Trace.{hops_via, end_via, hops, end_of, block_at, traced_block, traced_blocks, image_of, longest_chain}
use Rattle.model.specs.Table.{pointer_word, record_to_words, version_to_words, rights_bits, rights_word, till_to_words, measure_word, header_to_words, state_to_words, state_to_bytes, measures_in, shape_of, pointer_of, word_to_pointer, position_of, positions_in, segment_in, records_in, cells_in, storage_in, version_in, versions_in, is_odd, rights_of, rights_in, till_in, tills_in, state_in}
use Rattle.model.specs.Sound.{is_shaped, has_length, is_numbered, is_free_or_holds, has_cells, next_pointers, ends_zero, are_traceable, is_till, all_pointers, are_counted, all_counted, are_filled, is_sound, if_sound, has_lengths, store_as, store_of}
use Rattle.model.specs.Calls.{no_rights, empty_till, empty_state, layout_if, layout_of, till_of, held_from, with_till, newest_pointers, with_newest_pointers, newest_day, day_for, till_with, file_in, place_and_file, backup_answer, backup_in, backup_by, backup_of, restore_refusal, restore_from, restore_in, restore_of, oldest_number, newest_number, listing_refusal, list_till, listing_in, listing_of, tally_in, tally_of, held_before, first_of, not_held, look_up}
use Rattle.model.specs.Rights.{refusal_for, owner_refusal, backup_as, restore_as, listing_as, tally_as}
use Rattle.model.specs.State.{null_position, held, removed}
use Rattle.model.specs.Calls as Calls
use Rattle.model.proofs.Steps.{Step, backup, restore, listing, tally, record_is, pool_is, Row, record_at, is_at, holds_from, holds, blocks, zeros}

-- 2 tills; 4 blocks per segment
shop : Shape
shop = record {
  measures = record { block_bytes = 64; segment_blocks = 4; rebuild_percent = 20 };
  capacities = record { tills = 2; versions = 2; blocks = 4; records = 3; cells = 12 };
}

ABCD : List ℕ
ABCD = blocks (65 ∷ 66 ∷ 67 ∷ 68 ∷ [])

ABCE : List ℕ
ABCE = blocks (65 ∷ 66 ∷ 67 ∷ 69 ∷ [])

-- what the tills hold in the end, in either order
closed : List Step
closed =
    restore 0 1 (zeros 256) 0 256 1 ABCD
    ∷ restore 0 2 (zeros 256) 0 256 0 ABCE
    ∷ restore 1 1 (zeros 256) 0 256 0 ABCD
    ∷ listing 0 0 1 2 2
    ∷ listing 1 0 1 1 1
    ∷ []

-- Till 0 holds ABCD, in record 0. Its next backup takes A, B and C from that record, which then matches no segment: till 1's image is written anew.
till0_first : Row
till0_first = record {
  capacities = shop;
  steps =
      backup 0 ABCD 0 1
      ∷ backup 0 ABCE 0 2
      ∷ backup 1 ABCD 0 1
      ∷ record_is 0 (removed ∷ removed ∷ removed ∷ held 8 1 ∷ [])
      ∷ record_is 1 (held 4 1 ∷ held 5 1 ∷ held 6 1 ∷ held 7 1 ∷ [])
      ∷ record_is 2 (held 0 1 ∷ held 1 1 ∷ held 2 1 ∷ held 3 1 ∷ [])
      ∷ pool_is (ABCD ++ (ABCE ++ (blocks (68 ∷ []) ++ zeros (64 * 3))))
      ∷ tally 0 9 3 9
      ∷ closed;
}

-- till 1's image matches record 0, which till 0's next backup then leaves whole
till1_first : Row
till1_first = record {
  capacities = shop;
  steps =
      backup 0 ABCD 0 1
      ∷ backup 1 ABCD 0 1
      ∷ backup 0 ABCE 0 2
      ∷ record_is 0 (held 0 1 ∷ held 1 1 ∷ held 2 1 ∷ held 3 2 ∷ [])
      ∷ record_is 1 (held 4 1 ∷ held 5 1 ∷ held 6 1 ∷ held 7 1 ∷ [])
      ∷ record_is 2 (null_position ∷ null_position ∷ null_position ∷ null_position ∷ [])
      ∷ pool_is (ABCD ++ (ABCE ++ zeros (64 * 4)))
      ∷ tally 0 8 2 9
      ∷ closed;
}

records_may_differ : every holds (till0_first ∷ till1_first ∷ []) ≡ true
unfolding till0_first till1_first closed shop ABCD ABCE zeros blocks holds holds_from is_at record_at refusal_for owner_refusal backup_as restore_as listing_as tally_as
    counted every keep count total is_some first_from all_of same_numbers rises is_in distinct all_zero largest joined parts chunks fill mask_of is_within are_measures in_range parts_for
    table_words pool_bytes zero_block blank_block is_blank is_bare block_from blocks_from image_blocks segments_from image_segments free_segment is_free cells_of named_cells cell_at position_at
    equals free_cells better scan find_run bare_pointer bare_position pointers_to new_positions stored_blocks share write write_run write_record share_or_write place_segment after_some
    place_next place_all turns_to target turn turning change_at change_all release moved clear_cells free_record strike_only compact remove_from sweep_record sweep_from
    sweep hops_via end_via hops end_of block_at traced_block traced_blocks image_of longest_chain pointer_word record_to_words version_to_words rights_bits rights_word till_to_words
    is_base measure_word header_to_words state_to_words state_to_bytes measures_in shape_of pointer_of word_to_pointer position_of positions_in segment_in records_in cells_in storage_in version_in
    versions_in is_odd rights_of rights_in till_in tills_in state_in is_shaped has_length is_numbered is_free_or_holds has_cells next_pointers ends_zero are_traceable is_till all_pointers are_counted
    all_counted are_filled is_sound if_sound has_lengths store_as store_of no_rights empty_till empty_state layout_if layout_of till_of held_from with_till
    last_of newest_pointers with_newest_pointers newest_day day_for till_with file_in place_and_file Calls.backup backup_answer backup_in backup_by backup_of restore_refusal held_before first_of not_held look_up restore_from
    Calls.restore restore_in restore_of oldest_number newest_number listing_refusal list_till listing_in listing_of tally_in tally_of
records_may_differ = refl
