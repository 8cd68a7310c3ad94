-- "A day at the box": the starred cases 1 to 10, rows for what the page says beside them, and rows at other measures, as lists of calls with what they answer and leave.
-- One theorem, `day_holds`, proved by computing the calls' definitions on real blocks.
use Prim.Native.Nat.{◌*◌}
use mathlib.Core.Path.{◌≡◌, refl}
use mathlib.Core.Bool.{true}
use mathlib.Core.List.{List, [], ◌∷◌, ◌++◌}
use lib.ListN.{drop, replicate}
use Rattle.lists.specs.Lists.{counted, every, keep, count, total, is_some, first_from, all_of, same_numbers, rises, is_in, distinct, all_zero, largest, last_of}
use Rattle.lists.specs.Rows.{joined, parts, chunks, fill}
use Rattle.lists.specs.Masks.{mask_of}
use Rattle.model.specs.Measures.{is_within, are_measures, in_range, parts_for, table_words, pool_bytes, is_base}
use Rattle.model.specs.Image.{zero_block, blank_block, is_blank, is_bare, block_from, blocks_from, image_blocks, segments_from, image_segments}
use Rattle.model.specs.Records.{free_segment, is_free, cells_of, named_cells, cell_at, position_at, equals}
use Rattle.model.specs.Runs.{free_cells, better, scan, find_run}
use Rattle.model.specs.Place.{bare_pointer, bare_position, pointers_to, new_positions, stored_blocks, share, write, write_run, write_record, share_or_write, place_segment, after_some, place_next, place_all}
use Rattle.model.specs.Turn.{turns_to, target, turn, turning}
use Rattle.model.specs.Sweep.{change_at, change_all, release, claim, moved, clear_cells, free_record, strike_only, compact, remove_from, sweep_record, sweep_from, sweep}
use Rattle.model.specs.Trace.{hops_via, end_via, hops, end_of, block_at, traced_block, traced_blocks, image_of, longest_chain}
use Rattle.model.specs.Table.{pointer_word, record_to_words, version_to_words, rights_bits, rights_word, till_to_words, measure_word, header_to_words, state_to_words, state_to_bytes, measures_in, shape_of, pointer_of, word_to_pointer, position_of, positions_in, segment_in, records_in, cells_in, storage_in, version_in, versions_in, is_odd, rights_of, rights_in, till_in, tills_in, state_in}
use Rattle.model.specs.Sound.{is_shaped, has_length, is_numbered, is_free_or_holds, has_cells, next_pointers, ends_zero, are_traceable, is_till, all_pointers, are_counted, all_counted, are_filled, is_sound, if_sound, has_lengths, store_as, store_of}
use Rattle.model.specs.Calls.{table_length_of, no_rights, empty_till, empty_state, layout_if, layout_of, till_of, held_from, with_till, newest_pointers, with_newest_pointers, newest_day, day_for, till_with, file_in, place_and_file, backup_answer, backup_in, backup_by, backup_of, backup_dated_of, not_after, newest_or_none, version_on_in, version_on_of, restore_refusal, restore_from, restore_in, restore_of, held_before, first_of, not_held, look_up, close_up, retire_from, retire_answer, retire_in, retire_of, oldest_number, newest_number, listing_refusal, list_till, listing_in, listing_of, tally_in, tally_of}
use Rattle.model.specs.Rights.{refusal_for, owner_refusal, backup_refusal, backup_as, restore_as, retire_refusal, retire_as, listing_as, version_on_refusal, version_on_as, tally_refusal, tally_as, with_rights, set_rights_in, set_rights_of, rights_answer}
use Rattle.model.specs.Rights as Rights
use Rattle.model.specs.State.{null_pointer, direct, indirect, null_position, held, removed}
use Rattle.model.specs.Calls as Calls
use Rattle.model.proofs.Steps.{Step, backup, restore, retire, listing, tally, slot_is, record_is, pool_is, Row, till_at, slot_at, record_at, is_at, holds_from, holds, at_base, box, blocks, zeros, letters, ABCDEFGH, ABCDEFGZ, AIJKLMNO, ABIJKLMN, IJKLMNOP, QRSTUVWX, run8, to8, v512}
use Rattle.model.proofs.Blanks.{version, blanks}
use Rattle.model.proofs.Dates.{shop_of, one_block, A, B, dates}
use Rattle.model.proofs.Rules.{rules}
use Rattle.model.proofs.Settings.{box_of, settings}
use Rattle.model.proofs.Keys.{only_list, only_back_up, only_restore, only_retire, all_rights, each, seen, keys}

-- ---- the page's cases

case1 : List Step
case1 =
    backup 0 (blocks ABCDEFGH) 0 1
    ∷ record_is 0 (run8 0 1)
    ∷ slot_is 0 (v512 1 (to8 0))
    ∷ pool_is (blocks ABCDEFGH ++ zeros (64 * 24))
    ∷ tally 0 8 1 8
    ∷ []

case2 : List Step
case2 =
    backup 0 (blocks ABCDEFGZ) 0 2
    ∷ record_is 0 (replicate 7 removed ++ (held 16 1 ∷ []))
    ∷ record_is 1 (run8 8 1)
    ∷ slot_is 0 (v512 1 (counted indirect 0 7 ++ (direct 0 7 ∷ [])))
    ∷ slot_is 1 (v512 2 (to8 1))
    ∷ pool_is (zeros (64 * 8) ++ (blocks ABCDEFGZ ++ (blocks (72 ∷ []) ++ zeros (64 * 15))))
    ∷ tally 0 9 2 9
    ∷ []

case3 : List Step
case3 =
    backup 0 (blocks ABCDEFGH) 0 3
    ∷ record_is 0 (replicate 7 removed ++ (held 16 1 ∷ []))
    ∷ record_is 1 (replicate 7 removed ++ (held 17 1 ∷ []))
    ∷ record_is 2 (run8 0 1)
    ∷ slot_is 0 (v512 1 (counted indirect 0 7 ++ (direct 0 7 ∷ [])))
    ∷ slot_is 1 (v512 2 (counted indirect 0 7 ++ (direct 1 7 ∷ [])))
    ∷ slot_is 2 (v512 3 (to8 2))
    ∷ pool_is (blocks ABCDEFGH ++ (zeros (64 * 8) ++ (blocks (72 ∷ 90 ∷ []) ++ zeros (64 * 14))))
    ∷ tally 0 10 3 10
    ∷ []

case4 : List Step
case4 =
    backup 0 (blocks ABCDEFGH) 0 4
    ∷ record_is 2 (run8 0 1)
    ∷ slot_is 2 (v512 3 (counted indirect 0 8))
    ∷ slot_is 3 (v512 4 (to8 2))
    ∷ tally 0 10 3 10
    ∷ []

case5 : List Step
case5 =
    backup 0 (blocks ABCDEFGH) 11 0
    ∷ restore 0 1 (replicate 520 7) 0 512 3 (blocks ABCDEFGH ++ replicate 8 7)
    ∷ []

case6 : List Step
case6 =
    retire 0 3 0 512
    ∷ slot_is 1 (v512 2 (counted indirect 0 7 ++ (direct 1 7 ∷ [])))
    ∷ slot_is 2 (v512 4 (to8 2))
    ∷ restore 0 1 (zeros 512) 0 512 2 (blocks ABCDEFGH)
    ∷ listing 0 0 1 4 4
    ∷ tally 0 10 3 10
    ∷ retire 0 1 0 512
    ∷ record_is 0 (replicate 8 null_position)
    ∷ pool_is (blocks ABCDEFGH ++ (zeros (64 * 9) ++ (blocks (90 ∷ []) ++ zeros (64 * 14))))
    ∷ listing 0 0 2 4 4
    ∷ tally 0 9 2 9
    ∷ []

the_day : List Row
the_day =
    -- 1 to 6: each goes on where the one before it ends
    record { capacities = box 32; steps = case1 ++ (case2 ++ (case3 ++ (case4 ++ (case5 ++ case6)))) }
    -- 7: no cell, no record
    ∷ record {
      capacities = box 32;
      steps =
          backup 0 (zeros 512) 0 1
          ∷ slot_is 0 (v512 1 (replicate 8 null_pointer))
          ∷ record_is 0 (replicate 8 null_position)
          ∷ pool_is (zeros (64 * 32))
          ∷ tally 0 0 0 0
          ∷ [];
    }
    -- 8: one record, counts 2
    ∷ record {
      capacities = box 32;
      steps =
          backup 0 (blocks (ABCDEFGH ++ ABCDEFGH)) 0 1
          ∷ record_is 0 (run8 0 2)
          ∷ record_is 1 (replicate 8 null_position)
          ∷ slot_is 0 (version 1 (to8 0 ++ to8 0))
          ∷ pool_is (blocks ABCDEFGH ++ zeros (64 * 24))
          ∷ tally 0 8 1 16
          ∷ [];
    }
    -- 9: 5 < 8, cell 0 is cleared; then instead 10 ≥ 8, six blocks to cells 16 to 21
    ∷ record {
      capacities = box 32;
      steps =
          backup 0 (blocks ABCDEFGH) 0 1
          ∷ backup 0 (blocks AIJKLMNO) 0 2
          ∷ record_is 0 (removed ∷ counted (λ c. held c 1) 1 7)
          ∷ slot_is 0 (v512 1 (indirect 0 ∷ counted (direct 0) 1 7))
          ∷ slot_is 1 (v512 2 (to8 1))
          ∷ pool_is (zeros 64 ++ (drop 64 (blocks ABCDEFGH) ++ (blocks AIJKLMNO ++ zeros (64 * 16))))
          ∷ tally 0 15 2 15
          ∷ [];
    }
    ∷ record {
      capacities = box 32;
      steps =
          backup 0 (blocks ABCDEFGH) 0 1
          ∷ backup 0 (blocks ABIJKLMN) 0 2
          ∷ record_is 0 (removed ∷ removed ∷ counted (λ c. held c 1) 16 6)
          ∷ slot_is 0 (v512 1 (indirect 0 ∷ indirect 1 ∷ counted (direct 0) 2 6))
          ∷ slot_is 1 (v512 2 (to8 1))
          ∷ pool_is (zeros (64 * 8) ++ (blocks ABIJKLMN ++ (drop 128 (blocks ABCDEFGH) ++ zeros (64 * 10))))
          ∷ tally 0 14 2 14
          ∷ [];
    }
    -- 10: the latter with 16 cells: no run, cells 0 and 1 are cleared; with 15 cells: 16
    ∷ record {
      capacities = box 16;
      steps =
          backup 0 (blocks ABCDEFGH) 0 1
          ∷ backup 0 (blocks ABIJKLMN) 0 2
          ∷ record_is 0 (removed ∷ removed ∷ counted (λ c. held c 1) 2 6)
          ∷ slot_is 0 (v512 1 (indirect 0 ∷ indirect 1 ∷ counted (direct 0) 2 6))
          ∷ slot_is 1 (v512 2 (to8 1))
          ∷ pool_is (zeros 128 ++ (drop 128 (blocks ABCDEFGH) ++ blocks ABIJKLMN))
          ∷ tally 0 14 2 14
          ∷ [];
    }
    ∷ record {
      capacities = box 15;
      steps =
          backup 0 (blocks ABCDEFGH) 0 1
          ∷ backup 0 (blocks ABIJKLMN) 16 0
          ∷ record_is 1 (replicate 8 null_position)
          ∷ slot_is 0 (v512 1 (to8 0))
          ∷ pool_is (blocks ABCDEFGH ++ zeros (64 * 7))
          ∷ tally 0 8 1 8
          ∷ listing 0 0 1 1 1
          ∷ [];
    }
    ∷ []

-- The order is for the must-fail edits, which stop at the first row that does not hold: lists that catch many in little time come first.
day_holds : every holds (dates ++ (blanks ++ (keys ++ (settings ++ (rules ++ the_day))))) ≡ true
unfolding the_day blanks dates keys seen each only_list only_back_up only_restore only_retire all_rights shop_of one_block A B rules settings box_of version case1 case2 case3 case4 case5 case6 v512 to8 run8 letters ABCDEFGH ABCDEFGZ AIJKLMNO ABIJKLMN IJKLMNOP QRSTUVWX zeros blocks at_base box holds
    holds_from is_at till_at slot_at record_at
    refusal_for owner_refusal backup_refusal backup_as restore_as retire_refusal retire_as listing_as version_on_refusal version_on_as tally_refusal tally_as with_rights Rights.set_rights rights_answer set_rights_in set_rights_of
    counted every keep count total is_some first_from all_of same_numbers rises is_in distinct all_zero largest joined parts chunks fill mask_of is_within are_measures in_range parts_for
    table_words pool_bytes zero_block blank_block is_blank is_bare block_from blocks_from image_blocks segments_from image_segments free_segment is_free cells_of named_cells cell_at position_at
    equals free_cells better scan find_run bare_pointer bare_position pointers_to new_positions stored_blocks share write write_run write_record share_or_write place_segment after_some
    place_next place_all turns_to target turn turning change_at change_all release claim moved clear_cells free_record strike_only compact remove_from sweep_record sweep_from
    sweep hops_via end_via hops end_of block_at traced_block traced_blocks image_of longest_chain pointer_word record_to_words version_to_words rights_bits rights_word till_to_words
    is_base measure_word header_to_words state_to_words state_to_bytes measures_in shape_of pointer_of word_to_pointer position_of positions_in segment_in records_in cells_in storage_in version_in
    versions_in is_odd rights_of rights_in till_in tills_in state_in is_shaped has_length is_numbered is_free_or_holds has_cells next_pointers ends_zero are_traceable is_till all_pointers are_counted
    all_counted are_filled is_sound if_sound has_lengths store_as store_of no_rights empty_till empty_state layout_if layout_of till_of held_from with_till
    last_of newest_pointers with_newest_pointers newest_day day_for till_with file_in place_and_file Calls.backup backup_answer backup_in backup_by backup_of backup_dated_of not_after newest_or_none version_on_in version_on_of restore_refusal restore_from
    Calls.restore restore_in restore_of held_before first_of not_held look_up close_up retire_from Calls.retire retire_answer retire_in retire_of oldest_number newest_number listing_refusal
    list_till listing_in listing_of tally_in tally_of table_length_of
day_holds = refl
