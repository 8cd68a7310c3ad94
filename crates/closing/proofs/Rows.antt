-- Rows of the closing of §7, computed from the definitions on real blocks. One theorem, `rows_hold`.
use Prim.Native.Nat.{ℕ}
use mathlib.Core.Path.{◌≡◌, refl}
use mathlib.Core.Bool.{Bool, true, ◌&&◌}
use mathlib.Core.List.{List, [], ◌∷◌, ◌++◌}
use lib.ListN.{length, set, replicate}
use lib.Dec.{eqb}
use Rattle.lists.specs.Lists.{counted, every, keep, count, total, first_from, all_of, same_numbers, rises, is_in, distinct, all_zero, largest, is_some, last_of}
use Rattle.lists.specs.Rows.{joined, parts, chunks, fill}
use Rattle.lists.specs.Masks.{mask_of}
use Rattle.model.specs.Measures.{record_words, is_within, are_measures, in_range, parts_for, table_words, pool_bytes, is_base, Shape}
use Rattle.model.specs.Image.{zero_block, blank_block, is_blank, is_bare, block_from, blocks_from, image_blocks, segments_from, image_segments}
use Rattle.model.specs.Records.{free_segment, is_free, cells_of, named_cells, cell_at, position_at, equals}
use Rattle.model.specs.Runs.{free_cells, better, scan, find_run}
use Rattle.model.specs.Place.{bare_pointer, bare_position, pointers_to, new_positions, stored_blocks, share, write, write_run, write_record, share_or_write, place_segment, after_some, place_next, place_all}
use Rattle.model.specs.Turn.{turns_to, target, turn, turning}
use Rattle.model.specs.Sweep.{change_at, change_all, release, moved, clear_cells, free_record, strike_only, compact, remove_from, sweep_record, sweep_from, sweep}
use Rattle.model.specs.Trace.{hops_via, end_via, hops, end_of, block_at, traced_block, traced_blocks, image_of, longest_chain}
use Rattle.model.specs.Table.{pointer_word, record_to_words, version_to_words, rights_bits, rights_word, till_to_words, measure_word, header_to_words, state_to_words, state_to_bytes, measures_in, shape_of, pointer_of, word_to_pointer, position_of, positions_in, segment_in, records_in, cells_in, storage_in, version_in, versions_in, is_odd, rights_of, rights_in, till_in, tills_in, state_in}
use Rattle.model.specs.Sound.{is_shaped, has_length, is_numbered, is_free_or_holds, has_cells, next_pointers, ends_zero, are_traceable, is_till, all_pointers, are_counted, all_counted, are_filled, is_sound, if_sound, has_lengths, store_as, store_of}
use Rattle.model.specs.Calls.{no_rights, empty_till, empty_state, layout_if, layout_of, till_of, held_from, with_till, newest_pointers, with_newest_pointers, newest_day, day_for, till_with, file_in, place_and_file, backup_answer, backup_in, backup_by, backup_of, restore_refusal, restore_from, restore_in, restore_of, oldest_number, newest_number, listing_refusal, list_till, listing_in, listing_of, tally_in, tally_of, held_before, first_of, not_held, look_up, state_or, outcome_refusal, outcome_number, LayoutAnswer, RestoreAnswer, TallyAnswer}
use Rattle.model.specs.State.{Segment, null_position, held}
use Rattle.model.specs.Calls as Calls
use Rattle.model.specs.Rights.{with_rights, set_rights, RightsAnswer, rights_answer, set_rights_in, set_rights_of}
use Rattle.model.proofs.Keys.{only_back_up}
use Rattle.model.proofs.Steps.{record_at, is_at, blocks, zeros}
use Rattle.closing.specs.Closing.{images_in, closing_fits, backup_one, backup_each, backup_all, all_refused, all_answer, BackupAllAnswer, backup_all_answer, backup_all_in, backup_all_as}

-- a closing with what it answers, of the images alone; what a till then holds; a record's and the pool's contents
data Step : Type 0 where
  closing : (tills lengths images : List ℕ) (refusal : ℕ) (refusals versions : List ℕ) → Step
  -- the closings after it are this user's; those at first are the owner's
  user : (number : ℕ) → Step
  -- the owner lets the user back up the till, and nothing else
  lets : (subject till : ℕ) → Step
  shows : (till version : ℕ) (image : List ℕ) → Step
  record_is : (k : ℕ) (positions : Segment) → Step
  tally : (cells records counts : ℕ) → Step
  overwrite : (at word : ℕ) → Step

record Row : Type 0 where
  shape : Shape
  steps : List Step

unfoldable holds_from : Shape → ℕ → List Step → List ℕ → List ℕ → Bool
holds_from s u [] pool table = true
holds_from s u (closing ts ns is n rs vs ∷ steps) pool table =
    let a : BackupAllAnswer = backup_all_as pool table u ts ns is in
    eqb a.answer.refusal n && same_numbers a.answer.refusals (fill 16 rs) && same_numbers a.answer.versions (fill 16 vs) && holds_from s u steps a.pool a.table
holds_from s u (user v ∷ steps) pool table = holds_from s v steps pool table
holds_from s u (lets subject t ∷ steps) pool table =
    let a : RightsAnswer = set_rights_of pool table 0 subject t only_back_up in
    eqb a.refusal 0 && holds_from s u steps pool a.table
holds_from s u (shows t v image ∷ steps) pool table =
    let a : RestoreAnswer = restore_of pool table t v (zeros (length image)) in
    eqb a.refusal 0 && same_numbers a.output image && holds_from s u steps pool table
holds_from s u (record_is k seg ∷ steps) pool table =
    is_at table (record_at s k) (record_words s.measures.segment_blocks) (record_to_words seg) && holds_from s u steps pool table
holds_from s u (tally c r n ∷ steps) pool table =
    let a : TallyAnswer = tally_of pool table in
    eqb a.cells c && eqb a.records r && eqb a.counts n && holds_from s u steps pool table
holds_from s u (overwrite at word ∷ steps) pool table = holds_from s u steps pool (set table at word)

unfoldable holds : Row → Bool
holds row =
    let a : LayoutAnswer = layout_of row.shape (replicate (pool_bytes row.shape) 1) (replicate (table_words row.shape) 1) in
    eqb a.refusal 0 && holds_from row.shape 0 row.steps a.pool a.table

-- 2 tills with 2 versions of 4 blocks; 4 blocks per segment
shop : ℕ → ℕ → Shape
shop records cells = record {
  measures = record { block_bytes = 64; segment_blocks = 4; rebuild_percent = 20 };
  capacities = record { tills = 2; versions = 2; blocks = 4; records = records; cells = cells };
}

ABCD : List ℕ
ABCD = blocks (65 ∷ 66 ∷ 67 ∷ 68 ∷ [])

ABCE : List ℕ
ABCE = blocks (65 ∷ 66 ∷ 67 ∷ 69 ∷ [])

EFGH : List ℕ
EFGH = blocks (69 ∷ 70 ∷ 71 ∷ 72 ∷ [])

rows : List Row
rows =
    -- Till 0 is there three times, and its second image takes A, B and C from its first. A till that is not there, no bytes and a full till are refused,
    -- each by itself.
    record {
      shape = shop 3 12;
      steps =
          closing (0 ∷ 2 ∷ 1 ∷ 0 ∷ 1 ∷ 0 ∷ []) (256 ∷ 64 ∷ 256 ∷ 256 ∷ 0 ∷ 64 ∷ []) (ABCD ++ (blocks (90 ∷ []) ++ (ABCD ++ (ABCE ++ blocks (90 ∷ []))))) 0
          (0 ∷ 3 ∷ 0 ∷ 0 ∷ 4 ∷ 11 ∷ []) (1 ∷ 0 ∷ 1 ∷ 2 ∷ 0 ∷ 0 ∷ [])
          ∷ shows 0 1 ABCD
          ∷ shows 0 2 ABCE
          ∷ shows 1 1 ABCD
          ∷ record_is 0 (held 0 1 ∷ held 1 1 ∷ held 2 1 ∷ held 3 2 ∷ [])
          ∷ record_is 1 (held 4 1 ∷ held 5 1 ∷ held 6 1 ∷ held 7 1 ∷ [])
          ∷ record_is 2 (null_position ∷ null_position ∷ null_position ∷ null_position ∷ [])
          ∷ tally 8 2 9
          ∷ [];
    }
    -- none at all, and 16 of a till that is not there
    ∷ record {
      shape = shop 3 12;
      steps =
          closing [] [] [] 0 [] []
          ∷ closing (replicate 16 2) (replicate 16 1) (zeros 16) 0 (replicate 16 3) []
          ∷ tally 0 0 0
          ∷ [];
    }
    -- refused whole, with nothing altered: 17; a list that is one longer; a sum one too small and one too large, and one that wraps in 32 bits; 10 first
    ∷ record {
      shape = shop 3 12;
      steps =
          closing (replicate 17 0) (replicate 17 1) (replicate 17 65) 4 [] []
          ∷ closing (0 ∷ 1 ∷ []) (256 ∷ []) ABCD 4 [] []
          ∷ closing (0 ∷ []) (256 ∷ 0 ∷ []) ABCD 4 [] []
          ∷ closing (0 ∷ []) (255 ∷ []) ABCD 4 [] []
          ∷ closing (0 ∷ []) (257 ∷ []) ABCD 4 [] []
          ∷ closing (0 ∷ 1 ∷ []) (256 ∷ 4294967296 ∷ []) ABCD 4 [] []
          ∷ closing [] [] (65 ∷ []) 4 [] []
          ∷ tally 0 0 0
          ∷ overwrite 0 17
          ∷ closing (replicate 17 0) [] [] 10 [] []
          ∷ closing [] [] [] 10 [] []
          ∷ [];
    }
    -- no cells, then no record, for an image in the middle; the later one is shared
    ∷ record {
      shape = shop 3 4;
      steps = closing (0 ∷ 1 ∷ 1 ∷ []) (256 ∷ 256 ∷ 256 ∷ []) (ABCD ++ (EFGH ++ ABCD)) 0 (0 ∷ 16 ∷ 0 ∷ []) (1 ∷ 0 ∷ 1 ∷ []) ∷ shows 1 1 ABCD ∷ tally 4 1 8 ∷ [];
    }
    ∷ record {
      shape = shop 1 12;
      steps = closing (0 ∷ 1 ∷ 1 ∷ []) (256 ∷ 256 ∷ 256 ∷ []) (ABCD ++ (EFGH ++ ABCD)) 0 (0 ∷ 14 ∷ 0 ∷ []) (1 ∷ 0 ∷ 1 ∷ []) ∷ shows 1 1 ABCD ∷ tally 4 1 8 ∷ [];
    }
    -- the rights are asked for each image, after 3 and before 4; what refuses the whole call comes before them
    ∷ record {
      shape = shop 3 12;
      steps =
          lets 1 1
          ∷ user 1
          ∷ closing (0 ∷ 1 ∷ 2 ∷ 0 ∷ 1 ∷ []) (256 ∷ 256 ∷ 0 ∷ 0 ∷ 0 ∷ []) (ABCD ++ ABCE) 0 (23 ∷ 0 ∷ 3 ∷ 23 ∷ 4 ∷ []) (0 ∷ 1 ∷ 0 ∷ 0 ∷ 0 ∷ [])
          ∷ shows 1 1 ABCE
          ∷ tally 4 1 4
          ∷ user 8
          ∷ closing (0 ∷ 1 ∷ 2 ∷ []) (256 ∷ 256 ∷ 0 ∷ []) (ABCD ++ ABCE) 0 (22 ∷ 22 ∷ 3 ∷ []) []
          ∷ closing (0 ∷ []) (255 ∷ []) ABCD 4 [] []
          ∷ overwrite 0 17
          ∷ closing (0 ∷ []) (255 ∷ []) ABCD 10 [] []
          ∷ [];
    }
    ∷ []

rows_hold : every holds rows ≡ true
unfolding rows shop ABCD ABCE EFGH zeros blocks holds holds_from is_at record_at images_in closing_fits backup_one backup_each backup_all all_refused all_answer backup_all_answer backup_all_in backup_all_as
    state_or outcome_refusal outcome_number only_back_up with_rights set_rights rights_answer set_rights_in set_rights_of
    counted every keep count total is_some first_from all_of same_numbers rises is_in distinct all_zero largest joined parts chunks fill mask_of is_within are_measures in_range parts_for
    table_words pool_bytes zero_block blank_block is_blank is_bare block_from blocks_from image_blocks segments_from image_segments free_segment is_free cells_of named_cells cell_at position_at
    equals free_cells better scan find_run bare_pointer bare_position pointers_to new_positions stored_blocks share write write_run write_record share_or_write place_segment after_some
    place_next place_all turns_to target turn turning change_at change_all release moved clear_cells free_record strike_only compact remove_from sweep_record sweep_from
    sweep hops_via end_via hops end_of block_at traced_block traced_blocks image_of longest_chain pointer_word record_to_words version_to_words rights_bits rights_word till_to_words
    is_base measure_word header_to_words state_to_words state_to_bytes measures_in shape_of pointer_of word_to_pointer position_of positions_in segment_in records_in cells_in storage_in version_in
    versions_in is_odd rights_of rights_in till_in tills_in state_in is_shaped has_length is_numbered is_free_or_holds has_cells next_pointers ends_zero are_traceable is_till all_pointers are_counted
    all_counted are_filled is_sound if_sound has_lengths store_as store_of no_rights empty_till empty_state layout_if layout_of till_of held_from with_till
    last_of newest_pointers with_newest_pointers newest_day day_for till_with file_in place_and_file Calls.backup backup_answer backup_in backup_by backup_of restore_refusal held_before first_of not_held look_up restore_from
    Calls.restore restore_in restore_of oldest_number newest_number listing_refusal list_till listing_in listing_of tally_in tally_of
rows_hold = refl
