-- Rows of the chain of §8, computed from the definitions on real blocks. One theorem, `rows_hold`.
use Prim.Native.Nat.{ℕ, ◌*◌}
use mathlib.Core.Path.{◌≡◌, refl}
use mathlib.Core.Bool.{Bool, true, cond, ◌&&◌}
use mathlib.Core.List.{List, [], ◌∷◌, ◌++◌, map}
use mathlib.Core.Option.{none}
use lib.ListN.{set, replicate}
use lib.Dec.{eqb}
use Rattle.lists.specs.Lists.{counted, every, keep, count, total, is_some, first_from, all_of, same_numbers, rises, is_in, distinct, all_zero, last_of}
use Rattle.lists.specs.Rows.{joined, parts, parts_by, chunks, fill}
use Rattle.lists.specs.Masks.{mask_of}
use Rattle.model.specs.Measures.{is_within, are_measures, in_range, parts_for, table_words, pool_bytes, is_base, Shape}
use Rattle.model.specs.Image.{with_blanks, zero_block, blank_block, is_blank, is_bare, block_from, blocks_from, image_blocks, segments_from, image_segments}
use Rattle.model.specs.Records.{free_segment, is_free, cells_of, named_cells, cell_at, position_at, equals}
use Rattle.model.specs.Runs.{free_cells, better, scan, find_run}
use Rattle.model.specs.Place.{bare_pointer, bare_position, pointers_to, new_positions, stored_blocks, share, write, write_run, write_record, share_or_write, place_segment, after_some, place_next, place_all}
use Rattle.model.specs.Turn.{turns_to, target, turn, turning}
use Rattle.model.specs.Sweep.{change_at, change_all, release, claim, moved, clear_cells, free_record, strike_only, compact, remove_from, sweep_record, sweep_from, sweep}
use Rattle.model.specs.Trace.{hops_via, end_via, hops, end_of, block_at, traced_block}
use Rattle.model.specs.Table.{pointer_word, record_to_words, version_to_words, rights_bits, rights_word, till_to_words, measure_word, header_to_words, state_to_words, state_to_bytes, measures_in, shape_of, pointer_of, word_to_pointer, position_of, positions_in, segment_in, records_in, cells_in, storage_in, version_in, versions_in, is_odd, rights_of, rights_in, till_in, tills_in, state_in}
use Rattle.model.specs.Sound.{is_shaped, has_length, is_numbered, is_free_or_holds, has_cells, next_pointers, ends_zero, are_traceable, is_till, all_pointers, are_counted, all_counted, are_filled, is_sound, if_sound, has_lengths, store_as, store_of}
use Rattle.model.specs.Calls.{no_rights, empty_till, empty_state, layout_if, layout_of, till_of, held_from, with_till, newest_pointers, with_newest_pointers, newest_day, day_for, till_with, file_in, place_and_file, backup_answer, backup_in, backup_by, held_before, first_of, not_held, look_up, close_up, retire_from, retire_answer, retire_in, retire_of, tally_in, tally_of, BackupAnswer, RetireAnswer, TallyAnswer}
use Rattle.model.specs.Calls as Calls
use Rattle.model.specs.Rights.{refusal_for, owner_refusal, backup_refusal, backup_as, retire_refusal, retire_as, tally_refusal, tally_as}
use Rattle.model.proofs.Steps.{blocks, zeros}
use Rattle.closing.specs.Closing.{images_in, closing_fits, all_refused, BackupAllAnswer}
use Rattle.closing.specs.Singly.{made_each, answer_to}
use Rattle.chain.specs.Chain.{Chain, pool_at, table_at, pools_with, tables_with, is_chain, add_up, is_store_at, is_sound_chain, chain_refusal}
use Rattle.chain.specs.Limit.{occupied, other_cells, within, image_within, backup_all_within}
use Rattle.chain.specs.Calls.{chain_tally, backup_on_chain, chain_backup, all_on_chain, chain_backup_all, retire_on_chain, chain_retire}

-- A call on a chain with what it answers, for the owner; the cells that a store occupies; or another list of lengths, another word of the tables, or more
-- bytes or words behind the last store, for the calls after it.
data Step : Type 0 where
  backup : (store limit : ℕ) (image : List ℕ) (refusal version : ℕ) → Step
  closing : (store limit : ℕ) (tills lengths images refusals : List ℕ) → Step
  retire : (store version refusal : ℕ) → Step
  occupies : (store cells : ℕ) → Step
  pool_lengths : (lengths : List ℕ) → Step
  table_lengths : (lengths : List ℕ) → Step
  overwrite : (at word : ℕ) → Step
  more_bytes : (bytes : List ℕ) → Step
  more_words : (words : List ℕ) → Step

-- the shapes of its stores, freshly laid out one behind the other
record Row : Type 0 where
  shapes : List Shape
  steps : List Step

-- what a call on store `i` left: all as it was if it is refused, and else all bytes and words beside that store's
unfoldable left : Chain → ℕ → ℕ → List ℕ → List ℕ → Bool
left c i n pools tables =
    let after : Chain = record { pools = pools; tables = tables; pool_lengths = c.pool_lengths; table_lengths = c.table_lengths } in
    cond (eqb n 0)
    (same_numbers pools (pools_with c i (pool_at after i)) && same_numbers tables (tables_with c i (table_at after i)))
    (same_numbers pools c.pools && same_numbers tables c.tables)

unfoldable holds_from : List Step → Chain → Bool
holds_from [] c = true
holds_from (backup i limit image n v ∷ steps) c =
    let a : BackupAnswer = chain_backup with_blanks c i limit 0 0 none image in
    eqb a.refusal n && eqb a.version v && left c i n a.pool a.table
    && holds_from steps (record { pools = a.pool; tables = a.table; pool_lengths = c.pool_lengths; table_lengths = c.table_lengths })
holds_from (closing i limit ts ns is rs ∷ steps) c =
    let a : BackupAllAnswer = chain_backup_all c i limit 0 ts ns is in
    eqb a.answer.refusal 0 && same_numbers a.answer.refusals (fill 16 rs) && left c i 0 a.pool a.table
    && holds_from steps (record { pools = a.pool; tables = a.table; pool_lengths = c.pool_lengths; table_lengths = c.table_lengths })
holds_from (retire i v n ∷ steps) c =
    let a : RetireAnswer = chain_retire c i 0 0 v in
    eqb a.refusal n && left c i n a.pool a.table
    && holds_from steps (record { pools = a.pool; tables = a.table; pool_lengths = c.pool_lengths; table_lengths = c.table_lengths })
holds_from (occupies i cells ∷ steps) c =
    let a : TallyAnswer = chain_tally c i 0 in
    eqb a.refusal 0 && eqb a.cells cells && holds_from steps c
holds_from (pool_lengths ns ∷ steps) c = holds_from steps (record { pools = c.pools; tables = c.tables; pool_lengths = ns; table_lengths = c.table_lengths })
holds_from (table_lengths ns ∷ steps) c = holds_from steps (record { pools = c.pools; tables = c.tables; pool_lengths = c.pool_lengths; table_lengths = ns })
holds_from (overwrite at word ∷ steps) c =
    holds_from steps (record { pools = c.pools; tables = set c.tables at word; pool_lengths = c.pool_lengths; table_lengths = c.table_lengths })
holds_from (more_bytes bytes ∷ steps) c = holds_from steps (record { pools = c.pools ++ bytes; tables = c.tables; pool_lengths = c.pool_lengths; table_lengths = c.table_lengths })
holds_from (more_words words ∷ steps) c = holds_from steps (record { pools = c.pools; tables = c.tables ++ words; pool_lengths = c.pool_lengths; table_lengths = c.table_lengths })

unfoldable holds : Row → Bool
holds row =
    holds_from row.steps (record {
      pools = joined (map (λ (s : Shape). state_to_bytes (empty_state s)) row.shapes);
      tables = joined (map (λ (s : Shape). state_to_words s (empty_state s)) row.shapes);
      pool_lengths = map pool_bytes row.shapes;
      table_lengths = map table_words row.shapes;
    })

-- two tills with images of four blocks, which are a segment
shop : ℕ → ℕ → Shape
shop records cells = record {
  measures = record { block_bytes = 64; segment_blocks = 4; rebuild_percent = 20 };
  capacities = record { tills = 2; versions = 3; blocks = 4; records = records; cells = cells };
}

-- the smallest store, of 64 bytes and 27 words
smallest : Shape
smallest = record {
  measures = record { block_bytes = 64; segment_blocks = 4; rebuild_percent = 20 };
  capacities = record { tills = 1; versions = 1; blocks = 1; records = 1; cells = 1 };
}

ABCD : List ℕ
ABCD = blocks (65 ∷ 66 ∷ 67 ∷ 68 ∷ [])

ABCE : List ℕ
ABCE = blocks (65 ∷ 66 ∷ 67 ∷ 69 ∷ [])

EFGH : List ℕ
EFGH = blocks (69 ∷ 70 ∷ 71 ∷ 72 ∷ [])

A : List ℕ
A = blocks (65 ∷ [])

rows : List Row
rows =
    -- A limit just at the sum is kept, one below it is 21. Eight cells and four more, of which three are left after removal: twelve in between, nine in the end.
    record {
      shapes = shop 3 12 ∷ shop 3 12 ∷ [];
      steps =
          backup 0 4 ABCD 0 1
          ∷ backup 1 7 EFGH 21 0
          ∷ occupies 1 0
          ∷ backup 1 8 EFGH 0 1
          ∷ backup 0 8 ABCE 21 0
          ∷ occupies 0 4
          ∷ backup 0 9 ABCE 0 2
          ∷ occupies 0 5
          ∷ occupies 1 4
          -- nothing is added, and the sum is above the limit all the same; a retirement brings none, and makes room
          ∷ backup 1 8 (zeros 256) 21 0
          ∷ retire 0 1 0
          ∷ occupies 0 4
          ∷ backup 1 8 (zeros 256) 0 2
          ∷ backup 2 9 ABCD 3 0
          ∷ retire 2 1 3
          ∷ [];
    }
    -- 21 comes after 4, 14 and 16
    ∷ record {
      shapes = shop 1 8 ∷ shop 2 4 ∷ [];
      steps =
          backup 0 0 [] 4 0
          ∷ backup 0 3 ABCD 21 0
          ∷ backup 0 4 ABCD 0 1
          ∷ backup 0 0 EFGH 14 0
          ∷ backup 1 8 ABCD 0 1
          ∷ backup 1 0 EFGH 16 0
          ∷ retire 1 1 0
          ∷ [];
    }
    -- §7: the second image is over the limit; the third shares the first one's cells, and the fourth is refused by itself
    ∷ record {
      shapes = shop 3 12 ∷ shop 3 12 ∷ [];
      steps =
          backup 0 100 EFGH 0 1
          ∷ closing 1 8 (0 ∷ 0 ∷ 1 ∷ 2 ∷ []) (256 ∷ 256 ∷ 256 ∷ 0 ∷ []) (ABCD ++ EFGH ++ ABCD) (0 ∷ 21 ∷ 0 ∷ 3 ∷ [])
          ∷ occupies 1 4
          ∷ [];
    }
    -- Eight stores, one of which is damaged; then lists that are not theirs: 10 before 3, and 1 before 10.
    ∷ record {
      shapes = replicate 8 smallest;
      steps =
          backup 7 1 A 0 1
          ∷ backup 8 1 A 3 0
          ∷ overwrite (3 * 27) 2
          ∷ backup 7 1 A 10 0
          ∷ backup 8 1 A 10 0
          ∷ overwrite (3 * 27) 1
          ∷ backup 0 2 A 0 1
          ∷ pool_lengths (63 ∷ replicate 7 64)
          ∷ backup 8 1 A 10 0
          ∷ pool_lengths (replicate 8 64)
          ∷ table_lengths (replicate 7 27 ++ (28 ∷ []))
          ∷ backup 8 1 A 10 0
          ∷ table_lengths (replicate 7 27)
          ∷ backup 8 1 A 1 0
          ∷ pool_lengths (replicate 9 64)
          ∷ table_lengths (replicate 9 27)
          ∷ backup 0 1 A 1 0
          ∷ pool_lengths []
          ∷ table_lengths []
          ∷ backup 0 1 A 1 0
          ∷ [];
    }
    -- every store is sound, and a byte or a word lies behind the last
    ∷ record { shapes = smallest ∷ []; steps = more_bytes (0 ∷ []) ∷ backup 0 1 A 10 0 ∷ [] }
    ∷ record { shapes = smallest ∷ []; steps = more_words (0 ∷ []) ∷ backup 0 1 A 10 0 ∷ [] }
    ∷ []

rows_hold : every holds rows ≡ true
unfolding rows shop smallest ABCD ABCE EFGH A zeros blocks holds holds_from left pool_at table_at pools_with tables_with is_chain add_up is_store_at is_sound_chain chain_refusal
    occupied other_cells within image_within backup_all_within chain_tally backup_on_chain chain_backup all_on_chain chain_backup_all retire_on_chain chain_retire
    images_in closing_fits all_refused made_each answer_to refusal_for owner_refusal backup_refusal backup_as retire_refusal retire_as tally_refusal tally_as
    counted every keep count total is_some first_from all_of same_numbers rises is_in distinct all_zero joined parts parts_by chunks fill mask_of is_within are_measures in_range parts_for
    table_words pool_bytes zero_block blank_block is_blank is_bare block_from blocks_from image_blocks segments_from image_segments free_segment is_free cells_of named_cells cell_at position_at
    equals free_cells better scan find_run bare_pointer bare_position pointers_to new_positions stored_blocks share write write_run write_record share_or_write place_segment after_some
    place_next place_all turns_to target turn turning change_at change_all release claim moved clear_cells free_record strike_only compact remove_from sweep_record sweep_from
    sweep hops_via end_via hops end_of block_at traced_block pointer_word record_to_words version_to_words rights_bits rights_word till_to_words
    is_base measure_word header_to_words state_to_words state_to_bytes measures_in shape_of pointer_of word_to_pointer position_of positions_in segment_in records_in cells_in storage_in version_in
    versions_in is_odd rights_of rights_in till_in tills_in state_in is_shaped has_length is_numbered is_free_or_holds has_cells next_pointers ends_zero are_traceable is_till all_pointers are_counted
    all_counted are_filled is_sound if_sound has_lengths store_as store_of no_rights empty_till empty_state layout_if layout_of till_of held_from with_till
    last_of newest_pointers with_newest_pointers newest_day day_for till_with file_in place_and_file Calls.backup backup_answer backup_in backup_by held_before first_of not_held look_up
    close_up retire_from Calls.retire retire_answer retire_in retire_of tally_in tally_of
rows_hold = refl
