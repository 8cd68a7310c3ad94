-- Rows of the two messages of §5, with fingerprints that many segments share: the order of what is had and of the refusals. One theorem, `rows_hold`.
use mathlib.Core.Path.{◌≡◌, refl}
use mathlib.Core.Bool.{true}
use mathlib.Core.List.{List, [], ◌∷◌, ◌++◌}
use mathlib.Core.Option.{none}
use Prim.Native.Nat.{ℕ}
use lib.ListN.{drop, replicate}
use Rattle.lists.specs.Lists.{counted, every, keep, count, total, is_some, first_from, all_of, same_numbers, is_in, all_zero, largest, last_of}
use Rattle.lists.specs.Rows.{joined, parts, chunks, fill}
use Rattle.model.specs.Measures.{parts_for}
use Rattle.model.specs.Image.{before_blanks, with_blanks, zero_block, blank_block, is_blank, is_bare, block_from, blocks_from, image_blocks, segments_from, image_segments}
use Rattle.model.specs.Records.{free_segment, is_free, cells_of, named_cells, cell_at, position_at, equals}
use Rattle.model.specs.Runs.{free_cells, better, scan, find_run}
use Rattle.model.specs.Place.{bare_pointer, bare_position, pointers_to, new_positions, stored_blocks, share, write, write_run, write_record, share_or_write, place_segment, after_some, place_next, place_all}
use Rattle.model.specs.Turn.{turns_to, target, turn, turning}
use Rattle.model.specs.Sweep.{change_at, change_all, release, claim, moved, clear_cells, free_record, strike_only, compact, remove_from, sweep_record, sweep_from, sweep}
use Rattle.model.specs.Trace.{hops_via, end_via, hops, end_of, block_at, traced_block, traced_blocks, image_of, longest_chain}
use Rattle.model.specs.Calls.{empty_till, empty_state, till_of, held_from, with_till, newest_pointers, with_newest_pointers, newest_day, day_for, till_with, file_in, place_and_file, backup, restore_refusal, restore_from, restore, held_before, first_of, not_held, look_up}
use Rattle.model.proofs.Steps.{blocks, zeros, letters, ABCDEFGH, AIJKLMNO, ABIJKLMN, IJKLMNOP, QRSTUVWX}
use Rattle.sent.specs.Sent.{segment_bytes, can_match, contents, zero_segment, first_with, had, offer_fits, offer, offer_answer, offer_in, go_on, take_sent, go_on_with, take_had, gather, cut_to, assembled, sent_fits, made, backup_on, backup_sent, backup_sent_in}
use Rattle.sent.proofs.Steps.{backed, offering, sending, shows, first_byte, prints, answers, after, holds_from, Row, holds, at_base, box}

rows : List Row
rows =
    -- what is had: zeros before what was sent, that before records, the lowest of each
    record {
      shape = at_base (record { tills = 2; versions = 8; blocks = 24; records = 8; cells = 64 });
      start = empty_state (at_base (record { tills = 2; versions = 8; blocks = 24; records = 8; cells = 64 }));
      steps =
          offering 0 (prints (65 ∷ 0 ∷ [])) (7 ∷ 7 ∷ []) 0 (0 ∷ 1 ∷ [])
          ∷ backed with_blanks 0 (blocks ABCDEFGH) 1
          ∷ backed with_blanks 1 (blocks AIJKLMNO) 1
          ∷ offering 0 (prints (65 ∷ 0 ∷ 81 ∷ [])) (7 ∷ 7 ∷ 7 ∷ []) 0 (1 ∷ 1 ∷ 0 ∷ [])
          ∷ sending 0 1024 (prints (65 ∷ 0 ∷ [])) (0 ∷ 0 ∷ []) [] 0 2
          ∷ shows 0 2 (blocks ABCDEFGH ++ zeros 512)
          ∷ sending 0 1024 (prints (65 ∷ 65 ∷ [])) (1 ∷ 0 ∷ []) (blocks ABIJKLMN) 0 3
          ∷ shows 0 3 (blocks (ABIJKLMN ++ ABIJKLMN))
          ∷ sending 1 512 (prints (65 ∷ [])) (0 ∷ []) [] 0 2
          ∷ shows 1 2 (blocks AIJKLMNO)
          ∷ sending 0 1536 (prints (65 ∷ 65 ∷ 65 ∷ [])) (1 ∷ 1 ∷ 0 ∷ []) (blocks (ABCDEFGH ++ AIJKLMNO)) 0 4
          ∷ shows 0 4 (blocks (ABCDEFGH ++ (AIJKLMNO ++ ABCDEFGH)))
          ∷ sending 0 1024 (prints (0 ∷ 0 ∷ [])) (1 ∷ 0 ∷ []) (blocks (0 ∷ letters 66 7)) 0 5
          ∷ shows 0 5 (blocks (0 ∷ letters 66 7) ++ zeros 512)
          ∷ sending 1 1024 (prints (90 ∷ 90 ∷ [])) (0 ∷ 1 ∷ []) (blocks (replicate 8 90)) 20 0
          ∷ [];
    }
    -- the first message's refusals
    ∷ record {
      shape = box 8 32;
      start = empty_state (box 8 32);
      steps =
          offering 1 [] [] 3 []
          ∷ offering 0 [] [] 4 []
          ∷ offering 0 (drop 1 (prints (65 ∷ 66 ∷ []))) (7 ∷ 7 ∷ []) 4 (7 ∷ 7 ∷ [])
          ∷ offering 0 (prints (65 ∷ 66 ∷ 67 ∷ [])) (7 ∷ 7 ∷ 7 ∷ []) 4 (7 ∷ 7 ∷ 7 ∷ [])
          ∷ offering 0 (prints (65 ∷ 66 ∷ [])) (7 ∷ []) 4 (7 ∷ [])
          ∷ offering 0 (prints (65 ∷ [])) (7 ∷ 7 ∷ []) 4 (7 ∷ 7 ∷ [])
          ∷ [];
    }
    -- the second's: 3, 4, then 11 before 19 and 20
    ∷ record {
      shape = box 8 32;
      start = empty_state (box 8 32);
      steps =
          backed with_blanks 0 (blocks ABCDEFGH) 1
          ∷ sending 1 0 [] [] [] 3 0
          ∷ sending 0 0 [] [] [] 4 0
          ∷ sending 0 1025 (prints (65 ∷ 65 ∷ 65 ∷ [])) (0 ∷ 0 ∷ 0 ∷ []) [] 4 0
          ∷ sending 0 512 (prints (65 ∷ 65 ∷ [])) (0 ∷ []) [] 4 0
          ∷ sending 0 512 (prints (65 ∷ 65 ∷ [])) (0 ∷ 0 ∷ []) [] 4 0
          ∷ sending 0 513 (prints (65 ∷ [])) (0 ∷ []) [] 4 0
          ∷ sending 0 512 (prints (65 ∷ [])) (2 ∷ []) (blocks (ABCDEFGH ++ ABCDEFGH)) 4 0
          ∷ sending 0 512 (prints (65 ∷ [])) (1 ∷ []) [] 4 0
          ∷ sending 0 512 (prints (65 ∷ [])) (0 ∷ []) (blocks ABCDEFGH) 4 0
          -- sent with another fingerprint; sent, then had, with bytes after the length; neither
          ∷ sending 0 512 (prints (66 ∷ [])) (1 ∷ []) (blocks ABCDEFGH) 19 0
          ∷ sending 0 511 (prints (65 ∷ [])) (1 ∷ []) (blocks ABCDEFGH) 19 0
          ∷ sending 0 511 (prints (65 ∷ [])) (0 ∷ []) [] 19 0
          ∷ sending 0 513 (prints (65 ∷ 65 ∷ [])) (0 ∷ 0 ∷ []) [] 19 0
          ∷ sending 0 512 (prints (66 ∷ [])) (0 ∷ []) [] 20 0
          -- the first segment that has either
          ∷ sending 0 1024 (prints (66 ∷ 65 ∷ [])) (0 ∷ 1 ∷ []) (blocks IJKLMNOP) 20 0
          ∷ sending 0 1024 (prints (65 ∷ 66 ∷ [])) (1 ∷ 0 ∷ []) (blocks IJKLMNOP) 19 0
          ∷ sending 0 576 (prints (65 ∷ 73 ∷ [])) (0 ∷ 1 ∷ []) (blocks (73 ∷ replicate 7 0)) 0 2
          ∷ shows 0 2 (blocks (ABCDEFGH ++ (73 ∷ [])))
          ∷ sending 0 1 (prints (0 ∷ [])) (0 ∷ []) [] 0 3
          ∷ sending 0 1 (prints (0 ∷ [])) (0 ∷ []) [] 0 4
          ∷ sending 0 512 (prints (66 ∷ [])) (1 ∷ []) (blocks ABCDEFGH) 11 0
          ∷ sending 0 512 (prints (66 ∷ [])) (0 ∷ []) [] 11 0
          ∷ sending 0 0 [] [] [] 4 0
          ∷ [];
    }
    -- 12 before 19 and 20
    ∷ record {
      shape = box 8 32;
      start = record { tills = record { last = 65535; rights = []; versions = [] } ∷ []; storage = (empty_state (box 8 32)).storage };
      steps =
          sending 0 512 (prints (66 ∷ [])) (1 ∷ []) (blocks ABCDEFGH) 12 0
          ∷ sending 0 512 (prints (66 ∷ [])) (0 ∷ []) [] 12 0
          ∷ [];
    }
    -- 19 and 20 before 16 and 14, and these as in a backup
    ∷ record {
      shape = box 8 8;
      start = empty_state (box 8 8);
      steps =
          backed with_blanks 0 (blocks ABCDEFGH) 1
          ∷ sending 0 1024 (prints (73 ∷ 66 ∷ [])) (1 ∷ 0 ∷ []) (blocks IJKLMNOP) 20 0
          ∷ sending 0 1024 (prints (73 ∷ 66 ∷ [])) (1 ∷ 1 ∷ []) (blocks (IJKLMNOP ++ QRSTUVWX)) 19 0
          ∷ sending 0 512 (prints (73 ∷ [])) (1 ∷ []) (blocks IJKLMNOP) 16 0
          ∷ [];
    }
    ∷ record {
      shape = box 1 16;
      start = empty_state (box 1 16);
      steps =
          backed with_blanks 0 (blocks ABCDEFGH) 1
          ∷ sending 0 1024 (prints (73 ∷ 66 ∷ [])) (1 ∷ 0 ∷ []) (blocks IJKLMNOP) 20 0
          ∷ sending 0 1024 (prints (73 ∷ 66 ∷ [])) (1 ∷ 1 ∷ []) (blocks (IJKLMNOP ++ QRSTUVWX)) 19 0
          ∷ sending 0 512 (prints (73 ∷ [])) (1 ∷ []) (blocks IJKLMNOP) 14 0
          ∷ [];
    }
    -- a record that lost a block is not had
    ∷ record {
      shape = box 8 16;
      start = empty_state (box 8 16);
      steps =
          backed with_blanks 0 (blocks ABCDEFGH) 1
          ∷ backed with_blanks 0 (blocks (72 ∷ [])) 2
          ∷ offering 0 (prints (65 ∷ 72 ∷ [])) (7 ∷ 7 ∷ []) 0 (0 ∷ 1 ∷ [])
          ∷ sending 0 512 (prints (65 ∷ [])) (0 ∷ []) [] 20 0
          ∷ [];
    }
    -- nor is one with an occupied cell of 255s; one with a blank position is
    ∷ record {
      shape = at_base (record { tills = 2; versions = 4; blocks = 8; records = 8; cells = 16 });
      start = empty_state (at_base (record { tills = 2; versions = 4; blocks = 8; records = 8; cells = 16 }));
      steps =
          backed before_blanks 0 (blocks (65 ∷ 255 ∷ [])) 1
          ∷ offering 1 (prints (65 ∷ [])) (7 ∷ []) 0 (0 ∷ [])
          ∷ sending 1 512 (prints (65 ∷ [])) (0 ∷ []) [] 20 0
          ∷ backed with_blanks 1 (blocks (65 ∷ 255 ∷ 66 ∷ [])) 1
          ∷ offering 1 (prints (65 ∷ [])) (7 ∷ []) 0 (1 ∷ [])
          ∷ sending 1 512 (prints (65 ∷ [])) (0 ∷ []) [] 0 2
          ∷ shows 1 2 (blocks (65 ∷ 255 ∷ 66 ∷ []) ++ zeros 320)
          ∷ [];
    }
    -- segments of four blocks of 128 bytes: a longest image of five blocks has two
    ∷ record {
      shape = record { measures = record { block_bytes = 128; segment_blocks = 4; rebuild_percent = 20 }; capacities = record { tills = 1; versions = 4; blocks = 5; records = 4; cells = 16 } };
      start =
          empty_state (record { measures = record { block_bytes = 128; segment_blocks = 4; rebuild_percent = 20 }; capacities = record { tills = 1; versions = 4; blocks = 5; records = 4; cells = 16 } });
      steps =
          sending 0 640 (prints (65 ∷ 0 ∷ [])) (1 ∷ 0 ∷ []) (blocks ABCDEFGH) 0 1
          ∷ shows 0 1 (blocks ABCDEFGH ++ zeros 128)
          ∷ offering 0 (prints (65 ∷ 66 ∷ [])) (7 ∷ 7 ∷ []) 0 (1 ∷ 0 ∷ [])
          ∷ offering 0 (prints (65 ∷ 66 ∷ 0 ∷ [])) (7 ∷ 7 ∷ 7 ∷ []) 4 (7 ∷ 7 ∷ 7 ∷ [])
          ∷ sending 0 641 (prints (65 ∷ 0 ∷ [])) (0 ∷ 0 ∷ []) [] 4 0
          ∷ [];
    }
    ∷ []

rows_hold : every holds rows ≡ true
unfolding rows holds holds_from answers after first_byte prints at_base box blocks zeros letters ABCDEFGH AIJKLMNO ABIJKLMN IJKLMNOP QRSTUVWX
    counted every keep count total is_some first_from all_of same_numbers is_in all_zero largest joined parts chunks fill parts_for
    zero_block blank_block is_blank is_bare block_from blocks_from image_blocks segments_from image_segments free_segment is_free cells_of named_cells cell_at position_at
    equals free_cells better scan find_run bare_pointer bare_position pointers_to new_positions stored_blocks share write write_run write_record share_or_write place_segment after_some
    place_next place_all turns_to target turn turning change_at change_all release claim moved clear_cells free_record strike_only compact remove_from sweep_record sweep_from
    sweep hops_via end_via hops end_of block_at traced_block traced_blocks image_of longest_chain empty_till empty_state till_of held_from held_before first_of not_held look_up with_till last_of newest_pointers
    with_newest_pointers newest_day day_for till_with file_in place_and_file backup restore_refusal restore_from restore
    segment_bytes can_match contents zero_segment first_with had offer_fits offer offer_answer go_on take_sent go_on_with take_had gather cut_to assembled sent_fits made
    backup_on backup_sent
rows_hold = refl

-- 10 comes first
no_offer : (pool table : List ℕ) → offer_in first_byte none 1 [] (7 ∷ []) ≡ record { refusal = 10; marks = 7 ∷ [] }
unfolding offer_in
no_offer pool table = refl

no_backup : (pool table : List ℕ) → backup_sent_in first_byte none pool table 1 0 [] [] [] ≡ record { refusal = 10; version = 0; pool = pool; table = table }
unfolding backup_sent_in
no_backup pool table = refl
