-- Rows of the day with blank blocks; 255 is a blank block. Day.antt proves them.
use Prim.Native.Nat.{ℕ, ◌*◌}
use mathlib.Core.List.{List, [], ◌∷◌, ◌++◌}
use lib.ListN.{length, replicate}
use Rattle.model.specs.State.{Pointer, null_pointer, blank_pointer, direct, indirect, null_position, blank_position, held, removed, Version}
use Rattle.model.proofs.Steps.{backup, earlier, restore, retire, listing, tally, slot_is, record_is, pool_is, overwrite, Row, at_base, box, blocks, zeros, v512}

-- a version of whole blocks
unfoldable pub version : ℕ → List Pointer → Version
version n ps = record { number = n; length = 64 * length ps; day = 0; pointers = ps }

unfoldable pub blanks : List Row
blanks =
    -- a blank image takes no cell and no record, also with null blocks; a blank pointer is not made indirect
    record {
      capacities = box 32;
      steps =
          backup 0 (blocks (replicate 8 255)) 0 1
          ∷ backup 0 (blocks (255 ∷ 0 ∷ 255 ∷ [])) 0 2
          ∷ slot_is 0 (v512 1 (replicate 8 blank_pointer))
          ∷ slot_is 1 (version 2 (blank_pointer ∷ null_pointer ∷ blank_pointer ∷ []))
          ∷ record_is 0 (replicate 8 null_position)
          ∷ pool_is (zeros (64 * 32))
          ∷ restore 0 1 (zeros 512) 0 512 0 (blocks (replicate 8 255))
          ∷ restore 0 2 (zeros 192) 0 192 0 (blocks (255 ∷ 0 ∷ 255 ∷ []))
          ∷ tally 0 0 0 0
          ∷ [];
    }
    -- A store from before stores blocks of 255s. Its next backup frees their cells: the previous version's pointers turn blank though the new image has
    -- no such block, and version 1 has indirect ones that now name a blank one, but may not name a null one (word 34 is version 2's first pointer).
    -- Then the one after; then version 1 takes a blank pointer over.
    ∷ record {
      capacities = box 16;
      steps =
          earlier 0 (blocks (65 ∷ 255 ∷ 255 ∷ 0 ∷ [])) 0 1
          ∷ record_is 0 (held 0 1 ∷ held 1 1 ∷ held 2 1 ∷ replicate 5 null_position)
          ∷ tally 0 3 1 3
          ∷ earlier 0 (blocks (255 ∷ 65 ∷ [])) 0 2
          ∷ slot_is 0 (version 1 (indirect 1 ∷ indirect 0 ∷ indirect 0 ∷ null_pointer ∷ []))
          ∷ slot_is 1 (version 2 (direct 1 0 ∷ direct 1 1 ∷ []))
          ∷ tally 0 2 1 2
          ∷ backup 0 (blocks (65 ∷ 66 ∷ [])) 0 3
          ∷ slot_is 0 (version 1 (indirect 1 ∷ indirect 0 ∷ indirect 0 ∷ null_pointer ∷ []))
          ∷ slot_is 1 (version 2 (blank_pointer ∷ indirect 0 ∷ []))
          ∷ record_is 0 (held 0 1 ∷ held 1 1 ∷ replicate 6 null_position)
          ∷ record_is 1 (replicate 8 null_position)
          ∷ pool_is (blocks (65 ∷ 66 ∷ []) ++ zeros (64 * 14))
          ∷ tally 0 2 1 2
          ∷ restore 0 1 (zeros 256) 0 256 2 (blocks (65 ∷ 255 ∷ 255 ∷ 0 ∷ []))
          ∷ restore 0 2 (zeros 128) 0 128 1 (blocks (255 ∷ 65 ∷ []))
          ∷ overwrite 34 0
          ∷ tally 10 0 0 0
          ∷ overwrite 34 50331648
          ∷ backup 0 (blocks (255 ∷ 66 ∷ [])) 0 4
          ∷ slot_is 2 (version 3 (direct 0 0 ∷ indirect 1 ∷ []))
          ∷ slot_is 3 (version 4 (blank_pointer ∷ direct 1 1 ∷ []))
          ∷ record_is 1 (blank_position ∷ held 2 1 ∷ replicate 6 null_position)
          ∷ restore 0 1 (zeros 256) 0 256 2 (blocks (65 ∷ 255 ∷ 255 ∷ 0 ∷ []))
          ∷ restore 0 2 (zeros 128) 0 128 1 (blocks (255 ∷ 65 ∷ []))
          ∷ restore 0 4 (zeros 128) 0 128 0 (blocks (255 ∷ 66 ∷ []))
          ∷ retire 0 2 0 128
          ∷ slot_is 0 (version 1 (indirect 0 ∷ blank_pointer ∷ blank_pointer ∷ null_pointer ∷ []))
          ∷ restore 0 1 (zeros 256) 0 256 1 (blocks (65 ∷ 255 ∷ 255 ∷ 0 ∷ []))
          ∷ tally 0 2 2 2
          ∷ [];
    }
    -- A store from before whose record keeps six of its eight positions: they are copied together, and the cells of 255s are free.
    ∷ record {
      capacities = box 16;
      steps =
          earlier 0 (blocks (65 ∷ 66 ∷ 67 ∷ 68 ∷ 69 ∷ 70 ∷ 255 ∷ 255 ∷ [])) 0 1
          ∷ tally 0 8 1 8
          ∷ backup 0 (blocks (71 ∷ [])) 0 2
          ∷ slot_is 0 (v512 1 (direct 0 0 ∷ direct 0 1 ∷ direct 0 2 ∷ direct 0 3 ∷ direct 0 4 ∷ direct 0 5 ∷ blank_pointer ∷ blank_pointer ∷ []))
          ∷ record_is 0 (held 9 1 ∷ held 10 1 ∷ held 11 1 ∷ held 12 1 ∷ held 13 1 ∷ held 14 1 ∷ removed ∷ removed ∷ [])
          ∷ pool_is (zeros (64 * 8) ++ (blocks (71 ∷ 65 ∷ 66 ∷ 67 ∷ 68 ∷ 69 ∷ 70 ∷ []) ++ zeros 64))
          ∷ tally 0 7 2 7
          ∷ restore 0 1 (zeros 512) 0 512 0 (blocks (65 ∷ 66 ∷ 67 ∷ 68 ∷ 69 ∷ 70 ∷ 255 ∷ 255 ∷ []))
          ∷ [];
    }
    -- A record with a cell of 255s serves backups from before only, and one with a blank position only those that know blank blocks.
    ∷ record {
      capacities = at_base (record { tills = 2; versions = 4; blocks = 8; records = 8; cells = 16 });
      steps =
          earlier 0 (blocks (65 ∷ 255 ∷ [])) 0 1
          ∷ backup 1 (blocks (65 ∷ 255 ∷ [])) 0 1
          ∷ backup 1 (blocks (65 ∷ 255 ∷ [])) 0 2
          ∷ record_is 0 (held 0 1 ∷ held 1 1 ∷ replicate 6 null_position)
          ∷ record_is 1 (held 2 1 ∷ blank_position ∷ replicate 6 null_position)
          ∷ tally 0 3 2 3
          ∷ retire 0 1 0 128
          ∷ earlier 0 (blocks (65 ∷ 255 ∷ [])) 0 2
          ∷ record_is 0 (held 0 1 ∷ held 1 1 ∷ replicate 6 null_position)
          ∷ record_is 1 (held 2 1 ∷ blank_position ∷ replicate 6 null_position)
          ∷ earlier 1 (blocks (65 ∷ 255 ∷ [])) 0 3
          ∷ record_is 0 (held 0 2 ∷ held 1 2 ∷ replicate 6 null_position)
          ∷ backup 1 (blocks (65 ∷ [])) 0 4
          ∷ record_is 0 (held 0 1 ∷ held 1 1 ∷ replicate 6 null_position)
          ∷ restore 1 1 (zeros 128) 0 128 3 (blocks (65 ∷ 255 ∷ []))
          ∷ restore 1 3 (zeros 128) 0 128 1 (blocks (65 ∷ 255 ∷ []))
          ∷ restore 0 2 (zeros 128) 0 128 0 (blocks (65 ∷ 255 ∷ []))
          ∷ tally 0 3 2 3
          ∷ [];
    }
    -- held, null and blank in one segment, which serves an equal one, and none with null and blank exchanged; a short last block of 255s is not blank
    ∷ record {
      capacities = box 16;
      steps =
          backup 0 (blocks (65 ∷ 0 ∷ 255 ∷ 66 ∷ 0 ∷ 255 ∷ 0 ∷ 0 ∷ 65 ∷ 0 ∷ 255 ∷ 66 ∷ 0 ∷ 255 ∷ [])) 0 1
          ∷ record_is 0 (held 0 2 ∷ null_position ∷ blank_position ∷ held 1 2 ∷ null_position ∷ blank_position ∷ replicate 2 null_position)
          ∷ tally 0 2 1 4
          ∷ backup 0 (blocks (65 ∷ 255 ∷ 0 ∷ 66 ∷ 0 ∷ 255 ∷ [])) 0 2
          ∷ record_is 1 (held 2 1 ∷ blank_position ∷ null_position ∷ held 3 1 ∷ null_position ∷ blank_position ∷ replicate 2 null_position)
          ∷ tally 0 2 1 2
          ∷ backup 0 (replicate 70 255) 0 3
          ∷ slot_is 2 (record { number = 3; length = 70; day = 0; pointers = blank_pointer ∷ direct 0 1 ∷ [] })
          ∷ record_is 0 (blank_position ∷ held 0 1 ∷ replicate 6 null_position)
          ∷ restore 0 3 (zeros 72) 0 70 0 (replicate 70 255 ++ zeros 2)
          ∷ restore 0 2 (zeros 384) 0 384 0 (blocks (65 ∷ 255 ∷ 0 ∷ 66 ∷ 0 ∷ 255 ∷ []))
          ∷ [];
    }
    -- what is sound: words 13 and 16 are the first version's length and second pointer, words 90 and 109 are
    -- the masks of blank positions of records 0 and 1
    ∷ record {
      capacities = box 16;
      steps =
          backup 0 (replicate 64 65 ++ zeros 6) 0 1
          -- a blank pointer past the length, and one with a block number
          ∷ overwrite 16 50331648
          ∷ listing 0 10 0 0 0
          ∷ overwrite 13 128
          ∷ restore 0 1 (zeros 128) 0 128 0 (blocks (65 ∷ 255 ∷ []))
          ∷ overwrite 16 50331649
          ∷ listing 0 10 0 0 0
          ∷ overwrite 16 50331648
          -- a position that is held too, and a record that holds none
          ∷ overwrite 90 1
          ∷ listing 0 10 0 0 0
          ∷ overwrite 90 2
          ∷ listing 0 0 1 1 1
          ∷ overwrite 109 1
          ∷ listing 0 10 0 0 0
          ∷ [];
    }
    ∷ []
