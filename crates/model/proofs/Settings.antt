-- §6: rows at other measures.
use Prim.Native.Nat.{ℕ, ◌+◌, ◌*◌}
use mathlib.Core.List.{List, [], ◌∷◌, ◌++◌}
use lib.ListN.{drop, replicate}
use Rattle.lists.specs.Lists.{counted}
use Rattle.model.specs.Measures.{Shape}
use Rattle.model.specs.State.{direct, indirect, null_position, held, removed}
use Rattle.model.proofs.Steps.{table_length, layout, backup, restore, tally, slot_is, record_is, pool_is, settings_are, overwrite, Row, box, blocks, zeros, letters, ABCDEFGH, ABCDEFGZ, AIJKLMNO}

-- the box with its blocks' bytes, blocks per segment and rebuild percentage
unfoldable pub box_of : ℕ → ℕ → ℕ → ℕ → ℕ → Shape
box_of bytes segment percent blocks cells = record {
  measures = record { block_bytes = bytes; segment_blocks = segment; rebuild_percent = percent };
  capacities = record { tills = 1; versions = 4; blocks = blocks; records = 8; cells = cells };
}

unfoldable pub settings : List Row
settings =
    -- 0 percent: one of eight positions goes, and the others are always copied together
    record {
      capacities = box_of 64 8 0 16 32;
      steps =
          settings_are (64 ∷ 8 ∷ 0 ∷ [])
          ∷ backup 0 (blocks ABCDEFGH) 0 1
          ∷ backup 0 (blocks AIJKLMNO) 0 2
          ∷ record_is 0 (removed ∷ counted (λ c. held c 1) 16 7)
          ∷ pool_is (zeros 512 ++ (blocks AIJKLMNO ++ (drop 64 (blocks ABCDEFGH) ++ zeros (64 * 9))))
          ∷ tally 0 15 2 15
          ∷ [];
    }
    -- 100 percent: seven of eight go, and the last one stays where it is
    ∷ record {
      capacities = box_of 64 8 100 16 32;
      steps =
          backup 0 (blocks ABCDEFGH) 0 1
          ∷ backup 0 (blocks ABCDEFGZ) 0 2
          ∷ record_is 0 (replicate 7 removed ++ (held 7 1 ∷ []))
          ∷ pool_is (zeros (64 * 7) ++ (blocks (72 ∷ []) ++ (blocks ABCDEFGZ ++ zeros (64 * 16))))
          ∷ tally 0 9 2 9
          ∷ [];
    }
    -- segments of four blocks: the second one's record has two null positions; in the next image the first is shared and the second is not
    ∷ record {
      capacities = box_of 64 4 20 16 16;
      steps =
          backup 0 (blocks (letters 65 6)) 0 1
          ∷ record_is 0 (counted (λ c. held c 1) 0 4)
          ∷ record_is 1 (held 4 1 ∷ held 5 1 ∷ null_position ∷ null_position ∷ [])
          ∷ backup 0 (blocks (letters 65 5 ++ (71 ∷ []))) 0 2
          ∷ record_is 0 (counted (λ c. held c 1) 0 4)
          ∷ record_is 1 (removed ∷ held 8 1 ∷ null_position ∷ null_position ∷ [])
          ∷ record_is 2 (held 6 1 ∷ held 7 1 ∷ null_position ∷ null_position ∷ [])
          ∷ slot_is 0 (record { number = 1; length = 384; day = 0; pointers = counted indirect 0 5 ++ (direct 1 1 ∷ []) })
          ∷ restore 0 1 (zeros 384) 0 384 1 (blocks (letters 65 6))
          ∷ tally 0 7 3 7
          ∷ [];
    }
    -- segments of sixteen: one record for the whole image
    ∷ record {
      capacities = box_of 64 16 20 16 40;
      steps =
          backup 0 (blocks (letters 65 16)) 0 1
          ∷ record_is 0 (counted (λ c. held c 1) 0 16)
          ∷ tally 0 16 1 16
          ∷ backup 0 (blocks (letters 65 15 ++ (90 ∷ []))) 0 2
          ∷ record_is 0 (replicate 15 removed ++ (held 32 1 ∷ []))
          ∷ tally 0 17 2 17
          ∷ [];
    }
    -- blocks of 512 bytes: 1,000 bytes are two of them, and 2,049 bytes too many for four
    ∷ record {
      capacities = box_of 512 4 20 4 4;
      steps =
          settings_are (512 ∷ 4 ∷ 20 ∷ [])
          ∷ backup 0 (replicate 2049 65) 4 0
          ∷ backup 0 (replicate 512 65 ++ replicate 488 66) 0 1
          ∷ pool_is (replicate 512 65 ++ (replicate 488 66 ++ zeros (24 + 1024)))
          ∷ restore 0 1 (zeros 1000) 0 1000 0 (replicate 512 65 ++ replicate 488 66)
          ∷ tally 0 2 1 2
          ∷ backup 0 (replicate 512 65 ++ replicate 488 66) 0 2
          ∷ slot_is 0 (record { number = 1; length = 1000; day = 0; pointers = indirect 0 ∷ indirect 1 ∷ [] })
          ∷ restore 0 1 (zeros 1000) 0 1000 1 (replicate 512 65 ++ replicate 488 66)
          ∷ tally 0 2 1 2
          ∷ [];
    }
    -- 64, 8 and 20 are zeros in the header, and not written out; no table has 96 bytes, 5 blocks or 101 percent
    ∷ record {
      capacities = box 8;
      steps =
          settings_are (zeros 3)
          ∷ backup 0 (blocks ABCDEFGH) 0 1
          ∷ overwrite 5 64
          ∷ overwrite 6 8
          ∷ overwrite 7 20
          ∷ tally 10 0 0 0
          ∷ overwrite 7 21
          ∷ tally 0 8 1 8
          ∷ overwrite 7 101
          ∷ tally 10 0 0 0
          ∷ overwrite 7 21
          ∷ overwrite 6 5
          ∷ tally 10 0 0 0
          ∷ overwrite 6 8
          ∷ overwrite 5 96
          ∷ tally 10 0 0 0
          ∷ overwrite 5 0
          ∷ tally 10 0 0 0
          ∷ [];
    }
    -- a value outside: 1
    ∷ record {
      capacities = box 8;
      steps =
          table_length (box_of 512 16 100 128 8) 0 816
          ∷ table_length (box_of 512 16 100 129 8) 1 0
          ∷ table_length (box_of 96 8 20 16 8) 1 0
          ∷ table_length (box_of 64 5 20 16 8) 1 0
          ∷ table_length (box_of 64 8 101 16 8) 1 0
          ∷ layout (box_of 64 32 20 16 8) 1
          ∷ layout (box_of 128 8 20 16 8) 2
          ∷ [];
    }
    ∷ []
