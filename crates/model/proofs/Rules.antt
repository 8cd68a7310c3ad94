-- What the page says beside its cases, as rows: runs, the removal, step 2, lengths, retiring any version, refusals in their order.
use Prim.Native.Nat.{◌+◌, ◌*◌}
use mathlib.Core.List.{List, [], ◌∷◌, ◌++◌}
use lib.ListN.{take, replicate}
use Rattle.model.specs.State.{null_pointer, direct, indirect, null_position, held, removed}
use Rattle.model.proofs.Steps.{table_length, layout, backup, restore, retire, listing, tally, slot_is, record_is, pool_is, overwrite, Row, at_base, box, blocks, zeros, letters, ABCDEFGH, ABCDEFGZ, AIJKLMNO, IJKLMNOP, QRSTUVWX, run8, to8, v512}

unfoldable pub rules : List Row
rules =
    -- two runs of eight cells: the lower one is taken
    record {
      capacities = box 24;
      steps =
          backup 0 (blocks ABCDEFGH) 0 1
          ∷ backup 0 (blocks IJKLMNOP) 0 2
          ∷ retire 0 1 0 512
          ∷ backup 0 (blocks QRSTUVWX) 0 3
          ∷ record_is 0 (run8 0 1)
          ∷ pool_is (blocks QRSTUVWX ++ (blocks IJKLMNOP ++ zeros 512))
          ∷ tally 0 16 2 16
          ∷ [];
    }
    -- a run of three cells below one of two: the shorter one that is long enough is taken
    ∷ record {
      capacities = at_base (record { tills = 4; versions = 2; blocks = 8; records = 8; cells = 7 });
      steps =
          backup 0 (blocks (letters 65 3)) 0 1
          ∷ backup 1 (blocks (81 ∷ [])) 0 1
          ∷ backup 2 (blocks (letters 70 2)) 0 1
          ∷ backup 3 (blocks (82 ∷ [])) 0 1
          ∷ retire 0 1 0 192
          ∷ retire 2 1 0 128
          ∷ pool_is (zeros 192 ++ (blocks (81 ∷ []) ++ (zeros 128 ++ blocks (82 ∷ []))))
          ∷ backup 2 (blocks (letters 75 2)) 0 2
          ∷ pool_is (zeros 192 ++ (blocks (81 ∷ []) ++ (blocks (letters 75 2) ++ blocks (82 ∷ []))))
          ∷ [];
    }
    -- one of five positions goes: 5 × 1 < 5 does not hold, and the other four are copied together
    ∷ record {
      capacities = box 16;
      steps =
          backup 0 (blocks (letters 65 5)) 0 1
          ∷ backup 0 (blocks (66 ∷ letters 80 4)) 0 2
          ∷ record_is 0 (held 10 1 ∷ removed ∷ held 11 1 ∷ held 12 1 ∷ held 13 1 ∷ replicate 3 null_position)
          ∷ pool_is (zeros 320 ++ (blocks (66 ∷ letters 80 4) ++ (blocks (65 ∷ 67 ∷ 68 ∷ 69 ∷ []) ++ zeros 128)))
          ∷ [];
    }
    -- only the previous version turns: the pointers of version 1 stay direct, though version 3 has its blocks
    ∷ record {
      capacities = box 16;
      steps =
          backup 0 (blocks ABCDEFGH) 0 1
          ∷ backup 0 (blocks IJKLMNOP) 0 2
          ∷ backup 0 (blocks ABCDEFGH) 0 3
          ∷ slot_is 0 (v512 1 (to8 0))
          ∷ slot_is 1 (v512 2 (to8 1))
          ∷ slot_is 2 (v512 3 (to8 0))
          ∷ record_is 0 (run8 0 2)
          ∷ restore 0 1 (zeros 512) 0 512 0 (blocks ABCDEFGH)
          ∷ tally 0 16 2 24
          ∷ [];
    }
    -- the lowest equal block is named, and a null block stays null
    ∷ record {
      capacities = box 8;
      steps =
          backup 0 (blocks (65 ∷ 0 ∷ 66 ∷ [])) 0 1
          ∷ backup 0 (blocks (0 ∷ 66 ∷ 66 ∷ 65 ∷ 65 ∷ [])) 0 2
          ∷ slot_is 0 (record { number = 1; length = 192; day = 0; pointers = indirect 3 ∷ null_pointer ∷ indirect 1 ∷ [] })
          ∷ restore 0 1 (zeros 192) 0 192 1 (blocks (65 ∷ 0 ∷ 66 ∷ []))
          ∷ tally 0 4 1 4
          ∷ [];
    }
    -- two tills on one record: what one lets go of stays for the other
    ∷ record {
      capacities = at_base (record { tills = 2; versions = 2; blocks = 8; records = 2; cells = 16 });
      steps =
          backup 0 (blocks ABCDEFGH) 0 1
          ∷ backup 1 (blocks ABCDEFGH) 0 1
          ∷ record_is 0 (run8 0 2)
          ∷ retire 0 1 0 512
          ∷ record_is 0 (run8 0 1)
          ∷ restore 1 1 (zeros 512) 0 512 0 (blocks ABCDEFGH)
          ∷ listing 0 0 0 0 1
          ∷ tally 0 8 1 8
          ∷ [];
    }
    -- a length that is no whole number of blocks: 500 bytes are eight blocks, the last 52 bytes long; 1,024 bytes fit
    ∷ record {
      capacities = box 16;
      steps =
          backup 0 (take 500 (blocks ABCDEFGH)) 0 1
          ∷ pool_is (take 500 (blocks ABCDEFGH) ++ zeros (12 + 64 * 8))
          ∷ restore 0 1 (replicate 512 7) 0 500 0 (take 500 (blocks ABCDEFGH) ++ replicate 12 7)
          ∷ backup 0 (replicate 1024 65) 0 2
          ∷ tally 0 15 2 23
          ∷ retire 0 1 0 500
          ∷ [];
    }
    -- ---- any version is retired
    -- from the middle: version 1 takes over a direct pointer of version 2, with its count, and an indirect one; the third block of version 2 goes
    ∷ record {
      capacities = box 16;
      steps =
          backup 0 (blocks (65 ∷ 66 ∷ [])) 0 1
          ∷ backup 0 (blocks (65 ∷ 66 ∷ 67 ∷ [])) 0 2
          ∷ backup 0 (blocks (66 ∷ 68 ∷ [])) 0 3
          ∷ retire 0 2 0 192
          ∷ slot_is 0 (record { number = 1; length = 128; day = 0; pointers = direct 1 0 ∷ indirect 0 ∷ [] })
          ∷ slot_is 1 (record { number = 3; length = 128; day = 0; pointers = direct 0 0 ∷ direct 0 1 ∷ [] })
          ∷ slot_is 2 (record { number = 0; length = 0; day = 0; pointers = [] })
          ∷ record_is 1 (held 2 1 ∷ removed ∷ removed ∷ replicate 5 null_position)
          ∷ pool_is (blocks (66 ∷ 68 ∷ 65 ∷ []) ++ zeros (64 * 13))
          ∷ restore 0 1 (zeros 128) 0 128 1 (blocks (65 ∷ 66 ∷ []))
          ∷ restore 0 2 (zeros 192) 18 0 0 (zeros 192)
          ∷ restore 0 3 (zeros 128) 0 128 0 (blocks (66 ∷ 68 ∷ []))
          ∷ retire 0 2 18 0
          ∷ listing 0 0 1 3 3
          ∷ tally 0 3 2 3
          ∷ backup 0 (blocks (65 ∷ 66 ∷ [])) 0 4
          ∷ restore 0 1 (zeros 128) 0 128 2 (blocks (65 ∷ 66 ∷ []))
          ∷ [];
    }
    -- the newest: version 1 takes over its first block twice and is whole again; the next number is still one above the last given
    ∷ record {
      capacities = box 16;
      steps =
          backup 0 (blocks (65 ∷ 65 ∷ 66 ∷ [])) 0 1
          ∷ backup 0 (blocks (65 ∷ 67 ∷ [])) 0 2
          ∷ slot_is 0 (record { number = 1; length = 192; day = 0; pointers = indirect 0 ∷ indirect 0 ∷ direct 0 2 ∷ [] })
          ∷ retire 0 2 0 128
          ∷ slot_is 0 (record { number = 1; length = 192; day = 0; pointers = direct 1 0 ∷ direct 1 0 ∷ direct 0 2 ∷ [] })
          ∷ record_is 1 (held 0 2 ∷ removed ∷ replicate 6 null_position)
          ∷ restore 0 1 (zeros 192) 0 192 0 (blocks (65 ∷ 65 ∷ 66 ∷ []))
          ∷ listing 0 0 1 1 2
          ∷ tally 0 2 2 3
          ∷ backup 0 (blocks (66 ∷ 65 ∷ [])) 0 3
          ∷ slot_is 0 (record { number = 1; length = 192; day = 0; pointers = indirect 1 ∷ indirect 1 ∷ indirect 0 ∷ [] })
          ∷ restore 0 1 (zeros 192) 0 192 1 (blocks (65 ∷ 65 ∷ 66 ∷ []))
          ∷ [];
    }
    -- one after the other from the newest down: each leaves its older neighbour whole, the last one an empty store, and the numbers go on
    ∷ record {
      capacities = box 32;
      steps =
          backup 0 (blocks ABCDEFGH) 0 1
          ∷ backup 0 (blocks ABCDEFGZ) 0 2
          ∷ backup 0 (blocks AIJKLMNO) 0 3
          ∷ retire 0 3 0 512
          ∷ listing 0 0 1 2 3
          ∷ restore 0 2 (zeros 512) 0 512 0 (blocks ABCDEFGZ)
          ∷ restore 0 1 (zeros 512) 0 512 1 (blocks ABCDEFGH)
          ∷ tally 0 9 3 9
          ∷ retire 0 2 0 512
          ∷ listing 0 0 1 1 3
          ∷ restore 0 1 (zeros 512) 0 512 0 (blocks ABCDEFGH)
          ∷ tally 0 8 3 8
          ∷ retire 0 1 0 512
          ∷ listing 0 0 0 0 3
          ∷ pool_is (zeros 2048)
          ∷ tally 0 0 0 0
          ∷ backup 0 (blocks ABCDEFGH) 0 4
          ∷ listing 0 0 4 4 4
          ∷ [];
    }
    -- held numbers rise from 1 or more to at most the last given: words 12 and 31 are the numbers of the first two slots
    ∷ record {
      capacities = box 2;
      steps =
          backup 0 (blocks (65 ∷ [])) 0 1
          ∷ backup 0 (blocks (66 ∷ [])) 0 2
          ∷ overwrite 12 0
          ∷ listing 0 10 0 0 0
          ∷ overwrite 12 2
          ∷ listing 0 10 0 0 0
          ∷ overwrite 12 1
          ∷ overwrite 31 3
          ∷ listing 0 10 0 0 0
          ∷ overwrite 8 9
          ∷ listing 0 0 1 3 9
          ∷ [];
    }
    -- ---- refusals, in their order
    -- neither a record nor a run: 14; nothing is altered, also where a segment before was placed
    ∷ record {
      capacities = at_base (record { tills = 1; versions = 2; blocks = 16; records = 1; cells = 8 });
      steps =
          backup 0 (blocks (ABCDEFGH ++ IJKLMNOP)) 14 0
          ∷ pool_is (zeros 512)
          ∷ record_is 0 (replicate 8 null_position)
          ∷ backup 0 (blocks ABCDEFGH) 0 1
          ∷ backup 0 (blocks IJKLMNOP) 14 0
          ∷ pool_is (blocks ABCDEFGH)
          ∷ tally 0 8 1 8
          ∷ [];
    }
    -- the first segment finds a record and no run, and a later one would find no record: 16
    ∷ record {
      capacities = at_base (record { tills = 1; versions = 2; blocks = 16; records = 2; cells = 15 });
      steps =
          backup 0 (blocks ABCDEFGH) 0 1
          ∷ backup 0 (blocks (IJKLMNOP ++ QRSTUVWX)) 16 0
          ∷ tally 0 8 1 8
          ∷ [];
    }
    -- table length 1; lay out 1 before 2; backup 3, 4, 11
    ∷ record {
      capacities = at_base (record { tills = 1; versions = 1; blocks = 1; records = 1; cells = 1 });
      steps =
          table_length (box 32) 0 240
          ∷ table_length (at_base (record { tills = 1; versions = 65; blocks = 1; records = 1; cells = 1 })) 1 0
          ∷ layout (at_base (record { tills = 17; versions = 1; blocks = 1; records = 1; cells = 1 })) 1
          ∷ layout (at_base (record { tills = 1; versions = 1; blocks = 1; records = 1; cells = 2 })) 2
          ∷ backup 1 [] 3 0
          ∷ backup 0 [] 4 0
          ∷ backup 0 (replicate 65 7) 4 0
          ∷ backup 0 (replicate 64 7) 0 1
          ∷ backup 0 [] 4 0
          ∷ backup 0 (replicate 64 7) 11 0
          ∷ tally 0 1 1 1
          ∷ [];
    }
    -- restore 3, 17, 5; retire 3, 17; listing 3
    ∷ record {
      capacities = box 8;
      steps =
          backup 0 (blocks ABCDEFGH) 0 1
          ∷ backup 0 (blocks ABCDEFGH) 0 2
          ∷ restore 1 1 [] 3 0 0 []
          ∷ restore 0 3 [] 17 0 0 []
          ∷ restore 0 0 [] 17 0 0 []
          ∷ restore 0 1 (replicate 511 7) 5 0 0 (replicate 511 7)
          ∷ retire 1 1 3 0
          ∷ retire 0 3 17 0
          ∷ listing 1 3 0 0 0
          ∷ listing 0 0 1 2 2
          ∷ [];
    }
    -- a number never given, or given before and no longer held: of a till that never held one; 0; just below the oldest; in a gap; the last given, held and
    -- retired; one above it; before an output too short, after the till
    ∷ record {
      capacities = box 4;
      steps =
          restore 0 1 [] 17 0 0 []
          ∷ retire 0 0 17 0
          ∷ backup 0 (blocks (65 ∷ [])) 0 1
          ∷ backup 0 (blocks (66 ∷ [])) 0 2
          ∷ backup 0 (blocks (67 ∷ [])) 0 3
          ∷ backup 0 (blocks (68 ∷ [])) 0 4
          ∷ restore 0 4 (zeros 64) 0 64 0 (blocks (68 ∷ []))
          ∷ restore 0 5 (zeros 64) 17 0 0 (zeros 64)
          ∷ retire 0 1 0 64
          ∷ retire 0 3 0 64
          ∷ restore 0 0 (zeros 64) 17 0 0 (zeros 64)
          ∷ restore 0 1 [] 18 0 0 []
          ∷ restore 0 3 (zeros 64) 18 0 0 (zeros 64)
          ∷ retire 0 1 18 0
          ∷ retire 0 4 0 64
          ∷ restore 0 4 (zeros 64) 18 0 0 (zeros 64)
          ∷ retire 0 4 18 0
          ∷ retire 0 5 17 0
          ∷ retire 0 65536 17 0
          ∷ restore 1 5 [] 3 0 0 []
          ∷ listing 0 0 2 2 4
          ∷ [];
    }
    -- the last number given is 65,535: 12, and 11 before it; word 8 is till 0's last number
    ∷ record {
      capacities = at_base (record { tills = 1; versions = 1; blocks = 1; records = 1; cells = 1 });
      steps =
          overwrite 8 65535
          ∷ listing 0 0 0 0 65535
          ∷ backup 0 (replicate 64 7) 12 0
          ∷ overwrite 8 65534
          ∷ backup 0 (replicate 64 7) 0 65535
          ∷ backup 0 (replicate 64 7) 11 0
          ∷ retire 0 65535 0 64
          ∷ backup 0 (replicate 64 7) 12 0
          ∷ [];
    }
    -- 12 before 14
    ∷ record {
      capacities = at_base (record { tills = 2; versions = 1; blocks = 1; records = 1; cells = 1 });
      steps =
          backup 1 (replicate 64 7) 0 1
          ∷ backup 0 (replicate 64 9) 14 0
          ∷ overwrite 8 65535
          ∷ backup 0 (replicate 64 9) 12 0
          ∷ [];
    }
    -- no sound store: 10 before all others; word 11 is a reserved one, which is zero in every sound store
    ∷ record {
      capacities = box 1;
      steps =
          overwrite 11 1
          ∷ backup 9 [] 10 0
          ∷ restore 9 9 [] 10 0 0 []
          ∷ retire 9 9 10 0
          ∷ listing 9 10 0 0 0
          ∷ tally 10 0 0 0
          ∷ overwrite 11 0
          ∷ tally 0 0 0 0
          ∷ [];
    }
    ∷ []
