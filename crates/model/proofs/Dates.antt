-- Rows of §13, "The version of a given day"; Day.antt computes them.
use Prim.Native.Nat.{ℕ}
use mathlib.Core.List.{List, [], ◌∷◌}
use Rattle.model.specs.Measures.{Shape}
use Rattle.model.specs.State.{Pointer, direct, indirect, Version}
use Rattle.model.proofs.Steps.{backup, earlier, dated, version_on, retire, slot_is, overwrite, Row, at_base, blocks}

-- 2 tills with images of one block
unfoldable pub shop_of : ℕ → ℕ → Shape
shop_of versions cells = at_base (record { tills = 2; versions = versions; blocks = 1; records = cells; cells = cells })

-- a version of one whole block
unfoldable pub one_block : ℕ → ℕ → Pointer → Version
one_block n day p = record { number = n; length = 64; day = day; pointers = p ∷ [] }

unfoldable pub A : List ℕ
A = blocks (65 ∷ [])

unfoldable pub B : List ℕ
B = blocks (66 ∷ [])

unfoldable pub dates : List Row
dates =
    -- A version from before has day 0. An equal day is accepted, an earlier one refused; a backup without a day takes that of the newest, and lookup gives the
    -- newest of a day.
    record {
      capacities = shop_of 4 4;
      steps =
          version_on 0 5 29 0
          ∷ earlier 0 A 0 1
          ∷ version_on 0 0 0 1
          ∷ dated 0 10 B 0 2
          ∷ slot_is 1 (one_block 2 10 (direct 1 0))
          ∷ dated 0 9 A 28 0
          ∷ dated 0 10 A 0 3
          ∷ backup 0 B 0 4
          ∷ slot_is 0 (one_block 1 0 (direct 0 0))
          ∷ slot_is 3 (one_block 4 10 (direct 1 0))
          ∷ version_on 0 9 0 1
          ∷ version_on 0 10 0 4
          ∷ version_on 0 4294967295 0 4
          ∷ version_on 1 4294967295 29 0
          ∷ version_on 2 0 3 0
          ∷ [];
    }
    -- once the newest is retired its older neighbour's day is to beat; a slot that moves takes its day along, and so does a version that is turned
    ∷ record {
      capacities = shop_of 4 4;
      steps =
          dated 0 10 A 0 1
          ∷ dated 0 20 A 0 2
          ∷ slot_is 0 (one_block 1 10 (indirect 0))
          ∷ version_on 0 9 29 0
          ∷ version_on 0 19 0 1
          ∷ retire 0 2 0 64
          ∷ slot_is 0 (one_block 1 10 (direct 0 0))
          ∷ dated 0 9 B 28 0
          ∷ dated 0 15 B 0 3
          ∷ retire 0 1 0 64
          ∷ slot_is 0 (one_block 3 15 (direct 1 0))
          ∷ version_on 0 14 29 0
          ∷ version_on 0 15 0 3
          ∷ backup 1 A 0 1
          ∷ version_on 1 0 0 1
          ∷ [];
    }
    -- 28 before 14, and after 12; word 8 is till 0's last number
    ∷ record {
      capacities = shop_of 2 1;
      steps = dated 0 5 A 0 1 ∷ dated 0 4 B 28 0 ∷ dated 0 5 B 14 0 ∷ overwrite 8 65535 ∷ dated 0 4 B 12 0 ∷ [];
    }
    -- 11 before 28
    ∷ record { capacities = shop_of 1 2; steps = dated 0 5 A 0 1 ∷ dated 0 4 B 11 0 ∷ [] }
    -- any day is sound, days that fall too: words 14 and 18 are those of the first two slots; a slot that is not used has none
    ∷ record {
      capacities = shop_of 3 4;
      steps =
          backup 0 A 0 1
          ∷ backup 0 B 0 2
          ∷ overwrite 14 7
          ∷ version_on 0 6 0 2
          ∷ overwrite 18 9
          ∷ version_on 0 6 29 0
          ∷ version_on 0 8 0 1
          ∷ dated 0 8 A 28 0
          ∷ overwrite 22 1
          ∷ version_on 0 9 10 0
          ∷ dated 0 9 A 10 0
          ∷ [];
    }
    ∷ []
