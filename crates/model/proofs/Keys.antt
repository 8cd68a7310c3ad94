-- Rows of §9, "Keys for staff"; Day.antt computes them.
use Prim.Native.Nat.{ℕ}
use mathlib.Core.Bool.{true, false}
use mathlib.Core.List.{List, [], ◌∷◌, ◌++◌}
use Rattle.model.specs.State.{Rights}
use Rattle.model.proofs.Steps.{Step, backup, dated, version_on, restore, retire, listing, tally, user, set_rights, rights_are, overwrite, Row, zeros}
use Rattle.model.proofs.Dates.{shop_of, A, B}

unfoldable pub only_list : Rights
only_list = record { list = true; back_up = false; restore = false; retire = false }

unfoldable pub only_back_up : Rights
only_back_up = record { list = false; back_up = true; restore = false; retire = false }

unfoldable pub only_restore : Rights
only_restore = record { list = false; back_up = false; restore = true; retire = false }

unfoldable pub only_retire : Rights
only_retire = record { list = false; back_up = false; restore = false; retire = true }

unfoldable pub all_rights : Rights
all_rights = record { list = true; back_up = true; restore = true; retire = true }

-- every call on a till, with arguments that are refused later, is refused with `n`
unfoldable pub each : ℕ → ℕ → List Step
each t n = backup t [] n 0 ∷ dated t 0 [] n 0 ∷ restore t 9 [] n 0 0 [] ∷ retire t 9 n 0 ∷ listing t n 0 0 0 ∷ version_on t 0 n 0 ∷ []

-- what user 1 sees, who has all rights on till 1 and none on till 0
unfoldable pub seen : List Step
seen =
    user 1
    ∷ listing 1 0 1 1 1
    ∷ restore 1 1 (zeros 64) 0 64 0 A
    ∷ version_on 1 9 0 1
    ∷ dated 1 9 B 0 2
    ∷ retire 1 1 0 64
    ∷ restore 1 2 (zeros 64) 0 64 0 B
    ∷ retire 1 1 18 0
    ∷ listing 0 23 0 0 0
    ∷ restore 0 1 (zeros 64) 23 0 0 (zeros 64)
    ∷ tally 23 0 0 0
    ∷ []

unfoldable pub keys : List Row
keys =
    -- None at first: a user has no right on any till, and one above 7 is not known; a till that is not there comes before both. The tally and the rights are
    -- the owner's.
    record {
      capacities = shop_of 2 2;
      steps =
          backup 0 A 0 1
          ∷ (user 1 ∷ each 0 23) ++ ((user 7 ∷ each 1 23) ++ ((user 8 ∷ each 0 22) ++ ((user 8 ∷ each 2 3) ++ ((user 1 ∷ each 2 3)
          ++ (tally 23 0 0 0
          ∷ set_rights 1 0 all_rights 23
          ∷ set_rights 0 0 all_rights 22
          ∷ set_rights 8 0 all_rights 22
          ∷ set_rights 0 2 all_rights 3
          ∷ user 8
          ∷ tally 22 0 0 0
          ∷ set_rights 1 0 all_rights 22
          ∷ user 0
          ∷ set_rights 0 0 all_rights 22
          ∷ set_rights 8 0 all_rights 22
          ∷ set_rights 8 2 all_rights 3
          ∷ tally 0 1 1 1
          ∷ rights_are 0 0
          ∷ [])))));
    }
    -- One right alone, on one till, for one user; the call's own refusals come after.
    ∷ record {
      capacities = shop_of 2 2;
      steps =
          backup 0 A 0 1
          ∷ set_rights 1 0 only_list 0
          ∷ rights_are 0 1
          ∷ user 1
          ∷ listing 0 0 1 1 1
          ∷ version_on 0 0 0 1
          ∷ version_on 1 0 23 0
          ∷ backup 0 A 23 0
          ∷ dated 0 5 A 23 0
          ∷ restore 0 1 (zeros 64) 23 0 0 (zeros 64)
          ∷ retire 0 1 23 0
          ∷ listing 1 23 0 0 0
          ∷ user 2
          ∷ listing 0 23 0 0 0
          ∷ user 0
          ∷ set_rights 1 0 only_back_up 0
          ∷ rights_are 0 2
          ∷ user 1
          ∷ backup 0 [] 4 0
          ∷ backup 0 B 0 2
          ∷ listing 0 23 0 0 0
          ∷ version_on 0 0 23 0
          ∷ restore 0 1 (zeros 64) 23 0 0 (zeros 64)
          ∷ retire 0 1 23 0
          ∷ dated 0 0 A 11 0
          ∷ [];
    }
    ∷ record {
      capacities = shop_of 2 2;
      steps =
          backup 0 A 0 1
          ∷ set_rights 7 0 only_restore 0
          ∷ rights_are 0 67108864
          ∷ set_rights 6 0 only_retire 0
          ∷ rights_are 0 75497472
          ∷ rights_are 1 0
          ∷ user 7
          ∷ restore 0 1 (zeros 64) 0 64 0 A
          ∷ restore 0 9 [] 17 0 0 []
          ∷ listing 0 23 0 0 0
          ∷ version_on 0 0 23 0
          ∷ backup 0 A 23 0
          ∷ retire 0 1 23 0
          ∷ user 6
          ∷ restore 0 1 (zeros 64) 23 0 0 (zeros 64)
          ∷ retire 0 9 17 0
          ∷ retire 0 1 0 64
          ∷ retire 0 1 18 0
          ∷ listing 0 23 0 0 0
          ∷ backup 0 A 23 0
          ∷ rights_are 0 75497472
          ∷ user 0
          ∷ backup 0 A 0 2
          ∷ rights_are 0 75497472
          ∷ set_rights 7 0 all_rights 0
          ∷ rights_are 0 260046848
          ∷ set_rights 6 0 only_list 0
          ∷ set_rights 7 0 only_list 0
          ∷ rights_are 0 17825792
          ∷ [];
    }
    -- any word below 2 ^ 28 is sound, and none above; 10 comes first
    ∷ record {
      capacities = shop_of 2 2;
      steps =
          overwrite 10 268435455
          ∷ user 5
          ∷ listing 0 0 0 0 0
          ∷ overwrite 10 268435456
          ∷ (user 8 ∷ each 2 10) ++ (tally 10 0 0 0 ∷ set_rights 0 2 all_rights 10 ∷ overwrite 10 0 ∷ overwrite 11 1 ∷ tally 10 0 0 0 ∷ []);
    }
    -- two histories that differ on till 0: user 1 gets the same answers
    ∷ record { capacities = shop_of 2 4; steps = set_rights 1 1 all_rights 0 ∷ backup 1 A 0 1 ∷ seen }
    ∷ record {
      capacities = shop_of 2 4;
      steps = set_rights 1 1 all_rights 0 ∷ set_rights 2 0 all_rights 0 ∷ backup 0 B 0 1 ∷ user 2 ∷ backup 0 A 0 2 ∷ user 0 ∷ backup 1 A 0 1 ∷ retire 0 1 0 64 ∷ seen;
    }
    ∷ []
