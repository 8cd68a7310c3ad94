-- Lists that fit each other and the bytes, test by test.
use mathlib.Core.Path.{◌≡◌, ap, ◌∙◌}
use mathlib.Core.Bool.{Bool, true, false}
use mathlib.Core.List.{List, [], ◌∷◌}
use Prim.Native.Nat.{ℕ, ◌≤◌, ◌<◌}
use native.Mathlib.Omega.{arith}
use lib.ListN.{length, take}
use lib.Seq.{take_all}
use lib.Dec.{eqb, leb}
use borrow.Author.Tests.{le-leb, lt-leb, leb-true, eq-eqb, ne_eqb, eqb-true}
use Rattle.lists.specs.Lists.{total, all_of}
use Rattle.lists.proofs.Tests.{clause, all_last}
use Rattle.closing.specs.Closing.{closing_fits}

-- lists that fit, as numbers
pub record Fit (tills lengths bytes : List ℕ) : Type 0 where
  pub few : length tills ≤ 16
  pub same : length lengths ≡ length tills
  pub sum : total (λ (n : ℕ). n) lengths ≡ length bytes

module _ (tills lengths bytes : List ℕ) where
  abbrev clauses : List Bool
  clauses = leb (length tills) 16 ∷ eqb (length lengths) (length tills) ∷ eqb (total (λ (n : ℕ). n) lengths) (length bytes) ∷ []

  pub fits_many : 16 < length tills → false ≡ closing_fits tills lengths bytes
  unfolding closing_fits all_of
  fits_many h = rw (lt-leb (length tills) 16 h)

  module _ (few : length tills ≤ 16) where
    pub fits_unequal : ¬ (length lengths ≡ length tills) → false ≡ closing_fits tills lengths bytes
    unfolding closing_fits all_of
    fits_unequal n = rw (le-leb (length tills) 16 few, ne_eqb (length lengths) (length tills) n)

    pub fits_sum : length lengths ≡ length tills → (sum : ℕ) → sum ≡ total (λ (n : ℕ). n) (take (length tills) lengths) → eqb sum (length bytes) ≡ closing_fits tills lengths bytes
    unfolding closing_fits
    fits_sum e sum q =
        let p : all_of clauses ≡ eqb (total (λ (n : ℕ). n) lengths) (length bytes) =
        all_last (leb (length tills) 16 ∷ eqb (length lengths) (length tills) ∷ []) _ (le-leb (length tills) 16 few, (eq-eqb (length lengths) (length tills) e, tt)) in
        rw (q ∙ ap (total (λ (n : ℕ). n)) (take_all (length tills) lengths (omega (arith, e))), p)

  pub fits_are : closing_fits tills lengths bytes ≡ true → Fit tills lengths bytes
  unfolding closing_fits
  fits_are h = record { few = leb-true _ _ (clause clauses 0 h); same = eqb-true _ _ (clause clauses 1 h); sum = eqb-true _ _ (clause clauses 2 h) }
