-- The header's words of the measures, test by test.
use Rattle.std.proofs.Common.{◌≡◌, refl, Bool, true, false, ◌&&◌, [], ◌∷◌, ℕ, ◌<◌, get_or, eqb}
use borrow.Author.Tests.{ne_eqb}
use Rattle.lists.specs.Lists.{all_of, all_zero, every}
use Rattle.lists.proofs.Tests.{every_not}
use Rattle.model.specs.Measures.{Measures, base_measures, is_base}
use Rattle.model.specs.Table.{measures_in}

-- ---- read

pub some_word : (a b c i : ℕ) → i < 3 → (get_or (a ∷ b ∷ c ∷ []) i 0 ≡ 0 → ⊥) → record { block_bytes = a; segment_blocks = b; rebuild_percent = c } ≡ measures_in a b c
unfolding measures_in all_zero
some_word a b c i h n = rw (every_not (λ x. eqb x 0) 0 (a ∷ b ∷ c ∷ []) i h (ne_eqb _ _ n))

pub no_word : (a b c : ℕ) → a ≡ 0 → b ≡ 0 → c ≡ 0 → base_measures ≡ measures_in a b c
unfolding measures_in all_zero every
no_word a b c p q r = rw (p, q, r)

-- ---- written

pub base_tests : (m : Measures) (bytes blocks percent : ℕ) → bytes ≡ 64 → blocks ≡ 8 → percent ≡ 20
    → (eqb m.block_bytes bytes && (eqb m.segment_blocks blocks && eqb m.rebuild_percent percent)) ≡ is_base m
unfolding is_base all_of
base_tests m bytes blocks percent a b c = rw (a, b, c) (go (eqb m.block_bytes 64) (eqb m.segment_blocks 8) (eqb m.rebuild_percent 20))
  where
    go : (p q r : Bool) → (p && (q && r)) ≡ all_of (p ∷ q ∷ r ∷ [])
    go true true true = refl
    go true true false = refl
    go true false r = refl
    go false q r = refl
