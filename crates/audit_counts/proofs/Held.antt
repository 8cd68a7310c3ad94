-- The counts of a record, from one held position to the next.
use mathlib.Core.Path.{◌≡◌, refl, sym, subst, ◌∙◌}
use mathlib.Core.Bool.{Bool, true, false}
use mathlib.Core.List.{List}
use Prim.Native.Nat.{ℕ, ◌+◌, ◌-◌, ◌^◌, ◌≤◌, ◌<◌}
use native.Mathlib.Omega.{arith}
use borrow.Author.Tests.{eqb-true, eqb-false}
use lib.Dec.{eqb}
use lib.ListN.{get_or}
use lib.Pow.{pow_pos}
use Rattle.lists.proofs.Bits.{first_clear}
use Rattle.lists.proofs.Masks.{First, first_bit, bit_le, clear_at, clear_other}
use Rattle.audit_words.specs.Words.{bit_of}
use Rattle.audit_counts.specs.Counters.{CountExact}

-- the positions of the mask m are left: all of them are held, and the counts of the others are as they are to be
pub record Left (n m : ℕ) (row counts : List ℕ) : Type 0 where
  pub held : (k : ℕ) → bit_of m k ≡ 1 → bit_of (get_or row 0 0) k ≡ 1
  pub canonical : (k : ℕ) → k < n → bit_of m k ≡ 0 → CountExact n row k (get_or counts k 0)

module _ (n : ℕ) (row counts : List ℕ) where
  pub left_all : Left n (get_or row 0 0) row counts
  left_all = record { held = λ k e. e; canonical = λ k h z o. absurd (omega (arith, z, o)) }

  pub left_done : (m : ℕ) → Left n m row counts → m ≡ 0 → (k : ℕ) → k < n → CountExact n row k (get_or counts k 0)
  left_done m w e k h = w.canonical k h (go (eqb (bit_of m k) 1) refl)
    where
      go : (t : Bool) → eqb (bit_of m k) 1 ≡ t → bit_of m k ≡ 0
      go true q = absurd (omega (arith, e, bit_le m k (eqb-true (bit_of m k) 1 q), pow_pos k))
      go false q = omega (arith, eqb-false (bit_of m k) 1 q)

  module _ (m t : ℕ) (f : First m t) (w : Left n m row counts) where
    pub left_past : n ≤ t → (k : ℕ) → k < n → CountExact n row k (get_or counts k 0)
    left_past h k l = w.canonical k l (first_clear f k (omega (arith, h, l)))

    pub left_held : bit_of (get_or row 0 0) t ≡ 1
    left_held = w.held t (first_bit f)

    pub left_less : (1 ≤ get_or row (3 + n + t) 0) × (get_or row (3 + n + t) 0 ≡ get_or counts t 0) → Left n (m - 2 ^ t) row counts
    left_less s =
        record {
          held = λ k e. keeps k e (eqb k t) refl;
          canonical = λ k h z. exact k h z (eqb k t) refl;
        }
      where
        keeps : (k : ℕ) → bit_of (m - 2 ^ t) k ≡ 1 → (b : Bool) → eqb k t ≡ b → bit_of (get_or row 0 0) k ≡ 1
        keeps k e true q = absurd (omega (arith, subst (λ (j : ℕ). bit_of (m - 2 ^ t) j ≡ 1) (eqb-true k t q) e, clear_at m t (first_bit f)))
        keeps k e false q = w.held k (sym (clear_other m t k (first_bit f) (eqb-false k t q)) ∙ e)

        exact : (k : ℕ) → k < n → bit_of (m - 2 ^ t) k ≡ 0 → (b : Bool) → eqb k t ≡ b → CountExact n row k (get_or counts k 0)
        exact k h z true q = subst (λ (j : ℕ). CountExact n row j (get_or counts j 0)) (sym (eqb-true k t q)) (λ o. s)
        exact k h z false q = w.canonical k h (sym (clear_other m t k (first_bit f) (eqb-false k t q)) ∙ z)
