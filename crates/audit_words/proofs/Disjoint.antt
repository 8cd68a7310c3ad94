-- Masks that have no position in common, and the words of positions that are not held.
use mathlib.Core.Path.{◌≡◌, refl, sym, ◌∙◌}
use mathlib.Core.Bool.{Bool, true, false}
use mathlib.Core.List.{List}
use Prim.Native.Nat.{ℕ, zero, suc, ◌+◌, ◌/◌, ◌%◌, ◌^◌, ◌≤◌, ◌<◌}
use native.Mathlib.Omega.{arith}
use borrow.Author.Tests.{eqb-true, eqb-false, eq-eqb}
use lib.Bits.{bit_and, bit_or, and_step, and_zero_l, and_le_l, and_le_r, or_add_and}
use lib.Dec.{eqb}
use lib.ListN.{get_or}
use borrow.Author.Count.{below_more}
use Rattle.lists.specs.Decides.{Decides}
use Rattle.lists.proofs.Bits.{bit_below}
use Rattle.lists.proofs.Masks.{bit_zero, half_bit}
use Rattle.audit_words.specs.Words.{bit_of, PositionForm}

-- ---- two masks

apart_bits : (a b : ℕ) → bit_and a b ≡ 0 → (i : ℕ) → bit_of a i ≡ 1 → bit_of b i ≡ 0
apart_bits a b e zero h = omega (arith, and_step a b, e, bit_zero a, bit_zero b, h)
apart_bits a b e (suc i) h = sym (half_bit b i) ∙ apart_bits (a / 2) (b / 2) (omega (arith, and_step a b, e)) i (half_bit a i ∙ h)

bits_apart : (n a b : ℕ) → a ≤ n → ((i : ℕ) → bit_of a i ≡ 1 → bit_of b i ≡ 0) → bit_and a b ≡ 0
bits_apart zero a b l h = let z : a ≡ 0 = omega arith in rw z (and_zero_l b)
bits_apart (suc n) a b l h =
    let r : bit_and (a / 2) (b / 2) ≡ 0 = bits_apart n (a / 2) (b / 2) (omega arith) (λ i e. half_bit b i ∙ h (suc i) (sym (half_bit a i) ∙ e)) in
    go (eqb (a % 2) 1) refl r
  where
    go : (t : Bool) → eqb (a % 2) 1 ≡ t → bit_and (a / 2) (b / 2) ≡ 0 → bit_and a b ≡ 0
    go true e r = omega (arith, r, and_step a b, bit_zero b, h 0 (bit_zero a ∙ eqb-true (a % 2) 1 e))
    go false e r = omega (arith, r, and_step a b, eqb-false (a % 2) 1 e)

pub apart_decides : (a b : ℕ) → Decides (eqb (bit_and a b) 0) ((i : ℕ) → bit_of a i ≡ 1 → bit_of b i ≡ 0)
apart_decides a b =
    record {
      holds = λ e. apart_bits a b (eqb-true (bit_and a b) 0 e);
      seen = λ h. eq-eqb (bit_and a b) 0 (bits_apart a a b (omega arith) h);
    }

-- of masks of n positions it is enough to look at these
pub apart_below : (n a b : ℕ) → a < 2 ^ n → ((i : ℕ) → i < n → bit_of a i ≡ 1 → bit_of b i ≡ 0) → (i : ℕ) → bit_of a i ≡ 1 → bit_of b i ≡ 0
apart_below n a b l h i e = h i (bit_below a n i l e) e

-- ---- words put together

or_none : (a b : ℕ) → bit_or a b ≡ 0 → (a ≡ 0) × (b ≡ 0)
or_none a b e = (omega (arith, e, or_add_and a b, and_le_l a b, and_le_r a b), omega (arith, e, or_add_and a b, and_le_l a b, and_le_r a b))

none_or : (a b : ℕ) → a ≡ 0 → b ≡ 0 → bit_or a b ≡ 0
none_or a b e f = omega (arith, e, f, or_add_and a b)

-- position i's words are zero where it is not held
abbrev pub Clear : ℕ → List ℕ → ℕ → Type 0
Clear n row i = bit_of (get_or row 0 0) i ≡ 0 → (get_or row (3 + i) 0 ≡ 0) × (get_or row (3 + n + i) 0 ≡ 0)

-- one more position
pub clear_more : (n : ℕ) (row : List ℕ) (i all held words : ℕ) → held ≡ bit_of (get_or row 0 0) i
    → (held ≡ 0 → words ≡ bit_or (get_or row (3 + i) 0) (get_or row (3 + n + i) 0)) × ((held ≡ 0 → ⊥) → words ≡ 0)
    → Decides (eqb all 0) ((k : ℕ) → k < i → Clear n row k) → Decides (eqb (bit_or all words) 0) ((k : ℕ) → k < i + 1 → Clear n row k)
clear_more n row i all held words e w t =
    record {
      holds = λ h. below_more _ _ (t.holds (eq-eqb all 0 (both h).0)) (here (both h).1);
      seen = λ f. eq-eqb (bit_or all words) 0 (none_or all words (eqb-true all 0 (t.seen (λ k g. f k (omega arith)))) (none (eqb held 0) refl f));
    }
  where
    both : eqb (bit_or all words) 0 ≡ true → (all ≡ 0) × (words ≡ 0)
    both h = or_none all words (eqb-true (bit_or all words) 0 h)

    here : words ≡ 0 → Clear n row i
    here z o = or_none _ _ (sym (w.0 (e ∙ o)) ∙ z)

    none : (b : Bool) → eqb held 0 ≡ b → ((k : ℕ) → k < i + 1 → Clear n row k) → words ≡ 0
    none true q f =
        let z = eqb-true held 0 q in
        let p = f i (omega arith) (sym e ∙ z) in
        w.0 z ∙ none_or _ _ p.0 p.1
    none false q f = w.1 (eqb-false held 0 q)

-- ---- the positions

pub form_of : (n : ℕ) (row : List ℕ) → ((i : ℕ) → bit_of (get_or row 0 0) i ≡ 1 → bit_of (get_or row 1 0) i ≡ 0) → ((i : ℕ) → bit_of (get_or row 0 0) i ≡ 1 → bit_of (get_or row 2 0) i ≡ 0)
    → ((i : ℕ) → bit_of (get_or row 1 0) i ≡ 1 → bit_of (get_or row 2 0) i ≡ 0) → ((i : ℕ) → i < n → Clear n row i) → (i : ℕ) → i < n → PositionForm n row i
form_of n row p q r z i h = record { kept = p i; stored = q i; gone = r i; cell = λ o. (z i h o).0; count = λ o. (z i h o).1 }
