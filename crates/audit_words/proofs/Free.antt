-- A record that holds no position is in order just where all its words are zero.
use mathlib.Core.Path.{◌≡◌, refl, sym, ap, ◌∙◌}
use mathlib.Core.Bool.{Bool, true, false}
use mathlib.Core.List.{List}
use Prim.Native.Nat.{ℕ, zero, suc, ◌+◌, ◌-◌, ◌%◌, ◌^◌, ◌≤◌, ◌<◌}
use native.Mathlib.Nat.{zero-div, le_of_suc-le-suc}
use native.Mathlib.Omega.{arith}
use lib.Dec.{leb}
use lib.Pow.{pow_pos}
use lib.ListN.{length, get_or, replicate}
use borrow.Author.Tests.{leb-true, leb-false}
use Rattle.lists.specs.Lists.{all_zero}
use Rattle.lists.specs.Decides.{Decides}
use Rattle.lists.proofs.Same.{zeros_are}
use Rattle.lists.proofs.Rows.{zeros_of, zeros_fill}
use Rattle.model.specs.Measures.{record_words}
use Rattle.audit_words.specs.Words.{bit_of, RecordForm}

-- no bit of 0 stands
no_bit : (m i : ℕ) → m ≡ 0 → bit_of m i ≡ 0
no_bit m i e = rw e (ap (λ (k : ℕ). k % 2) (zero-div (2 ^ i)))

module _ (n : ℕ) (row : List ℕ) (l : length row ≡ record_words n) where
  -- every word is zero
  abbrev Zeros : Type 0
  Zeros = (k : ℕ) → get_or row k 0 ≡ 0

  free_form : Zeros → RecordForm n row
  free_form z = record {
    helds = rw (z 0) (pow_pos n);
    removeds = rw (z 1) (pow_pos n);
    blanks = rw (z 2) (pow_pos n);
    positions = λ i h. record {
      kept = λ o. no_bit (get_or row 1 0) i (z 1);
      stored = λ o. no_bit (get_or row 2 0) i (z 2);
      gone = λ o. no_bit (get_or row 2 0) i (z 2);
      cell = λ o. z (3 + i);
      count = λ o. z (3 + n + i);
    };
    used = λ o. (z 1, z 2);
  }

  form_zeros : get_or row 0 0 ≡ 0 → RecordForm n row → (k : ℕ) → k < length row → get_or row k 0 ≡ 0
  form_zeros z f zero h = z
  form_zeros z f (suc zero) h = (f.used z).0
  form_zeros z f (suc (suc zero)) h = (f.used z).1
  form_zeros z f (suc (suc (suc i))) h = by_place (leb (suc i) n) refl
    where
      at_cell : i < n → get_or row (suc (suc (suc i))) 0 ≡ 0
      at_cell b = let q : suc (suc (suc i)) ≡ 3 + i = omega arith in rw q ((f.positions i b).cell (no_bit (get_or row 0 0) i z))

      at_count : n ≤ i → get_or row (suc (suc (suc i))) 0 ≡ 0
      at_count b =
          let q : suc (suc (suc i)) ≡ 3 + n + (i - n) = omega (arith, b) in
          rw q ((f.positions (i - n) (omega (arith, l, h, b))).count (no_bit (get_or row 0 0) (i - n) z))

      by_place : (t : Bool) → leb (suc i) n ≡ t → get_or row (suc (suc (suc i))) 0 ≡ 0
      by_place true e = at_cell (leb-true (suc i) n e)
      by_place false e = at_count (le_of_suc-le-suc (leb-false (suc i) n e))

  pub free_decides : get_or row 0 0 ≡ 0 → (r : Bool) → r ≡ all_zero row → Decides r (RecordForm n row)
  free_decides z r e = record {
    holds = λ q. free_form (λ k. ap (λ (ws : List ℕ). get_or ws k 0) (zeros_are row (sym e ∙ q)) ∙ all_zero_lem (length row) k);
    seen = λ f. e ∙ ap all_zero (zeros_of row (form_zeros z f)) ∙ zeros_fill (length row);
  }
    where
      all_zero_lem : (m k : ℕ) → ◌≡◌ {A = ℕ} (get_or (replicate m 0) k 0) 0
      all_zero_lem zero k = refl
      all_zero_lem (suc m) zero = refl
      all_zero_lem (suc m) (suc k) = all_zero_lem m k
