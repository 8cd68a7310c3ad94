-- A record's number, put for each fingerprint that the record has.
use mathlib.Core.Path.{◌≡◌, refl, sym, ap, ◌∙◌}
use mathlib.Core.Bool.{Bool, true, false, cond}
use mathlib.Core.List.{List}
use Prim.Native.Nat.{ℕ, ◌+◌, ◌-◌, ◌*◌, ◌≤◌, ◌<◌}
use native.Mathlib.Omega.{arith}
use lib.ListN.{length, get_or, set, take, drop, length-set}
use lib.Dec.{eqb}
use lib.Seq.{get_or-set_same, get_or-set_other, take_all}
use borrow.Author.Tests.{eqb-true, eqb-false}
use Rattle.lists.specs.Lists.{same_numbers}
use Rattle.blocks.proofs.Pieces.{same_first}
use Rattle.sent.specs.Found.{print_at}

-- what is wanted at place i
abbrev pub wanted : List ℕ → List ℕ → ℕ → List ℕ → ℕ → ℕ
wanted print fingerprints number before i = cond (same_numbers print (print_at fingerprints i)) number (get_or before i 0)

-- j places are done
pub record PutTo (print fingerprints : List ℕ) (number : ℕ) (before numbers : List ℕ) (j : ℕ) : Type 0 where
  pub within : j ≤ length before
  pub same : length numbers ≡ length before
  pub done : (i : ℕ) → i < j → get_or numbers i 0 ≡ wanted print fingerprints number before i
  pub rest : (i : ℕ) → j ≤ i → get_or numbers i 0 ≡ get_or before i 0

pub put_start : (print fingerprints : List ℕ) (number : ℕ) (before : List ℕ) → PutTo print fingerprints number before before 0
put_start print fingerprints number before = record { within = omega arith; same = refl; done = λ i h. absurd (omega (arith, h)); rest = λ i h. refl }

module _ {print fingerprints : List ℕ} {number : ℕ} {before numbers : List ℕ} {j : ℕ} (t : PutTo print fingerprints number before numbers j) where
  module _ (l : j < length numbers) where
    -- fingerprint j, as code lends it
    print_is : (b : Bool) → b ≡ same_numbers print (take (j * 20 + 20 - j * 20) (drop (j * 20) fingerprints)) → b ≡ same_numbers print (print_at fingerprints j)
    print_is b e =
        let n : j * 20 + 20 - j * 20 ≡ 20 = omega arith in
        rw n at e

    -- place j has what is wanted, and the others have what they had
    next : (numbers' : List ℕ) → length numbers' ≡ length numbers → get_or numbers' j 0 ≡ wanted print fingerprints number before j
        → ((i : ℕ) → ¬ (i ≡ j) → get_or numbers' i 0 ≡ get_or numbers i 0) → PutTo print fingerprints number before numbers' (j + 1)
    next numbers' e here others = record {
      within = omega (arith, t.same, l);
      same = e ∙ t.same;
      done = λ i h. go i h (eqb i j) refl;
      rest = λ i h. others i (λ q. omega (arith, h, q)) ∙ t.rest i (omega (arith, h));
    }
      where
        go : (i : ℕ) → i < j + 1 → (b : Bool) → eqb i j ≡ b → get_or numbers' i 0 ≡ wanted print fingerprints number before i
        go i h true q =
            let z : i ≡ j = eqb-true i j q in
            rw z here
        go i h false q = others i (eqb-false i j q) ∙ t.done i (omega (arith, h, eqb-false i j q))

    module _ (numbers' : List ℕ) where
      pub put_yes : numbers' ≡ set numbers j number → true ≡ same_numbers print (take (j * 20 + 20 - j * 20) (drop (j * 20) fingerprints))
          → PutTo print fingerprints number before numbers' (j + 1)
      put_yes q e =
          next numbers' (ap length q ∙ length-set numbers j number)
          (ap (λ (l : List ℕ). get_or l j 0) q ∙ get_or-set_same numbers j number 0 l ∙ ap (λ (b : Bool). cond b number (get_or before j 0)) (print_is true e))
          (λ i n. ap (λ (l : List ℕ). get_or l i 0) q ∙ get_or-set_other numbers j i number 0 n)

      pub put_no : numbers' ≡ numbers → false ≡ same_numbers print (take (j * 20 + 20 - j * 20) (drop (j * 20) fingerprints))
          → PutTo print fingerprints number before numbers' (j + 1)
      put_no q e =
          next numbers' (ap length q)
          (ap (λ (l : List ℕ). get_or l j 0) q ∙ t.rest j (omega arith) ∙ ap (λ (b : Bool). cond b number (get_or before j 0)) (print_is false e))
          (λ i n. ap (λ (l : List ℕ). get_or l i 0) q)

-- the first byte settles it
pub prints_apart : (a b : List ℕ) → length a ≡ 20 → length b ≡ 20 → ¬ (get_or a 0 0 ≡ get_or b 0 0) → false ≡ same_numbers a b
prints_apart a b la lb n =
    sym (rw (take_all 20 a (omega (arith, la)), take_all 20 b (omega (arith, lb))) at (same_first a b 0 20 (omega (arith, la)) (omega (arith, lb)) (omega arith) n))
