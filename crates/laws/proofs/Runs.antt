-- A run that the search finds is free and long enough.
use mathlib.Core.Path.{◌≡◌, refl, sym, ◌∙◌, subst}
use mathlib.Core.Bool.{Bool, true, false, not, false≢true}
use mathlib.Core.List.{List, [], ◌∷◌}
use mathlib.Core.Option.{Option, none, some}
use Prim.Native.Nat.{ℕ, suc, ◌+◌, ◌-◌, ◌≤◌, ◌<◌, suc-le-suc}
use native.Mathlib.Nat.{zero-add, suc-add, add-suc, add-zero, not-suc-le-zero, zero-lt-suc}
use native.Mathlib.Omega.{arith}
use lib.ListN.{length, get_or}
use lib.Dec.{leb, ltb}
use borrow.Author.Tests.{leb-true, ltb-true, ltb-false}
use Rattle.lists.specs.Lists.{counted, is_in, uses}
use Rattle.model.specs.State.{Storage}
use Rattle.model.specs.Records.{named_cells}
use Rattle.model.specs.Runs.{Run, free_cells, better, scan, find_run}
use Rattle.lists.proofs.Counted.{counted_at, length_counted}
use Rattle.lists.proofs.Tests.{by_test}
use Rattle.lists.proofs.Uses.{not_in}

module _ (F : ℕ → Type 0) (need : ℕ) where
  pub record RunOk (run : Run) : Type 0 where
    pub enough : need ≤ run.cells
    pub free : (j : ℕ) → j < run.cells → F (run.start + j)

  abbrev pub FoundOk : Option Run → Type 0
  FoundOk none = Unit {0}
  FoundOk (some run) = RunOk run

  this_run : (a i k : ℕ) → a + k ≡ i → ((j : ℕ) → j < k → F (a + j)) → leb need k ≡ true → RunOk (record { start = i - k; cells = k })
  this_run a i k e f h = record { enough = leb-true need k h; free = λ j b. subst (λ (x : ℕ). F (x + j)) (let q : a ≡ i - k = omega (arith, e) in q) (f j b) }

  better_ok : (a i k : ℕ) (best : Option Run) → a + k ≡ i → ((j : ℕ) → j < k → F (a + j)) → FoundOk best → FoundOk (better need i k best)
  unfolding better
  better_ok a i k none e f o = by_test FoundOk (leb need k) (λ h. this_run a i k e f h) (λ h. tt)
  better_ok a i k (some best) e f o =
      by_test FoundOk (leb need k) (λ h. by_test FoundOk (ltb k best.cells) (λ q. this_run a i k e f h) (λ q. o)) (λ h. o)

  scan_ok : (fs : List Bool) (a i k : ℕ) (best : Option Run) → a + k ≡ i → ((j : ℕ) → j < k → F (a + j))
      → ((j : ℕ) → j < length fs → get_or fs j false ≡ true → F (i + j)) → FoundOk best → FoundOk (scan need fs i k best)
  unfolding scan
  scan_ok [] a i k best e f g o = better_ok a i k best e f o
  scan_ok (true ∷ fs) a i k best e f g o =
      scan_ok fs a (suc i) (suc k) best (omega (arith, e)) longer
      (λ j b t. subst F (add-suc i j ∙ sym (suc-add i j)) (g (suc j) (suc-le-suc b) t)) o
    where
      here : F (a + k)
      here = subst F (add-zero i ∙ sym e) (g 0 (zero-lt-suc (length fs)) refl)

      longer : (j : ℕ) → j < suc k → F (a + j)
      longer j b = go (ltb j k) refl
        where
          go : (t : Bool) → ltb j k ≡ t → F (a + j)
          go true q = f j (ltb-true j k q)
          go false q = subst (λ (x : ℕ). F (a + x)) (let z : k ≡ j = omega (arith, b, ltb-false j k q) in z) here
  scan_ok (false ∷ fs) a i k best e f g o =
      scan_ok fs (suc i) (suc i) 0 (better need i k best) (add-zero (suc i)) (λ j b. absurd (not-suc-le-zero b))
      (λ j b t. subst F (add-suc i j ∙ sym (suc-add i j)) (g (suc j) (suc-le-suc b) t)) (better_ok a i k best e f o)

-- a cell that no position names
pub record Free (storage : Storage) (c : ℕ) : Type 0 where
  pub unnamed : uses c (named_cells storage.records) ≡ 0
  pub inside : c < length storage.cells

pub find_ok : (storage : Storage) (need : ℕ) → FoundOk (Free storage) need (find_run storage need)
unfolding find_run free_cells
find_ok storage need =
    scan_ok (Free storage) need (counted f 0 n) 0 0 0 none refl (λ j b. absurd (not-suc-le-zero b)) free tt
  where
    n : ℕ
    n = length storage.cells

    f : ℕ → Bool
    f c = not (is_in c (named_cells storage.records))

    unn : (c : ℕ) (b : Bool) → is_in c (named_cells storage.records) ≡ b → not b ≡ true → uses c (named_cells storage.records) ≡ 0
    unn c true e t = absurd (false≢true t)
    unn c false e t = not_in c (named_cells storage.records) e

    free : (j : ℕ) → j < length (counted f 0 n) → get_or (counted f 0 n) j false ≡ true → Free storage (0 + j)
    free j b t =
        let b' : j < n = subst (λ (x : ℕ). j < x) (length_counted f 0 n) b in
        record {
          unnamed = unn (0 + j) (is_in (0 + j) (named_cells storage.records)) refl (sym (counted_at f 0 n j false b') ∙ t);
          inside = subst (λ (x : ℕ). x < n) (sym (zero-add j)) b';
        }
