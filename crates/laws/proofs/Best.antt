-- The run that is found is the page's: the shortest maximal run of free cells that is long enough, the lowest of equals; none only where there is
-- no such run.
use mathlib.Core.Path.{◌≡◌, refl, sym, ap, ◌∙◌, subst}
use mathlib.Core.Logic.{◌⊎◌, inl, inr}
use mathlib.Core.Bool.{Bool, true, false, false≢true}
use mathlib.Core.List.{List, [], ◌∷◌}
use mathlib.Core.Option.{Option, none, some}
use Prim.Native.Nat.{ℕ, zero, suc, ◌+◌, ◌-◌, ◌≤◌, ◌<◌}
use native.Mathlib.Nat.{add-zero, add-suc, not-suc-le-zero}
use native.Mathlib.Omega.{arith}
use lib.ListN.{get_or}
use lib.Dec.{leb, ltb, eqb}
use borrow.Author.Tests.{leb-true, leb-false, ltb-true, ltb-false, eqb-true, eqb-false}
use Rattle.model.specs.State.{Storage}
use Rattle.model.specs.Runs.{Run, free_cells, better, scan, find_run}
use Rattle.lists.proofs.Tests.{by_test}

module _ (free : List Bool) where
  -- `l` free cells from `a`, and none before or after
  pub record Maximal (a l : ℕ) : Type 0 where
    pub some : 0 < l
    pub all : (j : ℕ) → j < l → get_or free (a + j) false ≡ true
    pub after : get_or free (a + l) false ≡ false
    pub before : (p : ℕ) → a ≡ suc p → get_or free p false ≡ false

  -- shorter, or as long and not higher
  abbrev pub NotWorse : Run → ℕ → ℕ → Type 0
  NotWorse r a l = (r.cells < l) ⊎ ((r.cells ≡ l) × (r.start ≤ a))

  pub record BestRun (need n : ℕ) (r : Run) : Type 0 where
    pub maximal : Maximal r.start r.cells
    pub enough : need ≤ r.cells
    pub inside : r.start < n
    pub least : (a l : ℕ) → Maximal a l → a < n → need ≤ l → NotWorse r a l

  -- the best of the maximal runs that start before `n`
  abbrev pub Best : ℕ → ℕ → Option Run → Type 0
  Best need n none = (a l : ℕ) → Maximal a l → a < n → need ≤ l → ⊥
  Best need n (some r) = BestRun need n r

  no_yes : (i : ℕ) → get_or free i false ≡ true → get_or free i false ≡ false → ⊥
  no_yes i y n = false≢true (sym n ∙ y)

  -- the `k` cells from `a` are free, the one before them is not, and neither is the one after them
  module _ (a k : ℕ) (streak : (j : ℕ) → j < k → get_or free (a + j) false ≡ true) (low : (p : ℕ) → a ≡ suc p → get_or free p false ≡ false)
      (high : get_or free (a + k) false ≡ false) where
    itself : 0 < k → Maximal a k
    itself h = record { some = h; all = streak; after = high; before = low }

    -- a maximal run up to here starts before, or is this one
    which : (a' l' : ℕ) → Maximal a' l' → a' < suc (a + k) → (a' < a) ⊎ ((a' ≡ a) × (l' ≡ k))
    which a' l' m h = go (ltb a' a) refl
      where
        same : (j : ℕ) → a' ≡ a + j → (a' ≡ a) × (l' ≡ k)
        same zero e = (e ∙ add-zero a, size (ltb l' k) (ltb k l') refl refl)
          where
            start : a' ≡ a
            start = e ∙ add-zero a

            size : (x y : Bool) → ltb l' k ≡ x → ltb k l' ≡ y → l' ≡ k
            size true y q r =
                absurd (no_yes (a + l') (streak l' (ltb-true l' k q)) (ap (λ (i : ℕ). get_or free (i + l') false) (sym start) ∙ m.after))
            size false true q r =
                absurd (no_yes (a + k) (ap (λ (i : ℕ). get_or free (i + k) false) (sym start) ∙ m.all k (ltb-true k l' r)) high)
            size false false q r = omega (arith, ltb-false l' k q, ltb-false k l' r)
        same (suc j) e = absurd (inner (ltb (suc j) k) refl)
          where
            one : a' ≡ suc (a + j)
            one = e ∙ add-suc a j

            inner : (x : Bool) → ltb (suc j) k ≡ x → ⊥
            inner true q = no_yes (a + j) (streak j (omega (arith, ltb-true (suc j) k q))) (m.before (a + j) one)
            inner false q =
                let there : a' ≡ a + k = omega (arith, h, one, ltb-false (suc j) k q) in
                no_yes (a + k) (ap (λ (i : ℕ). get_or free i false) (sym (add-zero a' ∙ there)) ∙ m.all 0 m.some) high

        go : (x : Bool) → ltb a' a ≡ x → (a' < a) ⊎ ((a' ≡ a) × (l' ≡ k))
        go true q = inl (ltb-true a' a q)
        go false q = inr (same (a' - a) (omega (arith, ltb-false a' a q)))

    module _ (need : ℕ) (pos : 0 < need) where
      taken : need ≤ k → ((a' l' : ℕ) → Maximal a' l' → a' < a → need ≤ l' → k < l') → Best need (suc (a + k)) (some (record { start = a + k - k; cells = k }))
      taken n f =
          let e : a ≡ a + k - k = omega arith in
          record {
            maximal = subst (λ (i : ℕ). Maximal i k) e (itself (omega (arith, n, pos)));
            enough = n;
            inside = omega arith;
            least = λ a' l' m h q. by_which a' l' m q (which a' l' m h);
          }
        where
          by_which : (a' l' : ℕ) → Maximal a' l' → need ≤ l' → (a' < a) ⊎ ((a' ≡ a) × (l' ≡ k)) → NotWorse (record { start = a + k - k; cells = k }) a' l'
          by_which a' l' m q (inl w) = inl (f a' l' m w q)
          by_which a' l' m q (inr w) = inr (sym w.1, omega (arith, w.0))

      pub better_best : (o : Option Run) → Best need a o → Best need (suc (a + k)) (better need (a + k) k o)
      unfolding better
      better_best none b =
          by_test (Best need (suc (a + k))) (leb need k) (λ e. taken (leb-true need k e) (λ a' l' m w q. absurd (b a' l' m w q)))
          (λ e a' l' m h q. by_which a' l' m q (which a' l' m h) (leb-false need k e))
        where
          by_which : (a' l' : ℕ) → Maximal a' l' → need ≤ l' → (a' < a) ⊎ ((a' ≡ a) × (l' ≡ k)) → k < need → ⊥
          by_which a' l' m q (inl w) s = b a' l' m w q
          by_which a' l' m q (inr w) s = not-suc-le-zero (let z : 1 ≤ 0 = omega (arith, w.1, q, s) in z)
      better_best (some r) b =
          by_test (Best need (suc (a + k))) (leb need k)
          (λ e. by_test (Best need (suc (a + k))) (ltb k r.cells) (λ g. taken (leb-true need k e) (λ a' l' m w q. shorter (b.least a' l' m w q) (ltb-true k r.cells g)))
          (λ g. is_referenced (λ a' l' m q w. later w.1 w.0 (ltb-false k r.cells g))))
          (λ e. is_referenced (λ a' l' m q w. absurd (not-suc-le-zero (let z : 1 ≤ 0 = omega (arith, w.1, q, leb-false need k e) in z))))
        where
          shorter : {a' l' : ℕ} → NotWorse r a' l' → k < r.cells → k < l'
          shorter (inl x) g = omega (arith, x, g)
          shorter (inr x) g = omega (arith, x.0, g)

          later : {a' l' : ℕ} → l' ≡ k → a' ≡ a → r.cells ≤ k → NotWorse r a' l'
          later {a'} {l'} e s g = go (eqb r.cells l') refl
            where
              go : (x : Bool) → eqb r.cells l' ≡ x → NotWorse r a' l'
              go true q = inr (eqb-true r.cells l' q, omega (arith, b.inside, s))
              go false q = inl (omega (arith, eqb-false r.cells l' q, e, g))

          is_referenced : ((a' l' : ℕ) → Maximal a' l' → need ≤ l' → (a' ≡ a) × (l' ≡ k) → NotWorse r a' l') → Best need (suc (a + k)) (some r)
          is_referenced f = record {
            maximal = b.maximal;
            enough = b.enough;
            inside = omega (arith, b.inside);
            least = λ a' l' m h q. by_which a' l' m q (which a' l' m h);
          }
            where
              by_which : (a' l' : ℕ) → Maximal a' l' → need ≤ l' → (a' < a) ⊎ ((a' ≡ a) × (l' ≡ k)) → NotWorse r a' l'
              by_which a' l' m q (inl w) = b.least a' l' m w q
              by_which a' l' m q (inr w) = f a' l' m q w

  -- the list from place `a + k`
  scan_best : (need : ℕ) → 0 < need → (fs : List Bool) (a k : ℕ) (o : Option Run)
      → ((j : ℕ) → get_or fs j false ≡ get_or free (a + k + j) false)
      → ((j : ℕ) → j < k → get_or free (a + j) false ≡ true) → ((p : ℕ) → a ≡ suc p → get_or free p false ≡ false) → Best need a o
      → (n : ℕ) × ((i : ℕ) → n ≤ i → get_or free i false ≡ false) × Best need (suc n) (scan need fs (a + k) k o)
  unfolding scan
  scan_best need pos [] a k o h streak low b = (
    a + k,
    λ i g. ap (λ (j : ℕ). get_or free j false) (let z : i ≡ a + k + (i - (a + k)) = omega (arith, g) in z) ∙ sym (h (i - (a + k))),
    better_best a k streak low (ap (λ (j : ℕ). get_or free j false) (sym (add-zero (a + k))) ∙ sym (h 0)) need pos o b,
  )
  scan_best need pos (true ∷ fs) a k o h streak low b =
      let e : suc (a + k) ≡ a + suc k = sym (add-suc a k) in
      subst (λ (i : ℕ). (n : ℕ) × ((j : ℕ) → n ≤ j → get_or free j false ≡ false) × Best need (suc n) (scan need fs i (suc k) o)) (sym e)
      (scan_best need pos fs a (suc k) o (λ j. h (suc j) ∙ ap (λ (i : ℕ). get_or free i false) (let z : a + k + suc j ≡ a + suc k + j = omega arith in z))
      (λ j l. more j (ltb j k) refl l) low b)
    where
      more : (j : ℕ) (x : Bool) → ltb j k ≡ x → j < suc k → get_or free (a + j) false ≡ true
      more j true q l = streak j (ltb-true j k q)
      more j false q l =
          ap (λ (i : ℕ). get_or free i false) (let z : a + j ≡ a + k + 0 = omega (arith, ltb-false j k q, l) in z) ∙ sym (h 0)
  scan_best need pos (false ∷ fs) a k o h streak low b =
      let closed : get_or free (a + k) false ≡ false = ap (λ (j : ℕ). get_or free j false) (sym (add-zero (a + k))) ∙ sym (h 0) in
      let next : Best need (suc (a + k)) (better need (a + k) k o) = better_best a k streak low closed need pos o b in
      let e : suc (a + k) ≡ suc (a + k) + 0 = sym (add-zero (suc (a + k))) in
      subst (λ (i : ℕ). (n : ℕ) × ((j : ℕ) → n ≤ j → get_or free j false ≡ false) × Best need (suc n) (scan need fs i 0 (better need (a + k) k o))) (sym e)
      (scan_best need pos fs (suc (a + k)) 0 (better need (a + k) k o)
      (λ j. h (suc j) ∙ ap (λ (i : ℕ). get_or free i false) (let z : a + k + suc j ≡ suc (a + k) + 0 + j = omega arith in z))
      (λ j l. absurd (not-suc-le-zero l)) (λ p q. ap (λ (i : ℕ). get_or free i false) (let z : p ≡ a + k = omega (arith, q) in z) ∙ closed) next)

-- ---- find_run

pub record BestOf (free : List Bool) (need : ℕ) (r : Run) : Type 0 where
  pub maximal : Maximal free r.start r.cells
  pub enough : need ≤ r.cells
  pub least : (a l : ℕ) → Maximal free a l → need ≤ l → (r.cells < l) ⊎ ((r.cells ≡ l) × (r.start ≤ a))

abbrev pub IsBest : List Bool → ℕ → Option Run → Type 0
IsBest free need none = (a l : ℕ) → Maximal free a l → need ≤ l → ⊥
IsBest free need (some r) = BestOf free need r

pub find_best : (storage : Storage) (need : ℕ) → 0 < need → IsBest (free_cells storage) need (find_run storage need)
unfolding find_run
find_best storage need pos =
    let free : List Bool = free_cells storage in
    let r = scan_best free need pos free 0 0 none (λ j. ap (λ (i : ℕ). get_or free i false) (let z : j ≡ 0 + 0 + j = omega arith in z)) (λ j l. absurd (not-suc-le-zero l))
    (λ p e. absurd (not-suc-le-zero (let z : 1 ≤ 0 = omega (arith, e) in z))) (λ a l m h n. not-suc-le-zero h) in
    all (scan need free 0 0 none) r.0 r.1 r.2
  where
    before : (n : ℕ) → ((i : ℕ) → n ≤ i → get_or (free_cells storage) i false ≡ false) → (a l : ℕ) → Maximal (free_cells storage) a l → a < suc n
    before n e a l m = go (ltb a (suc n)) refl
      where
        go : (x : Bool) → ltb a (suc n) ≡ x → a < suc n
        go true q = ltb-true a (suc n) q
        go false q =
            absurd (false≢true (sym (e a (omega (arith, ltb-false a (suc n) q))) ∙ ap (λ (i : ℕ). get_or (free_cells storage) i false) (sym (add-zero a)) ∙ m.all 0 m.some))

    all : (o : Option Run) (n : ℕ) → ((i : ℕ) → n ≤ i → get_or (free_cells storage) i false ≡ false) → Best (free_cells storage) need (suc n) o → IsBest (free_cells storage) need o
    all none n e b = λ a l m q. b a l m (before n e a l m) q
    all (some r) n e b = record { maximal = b.maximal; enough = b.enough; least = λ a l m q. b.least a l m (before n e a l m) q }

-- ---- the first that passes a test
