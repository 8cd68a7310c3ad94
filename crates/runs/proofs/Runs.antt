-- The better of two runs, and the scan past one cell, or past many that are all free or all taken.
use mathlib.Core.Path.{◌≡◌, refl, sym, ap, ap₂, ◌∙◌}
use mathlib.Core.Bool.{Bool, true, false, cond, beq}
use mathlib.Core.List.{List, [], ◌∷◌, ◌++◌, map, map-append, append-nil}
use mathlib.Core.Option.{Option, none, some}
use Prim.Native.Nat.{ℕ, zero, suc, ◌+◌, ◌-◌, ◌≤◌, ◌<◌}
use native.Mathlib.Nat.{add-zero}
use native.Mathlib.Omega.{arith}
use lib.ListN.{length, get_or, take, drop, replicate, length-drop, length-append}
use lib.Seq.{drop-drop, drop_at}
use mir.Val.{bool_byte}
use lib.Dec.{leb, ltb}
use borrow.Author.Tests.{eq-eqb, ne_eqb, lt-ltb, le-ltb, le-leb, lt-leb, leb-true}
use Rattle.lists.specs.Lists.{count}
use Rattle.lists.proofs.Counts.{count_append, count_most}
use Rattle.lists.proofs.Slices.{take_next}
use Rattle.model.specs.Runs.{better, scan, Run}
use Rattle.runs.specs.Runs.{run_found, run_of, free_if, left, found_at_end}
use Rattle.runs.specs.declared.Search.{Search}

-- ---- better

pub better_short : (need at size : ℕ) (o : Option Run) → size < need → o ≡ better need at size o
unfolding better
better_short need at size none h = rw (lt-leb need size h)
better_short need at size (some r) h = rw (lt-leb need size h)

module _ (need at size : ℕ) (h : need ≤ size) where
  pub better_first : some (record { start = at - size; cells = size }) ≡ better need at size none
  unfolding better
  better_first = rw (le-leb need size h)

  pub better_less : (r : Run) → size < r.cells → some (record { start = at - size; cells = size }) ≡ better need at size (some r)
  unfolding better
  better_less r l = rw (le-leb need size h, lt-ltb size r.cells l)

  pub better_kept : (r : Run) → r.cells ≤ size → some r ≡ better need at size (some r)
  unfolding better
  better_kept r l = rw (le-leb need size h, le-ltb size r.cells l)

-- ---- the scan past many cells

pub scan_free : (need n : ℕ) (fs : List Bool) (i k : ℕ) (best : Option Run) → scan need (replicate n true ++ fs) i k best ≡ scan need fs (i + n) (k + n) best
unfolding scan
scan_free need zero fs i k best = rw (add-zero i, add-zero k)
scan_free need (suc n) fs i k best =
    let p : suc i + n ≡ i + suc n = omega arith in
    let q : suc k + n ≡ k + suc n = omega arith in
    scan_free need n fs (suc i) (suc k) best ∙ ap₂ (λ (j l : ℕ). scan need fs j l best) p q

module _ (need : ℕ) (p : 0 < need) where
  -- no run has begun
  scan_idle : (n : ℕ) (fs : List Bool) (i : ℕ) (best : Option Run) → scan need (replicate n false ++ fs) i 0 best ≡ scan need fs (i + n) 0 best
  unfolding scan
  scan_idle zero fs i best = rw (add-zero i)
  scan_idle (suc n) fs i best =
      let q : suc i + n ≡ i + suc n = omega arith in
      ap (scan need (replicate n false ++ fs) (suc i) 0) (sym (better_short need i 0 best p)) ∙ scan_idle n fs (suc i) best ∙ ap (λ (j : ℕ). scan need fs j 0 best) q

  pub scan_taken : (n : ℕ) (fs : List Bool) (i k : ℕ) (best : Option Run) → 0 < n → scan need (replicate n false ++ fs) i k best ≡ scan need fs (i + n) 0 (better need i k best)
  unfolding scan
  scan_taken zero fs i k best h = absurd (omega arith)
  scan_taken (suc n) fs i k best h =
      let q : suc i + n ≡ i + suc n = omega arith in
      scan_idle n fs (suc i) (better need i k best) ∙ ap (λ (j : ℕ). scan need fs j 0 (better need i k best)) q

-- ---- cells that are all free or all taken, by the count of the free ones

pub same_mark : (mark free : Bool) → bool_byte (beq mark free) ≡ cond (free_if free mark) 1 0
same_mark true true = refl
same_mark true false = refl
same_mark false true = refl
same_mark false false = refl

module _ (f : Bool → Bool) where
  pub count_next : (os : List Bool) (i : ℕ) → i < length os → count f (take (i + 1) os) ≡ count f (take i os) + cond (f (get_or os i false)) 1 0
  unfolding count
  count_next os i h =
      ap (count f) (take_next os i false h)
      ∙ count_append f (take i os) (get_or os i false ∷ [])
      ∙ ap (λ (n : ℕ). count f (take i os) + n) (add-zero (cond (f (get_or os i false)) 1 0))

  pub none_free : (os : List Bool) → count f os ≡ 0 → map f os ≡ replicate (length os) false
  unfolding count
  none_free [] e = refl
  none_free (o ∷ os) e = go (f o) refl (none_free os)
    where
      go : (b : Bool) → f o ≡ b → (count f os ≡ 0 → map f os ≡ replicate (length os) false) → f o ∷ map f os ≡ false ∷ replicate (length os) false
      go true t r = absurd (omega (arith, rw t at e))
      go false t r = rw t (ap (λ (l : List Bool). false ∷ l) (r (omega (arith, rw t at e))))

  pub all_free : (os : List Bool) → count f os ≡ length os → map f os ≡ replicate (length os) true
  unfolding count
  all_free [] e = refl
  all_free (o ∷ os) e = go (f o) refl (all_free os)
    where
      go : (b : Bool) → f o ≡ b → (count f os ≡ length os → map f os ≡ replicate (length os) true) → f o ∷ map f os ≡ true ∷ replicate (length os) true
      go true t r = rw t (ap (λ (l : List Bool). true ∷ l) (r (omega (arith, rw t at e))))
      go false t r = absurd (omega (arith, rw t at e, count_most f os))

  -- the next n of the cells from `at` on
  pub piece_next : (os rest piece more : List Bool) (at n : ℕ) → rest ≡ drop at os → rest ≡ piece ++ more → length piece ≡ n → at ≤ length os
      → (more ≡ drop (at + n) os) × (map f (drop at os) ≡ map f piece ++ map f (drop (at + n) os)) × (at + n ≤ length os)
  piece_next os rest piece more at n e s l h =
      let m : more ≡ drop (at + n) os = sym (drop_at piece more n l) ∙ ap (drop n) (sym s ∙ e) ∙ drop-drop n at os in
      let k : length piece + length more ≡ length os - at = sym (length-append piece more) ∙ ap length (sym s ∙ e) ∙ length-drop at os in
      (m, ap (map f) (sym e ∙ s) ∙ map-append f piece more ∙ ap (λ (x : List Bool). map f piece ++ map f x) m, omega (arith, k, l))

module _ (free : Bool) (need : ℕ) (os : List Bool) (from to : Search) where
  -- a search that is past a part of the cells finds the same
  pub went : (part : List Bool) (m : ℕ) → to.at ≡ m → ((fs : List Bool) → left need fs to ≡ left need (map (free_if free) part ++ fs) from)
      → map (free_if free) (drop from.at os) ≡ map (free_if free) part ++ map (free_if free) (drop m os)
      → found_at_end free need os to ≡ found_at_end free need os from
  went part m e h p =
      ap (λ (k : ℕ). left need (map (free_if free) (drop k os)) to) e
      ∙ h (map (free_if free) (drop m os))
      ∙ ap (λ (fs : List Bool). left need fs from) (sym p)

  -- and one that is past all of them has found it, but for the run that ends there
  pub went_all : (rest : List Bool) → rest ≡ drop from.at os → ((fs : List Bool) → left need fs to ≡ left need (map (free_if free) rest ++ fs) from)
      → better need to.at to.run (run_found to.best) ≡ found_at_end free need os from
  unfolding scan
  went_all rest e h = h [] ∙ ap (λ (fs : List Bool). left need fs from) (append-nil (map (free_if free) rest) ∙ ap (map (free_if free)) e)

-- ---- the end

-- a run that just fits stays the best
better_fits : (need i k start : ℕ) → better need i k (some (record { start = start; cells = need })) ≡ some (record { start = start; cells = need })
unfolding better
better_fits need i k start = go (leb need k) refl
  where
    go : (b : Bool) → leb need k ≡ b → better need i k (some (record { start = start; cells = need })) ≡ some (record { start = start; cells = need })
    go true e = rw (e, le-ltb k need (leb-true need k e))
    go false e = rw e

scan_some : (need : ℕ) (fs : List Bool) (i k start : ℕ) → scan need fs i k (some (record { start = start; cells = need })) ≡ some (record { start = start; cells = need })
unfolding scan
scan_some need [] i k start = better_fits need i k start
scan_some need (true ∷ fs) i k start = scan_some need fs (suc i) (suc k) start
scan_some need (false ∷ fs) i k start = rw (better_fits need i k start) (scan_some need fs (suc i) 0 start)

pub scan_fits : (need : ℕ) (fs : List Bool) (i k : ℕ) (r : Run) → r.cells ≡ need → some r ≡ scan need fs i k (some r)
scan_fits need fs i k r e = rw e (sym (scan_some need fs i k r.start))

-- ---- a run that is found is long enough

size_or : ℕ → Option Run → ℕ
size_or d none = d
size_or d (some r) = r.cells

better_long : (need i k : ℕ) (o : Option Run) → need ≤ size_or need o → need ≤ size_or need (better need i k o)
unfolding better size_or
better_long need i k none h = go (leb need k) refl
  where
    go : (b : Bool) → leb need k ≡ b → need ≤ size_or need (cond b (some (record { start = i - k; cells = k })) none)
    go true e = leb-true need k e
    go false e = h
better_long need i k (some r) h = go (leb need k) (ltb k r.cells) refl
  where
    go : (b t : Bool) → leb need k ≡ b → need ≤ size_or need (cond b (cond t (some (record { start = i - k; cells = k })) (some r)) (some r))
    go true true e = leb-true need k e
    go true false e = h
    go false t e = h

scan_long : (need : ℕ) (fs : List Bool) (i k : ℕ) (o : Option Run) → need ≤ size_or need o → need ≤ size_or need (scan need fs i k o)
unfolding scan
scan_long need [] i k o h = better_long need i k o h
scan_long need (true ∷ fs) i k o h = scan_long need fs (suc i) (suc k) o h
scan_long need (false ∷ fs) i k o h = scan_long need fs (suc i) 0 (better need i k o) (better_long need i k o h)

pub found_long : (need : ℕ) (fs : List Bool) (r : Run) → some r ≡ scan need fs 0 0 none → need ≤ r.cells
unfolding size_or
found_long need fs r e = omega (arith, ap (size_or need) e, scan_long need fs 0 0 none (omega arith))

-- a run of no cells is none, and any other is one
pub run_none : (start size : ℕ) → size ≡ 0 → run_of start size ≡ none
unfolding run_of
run_none start size e = rw (eq-eqb size 0 e)

pub run_some : (start size : ℕ) → (size ≡ 0 → ⊥) → run_of start size ≡ some (record { start = start; cells = size })
unfolding run_of
run_some start size n = rw (ne_eqb size 0 n)
