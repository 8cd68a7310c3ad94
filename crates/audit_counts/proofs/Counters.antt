-- Laws of the counters.
use mathlib.Core.Path.{◌≡◌, refl, sym, ap, ◌∙◌}
use mathlib.Core.Bool.{Bool, true, false, cond}
use mathlib.Core.List.{List, [], ◌∷◌, ◌++◌}
use Prim.Native.Nat.{ℕ, zero, suc, ◌+◌, ◌/◌, ◌%◌, ◌^◌, ◌≤◌, ◌<◌}
use native.Mathlib.Nat.{zero-add}
use native.Mathlib.Omega.{arith}
use borrow.Author.Tests.{eq-eqb, ne_eqb, eqb-true, eqb-false}
use lib.Dec.{eqb}
use lib.ListN.{length, drop, get_or, set, replicate, length-set, length-replicate}
use lib.Seq.{get_or-set_same, get_or-set_other}
use Rattle.lists.specs.Lists.{count}
use Rattle.lists.proofs.Slices.{drop_next, drop_end}
use Rattle.model.specs.Table.{kind_unit}
use Rattle.audit_counts.specs.Counters.{bumped, counts_after, count_to}

-- ---- bumped

-- adding 1 at a place adds at most 1 anywhere
raised_le : (cs : List ℕ) (i k : ℕ) → get_or (set cs i (get_or cs i 0 + 1)) k 0 ≤ get_or cs k 0 + 1
raised_le [] i k = omega arith
raised_le (c ∷ cs) zero zero = omega arith
raised_le (c ∷ cs) zero (suc k) = omega arith
raised_le (c ∷ cs) (suc i) zero = omega arith
raised_le (c ∷ cs) (suc i) (suc k) = raised_le cs i k

module _ (w : ℕ) (cs : List ℕ) where
  abbrev raised : List ℕ
  raised = set cs (w % kind_unit) (get_or cs (w % kind_unit) 0 + 1)

  pub bumped_le : (k : ℕ) → get_or (bumped w cs) k 0 ≤ get_or cs k 0 + 1
  unfolding bumped
  bumped_le k = go (eqb (w / kind_unit) 1)
    where
      go : (t : Bool) → get_or (cond t raised cs) k 0 ≤ get_or cs k 0 + 1
      go true = raised_le cs (w % kind_unit) k
      go false = omega arith

  bumped_length : length (bumped w cs) ≡ length cs
  unfolding bumped
  bumped_length = go (eqb (w / kind_unit) 1)
    where
      go : (t : Bool) → length (cond t raised cs) ≡ length cs
      go true = simp length-set
      go false = refl

  bumped_at : (k : ℕ) → k < length cs → k < kind_unit → get_or (bumped w cs) k 0 ≡ get_or cs k 0 + cond (eqb w (kind_unit + k)) 1 0
  unfolding bumped
  bumped_at k l s = go (eqb (w / kind_unit) 1) (eqb (w % kind_unit) k) refl refl
    where
      go : (t u : Bool) → eqb (w / kind_unit) 1 ≡ t → eqb (w % kind_unit) k ≡ u → get_or (cond t raised cs) k 0 ≡ get_or cs k 0 + cond (eqb w (kind_unit + k)) 1 0
      go true true e f =
          let a = eqb-true (w / kind_unit) 1 e in
          let b = eqb-true (w % kind_unit) k f in
          rw (eq-eqb w (kind_unit + k) (omega arith), b) (get_or-set_same cs k _ 0 l)
      go true false e f =
          let a = eqb-true (w / kind_unit) 1 e in
          let b = eqb-false (w % kind_unit) k f in
          rw (ne_eqb w (kind_unit + k) (λ z. b (omega arith)), get_or-set_other cs (w % kind_unit) k _ 0 (λ z. b (sym z))) (omega arith)
      go false u e f =
          let a = eqb-false (w / kind_unit) 1 e in
          rw (ne_eqb w (kind_unit + k) (λ z. a (omega arith))) (omega arith)

-- a word of another kind is not counted
pub bumped_other : (w : ℕ) (cs : List ℕ) → (w / 16777216 ≡ 1 → ⊥) → cs ≡ bumped w cs
unfolding bumped
bumped_other w cs h = rw (ne_eqb (w / kind_unit) 1 h)

-- ---- tallied

pub tallied_turn : (ws : List ℕ) (i : ℕ) (cs : List ℕ) → i < length ws → counts_after (drop i ws) cs ≡ counts_after (drop (i + 1) ws) (bumped (get_or ws i 0) cs)
unfolding counts_after
tallied_turn ws i cs h = rw (drop_next ws i 0 h)

pub tally_done : (ws : List ℕ) (i : ℕ) (cs ts : List ℕ) → length ws ≤ i → counts_after (drop i ws) cs ≡ ts → cs ≡ ts
unfolding counts_after
tally_done ws i cs ts h e = rw (drop_end ws i h) at e

-- each counter grows by the number of direct pointers to its position
tallied_at : (ws cs : List ℕ) (k : ℕ) → k < length cs → k < kind_unit → get_or (counts_after ws cs) k 0 ≡ get_or cs k 0 + count_to k ws
unfolding counts_after count_to count
tallied_at [] cs k l s = omega arith
tallied_at (w ∷ ws) cs k l s =
    omega (arith, tallied_at ws (bumped w cs) k (omega (arith, bumped_length w cs)) s, bumped_at w cs k l s)

pub tallied_length : (ws cs : List ℕ) → length (counts_after ws cs) ≡ length cs
unfolding counts_after
tallied_length [] cs = refl
tallied_length (w ∷ ws) cs = tallied_length ws (bumped w cs) ∙ bumped_length w cs

-- a counter grows by no more than there are words
pub tallied_le : (ws cs : List ℕ) (k : ℕ) → get_or (counts_after ws cs) k 0 ≤ get_or cs k 0 + length ws
unfolding counts_after
tallied_le [] cs k = omega arith
tallied_le (w ∷ ws) cs k = omega (arith, tallied_le ws (bumped w cs) k, bumped_le w cs k)

pub tallied_append : (xs ys cs : List ℕ) → counts_after (xs ++ ys) cs ≡ counts_after ys (counts_after xs cs)
unfolding counts_after
tallied_append [] ys cs = refl
tallied_append (x ∷ xs) ys cs = tallied_append xs ys (bumped x cs)

-- ---- from counters of zero

zeros_at : (n k : ℕ) → ◌≡◌ {A = ℕ} (get_or (replicate n 0) k 0) 0
zeros_at zero k = refl
zeros_at (suc n) zero = refl
zeros_at (suc n) (suc k) = zeros_at n k

pub zeros_fit : (n k m : ℕ) → m ≤ 2000000 → get_or (replicate {A = ℕ} n 0) k 0 + m < 2 ^ 32
zeros_fit n k m h = omega (arith, zeros_at n k)

pub tallied_zeros : (n : ℕ) (ws : List ℕ) (k : ℕ) → k < n → n ≤ 65536 → get_or (counts_after ws (replicate n 0)) k 0 ≡ count_to k ws
tallied_zeros n ws k h g =
    tallied_at ws (replicate n 0) k (rw (length-replicate {A = ℕ} n 0) h) (omega arith) ∙ ap (λ (x : ℕ). x + count_to k ws) (zeros_at n k) ∙ zero-add (count_to k ws)
