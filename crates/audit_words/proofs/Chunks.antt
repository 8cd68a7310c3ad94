-- Rows as `chunks_exact` gives them: one comes off the front of what is left, until less than a row is left.
use Rattle.std.proofs.Common.{◌≡◌, ℕ, suc, ◌+◌, ◌*◌, ◌/◌, ◌<◌, List, [], ◌∷◌, ◌++◌, length, get_or, take, drop, length-append, length-drop, refl, sym, ap, ◌∙◌, arith}
use Rattle.std.proofs.Math.Nat.{div-eq_of_lt, add-div_right}
use lib.Seq.{take_at, drop_at, drop-drop, get_or-drop}
use Rattle.lists.specs.Rows.{parts, chunks}
use Rattle.lists.specs.Each.{Each}
use Rattle.lists.proofs.Places.{in_row, row_next}

module _ {A : Type 0} (k : ℕ) where
  pub chunks_row : (ws x rest : List A) → ws ≡ x ++ rest → length x ≡ k → 0 < k → chunks k ws ≡ x ∷ chunks k rest
  unfolding chunks parts
  chunks_row ws x rest e l p =
      let m : length ws ≡ length rest + k = omega (arith, ap length e, length-append x rest) in
      let n : length ws / k ≡ suc (length rest / k) = ap (λ (i : ℕ). i / k) m ∙ omega (arith, add-div_right (length rest) p) in
      rw (n, e, take_at x rest k l, drop_at x rest k l) refl

  pub chunks_end : (ws : List A) → length ws < k → chunks k ws ≡ []
  unfolding chunks parts
  chunks_end ws h = let n : length ws / k ≡ 0 = div-eq_of_lt h in rw n refl

-- what holds of every row
module _ {A : Type 0} (P : List A → Type 0) {k : ℕ} (ws : List A) where
  pub each_row : (x rest : List A) → ws ≡ x ++ rest → length x ≡ k → 0 < k → Each P (chunks k ws) → P x × Each P (chunks k rest)
  each_row x rest e l p h = rw (chunks_row k ws x rest e l p) at h

  pub row_each : (x rest : List A) → ws ≡ x ++ rest → length x ≡ k → 0 < k → P x × Each P (chunks k rest) → Each P (chunks k ws)
  row_each x rest e l p h = rw (chunks_row k ws x rest e l p) h

  pub each_end : length ws < k → Each P (chunks k ws)
  each_end h = rw (chunks_end k ws h) tt

-- row `k`, as it comes off the front of what is left
module _ {A : Type 0} (ws x rest : List A) (k w : ℕ) (e : drop (k * w) ws ≡ x ++ rest) (l : length x ≡ w) where
  pub front : take w (drop (k * w) ws) ≡ x
  front = rw e (take_at x rest w l)

  pub behind : drop ((k + 1) * w) ws ≡ rest
  behind = ap (λ (i : ℕ). drop i ws) (row_next k w) ∙ sym (drop-drop w (k * w) ws) ∙ ap (drop w) e ∙ drop_at x rest w l

  pub one_of : 0 < w → k < length ws / w
  one_of p = in_row (length ws) w p k (omega (arith, length-drop (k * w) ws, ap length e, length-append x rest))

-- element `k`, as it comes off the front of what is left
module _ {A : Type 0} (xs : List A) (x : A) (rest : List A) (k : ℕ) (e : drop k xs ≡ x ∷ rest) where
  pub front_one : (d : A) → get_or xs k d ≡ x
  front_one d = let z : k + 0 ≡ k = omega arith in ap (λ (i : ℕ). get_or xs i d) (sym z) ∙ sym (get_or-drop k xs 0 d) ∙ ap (λ (l : List A). get_or l 0 d) e

  pub behind_one : drop (k + 1) xs ≡ rest
  behind_one = sym (drop-drop 1 k xs) ∙ ap (drop 1) e

-- one more was taken
pub one_more : {A : Type 0} (xs : List A) (x : A) → length (xs ++ (x ∷ [])) ≡ length xs + 1
one_more xs x = length-append xs (x ∷ [])
