-- The positions that a record's words are read as.
use mathlib.Core.Path.{◌≡◌, refl, sym, ap, ap₂, ◌∙◌}
use mathlib.Core.Bool.{false}
use mathlib.Core.List.{List, [], ◌∷◌}
use Prim.Native.Nat.{ℕ, zero, suc, ◌+◌, ◌/◌, ◌%◌, ◌≤◌, ◌<◌}
use native.Mathlib.Nat.{not-suc-le-zero, le_of_suc-le-suc, suc_inj}
use native.Mathlib.Omega.{arith}
use lib.ListN.{length, get_or, take, drop, length-drop, get_or-eq_default}
use lib.Seq.{get_or-take, get_or-drop, length-take-le}
use Rattle.lists.proofs.Masks.{bit_zero, half_bit}
use Rattle.model.specs.Measures.{record_words}
use Rattle.model.specs.State.{null_position, held}
use Rattle.model.specs.Records.{is_held, cell_of}
use Rattle.model.specs.Table.{position_of, positions_in, segment_in}
use Rattle.audit_words.specs.Words.{bit_of}

-- ---- position_of

pub position_held : (h r b c n : ℕ) → h ≡ 1 → position_of h r b c n ≡ held c n
unfolding position_of
position_held zero r b c n e = absurd (omega arith)
position_held (suc h) r b c n e = refl

-- a bit is 0 or 1
pub bit_off : (m i : ℕ) → (bit_of m i ≡ 1 → ⊥) → bit_of m i ≡ 0
bit_off m i h = omega arith

module _ (h r b c n : ℕ) (e : h ≡ 0) where
  pub other_held : is_held (position_of h r b c n) ≡ false
  unfolding position_of
  other_held = rw e (go r b)
    where
      go : (r b : ℕ) → is_held (position_of 0 r b c n) ≡ false
      go zero zero = refl
      go zero (suc b) = refl
      go (suc r) b = refl

  pub other_cell : cell_of (position_of h r b c n) ≡ 0
  unfolding position_of
  other_cell = rw e (go r b)
    where
      go : (r b : ℕ) → cell_of (position_of 0 r b c n) ≡ 0
      go zero zero = refl
      go zero (suc b) = refl
      go (suc r) b = refl

-- ---- positions_in

pub length_positions : (h r b : ℕ) (cs ns : List ℕ) → length cs ≡ length ns → length (positions_in h r b cs ns) ≡ length cs
unfolding positions_in
length_positions h r b [] ns e = refl
length_positions h r b (c ∷ cs) [] e = absurd (omega arith)
length_positions h r b (c ∷ cs) (n ∷ ns) e = ap suc (length_positions (h / 2) (r / 2) (b / 2) cs ns (suc_inj e))

pub positions_at : (h r b : ℕ) (cs ns : List ℕ) → length cs ≡ length ns → (i : ℕ) → i < length cs
    → get_or (positions_in h r b cs ns) i null_position ≡ position_of (bit_of h i) (bit_of r i) (bit_of b i) (get_or cs i 0) (get_or ns i 0)
unfolding positions_in
positions_at h r b [] ns e i l = absurd (not-suc-le-zero l)
positions_at h r b (c ∷ cs) [] e i l = absurd (omega arith)
positions_at h r b (c ∷ cs) (n ∷ ns) e zero l =
    ap₂ (λ (x y : ℕ). position_of x y (b % 2) c n) (sym (bit_zero h)) (sym (bit_zero r))
    ∙ ap (λ (x : ℕ). position_of (bit_of h 0) (bit_of r 0) x c n) (sym (bit_zero b))
positions_at h r b (c ∷ cs) (n ∷ ns) e (suc i) l =
    positions_at (h / 2) (r / 2) (b / 2) cs ns (suc_inj e) i (le_of_suc-le-suc l)
    ∙ ap₂ (λ (x y : ℕ). position_of x y (bit_of (b / 2) i) (get_or cs i 0) (get_or ns i 0)) (half_bit h i) (half_bit r i)
    ∙ ap (λ (x : ℕ). position_of (bit_of h (suc i)) (bit_of r (suc i)) x (get_or cs i 0) (get_or ns i 0)) (half_bit b i)

-- ---- segment_in, of a record's words

module _ (n : ℕ) (row : List ℕ) (l : length row ≡ record_words n) where
  pub cells_long : length (take n (drop 3 row)) ≡ n
  cells_long = length-take-le n (drop 3 row) (omega (arith, length-drop 3 row))

  pub counts_long : length (take n (drop (3 + n) row)) ≡ n
  counts_long = length-take-le n (drop (3 + n) row) (omega (arith, length-drop (3 + n) row))

  pub segment_long : length (segment_in n row) ≡ n
  unfolding segment_in
  segment_long = length_positions _ _ _ (take n (drop 3 row)) (take n (drop (3 + n) row)) (cells_long ∙ sym counts_long) ∙ cells_long

  pub segment_at_lem : (i : ℕ) → i < n
      → get_or (segment_in n row) i null_position ≡ position_of (bit_of (get_or row 0 0) i) (bit_of (get_or row 1 0) i) (bit_of (get_or row 2 0) i) (get_or row (3 + i) 0) (get_or row (3 + n + i) 0)
  unfolding segment_in
  segment_at_lem i h =
      positions_at _ _ _ (take n (drop 3 row)) (take n (drop (3 + n) row)) (cells_long ∙ sym counts_long) i (rw cells_long h)
      ∙ ap₂ (position_of (bit_of (get_or row 0 0) i) (bit_of (get_or row 1 0) i) (bit_of (get_or row 2 0) i))
      (get_or-take n (drop 3 row) i 0 h ∙ get_or-drop 3 row i 0) (get_or-take n (drop (3 + n) row) i 0 h ∙ get_or-drop (3 + n) row i 0)

  pub segment_past : (i : ℕ) → n ≤ i → get_or (segment_in n row) i null_position ≡ null_position
  segment_past i h = get_or-eq_default (segment_in n row) null_position {n = i} (omega (arith, segment_long))
