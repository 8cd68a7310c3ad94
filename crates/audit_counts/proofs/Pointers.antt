-- The direct pointers among pointer words are those among the pointers that the words are read as.
use mathlib.Core.Path.{◌≡◌, refl, sym, ap, ap₂, ◌∙◌}
use mathlib.Core.Bool.{Bool, true, false, cond}
use mathlib.Core.List.{List, [], ◌∷◌, ◌++◌, map}
use Prim.Native.Nat.{ℕ, ◌+◌, ◌*◌, ◌/◌, ◌<◌}
use native.Mathlib.Omega.{arith}
use borrow.Author.Tests.{eqb-true, eqb-false, eq-eqb, ne_eqb}
use lib.Dec.{eqb}
use Rattle.lists.specs.Lists.{all_of, count}
use Rattle.lists.specs.Rows.{joined, rows}
use Rattle.lists.specs.Each.{Each}
use Rattle.lists.proofs.Counts.{count_append}
use Rattle.lists.proofs.Cuts.{map_back}
use Rattle.lists.proofs.Each.{each_all, each_map}
use Rattle.model.specs.State.{Pointer, null_pointer, blank_pointer, direct, indirect}
use Rattle.model.specs.Table.{kind_unit, pointer_word, word_to_pointer}
use Rattle.model.specs.Sound.{leads_to}
use Rattle.laws.proofs.Fits.{PointerFits}
use Rattle.audit_words.specs.Words.{IsPointerWord}
use Rattle.audit_words.proofs.Pointers.{read_direct, read_indirect, read_blank, read_other}
use Rattle.audit_counts.specs.Counters.{count_to}

-- a pointer that was read from a word fits one
fits_word : (w : ℕ) → PointerFits (word_to_pointer w)
fits_word w = go (eqb (w / kind_unit) 1) (eqb (w / kind_unit) 2) (eqb (w / kind_unit) 3) refl refl refl
  where
    go : (a b c : Bool) → eqb (w / kind_unit) 1 ≡ a → eqb (w / kind_unit) 2 ≡ b → eqb (w / kind_unit) 3 ≡ c → PointerFits (word_to_pointer w)
    go true b c e g h = rw (read_direct w (eqb-true _ _ e)) (omega arith, omega arith)
    go false true c e g h = rw (read_indirect w (eqb-true _ _ g)) (omega arith)
    go false false true e g h = rw (read_blank w (eqb-true _ _ h)) tt
    go false false false e g h = rw (read_other w (eqb-false _ _ e) (eqb-false _ _ g) (eqb-false _ _ h)) tt

module _ (k i : ℕ) (hi : i < 16) (hq : k * 16 + i < kind_unit) where
  abbrev q : ℕ
  q = k * 16 + i

  one : (p : Pointer) → PointerFits p → ◌≡◌ {A = ℕ} (cond (eqb (pointer_word p) (kind_unit + q)) 1 0) (cond (leads_to k i p) 1 0)
  unfolding pointer_word all_of
  one null_pointer h = rw (ne_eqb 0 (kind_unit + q) (λ e. absurd (omega arith)))
  one blank_pointer h = rw (ne_eqb (3 * kind_unit) (kind_unit + q) (λ e. absurd (omega arith)))
  one (direct k' i') h = go (eqb k k') (eqb i i') refl refl
    where
      go : (a b : Bool) → eqb k k' ≡ a → eqb i i' ≡ b
          → ◌≡◌ {A = ℕ} (cond (eqb (kind_unit + (k' * 16 + i')) (kind_unit + (k * 16 + i))) 1 0) (cond (cond a (cond b true false) false) 1 0)
      go true true e f = let x = eqb-true k k' e in let y = eqb-true i i' f in rw (eq-eqb (kind_unit + (k' * 16 + i')) (kind_unit + (k * 16 + i)) (omega arith))
      go true false e f = let y : i ≡ i' → ⊥ = eqb-false i i' f in rw (ne_eqb (kind_unit + (k' * 16 + i')) (kind_unit + (k * 16 + i)) (λ z. y (low k i k' i' hi h.0 z)))
        where
          low : (k i k' i' : ℕ) → i < 16 → i' < 16 → kind_unit + (k' * 16 + i') ≡ kind_unit + (k * 16 + i) → i ≡ i'
          low k i k' i' a b z = omega arith
      go false b e f = let y : k ≡ k' → ⊥ = eqb-false k k' e in rw (ne_eqb (kind_unit + (k' * 16 + i')) (kind_unit + (k * 16 + i)) (λ z. y (high k i k' i' hi h.0 z)))
        where
          high : (k i k' i' : ℕ) → i < 16 → i' < 16 → kind_unit + (k' * 16 + i') ≡ kind_unit + (k * 16 + i) → k ≡ k'
          high k i k' i' a b z = omega arith
  one (indirect n) h = rw (ne_eqb (2 * kind_unit + n) (kind_unit + q) (λ e. absurd (omega arith)))

  pointers : (ps : List Pointer) → Each PointerFits ps → count_to q (map pointer_word ps) ≡ count (leads_to k i) ps
  unfolding count_to count
  pointers [] h = refl
  pointers (p ∷ ps) h = ap₂ ◌+◌ (one p h.0) (pointers ps h.1)

  -- of words that say pointers
  pub words_count : (ws : List ℕ) → Each IsPointerWord ws → count_to q ws ≡ count (leads_to k i) (map word_to_pointer ws)
  words_count ws canonical =
      ap (count_to q) (sym (map_back word_to_pointer pointer_word ws canonical))
      ∙ pointers (map word_to_pointer ws) (each_map PointerFits word_to_pointer ws (each_all (λ w. PointerFits (word_to_pointer w)) fits_word ws))

  append : (xs ys : List ℕ) → count_to q (xs ++ ys) ≡ count_to q xs + count_to q ys
  unfolding count_to
  append xs ys = count_append (λ w. eqb w (kind_unit + q)) xs ys

  -- rows whose words say as many as their things
  pub rows_count : {A : Type 0} (P : A → Type 0) (enc : A → List ℕ) (ps : A → List Pointer) → ((x : A) → P x → count_to q (enc x) ≡ count (leads_to k i) (ps x))
      → (xs : List A) → Each P xs → count_to q (rows enc xs) ≡ count (leads_to k i) (rows ps xs)
  unfolding joined
  rows_count P enc ps f [] h = unfold count_to count in refl
  rows_count P enc ps f (x ∷ xs) h =
      append (enc x) (rows enc xs) ∙ ap₂ ◌+◌ (f x h.0) (rows_count P enc ps f xs h.1) ∙ sym (count_append (leads_to k i) (ps x) (rows ps xs))
