-- The header's words are those of the shape that it gives, exactly if the words of the measures are those that a lay out writes.
use mathlib.Core.Path.{◌≡◌, refl, sym, ap, ◌∙◌}
use mathlib.Core.Bool.{Bool, true, false, cond}
use mathlib.Core.Logic.{◌⊎◌, inl, inr}
use mathlib.Core.List.{List, [], ◌∷◌}
use Prim.Native.Nat.{ℕ, ◌+◌, ◌≤◌, ◌<◌}
use native.Mathlib.Omega.{arith}
use lib.ListN.{length, get_or, take, drop}
use Rattle.lists.specs.Lists.{all_of, all_zero}
use Rattle.lists.proofs.Slices.{drop_next}
use Rattle.model.specs.Measures.{Measures, base_measures, is_base}
use Rattle.model.specs.Table.{measure_word, measures_in, shape_of, header_to_words}
use Rattle.audit_header.specs.Header.{MeasuresCanonical}

module _ (a b c : ℕ) where
  chosen : Measures
  chosen = record { block_bytes = a; segment_blocks = b; rebuild_percent = c }

  read_as : measures_in a b c ≡ base_measures ⊎ measures_in a b c ≡ chosen
  unfolding measures_in chosen
  read_as = go (all_zero (a ∷ b ∷ c ∷ []))
    where
      go : (t : Bool) → cond t base_measures chosen ≡ base_measures ⊎ cond t base_measures chosen ≡ chosen
      go true = inl refl
      go false = inr refl

  -- one of the three measures, and its word
  module _ (measure : Measures → ℕ) (n : ℕ) (e : measure chosen ≡ n) where
    word_is : n ≡ measure_word (measures_in a b c) n → measure_word (measures_in a b c) (measure (measures_in a b c)) ≡ n
    unfolding measure_word is_base all_of
    word_is w = go read_as
      where
        go : measures_in a b c ≡ base_measures ⊎ measures_in a b c ≡ chosen → measure_word (measures_in a b c) (measure (measures_in a b c)) ≡ n
        go (inl q) = ap (λ (m : Measures). measure_word m (measure m)) q ∙ sym (w ∙ ap (λ (m : Measures). measure_word m n) q)
        go (inr q) = ap (λ (m : Measures). measure_word (measures_in a b c) (measure m)) q ∙ ap (measure_word (measures_in a b c)) e ∙ sym w

    is_word : measure_word (measures_in a b c) (measure (measures_in a b c)) ≡ n → n ≡ measure_word (measures_in a b c) n
    unfolding measure_word is_base all_of
    is_word h = go read_as
      where
        go : measures_in a b c ≡ base_measures ⊎ measures_in a b c ≡ chosen → n ≡ measure_word (measures_in a b c) n
        go (inl q) = sym h ∙ ap (λ (m : Measures). measure_word m (measure m)) q ∙ sym (ap (λ (m : Measures). measure_word m n) q)
        go (inr q) = sym h ∙ ap (λ (m : Measures). measure_word (measures_in a b c) (measure m)) q ∙ ap (measure_word (measures_in a b c)) e

-- ---- all eight words

module _ (ws : List ℕ) (h : 8 ≤ length ws) where
  first_eight : take 8 ws ≡ get_or ws 0 0 ∷ get_or ws 1 0 ∷ get_or ws 2 0 ∷ get_or ws 3 0 ∷ get_or ws 4 0 ∷ get_or ws 5 0 ∷ get_or ws 6 0 ∷ get_or ws 7 0 ∷ []
  first_eight =
      ap (take 8) (step 0 (omega (arith, h))
      ∙ ap {B = List ℕ} (λ t. get_or ws 0 0 ∷ t) (step 1 (omega (arith, h))
      ∙ ap {B = List ℕ} (λ t. get_or ws 1 0 ∷ t) (step 2 (omega (arith, h))
      ∙ ap {B = List ℕ} (λ t. get_or ws 2 0 ∷ t) (step 3 (omega (arith, h))
      ∙ ap {B = List ℕ} (λ t. get_or ws 3 0 ∷ t) (step 4 (omega (arith, h))
      ∙ ap {B = List ℕ} (λ t. get_or ws 4 0 ∷ t) (step 5 (omega (arith, h))
      ∙ ap {B = List ℕ} (λ t. get_or ws 5 0 ∷ t) (step 6 (omega (arith, h))
      ∙ ap {B = List ℕ} (λ t. get_or ws 6 0 ∷ t) (step 7 (omega (arith, h))))))))))
    where
      step : (i : ℕ) → i < length ws → drop i ws ≡ get_or ws i 0 ∷ drop (i + 1) ws
      step i h = drop_next ws i 0 h

  pub header_written : MeasuresCanonical ws (shape_of ws).measures → header_to_words (shape_of ws) ≡ take 8 ws
  unfolding shape_of header_to_words chosen
  header_written w =
      rw (
        word_is (get_or ws 5 0) (get_or ws 6 0) (get_or ws 7 0) (λ (m : Measures). m.block_bytes) (get_or ws 5 0) refl w.bytes,
        word_is (get_or ws 5 0) (get_or ws 6 0) (get_or ws 7 0) (λ (m : Measures). m.segment_blocks) (get_or ws 6 0) refl w.blocks,
        word_is (get_or ws 5 0) (get_or ws 6 0) (get_or ws 7 0) (λ (m : Measures). m.rebuild_percent) (get_or ws 7 0) refl w.percent,
      )
      (sym first_eight)

  pub written_header : header_to_words (shape_of ws) ≡ take 8 ws → MeasuresCanonical ws (shape_of ws).measures
  unfolding shape_of header_to_words chosen
  written_header e =
      let same = e ∙ first_eight in
      record {
        bytes = is_word (get_or ws 5 0) (get_or ws 6 0) (get_or ws 7 0) (λ (m : Measures). m.block_bytes) (get_or ws 5 0) refl (ap (λ (l : List ℕ). get_or l 5 0) same);
        blocks = is_word (get_or ws 5 0) (get_or ws 6 0) (get_or ws 7 0) (λ (m : Measures). m.segment_blocks) (get_or ws 6 0) refl (ap (λ (l : List ℕ). get_or l 6 0) same);
        percent = is_word (get_or ws 5 0) (get_or ws 6 0) (get_or ws 7 0) (λ (m : Measures). m.rebuild_percent) (get_or ws 7 0) refl (ap (λ (l : List ℕ). get_or l 7 0) same);
      }
