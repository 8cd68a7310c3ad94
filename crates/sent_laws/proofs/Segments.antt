-- The segments of an image: whole, zero after its end, and the image again when they are put together.
use mathlib.Core.Path.{◌≡◌, refl, sym, ap, ◌∙◌, subst}
use mathlib.Core.Bool.{Bool, true, false}
use mathlib.Core.List.{List, [], ◌∷◌, ◌++◌}
use Prim.Native.Nat.{ℕ, zero, suc, ◌+◌, ◌-◌, ◌*◌, ◌≤◌, ◌<◌}
use native.Mathlib.Nat.{zero-add, sub-zero, zero-mul, suc-mul, not-suc-le-zero, le_of_suc-le-suc}
use native.Mathlib.Omega.{arith}
use lib.ListN.{length, take, drop, length-append, length-drop, drop_of_length-le}
use lib.Seq.{take_at, drop_at}
use lib.Dec.{leb}
use borrow.Author.Tests.{leb-true, leb-false}
use Rattle.lists.specs.Lists.{every, total, all_zero}
use Rattle.lists.specs.Rows.{joined, fill}
use Rattle.lists.specs.Each.{Each}
use Rattle.lists.proofs.Rows.{length_fill, fill_split, zeros_fill}
use Rattle.model.specs.Measures.{parts_for}
use Rattle.model.specs.Image.{block_from, blocks_from, image_blocks}
use Rattle.sent.specs.Claims.{sent_of}
use Rattle.laws.proofs.Measures.{parts_enough}
use Rattle.laws.proofs.Image.{length_block, joined_blocks}

-- each is zero after the image's end, of which `left` bytes are left
abbrev pub Ends : ℕ → ℕ → List (List ℕ) → Type 0
Ends k left [] = Unit {0}
Ends k left (x ∷ xs) = (all_zero (drop left x) ≡ true) × Ends k (left - k) xs

module _ (k : ℕ) (image : List ℕ) where
  all_whole : (at n : ℕ) → Each (λ x. length x ≡ k) (blocks_from k image at n)
  unfolding blocks_from
  all_whole at zero = tt
  all_whole at (suc n) = (length_block k image at, all_whole (at + k) n)

  block_end : (at : ℕ) → all_zero (drop (length image - at) (block_from k image at)) ≡ true
  unfolding block_from all_zero every
  block_end at = go (leb (length image - at) k) refl
    where
      go : (b : Bool) → leb (length image - at) k ≡ b → all_zero (drop (length image - at) (fill k (drop at image))) ≡ true
      go true h =
          ap (λ (l : List ℕ). all_zero (drop (length image - at) l))
          (fill_split k (drop at image) (omega (arith, length-drop at image, leb-true (length image - at) k h)))
          ∙ ap all_zero (drop_at (drop at image) (fill (k - length (drop at image)) []) (length image - at) (length-drop at image))
          ∙ zeros_fill (k - length (drop at image))
      go false h =
          let n : length (fill k (drop at image)) ≤ length image - at = omega (arith, length_fill k (drop at image), leb-false (length image - at) k h) in
          ap all_zero (drop_of_length-le (fill k (drop at image)) n)

  all_end : (at n : ℕ) → Ends k (length image - at) (blocks_from k image at n)
  unfolding blocks_from
  all_end at zero = tt
  all_end at (suc n) =
      (block_end at, subst (λ (l : ℕ). Ends k l (blocks_from k image (at + k) n)) (let z : length image - (at + k) ≡ length image - at - k = omega arith in z) (all_end (at + k) n))

  pub segments_end : Ends k (length image) (image_blocks k image)
  unfolding image_blocks
  segments_end = subst (λ (l : ℕ). Ends k l (blocks_from k image 0 (parts_for k (length image)))) (sub-zero (length image)) (all_end 0 (parts_for k (length image)))

  pub segments_whole : Each (λ x. length x ≡ k) (image_blocks k image)
  unfolding image_blocks
  segments_whole = all_whole 0 (parts_for k (length image))

  pub put_together : 0 < k → take (length image) (joined (image_blocks k image)) ≡ image
  unfolding image_blocks
  put_together p =
      ap (take (length image)) (joined_blocks k image (parts_for k (length image)) 0
      ∙ fill_split (parts_for k (length image) * k) image (parts_enough k (length image) p))
      ∙ take_at image (fill (parts_for k (length image) * k - length image) []) (length image) refl

-- as many bytes are sent as the marks say
pub sent_length : (k : ℕ) (marks : List ℕ) (segs : List (List ℕ)) → length marks ≡ length segs → Each (λ (i : ℕ). i ≤ 1) marks → Each (λ x. length x ≡ k) segs
    → length (joined (sent_of marks segs)) ≡ total (λ i. i) marks * k
unfolding sent_of joined total
sent_length k [] [] e h w = sym (zero-mul k)
sent_length k [] (x ∷ segs) e h w = absurd (omega (arith, e))
sent_length k (m ∷ marks) [] e h w = absurd (omega (arith, e))
sent_length k (zero ∷ marks) (x ∷ segs) e h w =
    sent_length k marks segs (omega (arith, e)) h.1 w.1 ∙ ap (λ (i : ℕ). i * k) (sym (zero-add (total (λ i. i) marks)))
sent_length k (suc zero ∷ marks) (x ∷ segs) e h w =
    let r : length (joined (sent_of marks segs)) ≡ total (λ i. i) marks * k = sent_length k marks segs (omega (arith, e)) h.1 w.1 in
    let s : suc (total (λ i. i) marks) * k ≡ total (λ i. i) marks * k + k = suc-mul (total (λ i. i) marks) k in
    let n : length (x ++ joined (sent_of marks segs)) ≡ length x + length (joined (sent_of marks segs)) = length-append x (joined (sent_of marks segs)) in
    let one : 1 + total (λ i. i) marks ≡ suc (total (λ i. i) marks) = omega arith in
    n ∙ (let z : length x + length (joined (sent_of marks segs)) ≡ suc (total (λ i. i) marks) * k = omega (arith, r, s, w.0) in z)
    ∙ ap (λ (i : ℕ). i * k) (sym one)
sent_length k (suc (suc m) ∷ marks) (x ∷ segs) e h w = absurd (not-suc-le-zero (le_of_suc-le-suc h.0))
