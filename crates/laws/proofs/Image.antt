-- An image's blocks and segments: whole, as many as the length says, put together the image, and zero after its length.
use mathlib.Core.Path.{◌≡◌, refl, sym, ap, ap₂, ◌∙◌, subst}
use mathlib.Core.Bool.{true}
use mathlib.Core.List.{List, [], ◌∷◌, ◌++◌}
use Prim.Native.Nat.{ℕ, zero, suc, ◌+◌, ◌-◌, ◌*◌, ◌≤◌, ◌<◌}
use native.Mathlib.Nat.{zero-add, zero-mul, suc-mul, mul_comm, mul_assoc, not-suc-le-zero, le_of_suc-le-suc}
use native.Mathlib.Omega.{arith}
use lib.ListN.{length, get_or, take, drop, replicate, length-drop, take-append-drop, drop_of_length-le}
use lib.Seq.{drop_at, drop-drop, length-take-le}
use Rattle.lists.specs.Lists.{all_zero}
use Rattle.lists.specs.Rows.{joined, parts, fill}
use Rattle.lists.specs.Each.{Each}
use Rattle.lists.proofs.Same.{zeros_are, zeros_zero}
use Rattle.lists.proofs.Rows.{length_joined, drop_last, length_fill, fill_split, fill_zeros, fill_add}
use Rattle.lists.proofs.Cuts.{parts_joined}
use Rattle.model.specs.Measures.{Measures, parts_for}
use Rattle.model.specs.State.{Block}
use Rattle.model.specs.Image.{zero_block, block_from, blocks_from, image_blocks, segments_from, image_segments}
use Rattle.laws.proofs.Fits.{Proper}
use Rattle.laws.proofs.Measures.{parts_enough, parts_some, parts_least, before_last}
use Rattle.laws.proofs.Clean.{HasBytes}
use Rattle.laws.proofs.Segments.{SegmentOk}

-- ---- blocks from a place on

module _ (bytes : ℕ) (image : List ℕ) where
  pub length_block : (at : ℕ) → length (block_from bytes image at) ≡ bytes
  unfolding block_from
  length_block at = length_fill bytes (drop at image)

  pub length_blocks : (at n : ℕ) → length (blocks_from bytes image at n) ≡ n
  unfolding blocks_from
  length_blocks at zero = refl
  length_blocks at (suc n) = ap suc (length_blocks (at + bytes) n)

  -- of n blocks i are done: the next one, and those after it
  pub blocks_next : (at n i : ℕ) → i < n → blocks_from bytes image at (n - i) ≡ block_from bytes image at ∷ blocks_from bytes image (at + bytes) (n - (i + 1))
  unfolding blocks_from
  blocks_next at n i h = let e : n - i ≡ suc (n - (i + 1)) = omega arith in rw e

  pub block_at_lem : (at n j : ℕ) → j < n → get_or (blocks_from bytes image at n) j [] ≡ block_from bytes image (at + j * bytes)
  unfolding blocks_from
  block_at_lem at zero j h = absurd (not-suc-le-zero h)
  block_at_lem at (suc n) zero h = ap (block_from bytes image) (let z : at ≡ at + 0 * bytes = omega (arith, zero-mul bytes) in z)
  block_at_lem at (suc n) (suc j) h =
      block_at_lem (at + bytes) n j (le_of_suc-le-suc h)
      ∙ ap (block_from bytes image) (let z : at + bytes + j * bytes ≡ at + suc j * bytes = omega (arith, suc-mul j bytes) in z)

  pub blocks_append : (a b at : ℕ) → blocks_from bytes image at (a + b) ≡ blocks_from bytes image at a ++ blocks_from bytes image (at + a * bytes) b
  unfolding blocks_from
  blocks_append zero b at =
      ap₂ (blocks_from bytes image) (let z : at ≡ at + 0 * bytes = omega (arith, zero-mul bytes) in z) (zero-add b)
  blocks_append (suc a) b at =
      ap (blocks_from bytes image at) (let z : suc a + b ≡ suc (a + b) = omega arith in z)
      ∙ ap (λ (bs : List Block). block_from bytes image at ∷ bs)
      (blocks_append a b (at + bytes)
      ∙ ap (λ (i : ℕ). blocks_from bytes image (at + bytes) a ++ blocks_from bytes image i b)
      (let z : at + bytes + a * bytes ≡ at + suc a * bytes = omega (arith, suc-mul a bytes) in z))

  -- past the end there are null blocks
  pub blocks_past : (n at : ℕ) → length image ≤ at → blocks_from bytes image at n ≡ replicate n (zero_block bytes)
  unfolding blocks_from block_from zero_block
  blocks_past zero at h = refl
  blocks_past (suc n) at h =
      ap₂ ◌∷◌ (ap (fill bytes) (drop_of_length-le image h) ∙ fill_zeros bytes) (blocks_past n (at + bytes) (omega (arith, h)))

  -- put together they are the bytes, filled up
  pub joined_blocks : (n at : ℕ) → joined (blocks_from bytes image at n) ≡ fill (n * bytes) (drop at image)
  unfolding blocks_from block_from joined fill
  joined_blocks zero at = ap (λ (i : ℕ). fill i (drop at image)) (sym (zero-mul bytes))
  joined_blocks (suc n) at =
      ap (λ (l : List ℕ). fill bytes (drop at image) ++ l)
      (joined_blocks n (at + bytes) ∙ ap (fill (n * bytes)) (sym (drop-drop bytes at image)))
      ∙ sym (fill_add bytes (n * bytes) (drop at image))
      ∙ ap (λ (i : ℕ). fill i (drop at image)) (let z : bytes + n * bytes ≡ suc n * bytes = omega (arith, suc-mul n bytes) in z)

blocks_each : (m : Measures) (image : List ℕ) (at n : ℕ) → Each (HasBytes m) (blocks_from m.block_bytes image at n)
unfolding blocks_from
blocks_each m image at zero = tt
blocks_each m image at (suc n) = (length_block m.block_bytes image at, blocks_each m image (at + m.block_bytes) n)

-- ---- the blocks of an image

module _ (m : Measures) (pr : Proper m) where
  pub blocks_length : (image : List ℕ) → length (image_blocks m.block_bytes image) ≡ parts_for m.block_bytes (length image)
  unfolding image_blocks
  blocks_length image = length_blocks m.block_bytes image 0 (parts_for m.block_bytes (length image))

  pub blocks_whole : (image : List ℕ) → Each (HasBytes m) (image_blocks m.block_bytes image)
  unfolding image_blocks
  blocks_whole image = blocks_each m image 0 (parts_for m.block_bytes (length image))

  pub blocks_joined : (image : List ℕ)
      → joined (image_blocks m.block_bytes image) ≡ image ++ fill (parts_for m.block_bytes (length image) * m.block_bytes - length image) []
  unfolding image_blocks
  blocks_joined image =
      joined_blocks m.block_bytes image (parts_for m.block_bytes (length image)) 0
      ∙ fill_split (parts_for m.block_bytes (length image) * m.block_bytes) image (parts_enough m.block_bytes (length image) pr.bytes)

  -- the last block is zero after the length
  pub last_zero : (image : List ℕ) → 0 < length image → (n : ℕ) → n ≡ parts_for m.block_bytes (length image)
      → all_zero (drop (length image - m.block_bytes * (n - 1)) (get_or (image_blocks m.block_bytes image) (n - 1) [])) ≡ true
  unfolding image_blocks block_from
  last_zero image h n e =
      let k : ℕ = m.block_bytes in
      let l : ℕ = length image in
      let at : ℕ = (n - 1) * k in
      let r : ℕ = l - k * (n - 1) in
      let full : at ≤ l = before_last k l n pr.bytes h e in
      let enough : l ≤ n * k = subst (λ (q : ℕ). l ≤ q * k) (sym e) (parts_enough k l pr.bytes) in
      let some : 0 < n = subst (λ (q : ℕ). 0 < q) (sym e) (parts_some k l pr.bytes h) in
      let one : n * k ≡ at + k = ap (λ (q : ℕ). q * k) (let z : n ≡ suc (n - 1) = omega (arith, some) in z) ∙ suc-mul (n - 1) k in
      let size : length (drop at image) ≡ r = length-drop at image ∙ ap (λ (i : ℕ). l - i) (mul_comm (n - 1) k) in
      ap (λ (b : Block). all_zero (drop r b))
      (block_at_lem k image 0 (parts_for k l) (n - 1) (omega (arith, e, some)) ∙ ap (λ (i : ℕ). fill k (drop i image)) (zero-add at)
      ∙ fill_split k (drop at image) (omega (arith, length-drop at image, enough, one)))
      ∙ ap all_zero (drop_at (drop at image) (fill (k - length (drop at image)) []) r size ∙ fill_zeros (k - length (drop at image)))
      ∙ zeros_zero (k - length (drop at image))

  -- ---- the segments of an image

  segments_from_lem : (image : List ℕ) (at n : ℕ) → Each (SegmentOk m) (segments_from m.block_bytes m.segment_blocks image at n)
  unfolding segments_from
  segments_from_lem image at zero = tt
  segments_from_lem image at (suc n) = (
    record { whole = blocks_each m image at m.segment_blocks; size = length_blocks m.block_bytes image at m.segment_blocks },
    segments_from_lem image (at + m.segment_blocks * m.block_bytes) n,
  )

  pub segments_ok : (image : List ℕ) → Each (SegmentOk m) (image_segments m.block_bytes m.segment_blocks image)
  unfolding image_segments
  segments_ok image = segments_from_lem image 0 (parts_for (m.segment_blocks * m.block_bytes) (length image))

  joined_segments : (image : List ℕ) (n at : ℕ)
      → joined (segments_from m.block_bytes m.segment_blocks image at n) ≡ blocks_from m.block_bytes image at (n * m.segment_blocks)
  unfolding segments_from joined blocks_from
  joined_segments image zero at = ap (blocks_from m.block_bytes image at) (sym (zero-mul m.segment_blocks))
  joined_segments image (suc n) at =
      ap (λ (l : List Block). blocks_from m.block_bytes image at m.segment_blocks ++ l) (joined_segments image n (at + m.segment_blocks * m.block_bytes))
      ∙ sym (blocks_append m.block_bytes image m.segment_blocks (n * m.segment_blocks) at)
      ∙ ap (blocks_from m.block_bytes image at)
      (let z : m.segment_blocks + n * m.segment_blocks ≡ suc n * m.segment_blocks = omega (arith, suc-mul n m.segment_blocks) in z)

  -- how many null blocks fill up the last segment
  pub padding : List ℕ → ℕ
  padding image = parts_for (m.segment_blocks * m.block_bytes) (length image) * m.segment_blocks - parts_for m.block_bytes (length image)

  pub segments_joined : (image : List ℕ)
      → joined (image_segments m.block_bytes m.segment_blocks image) ≡ image_blocks m.block_bytes image ++ replicate (padding image) (zero_block m.block_bytes)
  unfolding image_segments image_blocks padding
  segments_joined image =
      let l : ℕ = length image in
      let p : ℕ = parts_for m.block_bytes l in
      let n : ℕ = parts_for (m.segment_blocks * m.block_bytes) l in
      let long : 0 < m.segment_blocks * m.block_bytes = positive m.segment_blocks m.block_bytes pr.blocks pr.bytes in
      let enough : l ≤ n * m.segment_blocks * m.block_bytes =
      subst (λ (i : ℕ). l ≤ i) (sym (mul_assoc n m.segment_blocks m.block_bytes)) (parts_enough (m.segment_blocks * m.block_bytes) l long) in
      let few : p ≤ n * m.segment_blocks = parts_least m.block_bytes l (n * m.segment_blocks) pr.bytes enough in
      joined_segments image n 0
      ∙ ap (blocks_from m.block_bytes image 0) (let z : n * m.segment_blocks ≡ p + (n * m.segment_blocks - p) = omega (arith, few) in z)
      ∙ blocks_append m.block_bytes image p (n * m.segment_blocks - p) 0
      ∙ ap (λ (bs : List Block). blocks_from m.block_bytes image 0 p ++ bs)
      (blocks_past m.block_bytes image (n * m.segment_blocks - p) (0 + p * m.block_bytes) (omega (arith, parts_enough m.block_bytes l pr.bytes)))
    where
      positive : (a b : ℕ) → 0 < a → 0 < b → 0 < a * b
      positive zero b h g = absurd (not-suc-le-zero h)
      positive (suc a) b h g = omega (arith, suc-mul a b, g)

  -- ---- blocks cut at a length and filled up again

  -- blocks whose last is zero after the length `l` are those of their first `l` bytes
  pub cut_again : (l : ℕ) (bs : List Block) → 0 < l → length bs ≡ parts_for m.block_bytes l → Each (HasBytes m) bs
      → all_zero (drop (l - m.block_bytes * (length bs - 1)) (get_or bs (length bs - 1) [])) ≡ true → image_blocks m.block_bytes (take l (joined bs)) ≡ bs
  unfolding image_blocks
  cut_again l [] hl n r z = absurd (not-suc-le-zero (subst (λ (i : ℕ). 0 < i) (sym n) (parts_some m.block_bytes l pr.bytes hl)))
  cut_again l (x ∷ xs) hl n r z =
      let k : ℕ = m.block_bytes in
      let bs : List Block = x ∷ xs in
      let whole : List ℕ = joined bs in
      let front : List ℕ = take l whole in
      let size : length whole ≡ length bs * k = length_joined k bs r in
      let enough : l ≤ length bs * k = subst (λ (i : ℕ). l ≤ i * k) (sym n) (parts_enough k l pr.bytes) in
      let len : length front ≡ l = length-take-le l whole (omega (arith, size, enough)) in
      let one : length bs - 1 ≡ length xs = omega arith in
      let full : length xs * k ≤ l = subst (λ (i : ℕ). i * k ≤ l) one (before_last k l (length bs) pr.bytes hl n) in
      let tail : all_zero (drop l whole) ≡ true =
      ap all_zero (drop_last k x xs l r full ∙ ap (λ (i : ℕ). drop (l - k * i) (get_or bs i [])) (sym one)) ∙ z in
      let rest : drop l whole ≡ fill (length bs * k - length front) [] =
      zeros_are (drop l whole) tail
      ∙ ap {B = List ℕ} (λ (i : ℕ). replicate i 0) (length-drop l whole ∙ ap₂ ◌-◌ size (sym len)) ∙ sym (fill_zeros (length bs * k - length front)) in
      let same : joined (blocks_from k front 0 (length bs)) ≡ whole =
      joined_blocks k front (length bs) 0 ∙ fill_split (length bs * k) front (omega (arith, len, enough))
      ∙ ap (λ (ys : List ℕ). front ++ ys) (sym rest) ∙ take-append-drop l whole in
      let count : length (blocks_from k front 0 (length bs)) ≡ length bs = length_blocks k front 0 (length bs) in
      ap (blocks_from k front 0) (ap (parts_for k) len ∙ sym n)
      ∙ sym (parts_joined k (blocks_from k front 0 (length bs)) (blocks_each m front 0 (length bs)) [])
      ∙ ap₂ (λ (i : ℕ) (ys : List ℕ). parts k i (ys ++ [])) count same
      ∙ parts_joined k bs r []
