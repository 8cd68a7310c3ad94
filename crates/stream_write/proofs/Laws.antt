-- The stream piece by piece: the map from its last bit on, the blocks of a group, the groups.
use mathlib.Core.Path.{◌≡◌, refl, sym, ap, ◌∙◌}
use mathlib.Core.Bool.{true, false, cond}
use mathlib.Core.List.{List, [], ◌∷◌, ◌++◌}
use Prim.Native.Nat.{ℕ, zero, suc, ◌+◌, ◌-◌, ◌*◌, ◌/◌, ◌^◌, ◌≤◌, ◌<◌}
use native.Mathlib.Nat.{sub-zero}
use native.Mathlib.Omega.{arith}
use lib.ListN.{length, set, length-append}
use lib.Pow.{pow_mono}
use lib.Count.{ones}
use borrow.Rule.Slice.PartMut.{put_mid, Post-is}
use Rattle.lists.specs.Lists.{all_zero, keep}
use Rattle.lists.specs.Rows.{joined, rows}
use Rattle.lists.specs.Masks.{mask_of}
use Rattle.lists.specs.Each.{Each}
use Rattle.lists.proofs.Masks.{mask_lt, ones_mask}
use Rattle.lists.proofs.Counts.{count_most, length_keep}
use Rattle.lists.proofs.Rows.{length_joined}
use Rattle.lists.proofs.Each.{keep_each}
use Rattle.lists.proofs.Written.{written_written}
use Rattle.model.specs.Measures.{parts_for}
use Rattle.model.specs.State.{Block}
use Rattle.model.specs.Image.{block_from, blocks_from, segments_from, image_segments}
use Rattle.model.specs.Sound.{is_filled}
use Rattle.laws.proofs.Image.{length_block, length_blocks}
use Rattle.stream.specs.Stream.{four_bytes, group_bytes, stream_of}
use Rattle.stream.specs.Pieces.{block_part}
use Rattle.stream_laws.proofs.Forward.{part_first, four_long}
use Rattle.lists.specs.Written.{written}
use Rattle.lists.proofs.Pieces.{Putting, put_room, put_next, put_end, written_none, written_one}

-- ---- blocks

module _ (image : List ℕ) where
  pub blocks_next : (at n : ℕ) → 0 < n → blocks_from 64 image at n ≡ block_from 64 image at ∷ blocks_from 64 image (at + 64) (n - 1)
  unfolding blocks_from
  blocks_next at zero h = absurd (omega arith)
  blocks_next at (suc n) h = let z : suc n - 1 ≡ n = omega arith in rw z

  -- the blocks of a group from the i-th on
  abbrev pub blocks_left : ℕ → ℕ → List Block
  blocks_left from i = blocks_from 64 image (from + i * 64) (8 - i)

  pub left_next : (from i : ℕ) → i < 8 → blocks_left from i ≡ block_from 64 image (from + i * 64) ∷ blocks_left from (i + 1)
  left_next from i h =
      let p : from + i * 64 + 64 ≡ from + (i + 1) * 64 = omega arith in
      let q : 8 - i - 1 ≡ 8 - (i + 1) = omega arith in
      rw (blocks_next (from + i * 64) (8 - i) (omega arith), p, q)

  -- ---- the map

  -- a bit more, the last block first
  pub map_front : (from i m : ℕ) → 0 < i → i ≤ 8 → m ≡ mask_of is_filled (blocks_left from i)
      → cond (is_filled (block_from 64 image (from + (i - 1) * 64))) 1 0 + 2 * m ≡ mask_of is_filled (blocks_left from (i - 1))
  unfolding mask_of
  map_front from i m h l e =
      let z : i - 1 + 1 ≡ i = omega arith in
      rw (left_next from (i - 1) (omega arith), z, ← e)

  pub map_small : (at n : ℕ) → n ≤ 8 → mask_of is_filled (blocks_from 64 image at n) < 256
  map_small at n h =
      let k : length (blocks_from 64 image at n) ≤ 8 = omega (arith, length_blocks 64 image at n) in
      let p : 2 ^ length (blocks_from 64 image at n) ≤ 2 ^ 8 = pow_mono k in
      omega (arith, p, mask_lt is_filled (blocks_from 64 image at n))

  -- ---- a group's bytes

  blocks_whole : (at n : ℕ) → Each (λ (b : Block). length b ≡ 64) (blocks_from 64 image at n)
  unfolding blocks_from
  blocks_whole at zero = tt
  blocks_whole at (suc n) = (length_block 64 image at, blocks_whole (at + 64) n)

  pub group_size : (at : ℕ) → (length (group_bytes (blocks_from 64 image at 8)) ≡ 1 + 64 * ones (mask_of is_filled (blocks_from 64 image at 8))) × (ones (mask_of is_filled (blocks_from 64 image at 8)) ≤ 8)
  unfolding group_bytes
  group_size at =
      let bs : List Block = blocks_from 64 image at 8 in
      let n : length (joined (keep is_filled bs)) ≡ length (keep is_filled bs) * 64 = length_joined 64 (keep is_filled bs) (keep_each (λ (b : Block). length b ≡ 64) is_filled bs (blocks_whole at 8)) in
      let o : ones (mask_of is_filled bs) ≡ length (keep is_filled bs) = ones_mask is_filled bs ∙ sym (length_keep is_filled bs) in
      (omega (arith, n, o), omega (arith, o, length_keep is_filled bs, count_most is_filled bs, length_blocks 64 image at 8))

  -- the bytes of a group's blocks from the i-th on
  unfoldable pub bytes_left : ℕ → ℕ → List ℕ
  bytes_left from i = joined (keep is_filled (blocks_left from i))

  pub bytes_start : (from : ℕ) → joined (keep is_filled (blocks_from 64 image from 8)) ≡ bytes_left from 0
  unfolding bytes_left
  bytes_start from = let z : from + 0 * 64 ≡ from = omega arith in rw z

  pub bytes_next : (from i : ℕ) → i < 8 → bytes_left from i ≡ block_part (block_from 64 image (from + i * 64)) ++ bytes_left from (i + 1)
  unfolding bytes_left
  bytes_next from i h = ap (λ (bs : List Block). joined (keep is_filled bs)) (left_next from i h) ∙ part_first (block_from 64 image (from + i * 64)) (blocks_left from (i + 1))

  pub bytes_end : (from i : ℕ) → 8 ≤ i → bytes_left from i ≡ []
  unfolding bytes_left keep joined blocks_from
  bytes_end from i h = let z : 8 - i ≡ 0 = omega arith in rw z

  -- ---- groups

  -- the groups from a byte on
  unfoldable pub groups_from : ℕ → List ℕ
  groups_from from = rows group_bytes (segments_from 64 8 image from (parts_for 512 (length image - from)))

  pub groups_start : rows group_bytes (image_segments 64 8 image) ≡ groups_from 0
  unfolding groups_from image_segments
  groups_start = rw (sub-zero (length image))

  pub groups_next : (from : ℕ) → from < length image → groups_from from ≡ group_bytes (blocks_from 64 image from 8) ++ groups_from (from + 512)
  unfolding groups_from segments_from joined parts_for
  groups_next from h =
      let p : (length image - from + 511) / 512 ≡ suc ((length image - (from + 512) + 511) / 512) = omega arith in
      rw p

  pub groups_end : (from : ℕ) → length image ≤ from → groups_from from ≡ []
  unfolding groups_from segments_from joined parts_for
  groups_end from h =
      let p : (length image - from + 511) / 512 ≡ 0 = omega arith in
      rw p

  pub length_next : (from : ℕ) → from < length image → length (groups_from from) ≡ length (group_bytes (blocks_from 64 image from 8)) + length (groups_from (from + 512))
  length_next from h = ap length (groups_next from h) ∙ length-append (group_bytes (blocks_from 64 image from 8)) (groups_from (from + 512))

  pub stream_size : length (stream_of image) ≡ 4 + length (groups_from 0)
  unfolding stream_of
  stream_size = length-append (four_bytes (length image)) (rows group_bytes (image_segments 64 8 image)) ∙ omega (arith, four_long (length image), ap length groups_start)

-- ---- pieces that are left to write: there is room for the first, and the others are left after it

module _ (image : List ℕ) (from at₀ : ℕ) {out₀ out : List ℕ} {to : ℕ} (fits : at₀ + length (joined (keep is_filled (blocks_from 64 image from 8))) ≤ length out₀) (i : ℕ) (h : i < 8)
    (p : Putting out₀ at₀ (bytes_left image from 0) out to (bytes_left image from i)) where
  abbrev block : List ℕ
  block = block_part (block_from 64 image (from + i * 64))

  fit_blocks : at₀ + length (bytes_left image from 0) ≤ length out₀
  fit_blocks = omega (arith, fits, ap length (bytes_start image from))

  pub block_room : to + length block ≤ length out
  block_room = put_room fit_blocks block (bytes_left image from (i + 1)) (rw (bytes_next image from i h) at p)

  pub block_next : (out' : List ℕ) (to' : ℕ) → to' ≡ to + length block → out' ≡ written out to block → Putting out₀ at₀ (bytes_left image from 0) out' to' (bytes_left image from (i + 1))
  block_next = put_next fit_blocks block (bytes_left image from (i + 1)) (rw (bytes_next image from i h) at p)

module _ (image : List ℕ) {out₀ out : List ℕ} {at : ℕ} (fits : 4 + length (rows group_bytes (image_segments 64 8 image)) ≤ length out₀) (from : ℕ) (h : from < length image)
    (p : Putting out₀ 4 (groups_from image 0) out at (groups_from image from)) where
  abbrev group : List ℕ
  group = group_bytes (blocks_from 64 image from 8)

  fit_groups : 4 + length (groups_from image 0) ≤ length out₀
  fit_groups = omega (arith, fits, ap length (groups_start image))

  pub group_room : at + length group ≤ length out
  group_room = put_room fit_groups group (groups_from image (from + 512)) (rw (groups_next image from h) at p)

  pub group_next : (out' : List ℕ) (to' : ℕ) → to' ≡ at + length group → out' ≡ written out at group → Putting out₀ 4 (groups_from image 0) out' to' (groups_from image (from + 512))
  group_next = put_next fit_groups group (groups_from image (from + 512)) (rw (groups_next image from h) at p)

pub all_put : (image : List ℕ) {out₀ out : List ℕ} {at from : ℕ} → Putting out₀ 4 (groups_from image 0) out at (groups_from image from) → length image ≤ from
    → out ≡ written out₀ 4 (rows group_bytes (image_segments 64 8 image))
all_put image {from = from} p h = rw (groups_start image) (put_end p (groups_end image from h)).1

-- ---- a block that is written where it is not null

pub part_null : (b : Block) (at : ℕ) (out : List ℕ) → all_zero b ≡ true → (at ≡ at + length (block_part b)) × (out ≡ written out at (block_part b))
part_null b at out e = rw e (omega arith, sym (written_none out at))

module _ (image : List ℕ) (from : ℕ) where
  pub part_size : all_zero (block_from 64 image from) ≡ false → length (block_part (block_from 64 image from)) ≡ 64
  part_size e = rw e (length_block 64 image from)

  pub part_put : (at : ℕ) (out ys : List ℕ) → all_zero (block_from 64 image from) ≡ false → at + length (block_part (block_from 64 image from)) ≤ length out → ys ≡ block_from 64 image from
      → (at + 64 ≡ at + length (block_part (block_from 64 image from))) × (put_mid at (at + 64 - at) out ys ≡ written out at (block_part (block_from 64 image from)))
  unfolding written
  part_put at out ys e h f =
      let n : length (block_from 64 image from) ≡ 64 = length_block 64 image from in
      let l : length (block_part (block_from 64 image from)) ≡ 64 = part_size e in
      (omega (arith, l), rw (e, f, n, Post-is at (at + 64) out (omega arith)))

-- ---- a group: the map byte, then the blocks

module _ (image : List ℕ) (from : ℕ) where
  group_bytes_lem : group_bytes (blocks_from 64 image from 8) ≡ (mask_of is_filled (blocks_from 64 image from 8) ∷ []) ++ joined (keep is_filled (blocks_from 64 image from 8))
  unfolding group_bytes
  group_bytes_lem = refl

  pub group_long : length (group_bytes (blocks_from 64 image from 8)) ≡ 1 + length (joined (keep is_filled (blocks_from 64 image from 8)))
  group_long = ap length group_bytes_lem ∙ length-append (mask_of is_filled (blocks_from 64 image from 8) ∷ []) (joined (keep is_filled (blocks_from 64 image from 8)))

  pub group_put : (at : ℕ) (out : List ℕ) (m r : ℕ) (out' : List ℕ) → at + length (group_bytes (blocks_from 64 image from 8)) ≤ length out
      → m ≡ mask_of is_filled (blocks_from 64 image from 8) → r ≡ at + 1 + length (joined (keep is_filled (blocks_from 64 image from 8)))
      → out' ≡ written (set out at m) (at + 1) (joined (keep is_filled (blocks_from 64 image from 8)))
      → (r ≡ at + length (group_bytes (blocks_from 64 image from 8))) × (out' ≡ written out at (group_bytes (blocks_from 64 image from 8)))
  group_put at out m r out' h e f g =
      let one : set out at m ≡ written out at (m ∷ []) = written_one out at m (omega (arith, group_long)) in
      let js : List ℕ = joined (keep is_filled (blocks_from 64 image from 8)) in
      let all : (m ∷ []) ++ js ≡ group_bytes (blocks_from 64 image from 8) = rw e (sym group_bytes_lem) in
      let two : written (written out at (m ∷ [])) (at + 1) js ≡ written out at ((m ∷ []) ++ js) = written_written out at (m ∷ []) js (omega (arith, h, group_long)) in
      (omega (arith, f, group_long), g ∙ ap (λ (l : List ℕ). written l (at + 1) js) one ∙ two ∙ ap (written out at) all)
