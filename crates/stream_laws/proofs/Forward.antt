-- Reading an image's stream gives the image.
use mathlib.Core.Path.{◌≡◌, refl, sym, ap, ◌∙◌}
use mathlib.Core.Bool.{Bool, true, false, cond, not}
use mathlib.Core.List.{List, [], ◌∷◌, ◌++◌, append_assoc, append-nil}
use Prim.Native.Nat.{ℕ, zero, suc, ◌+◌, ◌-◌, ◌*◌, ◌%◌, ◌^◌, ◌≤◌, ◌<◌, min}
use native.Mathlib.Nat.{pow-suc, sub-zero}
use native.Mathlib.Omega.{arith}
use lib.ListN.{length, take, drop, length-drop, length-append}
use lib.Seq.{take_at, drop_at}
use lib.Pow.{pow_pos}
use lib.Dec.{leb}
use borrow.Author.Tests.{lt-ltb, le-ltb, le-leb, leb-true, leb-false, eq-eqb}
use Rattle.lists.specs.Lists.{all_zero, keep}
use Rattle.lists.specs.Rows.{joined, rows, fill}
use Rattle.lists.specs.Masks.{mask_of}
use Rattle.lists.proofs.Same.{zeros_zero}
use Rattle.lists.proofs.Tests.{clause}
use Rattle.lists.proofs.Masks.{mask_half, mask_odd, bit_le_one, mask_replicate}
use Rattle.lists.proofs.Rows.{fill_split}
use Rattle.model.specs.Measures.{is_within, parts_for}
use Rattle.model.specs.State.{Block}
use Rattle.model.specs.Image.{zero_block, block_from, blocks_from, segments_from, image_segments}
use Rattle.model.specs.Sound.{is_filled}
use Rattle.laws.proofs.Image.{length_block, blocks_past}
use Rattle.laws.proofs.Measures.{parts_enough}
use Rattle.stream.specs.Stream.{Read, passed, read_block, read_blocks, read_group, read_groups, read_end, read_body, group_bytes, four_bytes, length_in, has_stream, stream_of, delivered, read_stream}
use Rattle.stream.specs.Pieces.{block_part}
use Rattle.stream_laws.proofs.Ways.{passed_yes, then_passed, block_back}
use Rattle.lists.proofs.Filled.{fill_after, fill_step}
use Rattle.stream_laws.proofs.Ranges.{parts_next}

-- the block's own bytes first
pub part_first : (b : Block) (bs : List Block) → joined (keep is_filled (b ∷ bs)) ≡ block_part b ++ joined (keep is_filled bs)
unfolding keep joined
part_first b bs = go (all_zero b)
  where
    go : (t : Bool) → joined (cond (not t) (b ∷ keep is_filled bs) (keep is_filled bs)) ≡ cond (not t) b [] ++ joined (keep is_filled bs)
    go true = refl
    go false = refl

module _ (image : List ℕ) where
  -- zero after the length
  pub block_zero_after : (at : ℕ) → all_zero (drop (length image - at) (block_from 64 image at)) ≡ true
  unfolding block_from
  block_zero_after at = rw (← length-drop at image) (fill_after 64 (drop at image))

  pub blocks_back : (n at : ℕ) (s : List ℕ)
      → read_blocks n (mask_of is_filled (blocks_from 64 image at n)) (length image - at) (joined (keep is_filled (blocks_from 64 image at n)) ++ s) ≡ passed (fill (n * 64) (drop at image)) s
  unfolding read_blocks blocks_from keep joined fill passed block_from
  blocks_back zero at s = refl
  blocks_back (suc n) at s =
      let b : Block = block_from 64 image at in
      let bs : List Block = blocks_from 64 image (at + 64) n in
      let e : joined (keep is_filled (b ∷ bs)) ++ s ≡ block_part b ++ (joined (keep is_filled bs) ++ s) = ap (λ (l : List ℕ). l ++ s) (part_first b bs) ∙ append_assoc (block_part b) (joined (keep is_filled bs)) s in
      let z : length image - at - 64 ≡ length image - (at + 64) = omega arith in
      let o : read_block (mask_of is_filled (b ∷ bs) % 2) (length image - at) (joined (keep is_filled (b ∷ bs)) ++ s) ≡ passed b (joined (keep is_filled bs) ++ s) =
      rw (mask_odd is_filled b bs, e) (block_back b (length image - at) (joined (keep is_filled bs) ++ s) (length_block 64 image at) (block_zero_after at)) in
      rw (o, mask_half is_filled b bs, z)
      (then_passed b (joined (keep is_filled bs) ++ s) _ (fill (n * 64) (drop (at + 64) image)) s (blocks_back n (at + 64) s)
      ∙ ap (λ (l : List ℕ). passed l s) (fill_step 64 n at image))

  -- no bit on a missing block
  pub none_missing : (n at : ℕ) → mask_of is_filled (blocks_from 64 image at n) < 2 ^ min n (parts_for 64 (length image - at))
  unfolding blocks_from mask_of zero_block
  none_missing zero at = let p : 0 < 2 ^ min 0 (parts_for 64 (length image - at)) = pow_pos (min 0 (parts_for 64 (length image - at))) in p
  none_missing (suc n) at = go (leb (length image) at) refl (none_missing n (at + 64))
    where
      go : (t : Bool) → leb (length image) at ≡ t → mask_of is_filled (blocks_from 64 image (at + 64) n) < 2 ^ min n (parts_for 64 (length image - (at + 64)))
          → mask_of is_filled (blocks_from 64 image at (suc n)) < 2 ^ min (suc n) (parts_for 64 (length image - at))
      go true q h =
          let m : mask_of is_filled (blocks_from 64 image at (suc n)) ≡ 0 = ap (mask_of is_filled) (blocks_past 64 image (suc n) at (leb-true (length image) at q)) ∙ mask_replicate is_filled (suc n) (zero_block 64) (ap not (zeros_zero 64)) in
          rw m (pow_pos (min (suc n) (parts_for 64 (length image - at))))
      go false q h =
          let l : at < length image = leb-false (length image) at q in
          let z : length image - at - 64 ≡ length image - (at + 64) = omega arith in
          let p : parts_for 64 (length image - at) ≡ suc (parts_for 64 (length image - (at + 64))) = parts_next (length image - at) (omega arith) ∙ ap (λ (k : ℕ). suc (parts_for 64 k)) z in
          let k : min (suc n) (suc (parts_for 64 (length image - (at + 64)))) ≡ suc (min n (parts_for 64 (length image - (at + 64)))) = omega arith in
          rw (p, k) (omega (arith, h, pow-suc 2 (min n (parts_for 64 (length image - (at + 64)))), bit_le_one (is_filled (block_from 64 image at))))

  pub group_back : (at : ℕ) (s : List ℕ) → read_group (length image - at) (group_bytes (blocks_from 64 image at 8) ++ s) ≡ passed (fill 512 (drop at image)) s
  unfolding read_group group_bytes
  group_back at s = rw (lt-ltb _ _ (none_missing 8 at)) (blocks_back 8 at s)

  pub groups_back : (n at : ℕ) (s : List ℕ) → read_groups n (length image - at) (rows group_bytes (segments_from 64 8 image at n) ++ s) ≡ passed (fill (n * 512) (drop at image)) s
  unfolding read_groups segments_from joined passed fill
  groups_back zero at s = refl
  groups_back (suc n) at s =
      let g : List ℕ = group_bytes (blocks_from 64 image at 8) in
      let more : List ℕ = rows group_bytes (segments_from 64 8 image (at + 512) n) in
      let z : length image - at - 512 ≡ length image - (at + 512) = omega arith in
      rw (append_assoc g more s, group_back at (more ++ s), z)
      (then_passed (fill 512 (drop at image)) (more ++ s) _ (fill (n * 512) (drop (at + 512) image)) s (groups_back n (at + 512) s)
      ∙ ap (λ (l : List ℕ). passed l s) (fill_step 512 n at image))

  -- all after the length
  pub body_back : read_body (length image) (rows group_bytes (image_segments 64 8 image)) ≡ passed (fill (parts_for 512 (length image) * 512) image) []
  unfolding read_body image_segments read_end passed
  body_back =
      let n : ℕ = parts_for 512 (length image) in
      let e : read_groups n (length image) (rows group_bytes (segments_from 64 8 image 0 n)) ≡ passed (fill (n * 512) image) [] =
      ap (read_groups n (length image)) (sym (append-nil (rows group_bytes (segments_from 64 8 image 0 n)))) ∙ (rw (sub-zero (length image)) at (groups_back n 0 [])) in
      rw e (then_passed (fill (n * 512) image) [] _ [] [] refl ∙ ap (λ (l : List ℕ). passed l []) (append-nil (fill (n * 512) image)))

-- ---- the length

pub four_long : (n : ℕ) → length (four_bytes n) ≡ 4
unfolding four_bytes
four_long n = refl

pub four_back : (n : ℕ) (s : List ℕ) → n ≤ 65536 → length_in (four_bytes n ++ s) ≡ n
unfolding four_bytes length_in
four_back n s h = omega (arith, h)

-- ---- the theorem

-- an accepted way gives its bytes
pub delivered_yes : (n : ℕ) (a : Read) (output : List ℕ) → a.refusal ≡ 0 → delivered n a output ≡ record { refusal = 0; length = n; output = take n a.bytes ++ drop n output }
unfolding delivered
delivered_yes n a output e = rw (eq-eqb a.refusal 0 e)

pub in_range_lem : (n : ℕ) → has_stream n ≡ true → (1 ≤ n) × (n ≤ 65536)
unfolding has_stream is_within
in_range_lem n h = (leb-true 1 n (clause (leb 1 n ∷ leb n 65536 ∷ []) 0 h), leb-true n 65536 (clause (leb 1 n ∷ leb n 65536 ∷ []) 1 h))

-- Reading an image's stream gives the image, in any output that is long enough; later bytes of the output stay.
pub read_back_lem : (image output : List ℕ) → has_stream (length image) ≡ true → length image ≤ length output
    → read_stream (stream_of image) output ≡ record { refusal = 0; length = length image; output = image ++ drop (length image) output }
unfolding read_stream stream_of passed
read_back_lem image output h l =
    let n : ℕ = length image in
    let body : List ℕ = rows group_bytes (image_segments 64 8 image) in
    let s : List ℕ = four_bytes n ++ body in
    let four : 4 ≤ length s = omega (arith, length-append (four_bytes n) body, four_long n) in
    let e : length_in s ≡ n = four_back n body (in_range_lem n h).1 in
    let whole : take n (fill (parts_for 512 n * 512) image) ≡ image =
    ap (take n) (fill_split (parts_for 512 n * 512) image (parts_enough 512 n (omega arith))) ∙ take_at image (fill (parts_for 512 n * 512 - n) []) n refl in
    rw (le-ltb (length s) 4 four, e, h, le-leb n (length output) l, drop_at (four_bytes n) body 4 (four_long n), body_back image)
    (delivered_yes n (passed (fill (parts_for 512 n * 512) image) []) output (passed_yes (fill (parts_for 512 n * 512) image) []) ∙ rw whole)
