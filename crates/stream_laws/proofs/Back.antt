-- An accepted stream is the stream of the image that was read from it.
use mathlib.Core.Path.{◌≡◌, refl, sym, ap, ap₂, ◌∙◌}
use mathlib.Core.Bool.{Bool, true, false, cond}
use mathlib.Core.List.{List, [], ◌∷◌, ◌++◌, append_assoc, append-nil}
use Prim.Native.Nat.{ℕ, zero, suc, ◌+◌, ◌-◌, ◌*◌, ◌/◌, ◌%◌, ◌^◌, ◌≤◌, ◌<◌, min}
use native.Mathlib.Nat.{suc-mul, pow-suc}
use native.Mathlib.Omega.{arith}
use lib.ListN.{length, take, drop, length-append}
use lib.Seq.{drop-drop, drop_at, length-take-le}
use lib.Pow.{pow_mono}
use lib.Dec.{eqb, ltb}
use borrow.Author.Tests.{ltb-true, eqb-true}
use Rattle.lists.specs.Lists.{all_zero, keep}
use Rattle.lists.specs.Rows.{joined, rows, fill}
use Rattle.lists.specs.Masks.{mask_of}
use Rattle.lists.proofs.Slices.{drop_take, none_left}
use Rattle.lists.proofs.Filled.{fill_back, fill_cut}
use Rattle.model.specs.Measures.{parts_for}
use Rattle.model.specs.State.{Block}
use Rattle.model.specs.Image.{block_from, blocks_from, segments_from, image_segments}
use Rattle.model.specs.Sound.{is_filled}
use Rattle.laws.proofs.Measures.{parts_enough}
use Rattle.stream.specs.Stream.{Read, passed, stopped, and_then, read_block, read_blocks, read_group, read_groups, read_end, read_body, group_bytes}
use Rattle.stream.specs.Pieces.{block_part}
use Rattle.stream_laws.proofs.Ways.{block_is, then_done, then_first, then_second}
use Rattle.stream_laws.proofs.Forward.{part_first}

-- ---- an image whose bytes from `at` on are the first `left` of those read

module _ (image : List ℕ) (at left w : ℕ) (b more : List ℕ) (n : length b ≡ w) (e : drop at image ≡ take left (b ++ more)) where
  -- those behind b
  pub image_next : drop (at + w) image ≡ take (left - w) more
  image_next = sym (drop-drop w at image) ∙ ap (drop w) e ∙ drop_take w left (b ++ more) ∙ ap (take (left - w)) (drop_at b more w n)

  -- a block that is zero after the length
  pub image_block : w ≡ 64 → all_zero (drop left b) ≡ true → block_from 64 image at ≡ b
  unfolding block_from
  image_block h z =
      let l : length b ≡ 64 = n ∙ h in
      ap (fill 64) e ∙ fill_cut 64 left b more l ∙ fill_back 64 left b l z

-- what accepted blocks were
pub record Blocks-are (k bits : ℕ) (s : List ℕ) (a : Read) (bs : List Block) : Type 0 where
  pub bit : bits ≡ mask_of is_filled bs
  pub stream : s ≡ joined (keep is_filled bs) ++ a.rest

pub blocks_size : (k bits left : ℕ) (s : List ℕ) → (read_blocks k bits left s).refusal ≡ 0 → length (read_blocks k bits left s).bytes ≡ k * 64
unfolding read_blocks passed
blocks_size zero bits left s e = refl
blocks_size (suc k) bits left s e =
    let a : Read = read_block (bits % 2) left s in
    let b : Read = read_blocks k (bits / 2) (left - 64) a.rest in
    let o = block_is (bits % 2) left s (omega arith) (then_first a b e) in
    rw (then_done a b (then_first a b e)) (omega (arith, length-append a.bytes b.bytes, o.size, blocks_size k (bits / 2) (left - 64) a.rest (then_second a b e), suc-mul k 64))

pub blocks_are : (k bits left : ℕ) (s image : List ℕ) (at : ℕ) (more : List ℕ) → bits < 2 ^ k → (read_blocks k bits left s).refusal ≡ 0
    → drop at image ≡ take left ((read_blocks k bits left s).bytes ++ more) → Blocks-are k bits s (read_blocks k bits left s) (blocks_from 64 image at k)
unfolding read_blocks passed blocks_from keep joined mask_of
blocks_are zero bits left s image at more h e d = record { bit = omega arith; stream = refl }
blocks_are (suc k) bits left s image at more h e d =
    let a : Read = read_block (bits % 2) left s in
    let b : Read = read_blocks k (bits / 2) (left - 64) a.rest in
    let ea : a.refusal ≡ 0 = then_first a b e in
    let o = block_is (bits % 2) left s (omega arith) ea in
    let x = then_done a b ea in
    let d' : drop at image ≡ take left (a.bytes ++ (b.bytes ++ more)) = d ∙ ap (λ (y : Read). take left (y.bytes ++ more)) x ∙ ap (take left) (append_assoc a.bytes b.bytes more) in
    let first : block_from 64 image at ≡ a.bytes = image_block image at left 64 a.bytes (b.bytes ++ more) o.size d' refl o.zero_after in
    let next = image_next image at left 64 a.bytes (b.bytes ++ more) o.size d' in
    let rec = blocks_are k (bits / 2) (left - 64) a.rest image (at + 64) more (omega (arith, pow-suc 2 k)) (then_second a b e) next in
    let bs : List Block = blocks_from 64 image (at + 64) k in
    record {
      bit = rw first (omega (arith, o.marked, rec.bit));
      stream = rw (first, part_first a.bytes bs, x, append_assoc (block_part a.bytes) (joined (keep is_filled bs)) b.rest) (o.stream ∙ ap (λ (l : List ℕ). block_part a.bytes ++ l) rec.stream);
    }

-- ---- groups

-- what an accepted group was
pub record Group-is (left : ℕ) (s : List ℕ) (a : Read) : Type 0 where
  pub size : length a.bytes ≡ 512
  pub stream : (image : List ℕ) (at : ℕ) (more : List ℕ) → drop at image ≡ take left (a.bytes ++ more) → s ≡ group_bytes (blocks_from 64 image at 8) ++ a.rest

pub group_is : (left : ℕ) (s : List ℕ) → (read_group left s).refusal ≡ 0 → Group-is left s (read_group left s)
unfolding read_group stopped group_bytes
group_is left [] e = absurd (omega arith)
group_is left (bits ∷ s) e = go (ltb bits (2 ^ min 8 (parts_for 64 left))) refl e
  where
    go : (t : Bool) → ltb bits (2 ^ min 8 (parts_for 64 left)) ≡ t → (cond t (read_blocks 8 bits left s) (stopped 26)).refusal ≡ 0
        → Group-is left (bits ∷ s) (cond t (read_blocks 8 bits left s) (stopped 26))
    go true q h =
        let k : min 8 (parts_for 64 left) ≤ 8 = omega arith in
        let m : 2 ^ min 8 (parts_for 64 left) ≤ 2 ^ 8 = pow_mono k in
        let l : bits < 2 ^ 8 = omega (arith, m, ltb-true bits (2 ^ min 8 (parts_for 64 left)) q) in
        record {
          size = blocks_size 8 bits left s h;
          stream = λ image at more d. let r = blocks_are 8 bits left s image at more l h d in ap₂ ◌∷◌ r.bit r.stream;
        }
    go false q h = absurd (omega arith)

pub groups_size : (k left : ℕ) (s : List ℕ) → (read_groups k left s).refusal ≡ 0 → length (read_groups k left s).bytes ≡ k * 512
unfolding read_groups passed
groups_size zero left s e = refl
groups_size (suc k) left s e =
    let a : Read = read_group left s in
    let b : Read = read_groups k (left - 512) a.rest in
    let o = group_is left s (then_first a b e) in
    rw (then_done a b (then_first a b e)) (omega (arith, length-append a.bytes b.bytes, o.size, groups_size k (left - 512) a.rest (then_second a b e), suc-mul k 512))

pub groups_are : (k left : ℕ) (s image : List ℕ) (at : ℕ) (more : List ℕ) → (read_groups k left s).refusal ≡ 0
    → drop at image ≡ take left ((read_groups k left s).bytes ++ more) → s ≡ rows group_bytes (segments_from 64 8 image at k) ++ (read_groups k left s).rest
unfolding read_groups passed segments_from joined
groups_are zero left s image at more e d = refl
groups_are (suc k) left s image at more e d =
    let a : Read = read_group left s in
    let b : Read = read_groups k (left - 512) a.rest in
    let ea : a.refusal ≡ 0 = then_first a b e in
    let o = group_is left s ea in
    let x = then_done a b ea in
    let d' : drop at image ≡ take left (a.bytes ++ (b.bytes ++ more)) = d ∙ ap (λ (y : Read). take left (y.bytes ++ more)) x ∙ ap (take left) (append_assoc a.bytes b.bytes more) in
    let next = image_next image at left 512 a.bytes (b.bytes ++ more) o.size d' in
    let rec = groups_are k (left - 512) a.rest image (at + 512) more (then_second a b e) next in
    let g : List ℕ = group_bytes (blocks_from 64 image at 8) in
    let gs : List ℕ = rows group_bytes (segments_from 64 8 image (at + 512) k) in
    o.stream image at (b.bytes ++ more) d' ∙ ap (λ (l : List ℕ). g ++ l) rec ∙ sym (append_assoc g gs b.rest) ∙ ap (λ (y : Read). (g ++ gs) ++ y.rest) (sym x)

-- all after the length
pub record Body-is (n : ℕ) (s : List ℕ) (a : Read) : Type 0 where
  pub size : length (take n a.bytes) ≡ n
  pub stream : s ≡ rows group_bytes (image_segments 64 8 (take n a.bytes))

pub end_is : (s : List ℕ) → (read_end s).refusal ≡ 0 → (s ≡ []) × (read_end s ≡ passed [] [])
unfolding read_end stopped
end_is s e = go (eqb (length s) 0) refl e
  where
    go : (t : Bool) → eqb (length s) 0 ≡ t → (cond t (passed [] []) (stopped 24)).refusal ≡ 0 → (s ≡ []) × (cond t (passed [] []) (stopped 24) ≡ passed [] [])
    go true q h = (none_left s (eqb-true (length s) 0 q), refl)
    go false q h = absurd (omega arith)

pub body_is : (n : ℕ) (s : List ℕ) → (read_body n s).refusal ≡ 0 → Body-is n s (read_body n s)
unfolding read_body image_segments passed
body_is n s e =
    let k : ℕ = parts_for 512 n in
    let a : Read = read_groups k n s in
    let b : Read = read_end a.rest in
    let ea : a.refusal ≡ 0 = then_first a b e in
    let z = end_is a.rest (then_second a b e) in
    let x : (and_then a b).bytes ≡ a.bytes = ap (λ (y : Read). y.bytes) (then_done a b ea) ∙ ap (λ (y : Read). a.bytes ++ y.bytes) z.1 ∙ append-nil a.bytes in
    let image : List ℕ = take n a.bytes in
    let l : length image ≡ n = length-take-le n a.bytes (omega (arith, groups_size k n s ea, parts_enough 512 n (omega arith))) in
    let r : s ≡ rows group_bytes (segments_from 64 8 image 0 k) ++ a.rest = groups_are k n s image 0 [] ea (ap (take n) (sym (append-nil a.bytes))) in
    rw x
    (record {
      size = l;
      stream = r ∙ ap (λ (l : List ℕ). rows group_bytes (segments_from 64 8 image 0 k) ++ l) z.0 ∙ append-nil _ ∙ ap (λ (j : ℕ). rows group_bytes (segments_from 64 8 image 0 (parts_for 512 j))) (sym l);
    })
