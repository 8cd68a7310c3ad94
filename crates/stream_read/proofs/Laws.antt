-- The second walk, case by case and step by step.
use mathlib.Core.Path.{◌≡◌, refl, sym, ap, ◌∙◌}
use mathlib.Core.List.{List, [], ◌++◌, append-nil}
use Prim.Native.Nat.{ℕ, ◌+◌, ◌-◌, ◌/◌, ◌%◌, ◌≤◌, ◌<◌, min}
use native.Mathlib.Nat.{sub-zero}
use native.Mathlib.Omega.{arith}
use lib.ListN.{length, take, drop, replicate, length-drop, length-take, length-replicate}
use lib.Seq.{drop-drop, take-nil, length-take-le}
use borrow.Rule.Slice.PartMut.{mid_of, put_mid}
use Rattle.lists.proofs.Slices.{drop_end, take_lesser, take_zeros}
use Rattle.blocks.proofs.Parts.{filled_part}
use Rattle.model.specs.Image.{zero_block}
use Rattle.stream.specs.Stream.{Read, passed, and_then, read_block, read_blocks, read_group, read_end, read_body}
use Rattle.stream_laws.proofs.Ways.{then_done, then_first, then_second, block_is}
use Rattle.stream_laws.proofs.Steps.{blocks_step, groups_of, groups_step, groups_none, block_null, block_taken, body_is_then}
use Rattle.stream_laws.proofs.Back.{group_is, end_is, body_is}
use Rattle.stream_read.specs.Answers.{Fills}
use Rattle.lists.specs.Written.{written}
use Rattle.lists.proofs.Pieces.{written_none, written_next, length_written}

-- ---- a block

module _ (s : List ℕ) (at bit : ℕ) (image : List ℕ) (to n : ℕ) (h : at ≤ length s) (g : to ≤ length image) (e : n ≡ min 64 (length image - to)) where
  pub fills_null : (ys : List ℕ) → bit ≡ 0 → ys ≡ replicate (length (mid_of to (to + n - to) image)) 0
      → Fills (read_block bit (length image - to) (drop at s)) s at image to (put_mid to (to + n - to) image ys)
  unfolding passed zero_block written
  fills_null ys z f =
      let r : take (length image - to) (zero_block 64) ≡ replicate n 0 = take_zeros (length image - to) 64 ∙ ap (λ (k : ℕ). replicate {A = ℕ} k 0) (sym e) in
      let l : length (replicate {A = ℕ} n 0) ≡ n = length-replicate {A = ℕ} n 0 in
      rw (block_null bit (length image - to) (drop at s) z)
      (record { within = h; rest = refl; bytes = filled_part to n 0 image ys (omega arith) f ∙ rw (r, l) })

  module _ (one : bit ≡ 0 → ⊥) (ok : (read_block bit (length image - to) (drop at s)).refusal ≡ 0) where
    pub copy_from : at + 64 ≤ length s
    copy_from = omega (arith, (block_taken bit (length image - to) (drop at s) one ok).0, length-drop at s)

    pub fills_copy : (out : List ℕ) → out ≡ take to image ++ (take n (drop at s) ++ drop (to + n) image)
        → Fills (read_block bit (length image - to) (drop at s)) s (at + 64) image to out
    unfolding passed written
    fills_copy out f =
        let r : take (length image - to) (take 64 (drop at s)) ≡ take n (drop at s) = take_lesser (length image - to) 64 (drop at s) ∙ ap (λ (k : ℕ). take k (drop at s)) (sym e) in
        let l : length (take n (drop at s)) ≡ n = length-take-le n (drop at s) (omega (arith, length-drop at s, copy_from)) in
        rw (block_taken bit (length image - to) (drop at s) one ok).1
        (record { within = copy_from; rest = sym (drop-drop 64 at s); bytes = f ∙ rw (r, l) })

-- ---- steps

-- what is left to write, from a place of the image on, gives what was to be written
pub record Filling (s image₀ : List ℕ) (start : ℕ) (x : Read) (image : List ℕ) (at to : ℕ) (y : Read) : Type 0 where
  pub same : length image ≡ length image₀
  pub within : at ≤ length s
  pub inside : to ≤ length image
  pub good : y.refusal ≡ 0
  pub rest : y.rest ≡ x.rest
  pub left : written image to (take (length image - to) y.bytes) ≡ written image₀ start (take (length image₀ - start) x.bytes)

pub fill_start : (s image : List ℕ) (at to : ℕ) (x : Read) → at ≤ length s → to ≤ length image → x.refusal ≡ 0 → Filling s image to x image at to x
fill_start s image at to x h g e = record { same = refl; within = h; inside = g; good = e; rest = refl; left = refl }

module _ {s image₀ image : List ℕ} {start at to : ℕ} {x y : Read} (p : Filling s image₀ start x image at to y) (a : Read) (next : List ℕ → Read) (e : y ≡ and_then a (next a.rest)) where
  pub step_good : a.refusal ≡ 0
  step_good = then_first a (next a.rest) (ap (λ (z : Read). z.refusal) (sym e) ∙ p.good)

  pub step_fill : (w : ℕ) (image' : List ℕ) (at' to' : ℕ) → length a.bytes ≡ w → Fills a s at' image to image' → to' ≡ to + min w (length image - to)
      → Filling s image₀ start x image' at' to' (next (drop at' s))
  step_fill w image' at' to' n f t =
      let b : Read = next a.rest in
      let eb : next (drop at' s) ≡ b = ap next f.rest in
      let ey = e ∙ then_done a b step_good in
      let r : ℕ = length image - to in
      let k : to + length (take r a.bytes) ≤ length image = omega (arith, p.inside, length-take r a.bytes) in
      let l : length image' ≡ length image = ap length f.bytes ∙ length_written image to (take r a.bytes) k in
      let last : written image to (take r (a.bytes ++ b.bytes)) ≡ written image to (take r y.bytes) = ap (λ (z : Read). written image to (take r z.bytes)) (sym ey) in
      rw eb
      (record {
        same = l ∙ p.same;
        within = f.within;
        inside = omega (arith, l, t, p.inside);
        good = then_second a b (ap (λ (z : Read). z.refusal) (sym e) ∙ p.good);
        rest = ap (λ (z : Read). z.rest) (sym ey) ∙ p.rest;
        left = rw (l, f.bytes, t) (written_next image to w a.bytes b.bytes n p.inside ∙ last ∙ p.left);
      })

pub fill_end : {s image₀ image : List ℕ} {start at to : ℕ} {x y : Read} → Filling s image₀ start x image at to y → y ≡ passed [] (drop at s) → Fills x s at image₀ start image
unfolding passed
fill_end {s} {image₀} {image} {start} {at} {to} {x} {y} p e =
    let z : take (length image - to) y.bytes ≡ [] = ap (λ (q : Read). take (length image - to) q.bytes) e ∙ take-nil (length image - to) in
    record {
      within = p.within;
      rest = ap (λ (q : Read). q.rest) (sym e) ∙ p.rest;
      bytes = sym (written_none image to) ∙ ap (written image to) (sym z) ∙ p.left;
    }

pub fills_same : {x : Read} {s : List ℕ} {at : ℕ} {image₀ : List ℕ} {to : ℕ} {image : List ℕ} → Fills x s at image₀ to image → to ≤ length image₀ → length image ≡ length image₀
fills_same {x} {s} {at} {image₀} {to} {image} f h =
    let r : ℕ = length image₀ - to in
    ap length f.bytes ∙ length_written image₀ to (take r x.bytes) (omega (arith, length-take r x.bytes))

-- ---- block by block

module _ (i m : ℕ) {s image₀ image : List ℕ} {start at to : ℕ} {x : Read} (p : Filling s image₀ start x image at to (read_blocks (8 - i) m (length image - to) (drop at s))) (h : i < 8) where
  pub block_ok : (read_block (m % 2) (length image - to) (drop at s)).refusal ≡ 0
  block_ok = step_good p _ (read_blocks (8 - i - 1) (m / 2) (length image - to - 64)) (blocks_step (8 - i) m (length image - to) (drop at s) (omega arith))

  pub blocks_on_lem : (image' : List ℕ) (at' n : ℕ) → Fills (read_block (m % 2) (length image - to) (drop at s)) s at' image to image' → n ≡ min 64 (length image' - to)
      → Filling s image₀ start x image' at' (to + n) (read_blocks (8 - (i + 1)) (m / 2) (length image' - (to + n)) (drop at' s))
  blocks_on_lem image' at' n f e =
      let r : ℕ = length image - to in
      let l : length image' ≡ length image = fills_same f p.inside in
      let o = block_is (m % 2) r (drop at s) (omega arith) block_ok in
      let t : to + n ≡ to + min 64 r = omega (arith, e, l) in
      let k : 8 - i - 1 ≡ 8 - (i + 1) = omega arith in
      let z : length image - to - 64 ≡ length image' - (to + n) = omega (arith, e, l) in
      let q = step_fill p _ (read_blocks (8 - i - 1) (m / 2) (r - 64)) (blocks_step (8 - i) m r (drop at s) (omega arith)) 64 image' at' (to + n) o.size f t in
      rw (k, z) at q

-- ---- group by group

module _ {s image₀ image : List ℕ} {start at to : ℕ} {x : Read} (p : Filling s image₀ start x image at to (groups_of (length image - to) (drop at s))) (h : to < length image) where
  pub group_ok : (read_group (length image - to) (drop at s)).refusal ≡ 0
  group_ok = step_good p _ (groups_of (length image - to - 512)) (groups_step (length image - to) (drop at s) (omega arith))

  pub groups_on : (image' : List ℕ) (at' n : ℕ) → Fills (read_group (length image - to) (drop at s)) s at' image to image' → n ≡ min 512 (length image' - to)
      → Filling s image₀ start x image' at' (to + n) (groups_of (length image' - (to + n)) (drop at' s))
  groups_on image' at' n f e =
      let r : ℕ = length image - to in
      let l : length image' ≡ length image = fills_same f p.inside in
      let o = group_is r (drop at s) group_ok in
      let t : to + n ≡ to + min 512 r = omega (arith, e, l) in
      let z : length image - to - 512 ≡ length image' - (to + n) = omega (arith, e, l) in
      let q = step_fill p _ (groups_of (r - 512)) (groups_step r (drop at s) (omega arith)) 512 image' at' (to + n) o.size f t in
      rw z at q

-- ---- the whole image

module _ (s image₀ : List ℕ) (ok : (read_body (length image₀) (drop 4 s)).refusal ≡ 0) where
  pub groups_ok : (groups_of (length image₀) (drop 4 s)).refusal ≡ 0
  groups_ok = then_first _ _ (ap (λ (x : Read). x.refusal) (sym (body_is_then (length image₀) (drop 4 s))) ∙ ok)

  body_bytes : (read_body (length image₀) (drop 4 s)).bytes ≡ (groups_of (length image₀) (drop 4 s)).bytes
  unfolding passed
  body_bytes =
      let a : Read = groups_of (length image₀) (drop 4 s) in
      let b : Read = read_end a.rest in
      let e = body_is_then (length image₀) (drop 4 s) in
      let q = end_is a.rest (then_second a b (ap (λ (x : Read). x.refusal) (sym e) ∙ ok)) in
      ap (λ (x : Read). x.bytes) (e ∙ then_done a b groups_ok) ∙ ap (λ (x : Read). a.bytes ++ x.bytes) q.1 ∙ append-nil a.bytes

  pub image_start : 4 ≤ length s → Filling s image₀ 0 (groups_of (length image₀) (drop 4 s)) image₀ 4 0 (groups_of (length image₀ - 0) (drop 4 s))
  image_start h = rw (sub-zero (length image₀)) (fill_start s image₀ 4 0 (groups_of (length image₀) (drop 4 s)) h (omega arith) groups_ok)

  pub image_end : (image : List ℕ) (at to : ℕ) → Filling s image₀ 0 (groups_of (length image₀) (drop 4 s)) image at to (groups_of (length image - to) (drop at s)) → length image ≤ to
      → image ≡ take (length image₀) (read_body (length image₀) (drop 4 s)).bytes
  unfolding written
  image_end image at to p h =
      let n : ℕ = length image₀ in
      let z : length image - to ≡ 0 = omega arith in
      let f : Fills (groups_of n (drop 4 s)) s at image₀ 0 image = fill_end p (rw z (groups_none (drop at s))) in
      let ys : List ℕ = take n (read_body n (drop 4 s)).bytes in
      let l : length ys ≡ n = (body_is n (drop 4 s) ok).size in
      let e : take (length image₀ - 0) (groups_of n (drop 4 s)).bytes ≡ ys = rw (sub-zero n, body_bytes) in
      let d : drop (0 + length ys) image₀ ≡ [] = drop_end image₀ (0 + length ys) (omega (arith, l)) in
      f.bytes ∙ ap (written image₀ 0) e ∙ rw d (append-nil ys)
