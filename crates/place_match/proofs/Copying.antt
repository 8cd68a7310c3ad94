-- A segment's blocks, marked, and those that are stored copied one after the other.
use mathlib.Core.Path.{◌∙◌, ◌≡◌, ap, refl, sym}
use mathlib.Core.Bool.{Bool, cond}
use mathlib.Core.List.{List}
use Prim.Native.Nat.{◌%◌, ◌*◌, ◌+◌, ◌-◌, ◌/◌, ◌<◌, ◌≤◌, suc, zero, ℕ}
use native.Mathlib.Nat.{mul-le-mul, suc-mul}
use native.Mathlib.Omega.{arith}
use lib.ListN.{drop, length, length-drop, take}
use lib.Seq.{length-take-le, sets}
use Rattle.lists.specs.Lists.{keep}
use Rattle.lists.specs.Masks.{mask_of}
use Rattle.lists.proofs.Places.{row_in}
use Rattle.lists.proofs.Rows.{fill_all, fill_take}
use Rattle.model.specs.Image.{block_from, blocks_from, with_blanks}
use Rattle.model.specs.Place.{stored_blocks}
use Rattle.model.specs.State.{Block}
use Rattle.model.specs.Table.{cells_in}
use Rattle.laws.proofs.Image.{blocks_next}
use Rattle.storage.proofs.Inside.{cells_count}
use Rattle.place_words.specs.Marks.{block_if, stored_bit, stored_mask}
use Rattle.place_words.proofs.Marks.{kept_count, kept_next, marks_div, marks_mod}

-- where the blocks of a segment begin
pub block_low : (from bytes n i : ℕ) → from ≤ 65536 → bytes ≤ 512 → n ≤ 16 → i ≤ n → from + i * bytes ≤ 73728
block_low from bytes n i f b h l =
    let k : i ≤ 16 = omega arith in
    let p : i * bytes ≤ 8192 = mul-le-mul k b in
    omega arith

-- one block back
pub block_back : (k w : ℕ) → 0 < k → k * w ≡ (k - 1) * w + w
block_back zero w h = absurd (omega arith)
block_back (suc k) w h = let e : suc k - 1 ≡ k = omega arith in rw e (suc-mul k w)

-- a block that is not cut
pub block_whole : (bytes : ℕ) (image : List ℕ) (at : ℕ) → at + bytes ≤ length image → take bytes (drop at image) ≡ block_from bytes image at
unfolding block_from
block_whole bytes image at h =
    sym (fill_all bytes (take bytes (drop at image)) (length-take-le bytes (drop at image) (omega (arith, length-drop at image)))) ∙ fill_take bytes (drop at image)

-- ---- masks of any kind

module _ (f : Block → Bool) (bytes : ℕ) (image : List ℕ) where
  -- one block more, at the front
  pub mask_front : (at n i m : ℕ) → 0 < i → i ≤ n → m ≡ mask_of f (blocks_from bytes image (at + bytes) (n - i))
      → cond (f (block_from bytes image at)) 1 0 + 2 * m ≡ mask_of f (blocks_from bytes image at (n - (i - 1)))
  unfolding mask_of
  mask_front at n i m h l e =
      let q : n - (i - 1 + 1) ≡ n - i = omega arith in
      rw (blocks_next bytes image at n (i - 1) (omega arith), q, ← e)

  -- none at first
  pub mask_end : (at n : ℕ) → 0 ≡ mask_of f (blocks_from bytes image at (n - n))
  unfolding blocks_from mask_of
  mask_end at n = let z : n - n ≡ 0 = omega arith in rw z

-- ---- the mask of those that are stored

-- of n blocks i are done
module _ (bytes : ℕ) (image : List ℕ) (n m at i : ℕ) (h : i < n) (e : m ≡ stored_mask (blocks_from bytes image at (n - i))) where
  pub bit_first : m % 2 ≡ stored_bit (block_from bytes image at)
  bit_first = rw (e, blocks_next bytes image at n i h) (marks_mod (block_from bytes image at) _)

  pub bits_rest : m / 2 ≡ stored_mask (blocks_from bytes image (at + bytes) (n - (i + 1)))
  bits_rest = rw (e, blocks_next bytes image at n i h) (marks_div (block_from bytes image at) _)

-- ---- copies

-- i blocks are copied, and what is left to do gives the whole
pub record Copied (bytes : ℕ) (image pool₀ : List ℕ) (n : ℕ) (all : List Block) (pool : List ℕ) (m cell at i : ℕ) : Type 0 where
  pub within : i ≤ n
  pub mask : m ≡ stored_mask (blocks_from bytes image at (n - i))
  pub room : cell + length (stored_blocks with_blanks (blocks_from bytes image at (n - i))) ≤ length (cells_in bytes pool₀)
  pub same : length pool ≡ length pool₀
  pub left : sets (cells_in bytes pool) cell (stored_blocks with_blanks (blocks_from bytes image at (n - i))) ≡ all

pub copied_start : (bytes : ℕ) (image pool : List ℕ) (n m cell at : ℕ) → m ≡ stored_mask (blocks_from bytes image at n) → cell + length (stored_blocks with_blanks (blocks_from bytes image at n)) ≤ length (cells_in bytes pool)
    → Copied bytes image pool n (sets (cells_in bytes pool) cell (stored_blocks with_blanks (blocks_from bytes image at n))) pool m cell at 0
copied_start bytes image pool n m cell at e r =
    let z : n - 0 ≡ n = omega arith in
    record { within = omega arith; mask = rw z e; room = rw z r; same = refl; left = rw z }

module _ {bytes : ℕ} {image pool₀ : List ℕ} {n : ℕ} {all : List Block} {pool : List ℕ} {m cell at i : ℕ} (p : Copied bytes image pool₀ n all pool m cell at i) (h : i < n) where
  abbrev b : Block
  b = block_from bytes image at

  copied_bit : m % 2 ≡ stored_bit b
  copied_bit = bit_first bytes image n m at i h p.mask

  -- the stored blocks that are left
  copied_count : length (stored_blocks with_blanks (blocks_from bytes image at (n - i))) ≡ m % 2 + length (stored_blocks with_blanks (blocks_from bytes image (at + bytes) (n - (i + 1))))
  copied_count = ap (λ (l : List Block). length (stored_blocks with_blanks l)) (blocks_next bytes image at n i h) ∙ kept_count b _ ∙ rw copied_bit

  pub copied_room : 0 < bytes → m % 2 ≡ 1 → cell * bytes + bytes ≤ length pool
  copied_room z e = omega (arith, p.same, row_in (length pool₀) bytes z cell (omega (arith, p.room, copied_count, cells_count bytes pool₀)))

  pub copied_step : (next : List ℕ) → length next ≡ length pool → cells_in bytes next ≡ sets (cells_in bytes pool) cell (block_if (m % 2) b)
      → Copied bytes image pool₀ n all next (m / 2) (cell + m % 2) (at + bytes) (i + 1)
  copied_step next l e = record {
    within = omega arith;
    mask = bits_rest bytes image n m at i h p.mask;
    room = omega (arith, p.room, copied_count);
    same = l ∙ p.same;
    left = rw (e, copied_bit) (sym (kept_next (cells_in bytes pool) cell b _) ∙ ap (λ (l : List Block). sets (cells_in bytes pool) cell (stored_blocks with_blanks l)) (sym (blocks_next bytes image at n i h)) ∙ p.left);
  }

pub copied_end : {bytes : ℕ} {image pool₀ : List ℕ} {n : ℕ} {all : List Block} {pool : List ℕ} {m cell at i : ℕ} → Copied bytes image pool₀ n all pool m cell at i → n ≤ i → cells_in bytes pool ≡ all
unfolding stored_blocks keep blocks_from
copied_end {n = n} {i = i} p h =
    let z : n - i ≡ 0 = omega arith in
    rw z at p.left
