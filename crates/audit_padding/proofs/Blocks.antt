-- The block at a pointer word, and a version's last block.
use mathlib.Core.Path.{◌≡◌, refl, sym, ap, ap₂, ◌∙◌}
use mathlib.Core.Bool.{Bool, true, false}
use mathlib.Core.List.{List, []}
use Prim.Native.Nat.{ℕ, zero, suc, ◌+◌, ◌-◌, ◌*◌, ◌/◌, ◌%◌, ◌≤◌, ◌<◌}
use native.Mathlib.Nat.{sub-zero, one-mul, mul_comm, mul-le-mul_right}
use native.Mathlib.Omega.{arith}
use borrow.Author.Tests.{eqb-true, eqb-false, leb-true, leb-false}
use lib.Dec.{eqb, leb}
use lib.ListN.{length, get_or, take, drop, replicate, drop_of_length-le, length-take, get_or-eq_default}
use lib.Seq.{drop-drop, drop-nil, get_or-take, length-take-le}
use Rattle.lists.specs.Lists.{every, all_zero}
use Rattle.lists.proofs.Same.{zeros_zero}
use Rattle.lists.proofs.Slices.{drop_same, drop_take}
use Rattle.lists.proofs.Cuts.{length_chunks, chunk_at}
use Rattle.lists.proofs.Places.{in_row, rows_short}
use Rattle.model.specs.Measures.{Measures}
use Rattle.model.specs.State.{null_position, Storage, Version}
use Rattle.model.specs.Image.{zero_block, blank_block}
use Rattle.model.specs.Records.{cell_of, cell_at, position_at}
use Rattle.model.specs.Table.{kind_unit, word_to_pointer, records_in, cells_in, storage_in, version_in, versions_in}
use Rattle.model.specs.Trace.{end_of, block_at, traced_block}
use Rattle.model.specs.Sound.{ends_zero}
use Rattle.audit_words.proofs.Pointers.{read_direct, read_indirect, read_blank, read_other}
use Rattle.audit_pointers.proofs.Slots.{versions_cons}

-- ---- block_at

zeros_drop : (k bytes : ℕ) → all_zero (drop k (zero_block bytes)) ≡ true
unfolding zero_block
zeros_drop k bytes = ap all_zero (drop_same 0 k bytes) ∙ zeros_zero (bytes - k)

blanks_some : (n : ℕ) → 0 < n → all_zero (replicate n 255) ≡ false
unfolding all_zero every
blanks_some zero h = absurd (omega arith)
blanks_some (suc n) h = refl

blanks_drop : (k bytes : ℕ) → all_zero (drop k (blank_block bytes)) ≡ leb bytes k
unfolding blank_block
blanks_drop k bytes = ap all_zero (drop_same 255 k bytes) ∙ go (leb bytes k) refl
  where
    go : (t : Bool) → leb bytes k ≡ t → all_zero (replicate (bytes - k) 255) ≡ t
    go true e = let z : bytes - k ≡ 0 = omega (arith, leb-true bytes k e) in rw z (zeros_zero 0)
    go false e = blanks_some (bytes - k) (omega (arith, leb-false bytes k e))

-- blank: zero from its end on only
pub blank_block_lem : (bytes : ℕ) (storage : Storage) (w from : ℕ) → w / kind_unit ≡ 3 → all_zero (drop from (block_at bytes storage (word_to_pointer w))) ≡ leb bytes from
unfolding block_at
blank_block_lem bytes storage w from e = rw (read_blank w e) (blanks_drop from bytes)

-- null or indirect: zero
pub other_block : (bytes : ℕ) (storage : Storage) (w from : ℕ) → (w / kind_unit ≡ 3 → ⊥) → (w / kind_unit ≡ 1 → ⊥) → all_zero (drop from (block_at bytes storage (word_to_pointer w))) ≡ true
unfolding block_at
other_block bytes storage w from b n = go (eqb (w / kind_unit) 2) refl
  where
    go : (t : Bool) → eqb (w / kind_unit) 2 ≡ t → all_zero (drop from (block_at bytes storage (word_to_pointer w))) ≡ true
    go true e = rw (read_indirect w (eqb-true _ _ e)) (zeros_drop from bytes)
    go false e = rw (read_other w n (eqb-false _ _ e) b) (zeros_drop from bytes)

-- direct: the bytes of cell c, which begin at byte `at`
module _ (m : Measures) (some : 0 < m.block_bytes) (pool ws : List ℕ) (w c at from : ℕ) (k : w / kind_unit ≡ 1)
    (e : c ≡ cell_of (get_or (get_or (records_in m.segment_blocks ws) (w % kind_unit / 16) []) (w % kind_unit % 16) null_position)) (f : at ≡ c * m.block_bytes) where
  abbrev bytes : ℕ
  bytes = m.block_bytes

  abbrev block : List ℕ
  block = block_at bytes (storage_in m pool ws) (word_to_pointer w)

  direct_block : block ≡ get_or (cells_in bytes pool) c []
  unfolding block_at cell_at position_at storage_in
  direct_block = rw (read_direct w k, e)

  cell_bytes : at + bytes ≤ length pool → block ≡ take bytes (drop at pool)
  unfolding cells_in
  cell_bytes h = direct_block ∙ chunk_at bytes pool c (in_row (length pool) bytes some c (omega (arith, f))) ∙ ap (λ (i : ℕ). take bytes (drop i pool)) (sym f)

  pub past_block : length pool < at + bytes → all_zero (drop from block) ≡ true
  unfolding all_zero every cells_in
  past_block h =
      rw (direct_block, get_or-eq_default (cells_in bytes pool) [] {n = c} (omega (arith, length_chunks bytes pool, rows_short (length pool) bytes some c (omega (arith, f)))), drop-nil {A = ℕ} from)

  pub late_block : at + bytes ≤ length pool → bytes ≤ from → all_zero (drop from block) ≡ true
  unfolding all_zero every
  late_block h g =
      let z : drop from (take bytes (drop at pool)) ≡ [] = drop_of_length-le (take bytes (drop at pool)) {i = from} (omega (arith, length-take bytes (drop at pool))) in
      rw (cell_bytes h, z)

  pub cell_block : at + bytes ≤ length pool → from < bytes → take (at + bytes - (at + from)) (drop (at + from) pool) ≡ drop from block
  cell_block h g =
      let n : at + bytes - (at + from) ≡ bytes - from = omega arith in
      rw (cell_bytes h, drop_take from bytes (drop at pool), drop-drop from at pool, n)

-- ---- ends_zero

-- the first slot, lent by its end
pub first_slot : (b : ℕ) (ws : List ℕ) → take (3 + b - 0) (drop 0 ws) ≡ take (3 + b) ws
first_slot b ws = rw sub-zero

pub first_long : (b : ℕ) (ws : List ℕ) → 3 + b ≤ length ws → length (take (3 + b - 0) (drop 0 ws)) ≡ 3 + b
first_long b ws h = rw (first_slot b ws) (length-take-le (3 + b) ws h)

pub slot_fits : (b n l : ℕ) → 0 < n → n * (3 + b) ≤ l → 3 + b ≤ l
slot_fits b n l h g = let m : 1 * (3 + b) ≤ n * (3 + b) = mul-le-mul_right (3 + b) h in omega (arith, one-mul (3 + b))

module _ (bytes : ℕ) (storage : Storage) (b count : ℕ) (ws : List ℕ) (h : 0 < count) where
  abbrev first : Version
  first = version_in bytes (take (3 + b) ws)

  pub tail_of : (np last from at w : ℕ) (r : Bool) → np ≡ length first.pointers → last ≡ np - 1 → at ≡ last * bytes → from ≡ get_or ws 1 0 - at
      → word_to_pointer w ≡ end_of (versions_in bytes b count ws) last → r ≡ all_zero (drop from (block_at bytes storage (word_to_pointer w)))
      → r ≡ ends_zero bytes storage first (versions_in bytes b (count - 1) (drop (3 + b) ws))
  unfolding ends_zero traced_block
  tail_of np last from at w r e₁ e₂ e₃ e₄ e₅ e₆ =
      let l : last ≡ length first.pointers - 1 = e₂ ∙ ap (λ (i : ℕ). i - 1) e₁ in
      let f : from ≡ first.length - bytes * (length first.pointers - 1) = e₄ ∙ ap₂ (λ (a i : ℕ). a - i) size (e₃ ∙ mul_comm last bytes ∙ ap (λ (i : ℕ). bytes * i) l) in
      e₆ ∙ ap (λ (a : ℕ). all_zero (drop a (block_at bytes storage (word_to_pointer w)))) f
      ∙ ap (λ p. all_zero (drop (first.length - bytes * (length first.pointers - 1)) (block_at bytes storage p))) (e₅ ∙ ap₂ end_of (versions_cons bytes b count ws h) l)
    where
      size : get_or ws 1 0 ≡ first.length
      size = unfold version_in in sym (get_or-take (3 + b) ws 1 0 (omega arith))
