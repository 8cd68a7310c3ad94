-- What placing a segment does, case by case.
use mathlib.Core.Path.{◌∙◌, ◌≡◌, ap, ap₂, refl, sym}
use mathlib.Core.Bool.{Bool, cond, false, not, true}
use mathlib.Core.List.{List, [], ◌∷◌, map}
use mathlib.Core.Option.{none, some}
use Prim.Native.Nat.{◌*◌, ◌+◌, ◌<◌, suc, ℕ}
use native.Mathlib.Omega.{arith}
use lib.ListN.{length}
use lib.Count.{ones, ones_step}
use Rattle.lists.specs.Lists.{every, first_from, keep}
use Rattle.lists.specs.Masks.{mask_of}
use Rattle.model.specs.Image.{is_bare, with_blanks}
use Rattle.model.specs.Place.{bare_pointer, place_segment, pointers_to, share, share_or_write, stored_blocks, write, write_record, write_run}
use Rattle.model.specs.Records.{equals, is_free}
use Rattle.model.specs.Runs.{Run, find_run, free_cells, scan}
use Rattle.model.specs.State.{Block, Storage, direct, done, refused}
use Rattle.place_words.specs.Marks.{stored_bit, stored_mask}
use Rattle.place_words.proofs.Marks.{kept_count, marks_div, marks_mod}

-- ---- tests of the mask

pub bare_yes : (seg : List Block) → stored_mask seg ≡ 0 → every (is_bare with_blanks) seg ≡ true
unfolding every mask_of
bare_yes [] h = refl
bare_yes (b ∷ seg) h = go (is_bare with_blanks b) refl (bare_yes seg (omega arith))
  where
    go : (t : Bool) → is_bare with_blanks b ≡ t → every (is_bare with_blanks) seg ≡ true → cond t (every (is_bare with_blanks) seg) false ≡ true
    go true e r = r
    go false e r = absurd (let z : stored_bit b ≡ 1 = ap {B = ℕ} (λ (t : Bool). cond (not t) 1 0) e in omega arith)

pub bare_no : (seg : List Block) → (stored_mask seg ≡ 0 → ⊥) → every (is_bare with_blanks) seg ≡ false
unfolding every mask_of
bare_no [] h = absurd (h refl)
bare_no (b ∷ seg) h = go (is_bare with_blanks b) refl (λ n. bare_no seg n)
  where
    go : (t : Bool) → is_bare with_blanks b ≡ t → ((stored_mask seg ≡ 0 → ⊥) → every (is_bare with_blanks) seg ≡ false) → cond t (every (is_bare with_blanks) seg) false ≡ false
    go true e r = r (λ z. h (let y : stored_bit b ≡ 0 = ap {B = ℕ} (λ (t : Bool). cond (not t) 1 0) e in omega arith))
    go false e r = refl

pub ones_marks : (seg : List Block) → ones (stored_mask seg) ≡ length (stored_blocks with_blanks seg)
unfolding mask_of ones
ones_marks [] = unfold stored_blocks keep in refl
ones_marks (b ∷ seg) =
    ones_step (stored_bit b + 2 * stored_mask seg)
    ∙ ap₂ (λ (x y : ℕ). x + y) (marks_mod b seg) (ap ones (marks_div b seg) ∙ ones_marks seg)
    ∙ sym (kept_count b seg)

pub some_blocks_lem : (seg : List Block) → (stored_mask seg ≡ 0 → ⊥) → 0 < length (stored_blocks with_blanks seg)
unfolding mask_of
some_blocks_lem [] n = absurd (n refl)
some_blocks_lem (b ∷ seg) n = go (is_bare with_blanks b) refl (λ m. some_blocks_lem seg m)
  where
    go : (t : Bool) → is_bare with_blanks b ≡ t → ((stored_mask seg ≡ 0 → ⊥) → 0 < length (stored_blocks with_blanks seg)) → 0 < length (stored_blocks with_blanks (b ∷ seg))
    go true e r = let y : stored_bit b ≡ 0 = ap {B = ℕ} (λ (t : Bool). cond (not t) 1 0) e in omega (arith, r (λ z. n (omega arith)), kept_count b seg)
    go false e r = let y : stored_bit b ≡ 1 = ap {B = ℕ} (λ (t : Bool). cond (not t) 1 0) e in omega (arith, kept_count b seg)

-- the pointers of a segment that has no stored block name no record
pub bare_pointers : (k i : ℕ) (seg : List Block) → stored_mask seg ≡ 0 → pointers_to with_blanks k i seg ≡ map bare_pointer seg
unfolding mask_of pointers_to
bare_pointers k i [] h = refl
bare_pointers k i (b ∷ seg) h = go (is_bare with_blanks b) refl (bare_pointers k (suc i) seg (omega arith))
  where
    go : (t : Bool) → is_bare with_blanks b ≡ t → pointers_to with_blanks k (suc i) seg ≡ map bare_pointer seg
        → cond t (bare_pointer b) (direct k i) ∷ pointers_to with_blanks k (suc i) seg ≡ bare_pointer b ∷ map bare_pointer seg
    go true e r = rw r
    go false e r = absurd (let z : stored_bit b ≡ 1 = ap {B = ℕ} (λ (t : Bool). cond (not t) 1 0) e in omega arith)

-- ---- the cases of placing

module _ (s : Storage) (seg : List Block) where
  pub place_bare : stored_mask seg ≡ 0 → place_segment with_blanks s seg ≡ done (record { storage = s; pointers = map bare_pointer seg })
  unfolding place_segment
  place_bare z = rw (bare_yes seg z)

  module _ (n : stored_mask seg ≡ 0 → ⊥) where
    pub place_share : (k : ℕ) → first_from (equals with_blanks s seg) 0 s.records ≡ some k → place_segment with_blanks s seg ≡ done (share with_blanks s seg k)
    unfolding place_segment share_or_write
    place_share k e = rw (bare_no seg n, e)

    module _ (no : first_from (equals with_blanks s seg) 0 s.records ≡ none) where
      pub place_full : first_from is_free 0 s.records ≡ none → place_segment with_blanks s seg ≡ refused 14
      unfolding place_segment share_or_write write_record
      place_full e = rw (bare_no seg n, no, e)

      pub place_tight : (k : ℕ) → first_from is_free 0 s.records ≡ some k → scan (length (stored_blocks with_blanks seg)) (free_cells s) 0 0 none ≡ none → place_segment with_blanks s seg ≡ refused 16
      unfolding place_segment share_or_write write_record write_run find_run
      place_tight k e f = rw (bare_no seg n, no, e, f)

      pub place_write : (k : ℕ) (run : Run) → first_from is_free 0 s.records ≡ some k → scan (length (stored_blocks with_blanks seg)) (free_cells s) 0 0 none ≡ some run
          → place_segment with_blanks s seg ≡ done (write with_blanks s seg k run)
      unfolding place_segment share_or_write write_record write_run find_run
      place_write k run e f = rw (bare_no seg n, no, e, f)
