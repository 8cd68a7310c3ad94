-- Whether a record can match, from its three masks and its positions.
use mathlib.Core.Path.{◌≡◌, refl, sym, ap, ◌∙◌}
use mathlib.Core.Bool.{Bool, true, false, cond, not, false≢true}
use mathlib.Core.List.{List, [], ◌∷◌}
use Prim.Native.Nat.{ℕ, ◌+◌, ◌*◌, ◌/◌, ◌%◌, ◌≤◌, ◌<◌}
use native.Mathlib.Omega.{arith}
use lib.ListN.{length, get_or, take, drop}
use lib.Dec.{eqb}
use borrow.Author.Tests.{eq-eqb, ne_eqb}
use Rattle.lists.specs.Lists.{every, all_of}
use Rattle.lists.specs.Masks.{mask_of}
use Rattle.lists.proofs.Masks.{bit_false}
use Rattle.lists.proofs.Slices.{every_next, every_stop, every_end}
use Rattle.lists.proofs.Tests.{all_false, cond_never, cond_self}
use Rattle.lists.proofs.Walks.{mask_here, mask_after}
use Rattle.model.specs.State.{Block, Position, null_position, blank_position, held, removed, Segment, Storage}
use Rattle.model.specs.Image.{is_blank, with_blanks}
use Rattle.model.specs.Records.{is_held, is_removed, is_free, cell_of, cell_at}
use Rattle.model.specs.Table.{cells_in, record_to_words}
use Rattle.storage.proofs.Free.{held_is, removed_is, row_not_held, row_by}
use Rattle.storage.proofs.Inside.{cell_is}
use Rattle.storage.proofs.Row.{cell_word}
use Rattle.sent.specs.Sent.{lets, can_match}

-- ---- one position

module _ (s : Storage) (h : ℕ) where
  pub lets_bare : (p : Position) → h ≡ cond (is_held p) 1 0 → is_removed p ≡ false → h ≡ 0 → true ≡ lets s p
  lets_bare null_position e r z = refl
  lets_bare blank_position e r z = refl
  lets_bare (held d n) e r z = absurd (omega (arith, e, z))
  lets_bare removed e r z = absurd (false≢true (sym r))

  pub lets_held : (c bytes : ℕ) (pool : List ℕ) → s.cells ≡ cells_in bytes pool → 0 < bytes → c * bytes + bytes ≤ length pool
      → (p : Position) → h ≡ cond (is_held p) 1 0 → ¬ (h ≡ 0) → c ≡ cell_of p → not (every (λ x. eqb x 255) (take bytes (drop (c * bytes) pool))) ≡ lets s p
  lets_held c bytes pool e z room null_position q o r = absurd (o q)
  lets_held c bytes pool e z room blank_position q o r = absurd (o q)
  lets_held c bytes pool e z room (held d n) q o r = unfold is_blank in ap (λ (b : Block). not (every (λ x. eqb x 255) b)) (cell_is bytes pool c z room s e ∙ ap (cell_at s) r)
  lets_held c bytes pool e z room removed q o r = absurd (o q)

-- ---- all positions

-- i positions let it match: what is left decides
pub record LetsTo (s : Storage) (seg : Segment) (h i : ℕ) : Type 0 where
  pub mask : h ≡ mask_of is_held (drop i seg)
  pub whole : mask_of is_removed (drop i seg) ≡ 0
  pub left : every (lets s) (drop i seg) ≡ every (lets s) seg

pub lets_start : (s : Storage) (seg : Segment) (row : List ℕ) → row ≡ record_to_words seg → get_or row 1 0 ≡ 0 → LetsTo s seg (get_or row 0 0) 0
lets_start s seg row e z = record { mask = held_is seg row e; whole = sym (removed_is seg row e) ∙ z; left = refl }

module _ {s : Storage} {seg : Segment} {h i : ℕ} (t : LetsTo s seg h i) where
  module _ (l : i < length seg) where
    abbrev p : Position
    p = get_or seg i null_position

    -- what is answered of position i, from its bits and its cell word
    pub lets_here : (row : List ℕ) → row ≡ record_to_words seg → (r : Bool)
        → ((p : Position) → h % 2 ≡ cond (is_held p) 1 0 → is_removed p ≡ false → get_or row (3 + i) 0 ≡ cell_of p → r ≡ lets s p) → r ≡ lets s p
    lets_here row e r f =
        f p (rw t.mask (mask_here is_held seg i null_position l))
        (bit_false (is_removed p) (sym (mask_here is_removed seg i null_position l) ∙ ap (λ (m : ℕ). m % 2) t.whole))
        (rw e (cell_word seg i l))

    pub lets_yes : true ≡ lets s p → LetsTo s seg (h / 2) (i + 1)
    lets_yes q = record {
      mask = rw t.mask (mask_after is_held seg i null_position l);
      whole = sym (mask_after is_removed seg i null_position l) ∙ ap (λ (m : ℕ). m / 2) t.whole;
      left = sym (every_next (lets s) seg i null_position l (sym q)) ∙ t.left;
    }

    pub lets_no : false ≡ lets s p → false ≡ every (lets s) seg
    lets_no q = sym (every_stop (lets s) seg i null_position l (sym q)) ∙ t.left

  pub lets_end : length seg ≤ i → true ≡ every (lets s) seg
  lets_end l = sym (every_end (lets s) seg i l) ∙ t.left

-- ---- the record

-- a removed position is one that keeps it from matching
lost_one : (s : Storage) (seg : Segment) → ¬ (mask_of is_removed seg ≡ 0) → every (lets s) seg ≡ false
unfolding every mask_of
lost_one s [] n = absurd (n refl)
lost_one s (null_position ∷ ps) n = lost_one s ps (λ e. n (omega (arith, e)))
lost_one s (blank_position ∷ ps) n = lost_one s ps (λ e. n (omega (arith, e)))
lost_one s (held c k ∷ ps) n = rw (lost_one s ps (λ e. n (omega (arith, e)))) (cond_never (not (is_blank with_blanks (cell_at s c))))
lost_one s (removed ∷ ps) n = refl

module _ (s : Storage) (seg : Segment) (row : List ℕ) (e : row ≡ record_to_words seg) where
  pub match_lost : ¬ (get_or row 1 0 ≡ 0) → false ≡ can_match s seg
  unfolding can_match
  match_lost n = sym (all_false (not (is_free seg) ∷ every (lets s) seg ∷ []) 1 (lost_one s seg (λ z. n (removed_is seg row e ∙ z))))

  pub match_free : get_or row 0 0 ≡ 0 → get_or row 1 0 ≡ 0 → get_or row 2 0 ≡ 0 → false ≡ can_match s seg
  unfolding can_match
  match_free a b z =
      let f : true ≡ is_free seg = sym (eq-eqb (get_or row 2 0) 0 z) ∙ row_by seg row e a b in
      sym (all_false (not (is_free seg) ∷ every (lets s) seg ∷ []) 0 (ap not (sym f)))

  -- where it is in use, its positions decide
  used : false ≡ is_free seg → every (lets s) seg ≡ can_match s seg
  unfolding can_match all_of
  used f = rw (← f) (sym (cond_self (every (lets s) seg)))

  pub match_held : ¬ (get_or row 0 0 ≡ 0) → every (lets s) seg ≡ can_match s seg
  match_held n = used (row_not_held seg row e n)

  pub match_blank : get_or row 0 0 ≡ 0 → get_or row 1 0 ≡ 0 → ¬ (get_or row 2 0 ≡ 0) → every (lets s) seg ≡ can_match s seg
  match_blank a b n = used (sym (ne_eqb (get_or row 2 0) 0 n) ∙ row_by seg row e a b)
