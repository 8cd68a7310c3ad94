-- Placing a segment keeps the cells named exactly, and raises each count by at most 1.
use mathlib.Core.Path.{◌∙◌, ◌≡◌, ap, subst, sym}
use mathlib.Core.Bool.{cond, false≢true, true}
use mathlib.Core.List.{List, [], ◌∷◌, map}
use Prim.Native.Nat.{◌+◌, ◌<◌, ◌≤◌, suc, zero, ℕ}
use native.Mathlib.Omega.{arith}
use lib.ListN.{get_or-map, get_or, length, set}
use Rattle.lists.proofs.Puts.{first_found}
use Rattle.lists.proofs.Sets.{set_any}
use Rattle.lists.proofs.Tests.{by_test}
use Rattle.model.specs.Image.{is_bare, with_blanks}
use Rattle.model.specs.Place.{Placed, new_positions, one_more, place_segment, share, stored_blocks, write}
use Rattle.model.specs.Records.{count_of, is_free, is_held}
use Rattle.model.specs.State.{Block, Position, Segment, Storage, done, held, null_position, blank_position, removed}
use Rattle.laws.proofs.Bare.{by_bare_position}
use Rattle.laws.proofs.Place.{share_exact, write_exact}
use Rattle.laws.proofs.Segments.{IfDone, run_found, segment_cases}
use Rattle.laws.specs.Storage.{Exact}
use Rattle.storage.specs.Stored.{Countable}

pub placed_exact : (s : Storage) → Exact s → (seg : List Block) (p : Placed) → place_segment with_blanks s seg ≡ done p → Exact p.storage
placed_exact s x seg p e =
    subst (IfDone (λ (q : Placed). Exact q.storage)) e
    (segment_cases with_blanks (λ q. Exact q.storage) s seg (λ z. x) (λ ne k f. share_exact with_blanks s x seg k)
    (λ ne k f run r. let (h, fr) = first_found [] is_free s.records k f in write_exact with_blanks s x seg k h fr run (run_found s (length (stored_blocks with_blanks seg)) run r)))

-- ---- counts

-- of one record
pub record Counted (bound : ℕ) (seg : Segment) : Type 0 where
  pub some : (i : ℕ) → is_held (get_or seg i null_position) ≡ true → 0 < count_of (get_or seg i null_position)
  pub below : (i : ℕ) → count_of (get_or seg i null_position) < bound

more_counted : (b : ℕ) (seg : Segment) → Counted b seg → Counted (b + 1) (map one_more seg)
more_counted b seg c = record {
  some = λ i e. subst (λ (p : Position). 0 < count_of p) (at i) (some (get_or seg i null_position) (ap is_held (at i) ∙ e));
  below = λ i. subst (λ (p : Position). count_of p < b + 1) (at i) (below (get_or seg i null_position) (c.below i));
}
  where
    at : (i : ℕ) → one_more (get_or seg i null_position) ≡ get_or (map one_more seg) i null_position
    at i = sym (get_or-map one_more seg i null_position)

    some : (p : Position) → is_held (one_more p) ≡ true → 0 < count_of (one_more p)
    some null_position e = absurd (false≢true e)
    some blank_position e = absurd (false≢true e)
    some (held c n) e = omega arith
    some removed e = absurd (false≢true e)

    below : (p : Position) → count_of p < b → count_of (one_more p) < b + 1
    below null_position h = omega arith
    below blank_position h = omega arith
    below (held c n) h = omega arith
    below removed h = omega arith

new_each : (P : Position → Type 0) → P null_position → P blank_position → ((c : ℕ) → P (held c 1)) → (seg : List Block) (c i : ℕ) → P (get_or (new_positions with_blanks c seg) i null_position)
unfolding new_positions
new_each P z y o [] c i = z
new_each P z y o (b ∷ seg) c zero = by_test P (is_bare with_blanks b) (λ e. by_bare_position b P z y) (λ e. o c)
new_each P z y o (b ∷ seg) c (suc i) = new_each P z y o seg (cond (is_bare with_blanks b) c (suc c)) i

new_counted : (b c : ℕ) (seg : List Block) → 1 < b → Counted b (new_positions with_blanks c seg)
new_counted b c seg h = record {
  some = new_each (λ p. is_held p ≡ true → 0 < count_of p) (λ e. absurd (false≢true e)) (λ e. absurd (false≢true e)) (λ d e. omega arith) seg c;
  below = new_each (λ p. count_of p < b) (omega arith) (omega arith) (λ d. h) seg c;
}

module _ (b : ℕ) (segs : List Segment) (c : Countable b segs) where
  one : (k : ℕ) → Counted b (get_or segs k [])
  one k = record { some = c.some k; below = c.below k }

  pub counts_wider : (d : ℕ) → b ≤ d → Countable d segs
  counts_wider d h = record { some = c.some; below = λ k i. omega (arith, c.below k i) }

  -- another record in record k's place
  counts_set : (k : ℕ) (seg : Segment) → Counted (b + 1) seg → Countable (b + 1) (set segs k seg)
  counts_set k seg n =
      let all : (j : ℕ) → Counted (b + 1) (get_or (set segs k seg) j []) =
      set_any (Counted (b + 1)) [] segs k seg n (λ j. record { some = c.some j; below = λ i. omega (arith, c.below j i) }) in
      record { some = λ j. (all j).some; below = λ j. (all j).below }

pub placed_counts : (b : ℕ) (s : Storage) → 1 < b → Countable b s.records → (seg : List Block) (p : Placed) → place_segment with_blanks s seg ≡ done p → Countable (b + 1) p.storage.records
unfolding share write
placed_counts b s h c seg p e =
    subst (IfDone (λ (q : Placed). Countable (b + 1) q.storage.records)) e
    (segment_cases with_blanks (λ q. Countable (b + 1) q.storage.records) s seg (λ z. counts_wider b s.records c (b + 1) (omega arith))
    (λ ne k f. counts_set b s.records c k (map one_more (get_or s.records k [])) (more_counted b (get_or s.records k []) (one b s.records c k)))
    (λ ne k f run r. counts_set b s.records c k (new_positions with_blanks run.start seg) (new_counted (b + 1) run.start seg (omega arith))))
