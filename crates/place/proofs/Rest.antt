-- A segment takes at most one of the records that are free up to the last.
use mathlib.Core.Path.{◌∙◌, ◌≡◌, refl, subst, sym}
use mathlib.Core.Bool.{Bool, false, false≢true, true}
use mathlib.Core.List.{List, [], ◌∷◌, map}
use mathlib.Core.Option.{some}
use Prim.Native.Nat.{◌+◌, ◌<◌, ◌≤◌, ℕ}
use native.Mathlib.Omega.{arith}
use lib.Dec.{eqb, ltb}
use lib.ListN.{get_or, length, length-set, set}
use lib.Seq.{get_or-set_other, get_or-set_same}
use borrow.Author.Tests.{eqb-false, eqb-true, ltb-false, ltb-true}
use Rattle.lists.specs.Lists.{every, first_from}
use Rattle.lists.proofs.First.{Lowest, first_lowest}
use Rattle.model.specs.Image.{with_blanks}
use Rattle.model.specs.Place.{Placed, new_positions, one_more, place_segment, share, write}
use Rattle.model.specs.Records.{is_free}
use Rattle.model.specs.State.{Block, Segment, Storage, done, held, null_position, blank_position, removed}
use Rattle.laws.proofs.Segments.{IfDone, segment_cases}
use Rattle.place_free.specs.Free.{RestFree}

free_more : (ps : Segment) → is_free ps ≡ true → is_free (map one_more ps) ≡ true
unfolding is_free every
free_more [] e = refl
free_more (null_position ∷ ps) e = free_more ps e
free_more (blank_position ∷ ps) e = absurd (false≢true e)
free_more (held c n ∷ ps) e = absurd (false≢true e)
free_more (removed ∷ ps) e = absurd (false≢true e)

module _ (u : ℕ) (rs : List Segment) (r : RestFree u rs) where
  -- a record that was free stays so, or is not one of those
  rest_set : (k : ℕ) (x : Segment) → (u + 1 ≤ k → k < length rs → is_free x ≡ true) → RestFree (u + 1) (set rs k x)
  rest_set k x f j h l = go (eqb j k) refl
    where
      m : j < length rs
      m = omega (arith, length-set rs k x)

      here : j ≡ k → is_free (get_or (set rs k x) j []) ≡ true
      here e = rw (e, get_or-set_same rs k x [] (rw e at m)) (f (rw e at h) (rw e at m))

      go : (t : Bool) → eqb j k ≡ t → is_free (get_or (set rs k x) j []) ≡ true
      go true e = here (eqb-true j k e)
      go false e = rw (get_or-set_other rs k j x [] (λ q. eqb-false j k e q)) (r j (omega arith) m)

  -- the lowest free record is not above the first of those
  lowest_free : (k : ℕ) → first_from is_free 0 rs ≡ some k → k ≤ u
  lowest_free k e = go (ltb u k) refl
    where
      w : Lowest is_free [] 0 rs (some k)
      w = subst (Lowest is_free [] 0 rs) e (first_lowest is_free [] 0 rs)

      go : (t : Bool) → ltb u k ≡ t → k ≤ u
      go true q = absurd (false≢true (sym (w.4 u (omega (arith, ltb-true u k q, w.1))) ∙ r u (omega arith) (omega (arith, ltb-true u k q, w.1, w.2))))
      go false q = omega (arith, ltb-false u k q)

pub rest_after : (s : Storage) (seg : List Block) (u : ℕ) → RestFree u s.records → (p : Placed) → place_segment with_blanks s seg ≡ done p → RestFree (u + 1) p.storage.records
unfolding share write
rest_after s seg u r p e =
    subst (IfDone (λ (q : Placed). RestFree (u + 1) q.storage.records)) e
    (segment_cases with_blanks (λ q. RestFree (u + 1) q.storage.records) s seg (λ z j h l. r j (omega arith) l)
    (λ ne k f. rest_set u s.records r k (map one_more (get_or s.records k [])) (λ h l. free_more (get_or s.records k []) (r k (omega arith) l)))
    (λ ne k f run q. rest_set u s.records r k (new_positions with_blanks run.start seg) (λ h l. absurd (omega (arith, lowest_free u s.records r k f)))))
