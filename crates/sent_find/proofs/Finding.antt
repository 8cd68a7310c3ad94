-- The lowest record for each fingerprint, record by record from the highest down.
use mathlib.Core.Path.{◌≡◌, refl, sym, ap, ◌∙◌}
use mathlib.Core.Bool.{Bool, true, false, cond}
use mathlib.Core.List.{List, []}
use mathlib.Core.Option.{Option, some}
use Prim.Native.Nat.{ℕ, ◌+◌, ◌≤◌, ◌<◌}
use native.Mathlib.Omega.{arith}
use lib.ListN.{length, get_or, take, drop, replicate, length-replicate, get_or-replicate}
use lib.Seq.{length-take-le}
use Rattle.lists.specs.Lists.{first_from, same_numbers}
use Rattle.lists.specs.Search.{as_option}
use Rattle.lists.proofs.Puts.{as_none, as_some, first_end, first_step}
use Rattle.model.specs.Measures.{Measures}
use Rattle.model.specs.State.{Segment, Storage}
use Rattle.sha1_definition.specs.declared.Digest.{Digest}
use Rattle.sha1_definition.specs.Sha1.{sha1, digest, digest_bytes}
use Rattle.sent.specs.Sent.{can_match, content_in}
use Rattle.sent.specs.Found.{print_at, is_printed, RecordsFor}

-- ---- one record

module _ (m : Measures) (s : Storage) (seg : Segment) (f : List ℕ) (number before : ℕ) where
  pub none_put : false ≡ can_match s seg → before ≡ cond (is_printed sha1 m s f seg) number before
  none_put e = ap (λ (b : Bool). cond (cond b (same_numbers (sha1 (content_in m s seg)) f) false) number before) e

  pub number_put : true ≡ can_match s seg → (d : Digest) → d ≡ digest (content_in m s seg) → (after : ℕ) → after ≡ cond (same_numbers (digest_bytes d) f) number before
      → after ≡ cond (is_printed sha1 m s f seg) number before
  unfolding sha1
  number_put e d q after r =
      r
      ∙ ap (λ (x : Digest). cond (same_numbers (digest_bytes x) f) number before) q
      ∙ ap (λ (b : Bool). cond (cond b (same_numbers (sha1 (content_in m s seg)) f) false) number before) e

-- ---- all records

-- the records from k on are looked at
pub record FoundTo (m : Measures) (s : Storage) (segs : List Segment) (fingerprints before numbers : List ℕ) (k : ℕ) : Type 0 where
  pub within : k ≤ length segs
  pub same : length numbers ≡ length before
  pub found : (j : ℕ) → j < length before → as_option (length segs) (get_or numbers j 0) ≡ first_from (is_printed sha1 m s (print_at fingerprints j)) k (drop k segs)

module _ {m : Measures} {s : Storage} {segs : List Segment} {fingerprints before : List ℕ} where
  pub found_start : (k : ℕ) → k ≡ length segs → length segs ≤ 4096 → ((j : ℕ) → j < length before → 4096 ≤ get_or before j 0) → FoundTo m s segs fingerprints before before k
  found_start k e few none = record {
    within = omega (arith, e);
    same = refl;
    found = λ j h.
        as_none (length segs) (get_or before j 0) (omega (arith, few, none j h))
        ∙ sym (as_none (length segs) k (omega (arith, e)))
        ∙ first_end (is_printed sha1 m s (print_at fingerprints j)) [] segs k (omega (arith, e));
  }

  -- one record more, the next below
  pub found_next : {numbers : List ℕ} {k : ℕ} → FoundTo m s segs fingerprints before numbers k → (i : ℕ) → k ≡ i + 1 → (after : List ℕ) → length after ≡ length numbers
      → ((j : ℕ) → j < length numbers → get_or after j 0 ≡ cond (is_printed sha1 m s (print_at fingerprints j) (get_or segs i [])) i (get_or numbers j 0))
      → FoundTo m s segs fingerprints before after i
  found_next {numbers} {k} t i e after l put = record {
    within = omega (arith, e, t.within);
    same = l ∙ t.same;
    found = λ j h.
        ap (as_option (length segs)) (put j (omega (arith, h, t.same)))
        ∙ go (is_printed sha1 m s (print_at fingerprints j) (get_or segs i [])) (get_or numbers j 0) _ (t.found j h ∙ ap (λ (x : ℕ). first_from (is_printed sha1 m s (print_at fingerprints j)) x (drop x segs)) e)
        ∙ sym (first_step (is_printed sha1 m s (print_at fingerprints j)) [] segs i inside);
  }
    where
      inside : i < length segs
      inside = omega (arith, e, t.within)

      go : (b : Bool) (n : ℕ) (r : Option ℕ) → as_option (length segs) n ≡ r → as_option (length segs) (cond b i n) ≡ cond b (some i) r
      go true n r q = as_some (length segs) i inside
      go false n r q = q

  pub found_end : {numbers : List ℕ} → s.records ≡ segs → FoundTo m s segs fingerprints before numbers 0 → RecordsFor m s fingerprints numbers
  found_end {numbers} e t = λ j h.
      ap (λ (r : List Segment). as_option (length r) (get_or numbers j 0)) e
      ∙ t.found j (omega (arith, h, t.same))
      ∙ ap (λ (r : List Segment). first_from (is_printed sha1 m s (print_at fingerprints j)) 0 r) (sym e)

-- ---- no record found yet

pub none_yet : (n : ℕ) (numbers : List ℕ) → numbers ≡ replicate n 4096 → (length numbers ≡ n) × ((j : ℕ) → j < length numbers → 4096 ≤ get_or numbers j 0)
none_yet n numbers e =
    let l : length numbers ≡ n = ap length e ∙ length-replicate n 4096 in
    (l, λ j h. let q : get_or numbers j 0 ≡ 4096 = ap (λ (xs : List ℕ). get_or xs j 0) e ∙ get_or-replicate n j 4096 0 (omega (arith, h, l)) in omega (arith, q))

-- ---- for as many marks, in the front of a longer list

pub found_length : (found marks numbers : List ℕ) → length marks ≤ length numbers → length found ≡ length (take (length marks) numbers) → length found ≡ length marks
found_length found marks numbers h e = e ∙ length-take-le (length marks) numbers h
