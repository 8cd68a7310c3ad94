-- What the words say of the counts is what sound asks, where the words have the pointers.
use mathlib.Core.Path.{◌≡◌, refl, sym, ap, subst, ◌∙◌}
use mathlib.Core.Bool.{Bool, true}
use mathlib.Core.List.{List, [], ◌∷◌, map}
use Prim.Native.Nat.{ℕ, zero, suc, ◌+◌, ◌*◌, ◌/◌, ◌≤◌, ◌<◌}
use native.Mathlib.Nat.{add-zero, zero-add, not-suc-le-zero, le_of_suc-le-suc}
use native.Mathlib.Omega.{arith}
use borrow.Author.Tests.{eqb-true, eq-eqb, ltb-true, lt-ltb}
use lib.ListN.{length, get_or, take, drop, replicate, length-drop}
use lib.Seq.{length-take-le}
use Rattle.lists.specs.Lists.{count}
use Rattle.lists.specs.Rows.{chunks}
use Rattle.lists.specs.Decides.{Decides}
use Rattle.lists.proofs.Checkers.{same_as}
use Rattle.lists.proofs.Tests.{clause, all_true}
use Rattle.lists.proofs.Cuts.{length_read, read_at}
use Rattle.lists.proofs.Places.{row_in, rows_few}
use Rattle.model.specs.Measures.{record_words}
use Rattle.model.specs.State.{Pointer, null_position, Segment}
use Rattle.model.specs.Table.{position_of, segment_in, records_in}
use Rattle.model.specs.Sound.{leads_to, is_counted, are_counted, all_counted}
use Rattle.audit_words.specs.Words.{bit_of}
use Rattle.audit_words.proofs.Positions.{segment_at_lem, segment_long}
use Rattle.audit_counts.specs.Counters.{counts_after, count_to, CountExact, RecordCounts, CountsExact}
use Rattle.audit_counts.proofs.Counters.{tallied_zeros}

-- ---- are_counted and all_counted, by place

module _ (ps : List Pointer) where
  counted_of : (k i : ℕ) (seg : Segment) → ((j : ℕ) → j < length seg → is_counted ps k (i + j) (get_or seg j null_position) ≡ true) → are_counted ps k i seg ≡ true
  unfolding are_counted
  counted_of k i [] h = refl
  counted_of k i (p ∷ seg) h =
      all_true _ (
        subst (λ (n : ℕ). is_counted ps k n p ≡ true) (add-zero i) (h 0 (omega arith)),
        (counted_of k (suc i) seg (λ j l. subst (λ (n : ℕ). is_counted ps k n (get_or seg j null_position) ≡ true) (let e : i + suc j ≡ suc i + j = omega arith in e) (h (suc j) (omega arith))), tt),
      )

  counted_at : (k i : ℕ) (seg : Segment) → are_counted ps k i seg ≡ true → (j : ℕ) → j < length seg → is_counted ps k (i + j) (get_or seg j null_position) ≡ true
  unfolding are_counted
  counted_at k i [] h j l = absurd (not-suc-le-zero l)
  counted_at k i (p ∷ seg) h zero l = subst (λ (n : ℕ). is_counted ps k n p ≡ true) (sym (add-zero i)) (clause _ 0 h)
  counted_at k i (p ∷ seg) h (suc j) l =
      subst (λ (n : ℕ). is_counted ps k n (get_or seg j null_position) ≡ true) (let e : suc i + j ≡ i + suc j = omega arith in e) (counted_at k (suc i) seg (clause _ 1 h) j (le_of_suc-le-suc l))

  all_of : (k : ℕ) (segs : List Segment) (d : Segment) → ((j : ℕ) → j < length segs → are_counted ps (k + j) 0 (get_or segs j d) ≡ true) → all_counted ps k segs ≡ true
  unfolding all_counted
  all_of k [] d h = refl
  all_of k (seg ∷ segs) d h =
      all_true _ (
        subst (λ (n : ℕ). are_counted ps n 0 seg ≡ true) (add-zero k) (h 0 (omega arith)),
        (all_of (suc k) segs d (λ j l. subst (λ (n : ℕ). are_counted ps n 0 (get_or segs j d) ≡ true) (let e : k + suc j ≡ suc k + j = omega arith in e) (h (suc j) (omega arith))), tt),
      )

  all_at : (k : ℕ) (segs : List Segment) (d : Segment) → all_counted ps k segs ≡ true → (j : ℕ) → j < length segs → are_counted ps (k + j) 0 (get_or segs j d) ≡ true
  unfolding all_counted
  all_at k [] d h j l = absurd (not-suc-le-zero l)
  all_at k (seg ∷ segs) d h zero l = subst (λ (n : ℕ). are_counted ps n 0 seg ≡ true) (sym (add-zero k)) (clause _ 0 h)
  all_at k (seg ∷ segs) d h (suc j) l =
      subst (λ (n : ℕ). are_counted ps n 0 (get_or segs j d) ≡ true) (let e : suc k + j ≡ k + suc j = omega arith in e) (all_at (suc k) segs d (clause _ 1 h) j (le_of_suc-le-suc l))

-- ---- a position

module _ (ps : List Pointer) (k i c n : ℕ) where
  abbrev Asked : ℕ → Type 0
  Asked a = a ≡ 1 → (1 ≤ n) × (n ≡ count (leads_to k i) ps)

  position_counted : (a r b : ℕ) → a < 2 → Asked a → is_counted ps k i (position_of a r b c n) ≡ true
  unfolding position_of
  position_counted zero zero zero l h = refl
  position_counted zero zero (suc b) l h = refl
  position_counted zero (suc r) b l h = refl
  position_counted (suc a) r b l h = let g = h (omega arith) in all_true _ (lt-ltb 0 _ g.0, (eq-eqb _ _ g.1, tt))

  counted_position : (a r b : ℕ) → is_counted ps k i (position_of a r b c n) ≡ true → Asked a
  unfolding position_of
  counted_position zero r b h e = absurd (omega arith)
  counted_position (suc a) r b h e = (ltb-true 0 _ (clause _ 0 h), eqb-true _ _ (clause _ 1 h))

-- ---- a record's words

module _ (n : ℕ) (ps : List Pointer) (k : ℕ) (row : List ℕ) (l : length row ≡ record_words n) where
  record_canonical : ((i : ℕ) → i < n → CountExact n row i (count (leads_to k i) ps)) → are_counted ps k 0 (segment_in n row) ≡ true
  record_canonical h =
      counted_of ps k 0 (segment_in n row) (λ j b.
      let g : j < n = rw (segment_long n row l) at b in
      rw (zero-add j, segment_at_lem n row l j g) (position_counted ps k j _ _ (bit_of (get_or row 0 0) j) (bit_of (get_or row 1 0) j) (bit_of (get_or row 2 0) j) (omega arith) (h j g)))

  canonical_record : are_counted ps k 0 (segment_in n row) ≡ true → (i : ℕ) → i < n → CountExact n row i (count (leads_to k i) ps)
  canonical_record h i b =
      counted_position ps k i _ _ (bit_of (get_or row 0 0) i) (bit_of (get_or row 1 0) i) (bit_of (get_or row 2 0) i)
      (rw (zero-add i, segment_at_lem n row l i b) at (counted_at ps k 0 (segment_in n row) h i (rw (segment_long n row l) b)))

-- ---- counters that were made from zeros

pub counts_are : {r : Bool} (n : ℕ) (tills ws : List ℕ) (m : ℕ) (cs : List ℕ) → n ≤ 16 → length ws ≤ 4096 * record_words n → m ≡ 65536 → cs ≡ counts_after tills (replicate m 0)
    → Decides r (RecordCounts n (λ p. get_or cs p 0) ws) → Decides r (CountsExact n tills ws)
counts_are n tills ws m cs few l e h t =
    same_as (λ f k a i b. rw (is k i a b) at (f k a i b)) (λ f k a i b. rw (is k i a b) (f k a i b)) t
  where
    is : (k i : ℕ) → k < length ws / record_words n → i < n → get_or cs (k * 16 + i) 0 ≡ count_to (k * 16 + i) tills
    is k i a b =
        ap (λ (x : List ℕ). get_or x (k * 16 + i) 0) h
        ∙ tallied_zeros m tills (k * 16 + i) (omega (arith, few, e, a, b, rows_few (length ws) (record_words n) (omega arith) 4096 l)) (omega (arith, e))

-- ---- all records

module _ (n : ℕ) (ps : List Pointer) (tills ws : List ℕ)
    (same : (k i : ℕ) → k < length ws / record_words n → i < n → count_to (k * 16 + i) tills ≡ count (leads_to k i) ps) where
  row_long : (k : ℕ) → k < length ws / record_words n → length (take (record_words n) (drop (k * record_words n) ws)) ≡ record_words n
  row_long k h =
      length-take-le (record_words n) (drop (k * record_words n) ws)
      (omega (arith, length-drop (k * record_words n) ws, row_in (length ws) (record_words n) (omega arith) k h))

  pub counts_sound : CountsExact n tills ws → all_counted ps 0 (records_in n ws) ≡ true
  unfolding records_in
  counts_sound s =
      all_of ps 0 (map (segment_in n) (chunks (record_words n) ws)) (segment_in n []) (λ k b.
      let h : k < length ws / record_words n = rw (length_read (segment_in n) (record_words n) ws) at b in
      rw (zero-add k, read_at (segment_in n) (record_words n) ws k h)
      (record_canonical n ps k (take (record_words n) (drop (k * record_words n) ws)) (row_long k h) (λ i g. rw (same k i h g) at (s k h i g))))

  pub sound_counts : all_counted ps 0 (records_in n ws) ≡ true → CountsExact n tills ws
  unfolding records_in
  sound_counts e k h i g =
      rw (same k i h g) (canonical_record n ps k (take (record_words n) (drop (k * record_words n) ws)) (row_long k h)
      (rw (zero-add k, read_at (segment_in n) (record_words n) ws k h) at (all_at ps 0 (map (segment_in n) (chunks (record_words n) ws)) (segment_in n []) e k (rw (length_read (segment_in n) (record_words n) ws) h))) i g)
