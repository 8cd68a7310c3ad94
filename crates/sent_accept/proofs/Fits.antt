-- The refusals of both messages, test by test.
use mathlib.Core.Path.{◌≡◌, refl, sym, ap, ◌∙◌}
use mathlib.Core.Bool.{Bool, true, false, cond, not, ◌||◌, false≢true}
use mathlib.Core.List.{List, [], ◌∷◌}
use Prim.Native.Nat.{ℕ, zero, suc, ◌+◌, ◌*◌, ◌≤◌, ◌<◌}
use native.Mathlib.Nat.{mul_comm, mul-le-mul, mul-le-mul_left}
use native.Mathlib.Omega.{arith}
use lib.ListN.{length, get_or}
use lib.Dec.{eqb, leb, ltb}
use borrow.Author.Tests.{le-leb, lt-leb, leb-true, eq-eqb, ne_eqb, eqb-true, lt-ltb, le-ltb, ltb-false, not-true}
use Rattle.std.specs.Prelude.{sum, IsTrue, ◌↔◌}
use Rattle.std.proofs.lemmas.List.Sums.{sum_by-cons}
use Rattle.std.specs.List.{All}
use Rattle.lists.specs.Lists.{all_of, every, total}
use Rattle.lists.specs.Each.{Each}
use Rattle.lists.proofs.Tests.{clause, or_false, every_head, every_tail}
use Rattle.model.specs.Measures.{Measures, parts_for}
use Rattle.model.specs.State.{State}
use Rattle.model.specs.Table.{shape_of}
use Rattle.laws.specs.Ranges.{Measured}
use Rattle.laws.specs.Stores.{HeaderRanges}
use Rattle.laws.proofs.Measures.{parts_least}
use Rattle.backup_accept.specs.Accept.{most_bytes, till_refusal}
use Rattle.sent.specs.Sent.{segment_bytes, offer_fits, sent_fits}
use Rattle.sent.specs.Found.{Message}
use Rattle.sent_accept.specs.Refusals.{offer_refusal, sent_refusal}

-- ---- the first message

module _ (table : List ℕ) (t : ℕ) (fs marks : List ℕ) where
  pub offer_3 : get_or table 0 0 ≤ t → 3 ≡ offer_refusal (shape_of table) t fs marks
  unfolding shape_of
  offer_3 h = rw (le-leb (get_or table 0 0) t h)

  -- with the measures as the code read them
  module _ (h : t < get_or table 0 0) (m : Measures) (e : m ≡ (shape_of table).measures) where
    abbrev most : ℕ
    most = parts_for m.segment_blocks (get_or table 2 0)

    as_tests : offer_refusal (shape_of table) t fs marks ≡ cond (not (all_of (ltb 0 (length marks) ∷ leb (length marks) most ∷ eqb (length fs) (20 * length marks) ∷ []))) 4 0
    unfolding shape_of offer_fits
    as_tests = rw (lt-leb (get_or table 0 0) t h, e)

    pub offer_none : length marks ≡ 0 → 4 ≡ offer_refusal (shape_of table) t fs marks
    unfolding all_of
    offer_none z = rw (as_tests, le-ltb 0 (length marks) (omega arith))

    pub offer_many : (length marks ≡ 0 → ⊥) → most < length marks → 4 ≡ offer_refusal (shape_of table) t fs marks
    unfolding all_of
    offer_many z l = rw (as_tests, lt-ltb 0 (length marks) (omega arith), lt-leb (length marks) most l)

    pub offer_part : (length marks ≡ 0 → ⊥) → length marks ≤ most → (length fs ≡ 20 * length marks → ⊥) → 4 ≡ offer_refusal (shape_of table) t fs marks
    unfolding all_of
    offer_part z l n = rw (as_tests, lt-ltb 0 (length marks) (omega arith), le-leb (length marks) most l, ne_eqb (length fs) (20 * length marks) n)

    pub offer_fits_lem : (length marks ≡ 0 → ⊥) → length marks ≤ most → length fs ≡ 20 * length marks → 0 ≡ offer_refusal (shape_of table) t fs marks
    unfolding all_of
    offer_fits_lem z l n = rw (as_tests, lt-ltb 0 (length marks) (omega arith), le-leb (length marks) most l, eq-eqb (length fs) (20 * length marks) n)

-- the longest image's segments can be counted
pub blocks_few : (table : List ℕ) → HeaderRanges table → (m : Measures) → m ≡ (shape_of table).measures
    → (0 < m.segment_blocks) × (m.segment_blocks ≤ 512) × (get_or table 2 0 ≤ 4294967295)
blocks_few table h m e = rw e (omega (arith, h.measured.some_blocks), omega (arith, h.measured.most_blocks), omega (arith, h.blocks))

pub most_few : (table : List ℕ) → HeaderRanges table → (m : Measures) → m ≡ (shape_of table).measures → parts_for m.segment_blocks (get_or table 2 0) ≤ 1024
most_few table h m e =
    let k : 0 < m.segment_blocks = (blocks_few table h m e).0 in
    parts_least m.segment_blocks (get_or table 2 0) 1024 k (omega (arith, h.blocks, mul-le-mul_left 1024 k))

-- ---- the second message

-- the measures that the code read, and an image's bytes and segments
module _ (table : List ℕ) (h : HeaderRanges table) (m : Measures) (e : m ≡ (shape_of table).measures) where
  pub measured_read : Measured m
  measured_read = rw e h.measured

  module _ (bytes : ℕ) (l : bytes ≤ most_bytes table) where
    pub bytes_few : bytes ≤ 65536
    bytes_few = omega (arith, l, h.image, mul_comm (shape_of table).measures.block_bytes (get_or table 2 0))

    pub segments_few : parts_for (m.segment_blocks * m.block_bytes) bytes ≤ 256
    segments_few =
        let w : 4 * 64 ≤ m.segment_blocks * m.block_bytes = mul-le-mul measured_read.some_blocks measured_read.some_bytes in
        parts_least (m.segment_blocks * m.block_bytes) bytes 256 (omega (arith, w)) (omega (arith, w, bytes_few))

-- the library's words for tests and sums over a list
all_every : (marks : List ℕ) → All (λ (i : ℕ). i ≤ 1) marks → every (λ i. leb i 1) marks ≡ true
unfolding every
all_every [] h = refl
all_every (x ∷ marks) h = rw (le-leb x 1 (h 0 0 (omega arith))) (all_every marks (λ k d l. h (suc k) d (omega (arith, l))))

every_all : (marks : List ℕ) → every (λ i. leb i 1) marks ≡ true → All (λ (i : ℕ). i ≤ 1) marks
every_all [] h k d l = absurd (omega (arith, l))
every_all (x ∷ marks) h zero d l = leb-true x 1 (every_head (λ i. leb i 1) x marks h)
every_all (x ∷ marks) h (suc k) d l = every_all marks (every_tail (λ i. leb i 1) x marks h) k d (omega (arith, l))

pub marks_every : (r : Bool) (marks : List ℕ) → (IsTrue r ↔ All (λ (i : ℕ). i ≤ 1) marks) → r ≡ every (λ i. leb i 1) marks
marks_every true marks f = sym (all_every marks (f.0 refl))
marks_every false marks f = go (every (λ i. leb i 1) marks) refl
  where
    go : (b : Bool) → every (λ i. leb i 1) marks ≡ b → false ≡ b
    go true q = absurd (false≢true (f.1 (every_all marks q)))
    go false q = refl

pub sum_total : (marks : List ℕ) → sum marks ≡ total (λ i. i) marks
unfolding total
sum_total [] = refl
sum_total (x ∷ marks) = sum_by-cons (λ (n : ℕ). n) x marks ∙ ap (λ (n : ℕ). x + n) (sum_total marks)

-- marks of 0 and 1 add up to at most as many as they are
pub sum_few : (marks : List ℕ) → every (λ i. leb i 1) marks ≡ true → total (λ i. i) marks ≤ length marks
unfolding total
sum_few [] h = omega arith
sum_few (x ∷ marks) h = omega (arith, leb-true x 1 (every_head (λ i. leb i 1) x marks h), sum_few marks (every_tail (λ i. leb i 1) x marks h))

module _ (table : List ℕ) (m : Measures) (e : m ≡ (shape_of table).measures) (bytes : ℕ) (fs marks ss : List ℕ) where
  tests : sent_fits (shape_of table) bytes fs marks ss
      ≡ all_of (not (eqb bytes 0 || ltb (most_bytes table) bytes) ∷ eqb (length marks) (parts_for (m.segment_blocks * m.block_bytes) bytes) ∷ every (λ i. leb i 1) marks
      ∷ eqb (length fs) (20 * length marks) ∷ eqb (length ss) (total (λ i. i) marks * (m.segment_blocks * m.block_bytes)) ∷ [])
  unfolding sent_fits shape_of segment_bytes
  tests = rw e

  module _ (z : ¬ (bytes ≡ 0)) (l : bytes ≤ most_bytes table) where
    pub fits_marks : ¬ (length marks ≡ parts_for (m.segment_blocks * m.block_bytes) bytes) → false ≡ sent_fits (shape_of table) bytes fs marks ss
    unfolding all_of
    fits_marks n = rw (tests, ne_eqb bytes 0 z, le-ltb (most_bytes table) bytes l, ne_eqb (length marks) (parts_for (m.segment_blocks * m.block_bytes) bytes) n)

    module _ (c : length marks ≡ parts_for (m.segment_blocks * m.block_bytes) bytes) where
      pub fits_other : every (λ i. leb i 1) marks ≡ false → false ≡ sent_fits (shape_of table) bytes fs marks ss
      unfolding all_of
      fits_other n = rw (tests, ne_eqb bytes 0 z, le-ltb (most_bytes table) bytes l, eq-eqb (length marks) (parts_for (m.segment_blocks * m.block_bytes) bytes) c, n)

      module _ (v : every (λ i. leb i 1) marks ≡ true) where
        pub fits_prints : ¬ (length fs ≡ 20 * length marks) → false ≡ sent_fits (shape_of table) bytes fs marks ss
        unfolding all_of
        fits_prints n =
            rw (tests, ne_eqb bytes 0 z, le-ltb (most_bytes table) bytes l, eq-eqb (length marks) (parts_for (m.segment_blocks * m.block_bytes) bytes) c, v, ne_eqb (length fs) (20 * length marks) n)

        pub fits_sent : length fs ≡ 20 * length marks → (n : ℕ) → n ≡ total (λ i. i) marks
            → eqb (length ss) (n * (m.segment_blocks * m.block_bytes)) ≡ sent_fits (shape_of table) bytes fs marks ss
        unfolding all_of
        fits_sent n k q =
            rw (tests, ne_eqb bytes 0 z, le-ltb (most_bytes table) bytes l, eq-eqb (length marks) (parts_for (m.segment_blocks * m.block_bytes) bytes) c, v, eq-eqb (length fs) (20 * length marks) n, q)
            (last (eqb (length ss) (total (λ i. i) marks * (m.segment_blocks * m.block_bytes))))
          where
            last : (b : Bool) → b ≡ cond b true false
            last true = refl
            last false = refl

module _ (table : List ℕ) (fs marks ss : List ℕ) where
  pub fits_empty : (bytes : ℕ) → bytes ≡ 0 → false ≡ sent_fits (shape_of table) bytes fs marks ss
  unfolding all_of
  fits_empty bytes z = rw (tests table (shape_of table).measures refl bytes fs marks ss, eq-eqb bytes 0 z)

  pub fits_long : (bytes : ℕ) → ¬ (bytes ≡ 0) → most_bytes table < bytes → false ≡ sent_fits (shape_of table) bytes fs marks ss
  unfolding all_of
  fits_long bytes z l = rw (tests table (shape_of table).measures refl bytes fs marks ss, ne_eqb bytes 0 z, lt-ltb (most_bytes table) bytes l)

-- ---- the refusals in their order

module _ (table : List ℕ) (st : State) (t bytes : ℕ) (fs marks ss : List ℕ) where
  pub sent_3 : get_or table 0 0 ≤ t → 3 ≡ sent_refusal (shape_of table) st t bytes fs marks ss
  unfolding shape_of
  sent_3 h = rw (le-leb (get_or table 0 0) t h)

  module _ (h : t < get_or table 0 0) (r : Bool) (e : r ≡ sent_fits (shape_of table) bytes fs marks ss) where
    pub sent_4 : not r ≡ true → 4 ≡ sent_refusal (shape_of table) st t bytes fs marks ss
    unfolding shape_of
    sent_4 n = rw (lt-leb (get_or table 0 0) t h, ← e, n)

    pub sent_till : not r ≡ false → (n : ℕ) → n ≡ till_refusal (shape_of table) st t → n ≡ sent_refusal (shape_of table) st t bytes fs marks ss
    unfolding shape_of
    sent_till n k q = rw (lt-leb (get_or table 0 0) t h, ← e, n) q

-- ---- a message that fits

each_of : (marks : List ℕ) → every (λ i. leb i 1) marks ≡ true → Each (λ (i : ℕ). i ≤ 1) marks
each_of [] h = tt
each_of (x ∷ marks) h = (leb-true x 1 (every_head (λ i. leb i 1) x marks h), each_of marks (every_tail (λ i. leb i 1) x marks h))

module _ (table : List ℕ) (h : HeaderRanges table) (bytes : ℕ) (fs marks ss : List ℕ) (f : sent_fits (shape_of table) bytes fs marks ss ≡ true) where
  abbrev m : Measures
  m = (shape_of table).measures

  abbrev clauses : List Bool
  clauses =
      not (eqb bytes 0 || ltb (most_bytes table) bytes) ∷ eqb (length marks) (parts_for (m.segment_blocks * m.block_bytes) bytes) ∷ every (λ i. leb i 1) marks
      ∷ eqb (length fs) (20 * length marks) ∷ eqb (length ss) (total (λ i. i) marks * (m.segment_blocks * m.block_bytes)) ∷ []

  tested : all_of clauses ≡ true
  tested = sym (tests table m refl bytes fs marks ss) ∙ f

  not_long : bytes ≤ most_bytes table
  not_long = ltb-false (most_bytes table) bytes (or_false (eqb bytes 0) (ltb (most_bytes table) bytes) (not-true _ (clause clauses 0 tested))).1

  pub fits_message : Message m bytes fs marks ss
  unfolding segment_bytes
  fits_message = record {
    few = bytes_few table h m refl bytes not_long;
    all = eqb-true _ _ (clause clauses 1 tested);
    marked = each_of marks (clause clauses 2 tested);
    whole = eqb-true _ _ (clause clauses 3 tested);
    sent = eqb-true _ _ (clause clauses 4 tested);
  }
