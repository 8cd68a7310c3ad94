-- A mark put for each fingerprint, in turn.
use mathlib.Core.Path.{◌≡◌, refl, ap, ap₂, ◌∙◌}
use mathlib.Core.Bool.{Bool, true, false, cond}
use mathlib.Core.List.{List, [], map}
use Prim.Native.Nat.{ℕ, ◌+◌, ◌-◌, ◌*◌, ◌≤◌, ◌<◌}
use native.Mathlib.Omega.{arith}
use lib.ListN.{length, get_or, set, take, drop, length-set}
use lib.Dec.{eqb, ltb}
use lib.Seq.{get_or-set_same, get_or-set_other}
use borrow.Author.Tests.{eqb-true, eqb-false}
use Rattle.lists.specs.Lists.{is_some, same_numbers}
use Rattle.lists.specs.Rows.{chunks}
use Rattle.sha1_definition.specs.declared.Digest.{Digest}
use Rattle.sha1_definition.specs.Sha1.{sha1, digest, digest_bytes}
use Rattle.model.specs.Measures.{Measures, records_at}
use Rattle.model.specs.State.{Storage}
use Rattle.model.specs.Table.{shape_of, state_in, storage_in}
use Rattle.laws.specs.Stores.{Sound}
use Rattle.sound_laws.proofs.Records.{storage_is}
use Rattle.sent.specs.Sent.{zero_segment, had}
use Rattle.sent.specs.Found.{print_at, RecordsFor}
use Rattle.sent_laws.proofs.Marks.{marks_are}

-- the mark of fingerprint i
abbrev pub wanted : List ℕ → List ℕ → List ℕ → ℕ → ℕ → ℕ
wanted zero fingerprints numbers count i = cond (cond (same_numbers zero (print_at fingerprints i)) true (ltb (get_or numbers i 0) count)) 1 0

module _ (zero fingerprints numbers : List ℕ) (count : ℕ) where
  -- j marks are put
  pub record MarkedTo (before marks : List ℕ) (j : ℕ) : Type 0 where
    pub within : j ≤ length before
    pub same : length marks ≡ length before
    pub done : (i : ℕ) → i < j → get_or marks i 0 ≡ wanted zero fingerprints numbers count i

  pub marked_start : (before : List ℕ) → MarkedTo before before 0
  marked_start before = record { within = omega arith; same = refl; done = λ i h. absurd (omega (arith, h)) }

  -- with fingerprint j as code lends it
  pub marked_next : {before marks : List ℕ} {j : ℕ} → MarkedTo before marks j → j < length before → (r : ℕ)
      → r ≡ cond (cond (same_numbers zero (take (j * 20 + 20 - j * 20) (drop (j * 20) fingerprints))) true (ltb (get_or numbers j 0) count)) 1 0 → MarkedTo before (set marks j r) (j + 1)
  marked_next {before} {marks} {j} t l r e = record {
    within = omega (arith, l);
    same = length-set marks j r ∙ t.same;
    done = λ i h. go i h (eqb i j) refl;
  }
    where
      here : r ≡ wanted zero fingerprints numbers count j
      here =
          let n : j * 20 + 20 - j * 20 ≡ 20 = omega arith in
          rw n at e

      go : (i : ℕ) → i < j + 1 → (b : Bool) → eqb i j ≡ b → get_or (set marks j r) i 0 ≡ wanted zero fingerprints numbers count i
      go i h true q =
          let z : i ≡ j = eqb-true i j q in
          rw z (get_or-set_same marks j r 0 (omega (arith, l, t.same)) ∙ here)
      go i h false q = get_or-set_other marks j i r 0 (eqb-false i j q) ∙ t.done i (omega (arith, h, eqb-false i j q))

-- the marks of a whole message, from the numbers that were found
pub all_marked : (m : Measures) (storage : Storage) (fs found front : List ℕ) (zero : Digest) (count : ℕ) → front ≡ found → RecordsFor m storage fs found
    → length fs ≡ 20 * length found → zero ≡ digest (zero_segment m) → count ≡ length storage.records
    → (before marks : List ℕ) → length before ≡ length found → length marks ≡ length before
    → ((j : ℕ) → j < length before → get_or marks j 0 ≡ wanted (digest_bytes zero) fs front count j)
    → marks ≡ map (λ f. cond (is_some (had sha1 m storage [] f)) 1 0) (chunks 20 fs)
unfolding sha1
all_marked m storage fs found front zero count e r whole z n before marks lb lm h =
    marks_are m storage fs found r whole marks (lm ∙ lb) (λ j l.
    h j (omega (arith, l, lm))
    ∙ ap (λ (xs : List ℕ). wanted (digest_bytes zero) fs xs count j) e
    ∙ ap (λ (d : Digest). wanted (digest_bytes d) fs found count j) z
    ∙ ap (λ (k : ℕ). wanted (sha1 (zero_segment m)) fs found k j) n)

-- with the measures as the code read them
pub marks_read : {pool table : List ℕ} → Sound pool table → (at : ℕ) → at ≡ records_at (shape_of table).capacities → (m : Measures) → m ≡ (shape_of table).measures → (fs marks : List ℕ)
    → marks ≡ map (λ f. cond (is_some (had sha1 m (storage_in m pool (take (length table - at) (drop at table))) [] f)) 1 0) (chunks 20 fs)
    → marks ≡ map (λ f. cond (is_some (had sha1 (shape_of table).measures (state_in (shape_of table) pool table).storage [] f)) 1 0) (chunks 20 fs)
marks_read {pool} {table} h at e m q fs marks r =
    r ∙ ap₂ (λ (n : Measures) (s : Storage). map (λ f. cond (is_some (had sha1 n s [] f)) 1 0) (chunks 20 fs)) q (ap (λ (n : Measures). storage_in n pool (take (length table - at) (drop at table))) q ∙ storage_is h at e)
