-- One segment by its mark, and its end.
use mathlib.Core.Path.{◌≡◌, refl, sym, ◌∙◌, subst}
use mathlib.Core.Bool.{true, false, cond}
use mathlib.Core.List.{List}
use Prim.Native.Nat.{ℕ, ◌+◌, ◌*◌, ◌≤◌}
use native.Mathlib.Omega.{arith}
use lib.ListN.{length, take, drop}
use Rattle.lists.specs.Lists.{all_zero, same_numbers}
use Rattle.lists.specs.Rows.{parts}
use Rattle.lists.proofs.Places.{row_next}
use Rattle.sha1_definition.specs.Sha1.{sha1}
use Rattle.model.specs.Measures.{Measures}
use Rattle.model.specs.State.{Storage, Outcome, refused, done}
use Rattle.refusals.specs.declared.Refusal.{Refusal}
use Rattle.refusals.specs.declared.Refusal.TheVariants.{Capacity, Lengths, NoSuchTill, ImageLength, ShortOutput, Unsound, TillFull, NumbersSpent, NoRecord, NoRun, NeverGiven, NoLongerHeld, OtherSegment, NoSegment, OverLimit, UnknownUser, NoRight, StreamSize, StreamLength, StreamBits, NoTurn, EarlierDay, NoneSoEarly, HighPrice}
use Rattle.refusals.specs.Refusals.{number_of}
use Rattle.sent.specs.Sent.{segment_bytes, had}
use Rattle.sent.specs.Found.{PrintsOf, Brings, or_twenty, source, ended}
use Rattle.sent_laws.proofs.Numbers.{NotZero}
use Rattle.sent_laws.proofs.Assembling.{source_number}

-- an accepted call answers 0, and no refusal has that number
pub number_some : (r : Refusal) → ¬ (number_of r ≡ 0)
number_some Capacity e = omega (arith, e)
number_some Lengths e = omega (arith, e)
number_some NoSuchTill e = omega (arith, e)
number_some ImageLength e = omega (arith, e)
number_some ShortOutput e = omega (arith, e)
number_some Unsound e = omega (arith, e)
number_some TillFull e = omega (arith, e)
number_some NumbersSpent e = omega (arith, e)
number_some NoRecord e = omega (arith, e)
number_some NoRun e = omega (arith, e)
number_some NeverGiven e = omega (arith, e)
number_some NoLongerHeld e = omega (arith, e)
number_some OtherSegment e = omega (arith, e)
number_some NoSegment e = omega (arith, e)
number_some OverLimit e = omega (arith, e)
number_some UnknownUser e = omega (arith, e)
number_some NoRight e = omega (arith, e)
number_some StreamSize e = omega (arith, e)
number_some StreamLength e = omega (arith, e)
number_some StreamBits e = omega (arith, e)
number_some NoTurn e = omega (arith, e)
number_some EarlierDay e = omega (arith, e)
number_some NoneSoEarly e = omega (arith, e)
number_some HighPrice e = omega (arith, e)

-- a segment's bytes, as code counts them
pub width_is : (m : Measures) (w : ℕ) → w ≡ m.segment_blocks * m.block_bytes → w ≡ segment_bytes m
unfolding segment_bytes
width_is m w e = e

module _ (m : Measures) (mark s : ℕ) (ss ps : List ℕ) where
  abbrev width : ℕ
  width = segment_bytes m

  -- one that was sent: it is there, and its fingerprint
  pub sent_there : (w : ℕ) → w ≡ width → PrintsOf width ss ps → mark ≡ 1 → (s + mark) * width ≤ length ss → (s + mark) * 20 ≤ length ps → (out : List ℕ) → length out ≡ width
      → PrintsOf w ss ps × (s * w + w ≤ length ss) × (s * 20 + 20 ≤ length ps) × (length out ≡ w)
  sent_there w e p one a b out l =
      let r : (s + 1) * width ≤ length ss = subst (λ (k : ℕ). (s + k) * width ≤ length ss) one a in
      let q : (s + 1) * 20 ≤ length ps = subst (λ (k : ℕ). (s + k) * 20 ≤ length ps) one b in
      rw e (p, omega (arith, r, row_next s width), omega (arith, q), l)

  -- one that is had: so many were sent before
  pub had_there : (mark ≤ 1) → ¬ (mark ≡ 1) → (s + mark) * width ≤ length ss → (s + mark) * 20 ≤ length ps → (mark ≡ 0) × (s * width ≤ length ss) × (s * 20 ≤ length ps)
  had_there h n a b =
      let z : mark ≡ 0 = omega (arith, h, n) in
      let k : s + mark ≡ s = omega (arith, z) in
      (z, subst (λ (i : ℕ). i * width ≤ length ss) k a, subst (λ (i : ℕ). i * 20 ≤ length ps) k b)

module _ (m : Measures) (storage : Storage) (mark s : ℕ) (ss f : List ℕ) (r : ℕ) (out : List ℕ) where
  pub sent_brought : (w : ℕ) → w ≡ segment_bytes m → mark ≡ 1
      → Brings (cond (same_numbers (sha1 (take w (drop (s * w) ss))) f) (done (take w (drop (s * w) ss))) (refused 19)) r out → Brings (source m storage mark s ss f) r out
  sent_brought w e one b = rw one (rw e at b)

  pub had_brought : mark ≡ 0 → Brings (or_twenty (had sha1 m storage (parts (segment_bytes m) s ss) f)) r out → Brings (source m storage mark s ss f) r out
  had_brought z b = rw z b

  -- ---- its end

  module _ (left : ℕ) (b : Brings (source m storage mark s ss f) r out) where
    pub end_refused : ¬ (r ≡ 0) → Brings (ended left (source m storage mark s ss f)) r out
    end_refused z = go (source m storage mark s ss f) b
      where
        go : (o : Outcome (List ℕ)) → Brings o r out → Brings (ended left o) r out
        go (refused n) q = q
        go (done seg) q = absurd (z q.0)

    pub end_other : r ≡ 0 → all_zero (drop left out) ≡ false → Brings (ended left (source m storage mark s ss f)) 19 out
    end_other z e = go (source m storage mark s ss f) b (source_number m storage mark s ss f)
      where
        go : (o : Outcome (List ℕ)) → Brings o r out → NotZero o → Brings (ended left o) 19 out
        go (refused n) q h = absurd (h (sym q ∙ z))
        go (done seg) q h = rw (← q.1, e) refl

    pub end_zeros : r ≡ 0 → all_zero (drop left out) ≡ true → Brings (ended left (source m storage mark s ss f)) 0 out
    end_zeros z e = go (source m storage mark s ss f) b (source_number m storage mark s ss f)
      where
        go : (o : Outcome (List ℕ)) → Brings o r out → NotZero o → Brings (ended left o) 0 out
        go (refused n) q h = absurd (h (sym q ∙ z))
        go (done seg) q h = rw (← q.1, e) (refl, refl)
