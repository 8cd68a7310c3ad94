-- Where a walk along the marks stands, there is room for a segment, and what it takes is there.
use mathlib.Core.Path.{◌≡◌, sym, ap, ◌∙◌, subst}
use mathlib.Core.List.{List, [], ◌∷◌, ◌++◌, append_assoc}
use Prim.Native.Nat.{ℕ, ◌+◌, ◌-◌, ◌*◌, ◌/◌, ◌≤◌, ◌<◌}
use native.Mathlib.Nat.{mul-le-mul, mul-le-mul_right}
use native.Mathlib.Omega.{arith}
use lib.ListN.{length, get_or, take, drop, length-append}
use lib.Seq.{length-take-le, take_at}
use borrow.Rule.Slice.PartMut.{put_mid}
use Rattle.lists.specs.Each.{Each}
use Rattle.lists.specs.Lists.{total, first_from}
use Rattle.lists.specs.Search.{as_option}
use Rattle.lists.proofs.Counts.{sum_next}
use Rattle.lists.proofs.Each.{each_at}
use Rattle.lists.proofs.Places.{row_next, row_room, rows_few}
use Rattle.model.specs.Measures.{Measures}
use Rattle.model.specs.State.{Storage}
use Rattle.model.specs.Table.{records_in, storage_in}
use Rattle.sha1_definition.specs.Sha1.{sha1}
use Rattle.laws.specs.Ranges.{Measured}
use Rattle.laws.proofs.Measures.{parts_few, parts_least}
use Rattle.sent.specs.Sent.{segment_bytes}
use Rattle.sent.specs.Found.{print_at, is_printed, RecordsFor, PrintsOf, Brings, source, ended, Message}
use Rattle.sent_laws.proofs.Assembling.{At}

-- as many as are marked, at most
total_few : (marks : List ℕ) → Each (λ (i : ℕ). i ≤ 1) marks → total (λ i. i) marks ≤ length marks
unfolding total
total_few [] h = omega arith
total_few (x ∷ marks) h = omega (arith, h.0, total_few marks h.1)

-- fingerprint j, as code lends it
pub print_is : (fs : List ℕ) (j : ℕ) → take (j * 20 + 20 - j * 20) (drop (j * 20) fs) ≡ print_at fs j
print_is fs j = let n : j * 20 + 20 - j * 20 ≡ 20 = omega arith in rw n

module _ (m : Measures) (h : Measured m) where
  abbrev width : ℕ
  width = segment_bytes m

  pub wide : 256 ≤ width
  unfolding segment_bytes
  wide = let w : 4 * 64 ≤ m.segment_blocks * m.block_bytes = mul-le-mul h.some_blocks h.some_bytes in omega (arith, w)

  pub narrow : width ≤ 8192
  unfolding segment_bytes
  narrow = let w : m.segment_blocks * m.block_bytes ≤ 16 * 512 = mul-le-mul h.most_blocks h.most_bytes in omega (arith, w)

  pub marks_few : (bytes : ℕ) (fs marks ss : List ℕ) → Message m bytes fs marks ss → length marks ≤ 256
  marks_few bytes fs marks ss g = omega (arith, g.all, parts_least width bytes 256 (omega (arith, wide)) (omega (arith, wide, g.few)))

  module _ (storage : Storage) (bytes : ℕ) (fs marks ss : List ℕ) (g : Message m bytes fs marks ss) where
    -- there is room for the fingerprints of what was sent
    pub sent_few : total (λ i. i) marks ≤ 256
    sent_few = omega (arith, total_few marks g.marked, marks_few bytes fs marks ss g)

    module _ {j s : ℕ} {out : List ℕ} (a : At m storage bytes fs marks ss j s out) (l : j < length marks) where
      before : j * width + width < bytes + width
      before = omega (arith, row_room j (length marks) width l, ap (λ (k : ℕ). k * width) g.all, parts_few width bytes (omega (arith, wide)))

      pub at_inside : j * width < bytes
      at_inside = omega (arith, before)

      pub at_room : j * width + width ≤ 73728
      at_room = omega (arith, at_inside, narrow, g.few)

      pub print_room : j * 20 + 20 ≤ length fs
      print_room = omega (arith, g.whole, l)

      pub mark_one : get_or marks j 0 ≤ 1
      mark_one = each_at (λ (i : ℕ). i ≤ 1) 0 marks g.marked j l

      follows : s + get_or marks j 0 ≤ total (λ i. i) marks
      follows = omega (arith, sum_next marks j s l a.follow)

      pub sent_room : (s + get_or marks j 0) * width ≤ length ss
      sent_room = omega (arith, g.sent, mul-le-mul_right width follows)

      pub prints_room : (s + get_or marks j 0) * 20 ≤ 5120
      prints_room = omega (arith, follows, sent_few)

-- of segment j: its place, the image's bytes from there on, and its fingerprint
pub places : {m : Measures} {storage : Storage} {bytes : ℕ} {fs marks ss : List ℕ} {j s : ℕ} {out : List ℕ} → Measured m → Message m bytes fs marks ss → At m storage bytes fs marks ss j s out → j < length marks
    → {w : ℕ} → w ≡ segment_bytes m → (n : ℕ) → 73728 ≤ n → (j * w + w ≤ n) × (j * w < bytes) × (j * 20 + 20 ≤ length fs) × (j < 256)
places {m} {storage} {bytes} {fs} {marks} {ss} {j} h g a l {w} e n r =
    let p : j * w ≡ j * segment_bytes m = ap (λ (k : ℕ). j * k) e in (
      omega (arith, p, e, r, at_room m h storage bytes fs marks ss g a l),
      omega (arith, p, at_inside m h storage bytes fs marks ss g a l),
      print_room m h storage bytes fs marks ss g a l,
      omega (arith, marks_few m h bytes fs marks ss g),
    )

-- the output with a segment in its place begins with one segment more
pub one_more : (w v j : ℕ) → w ≡ v → (out part : List ℕ) → j * w + w ≤ length out → length part ≡ w
    → take ((j + 1) * v) (put_mid (j * w) (j * w + w - j * w) out part) ≡ take (j * v) out ++ part
one_more w v j e out part h l =
    let n : length (take (j * w) out ++ part) ≡ (j + 1) * w =
    length-append (take (j * w) out) part ∙ (let q : length (take (j * w) out) + length part ≡ (j + 1) * w = omega (arith, length-take-le (j * w) out (omega (arith, h)), l, row_next j w) in q) in
    subst (λ (k : ℕ). take ((j + 1) * k) (put_mid (j * w) (j * w + w - j * w) out part) ≡ take (j * k) out ++ part) e
    (ap (take ((j + 1) * w)) (sym (append_assoc (take (j * w) out) part _)) ∙ take_at (take (j * w) out ++ part) _ ((j + 1) * w) n)

module _ (m : Measures) (storage : Storage) (bytes : ℕ) (fs marks ss : List ℕ) where
  -- what segment j brings, with its width and its fingerprint as code has them
  pub next_is : (j s w : ℕ) → w ≡ segment_bytes m → (f : List ℕ) → f ≡ print_at fs j → (r : ℕ) (part : List ℕ)
      → Brings (ended (bytes - j * w) (source m storage (get_or marks j 0) s ss f)) r part
      → Brings (ended (bytes - j * segment_bytes m) (source m storage (get_or marks j 0) s ss (print_at fs j))) r part
  next_is j s w e f q r part b = rw (e, q) at b

-- the number found for fingerprint j
pub number_is : (m : Measures) (pool words fs numbers : List ℕ) → RecordsFor m (storage_in m pool words) fs numbers → (j : ℕ) → j < length numbers → (f : List ℕ) → f ≡ print_at fs j
    → as_option (length (records_in m.segment_blocks words)) (get_or numbers j 0) ≡ first_from (is_printed sha1 m (storage_in m pool words) f) 0 (records_in m.segment_blocks words)
unfolding storage_in
number_is m pool words fs numbers r j l f e = rw e (r j l)

-- there is room for the fingerprints of all that were sent
pub prints_fit : (m : Measures) → Measured m → (bytes : ℕ) (fs marks ss : List ℕ) → Message m bytes fs marks ss → (w : ℕ) → w ≡ segment_bytes m → (0 < w) × (length ss / w * 20 ≤ 5120)
prints_fit m h bytes fs marks ss g w e =
    let z : 0 < w = omega (arith, e, wide m h) in
    let t : total (λ i. i) marks * segment_bytes m ≤ 256 * segment_bytes m = mul-le-mul_right (segment_bytes m) (omega (arith, total_few marks g.marked, marks_few m h bytes fs marks ss g)) in
    let q : length ss ≤ 256 * w = subst (λ (k : ℕ). length ss ≤ 256 * k) (sym e) (omega (arith, g.sent, t)) in
    (z, omega (arith, rows_few (length ss) w z 256 q))

pub prints_read : {w v : ℕ} → w ≡ v → (ss ps : List ℕ) → PrintsOf w ss ps → PrintsOf v ss ps
prints_read e ss ps p = subst (λ (k : ℕ). PrintsOf k ss ps) e p

pub records_read : (m : Measures) (storage : Storage) (fs front found : List ℕ) → front ≡ found → RecordsFor m storage fs found → RecordsFor m storage fs front
records_read m storage fs front found e r = subst (λ (ns : List ℕ). RecordsFor m storage fs ns) (sym e) r
