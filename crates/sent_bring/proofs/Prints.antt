-- Prints beside the segments that they are of.
use mathlib.Core.Path.{◌≡◌, refl, sym, ap, ◌∙◌}
use mathlib.Core.Bool.{Bool, true, false}
use mathlib.Core.List.{List, [], ◌++◌}
use mathlib.Core.Option.{none, some}
use Prim.Native.Nat.{ℕ, ◌+◌, ◌-◌, ◌*◌, ◌/◌, ◌≤◌, ◌<◌}
use native.Mathlib.Omega.{arith}
use lib.Dec.{ltb}
use borrow.Author.Tests.{ltb-true, ltb-false}
use lib.ListN.{length, get_or, take, drop, length-drop}
use lib.Seq.{take_all, length-take-le, take-append-le, drop-append-le}
use Rattle.lists.specs.Lists.{first_from, same_numbers}
use Rattle.lists.specs.Rows.{parts}
use Rattle.lists.specs.Search.{as_option}
use Rattle.lists.proofs.Answers.{part_is}
use Rattle.lists.proofs.Cuts.{length_parts, part_at}
use Rattle.lists.proofs.First.{first_alike}
use Rattle.lists.proofs.Places.{row_room, in_row}
use Rattle.lists.proofs.Puts.{as_none, as_some, first_yes, first_no, first_end}
use Rattle.lists.proofs.Slices.{mid_is, part_front}
use Rattle.sha1_definition.specs.Sha1.{digest, digest_bytes, bytes_of, sha1}
use Rattle.sha1_definition.specs.declared.Digest.{Digest}
use Rattle.sent.specs.Found.{print_at, PrintsOf}

-- ---- one print more

print_long : (d : Digest) → length (digest_bytes d) ≡ 20
unfolding digest_bytes bytes_of
print_long d = refl

print_of : (p message : List ℕ) (d : Digest) → d ≡ digest message → p ≡ digest_bytes d → p ≡ sha1 message
unfolding sha1
print_of p message d e q = q ∙ ap digest_bytes e

module _ (prints b ys : List ℕ) (i : ℕ) (e : ys ≡ take (i * 20) prints ++ (b ++ drop (i * 20 + 20) prints)) (room : i * 20 + 20 ≤ length prints) where
  before : length (take (i * 20) prints) ≡ i * 20
  before = length-take-le (i * 20) prints (omega (arith, room))

  print_here : length b ≡ 20 → print_at ys i ≡ b
  print_here l = mid_is (take (i * 20) prints) b (drop (i * 20 + 20) prints) ys (i * 20) 20 e before l

  print_there : (j : ℕ) → j < i → print_at ys j ≡ print_at prints j
  print_there j h =
      let r : j * 20 + 20 ≤ i * 20 = omega (arith, h) in
      let f : List ℕ = take (i * 20) prints in
      let n : 20 ≤ length (drop (j * 20) f) = omega (arith, r, before, length-drop (j * 20) f) in
      ap (λ (l : List ℕ). take 20 (drop (j * 20) l)) e
      ∙ ap (take 20) (drop-append-le (j * 20) f (b ++ drop (i * 20 + 20) prints) (omega (arith, r, before)))
      ∙ take-append-le 20 (drop (j * 20) f) (b ++ drop (i * 20 + 20) prints) n
      ∙ part_front prints (i * 20) (j * 20) 20 r

-- the prints of the first i segments are there
pub record Printed (width : ℕ) (segments prints₀ prints : List ℕ) (i : ℕ) : Type 0 where
  pub same : length prints ≡ length prints₀
  pub done : (j : ℕ) → j < i → print_at prints j ≡ sha1 (take width (drop (j * width) segments))

pub print_start : (width : ℕ) (segments prints : List ℕ) → Printed width segments prints prints 0
print_start width segments prints = record { same = refl; done = λ j h. absurd (omega (arith, h)) }

module _ {width : ℕ} {segments prints₀ prints : List ℕ} {i : ℕ} (t : Printed width segments prints₀ prints i) where
  pub print_next : (d : Digest) (p ys : List ℕ) → i * 20 + 20 ≤ length prints → d ≡ digest (take (i * width + width - i * width) (drop (i * width) segments)) → p ≡ digest_bytes d
      → ys ≡ take (i * 20) prints ++ (take 20 p ++ drop (i * 20 + 20) prints) → length ys ≡ length prints → Printed width segments prints₀ ys (i + 1)
  print_next d p ys room e q f l = record { same = l ∙ t.same; done = λ j h. go j h (ltb j i) refl }
    where
      long : length p ≡ 20
      long = ap length q ∙ print_long d

      whole : take 20 p ≡ p
      whole = take_all 20 p (omega (arith, long))

      here : print_at ys i ≡ sha1 (take width (drop (i * width) segments))
      here = print_here prints (take 20 p) ys i f room (ap length whole ∙ long) ∙ whole ∙ print_of p _ d (e ∙ ap digest (part_is segments (i * width) width)) q

      go : (j : ℕ) → j < i + 1 → (b : Bool) → ltb j i ≡ b → print_at ys j ≡ sha1 (take width (drop (j * width) segments))
      go j h true b = let k : j < i = ltb-true j i b in print_there prints (take 20 p) ys i f room j k ∙ t.done j k
      go j h false b = let k : i ≤ j = ltb-false j i b in let z : j ≡ i = omega (arith, h, k) in rw z here

  -- of all that there are
  pub print_end : 0 < width → length segments / width ≤ i → PrintsOf width segments prints
  print_end z h = λ j r. let k : j < length segments / width = in_row (length segments) width z j r in t.done j (omega (arith, h, k))

-- ---- the lowest of the first n prints that is a fingerprint

module _ (prints fingerprint : List ℕ) (n : ℕ) where
  abbrev same : List ℕ → Bool
  same p = same_numbers p fingerprint

  abbrev all : List (List ℕ)
  all = parts 20 n prints

  count : length all ≡ n
  count = length_parts 20 n prints

  -- whether print i is, as it was lent
  print_is : (i : ℕ) → i < n → (r : Bool) → r ≡ same_numbers (take (i * 20 + 20 - i * 20) (drop (i * 20) prints)) fingerprint → r ≡ same (get_or all i [])
  print_is i h r e = e ∙ ap same (part_is prints (i * 20) 20 ∙ sym (part_at 20 n prints i h))

  pub sent_yes : (i : ℕ) → i < n → true ≡ same_numbers (take (i * 20 + 20 - i * 20) (drop (i * 20) prints)) fingerprint → first_from same i (drop i all) ≡ first_from same 0 all
      → first_from same 0 all ≡ some i
  sent_yes i h e t = sym (sym (as_some n i h) ∙ ap (λ (k : ℕ). as_option k i) (sym count) ∙ first_yes same [] all i (omega (arith, h, count)) (print_is i h true e) ∙ t)

  pub sent_no : (i : ℕ) → i < n → false ≡ same_numbers (take (i * 20 + 20 - i * 20) (drop (i * 20) prints)) fingerprint → first_from same i (drop i all) ≡ first_from same 0 all
      → first_from same (i + 1) (drop (i + 1) all) ≡ first_from same 0 all
  sent_no i h e t = sym (first_no same [] all i (omega (arith, h, count)) (print_is i h false e)) ∙ t

  pub sent_end : (i : ℕ) → i ≡ n → first_from same i (drop i all) ≡ first_from same 0 all → first_from same 0 all ≡ none
  sent_end i z t = sym (sym (as_none n i (omega (arith, z))) ∙ ap (λ (k : ℕ). as_option k i) (sym count) ∙ first_end same [] all i (omega (arith, z, count)) ∙ t)

-- ---- a search among the prints is one among the segments

pub prints_first : (width : ℕ) (segments prints fingerprint : List ℕ) (s : ℕ) → PrintsOf width segments prints → s * width ≤ length segments
    → first_from (λ p. same_numbers p fingerprint) 0 (parts 20 s prints) ≡ first_from (λ x. same_numbers (sha1 x) fingerprint) 0 (parts width s segments)
prints_first width segments prints fingerprint s f room =
    first_alike (λ p. same_numbers p fingerprint) (λ x. same_numbers (sha1 x) fingerprint) [] [] 0 (parts 20 s prints) (parts width s segments)
    (length_parts 20 s prints ∙ sym (length_parts width s segments))
    (λ j h.
    let k : j < s = omega (arith, h, length_parts 20 s prints) in
    ap (λ (l : List ℕ). same_numbers l fingerprint)
    (part_at 20 s prints j k ∙ f j (omega (arith, room, row_room j s width k)) ∙ ap sha1 (sym (part_at width s segments j k))))
