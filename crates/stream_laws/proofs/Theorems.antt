-- The claims of §11, whole as `claims`; that reading gives the image is `read_back_lem` of Forward.
use mathlib.Core.Path.{◌≡◌, refl, sym, ap, ap₂, ◌∙◌, subst}
use mathlib.Core.Bool.{true}
use mathlib.Core.List.{List, [], ◌∷◌, ◌++◌}
use Prim.Native.Nat.{ℕ, ◌+◌, ◌*◌, ◌/◌, ◌%◌, ◌≤◌}
use native.Mathlib.Omega.{arith}
use lib.ListN.{length, take, drop, length-append}
use lib.Seq.{drop_at, take_at}
use lib.Dec.{eqb, ltb, leb}
use borrow.Author.Tests.{ltb-false, eqb-true, eqb-false}
use Rattle.lists.specs.Rows.{rows}
use Rattle.lists.proofs.Tests.{by_test}
use Rattle.model.specs.Image.{image_segments}
use Rattle.model.specs.Calls.{RestoreAnswer, restore_of}
use Rattle.stream.specs.Stream.{Read, StreamAnswer, stream_refusal, has_stream, four_bytes, group_bytes, stream_of, write_stream, length_in, read_body, delivered, read_stream}
use Rattle.stream.specs.Version.{longest_output, write_restored, write_stream_of}
use Rattle.stream.specs.Claims.{Bytes, image_read, Accepted, Careful, Claims}
use Rattle.stream_laws.proofs.Forward.{read_back_lem}
use Rattle.stream_laws.proofs.Back.{Body-is, body_is}

-- ---- what a refusal leaves

refusal_careful : (k : ℕ) (output : List ℕ) → Careful output (stream_refusal k output)
unfolding stream_refusal
refusal_careful k output = record { refused = λ _. (refl, refl); past = refl }

-- the front of the output replaced by n bytes
put_careful : (n : ℕ) (s output : List ℕ) → length s ≡ n → Careful output (record { refusal = 0; length = n; output = s ++ drop n output })
put_careful n s output e = record { refused = λ no. absurd (no refl); past = drop_at s (drop n output) n e }

read_careful_lem : (s output : List ℕ) → Careful output (read_stream s output)
unfolding read_stream delivered
read_careful_lem s output =
    let n : ℕ = length_in s in
    let a : Read = read_body n (drop 4 s) in
    by_test (Careful output) (ltb (length s) 4) (λ _. refusal_careful 24 output) (λ _.
    by_test (Careful output) (has_stream n) (λ _.
    by_test (Careful output) (leb n (length output)) (λ _.
    by_test (Careful output) (eqb a.refusal 0)
    (λ q. put_careful n (take n a.bytes) output (body_is n (drop 4 s) (eqb-true a.refusal 0 q)).size)
    (λ _. refusal_careful a.refusal output))
    (λ _. refusal_careful 5 output))
    (λ _. refusal_careful 25 output))

write_careful_lem : (image output : List ℕ) → Careful output (write_stream image output)
unfolding write_stream
write_careful_lem image output =
    by_test (Careful output) (leb (length (stream_of image)) (length output))
    (λ _. put_careful (length (stream_of image)) (stream_of image) output refl) (λ _. refusal_careful 5 output)

version_careful : (pool table : List ℕ) (t version : ℕ) (output : List ℕ) → Careful output (write_stream_of pool table t version output)
unfolding write_stream_of write_restored
version_careful pool table t version output =
    let r : RestoreAnswer = restore_of pool table t version longest_output in
    by_test (Careful output) (eqb r.refusal 0) (λ _. write_careful_lem (take r.length r.output) output) (λ _. refusal_careful r.refusal output)

-- ---- an image has one stream

four_are : (s : List ℕ) → Bytes s → 4 ≤ length s → four_bytes (length_in s) ++ drop 4 s ≡ s
unfolding four_bytes length_in
four_are [] b h = absurd (omega arith)
four_are (w ∷ []) b h = absurd (omega arith)
four_are (w ∷ x ∷ []) b h = absurd (omega arith)
four_are (w ∷ x ∷ y ∷ []) b h = absurd (omega arith)
four_are (w ∷ x ∷ y ∷ z ∷ s) b h =
    let n : ℕ = w + x * 256 + y * 65536 + z * 16777216 in
    let q : n / 256 ≡ x + y * 256 + z * 65536 = omega (arith, b.0) in
    let r : n / 65536 ≡ y + z * 256 = omega (arith, b.0, b.1.0) in
    let v : n / 16777216 ≡ z = omega (arith, b.0, b.1.0, b.1.1.0) in
    let hw : n % 256 ≡ w = omega (arith, b.0) in
    let hx : n / 256 % 256 ≡ x = rw q (omega (arith, b.1.0)) in
    let hy : n / 65536 % 256 ≡ y = rw r (omega (arith, b.1.1.0)) in
    let hz : n / 16777216 % 256 ≡ z = rw v (omega (arith, b.1.1.1.0)) in
    rw (hw, hx, hy, hz)

stream_is : (image : List ℕ) → four_bytes (length image) ++ rows group_bytes (image_segments 64 8 image) ≡ stream_of image
unfolding stream_of
stream_is image = refl

-- If a stream of bytes is accepted, then it is the stream of the image that was read from it.
one_stream_lem : (s output : List ℕ) → Bytes s → (read_stream s output).refusal ≡ 0 → Accepted s (read_stream s output)
unfolding read_stream delivered stream_refusal
one_stream_lem s output b =
    let n : ℕ = length_in s in
    let a : Read = read_body n (drop 4 s) in
    let P : StreamAnswer → Type 0 = λ x. x.refusal ≡ 0 → Accepted s x in
    by_test P (ltb (length s) 4) (λ _ e. absurd (omega arith)) (λ q.
    by_test P (has_stream n) (λ h.
    by_test P (leb n (length output)) (λ _.
    by_test P (eqb a.refusal 0) (λ z _. accepted n a h (ltb-false (length s) 4 q) refl refl (eqb-true a.refusal 0 z)) (λ z e. absurd (eqb-false a.refusal 0 z e)))
    (λ _ e. absurd (omega arith)))
    (λ _ e. absurd (omega arith)))
  where
    accepted : (n : ℕ) (a : Read) → has_stream n ≡ true → 4 ≤ length s → n ≡ length_in s → a ≡ read_body n (drop 4 s) → a.refusal ≡ 0
        → Accepted s (record { refusal = 0; length = n; output = take n a.bytes ++ drop n output })
    accepted n a h l en ea z =
        let r : Body-is n (drop 4 s) a = subst (λ (x : Read). Body-is n (drop 4 s) x) (sym ea) (body_is n (drop 4 s) (ap (λ (x : Read). x.refusal) (sym ea) ∙ z)) in
        let image : List ℕ = take n a.bytes in
        let f : take n (image ++ drop n output) ≡ image = take_at image (drop n output) n r.size in
        record {
          within = h;
          size = ap length f ∙ r.size;
          stream = sym (four_are s b l) ∙ ap₂ (λ (k : ℕ) (t : List ℕ). four_bytes k ++ t) (sym en ∙ sym r.size) r.stream ∙ stream_is image ∙ ap stream_of (sym f);
        }

-- and two images with one stream are the same
same_image : (image image' : List ℕ) → has_stream (length image) ≡ true → has_stream (length image') ≡ true → stream_of image ≡ stream_of image' → image ≡ image'
same_image image image' h h' e =
    let long : List ℕ = image ++ image' in
    let n : length long ≡ length image + length image' = length-append image image' in
    let a : image_read (read_stream (stream_of image) long) ≡ image = ap image_read (read_back_lem image long h (omega (arith, n))) ∙ take_at image (drop (length image) long) (length image) refl in
    let a' : image_read (read_stream (stream_of image') long) ≡ image' = ap image_read (read_back_lem image' long h' (omega (arith, n))) ∙ take_at image' (drop (length image') long) (length image') refl in
    sym a ∙ ap (λ (s : List ℕ). image_read (read_stream s long)) e ∙ a'

-- ---- the claims

pub claims : Claims
claims = record { read_back = read_back_lem; one_stream = one_stream_lem; one_image = same_image; read_careful = read_careful_lem; write_careful = version_careful }
