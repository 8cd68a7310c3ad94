-- What is brought, case by case.
use mathlib.Core.Path.{◌≡◌, refl, sym, ap, ◌∙◌, subst}
use mathlib.Core.Bool.{Bool, true, false, cond, false≢true}
use mathlib.Core.List.{List, [], ◌++◌, append-nil}
use mathlib.Core.Option.{Option, none, some}
use Prim.Native.Nat.{ℕ, ◌+◌, ◌-◌, ◌*◌, ◌≤◌, ◌<◌}
use native.Mathlib.Omega.{arith}
use lib.ListN.{length, get_or, take, drop, replicate}
use Rattle.lists.specs.Lists.{first_from, same_numbers}
use Rattle.lists.specs.Rows.{parts}
use Rattle.lists.specs.Search.{as_option}
use Rattle.lists.proofs.Answers.{part_is}
use Rattle.lists.proofs.Cuts.{part_at}
use Rattle.lists.proofs.Puts.{as_some, as_none}
use Rattle.lists.proofs.Slices.{drop_end}
use Rattle.model.specs.Image.{zero_block}
use Rattle.model.specs.Measures.{Measures}
use Rattle.model.specs.State.{Storage, refused, done}
use Rattle.model.specs.Table.{records_in, storage_in}
use Rattle.storage.proofs.Read.{records_of}
use Rattle.sha1_definition.specs.Sha1.{digest, digest_bytes, sha1}
use Rattle.sha1_definition.specs.declared.Digest.{Digest}
use Rattle.sent.specs.Sent.{segment_bytes, content_in, zero_segment, first_with, contents, had}
use Rattle.sent.specs.Found.{PrintsOf, is_printed, Brings, or_twenty}
use Rattle.sent_laws.proofs.Search.{had_is, sent_at_lem, record_at_lem, or_else, pick}
use Rattle.sent_bring.proofs.Prints.{prints_first}
use Rattle.sent_bring.proofs.Records.{segment_long}

-- ---- one sent

-- bytes that fill the output
pub all_put : (out : List ℕ) (n : ℕ) (b ys : List ℕ) → length out ≡ n → ys ≡ take 0 out ++ (b ++ drop (0 + n) out) → ys ≡ b
all_put out n b ys l e = e ∙ ap (λ (r : List ℕ). b ++ r) (drop_end out (0 + n) (omega (arith, l))) ∙ append-nil b

-- whether a segment's print, as it was lent, is a fingerprint
pub sent_print : (width : ℕ) (segments prints : List ℕ) (s : ℕ) (f : List ℕ) (r : Bool) → PrintsOf width segments prints → s * width + width ≤ length segments
    → r ≡ same_numbers (take (s * 20 + 20 - s * 20) (drop (s * 20) prints)) f → r ≡ same_numbers (sha1 (take width (drop (s * width) segments))) f
sent_print width segments prints s f r p room e = e ∙ ap (λ (l : List ℕ). same_numbers l f) (part_is prints (s * 20) 20 ∙ p s room)

pub brings_not : (b : Bool) (seg out : List ℕ) → b ≡ false → Brings (cond b (done seg) (refused 19)) 19 out
brings_not true seg out e = absurd (false≢true (sym e))
brings_not false seg out e = refl

pub brings_so : (b : Bool) (seg out : List ℕ) → b ≡ true → out ≡ seg → Brings (cond b (done seg) (refused 19)) 0 out
brings_so true seg out e q = (refl, q)
brings_so false seg out e q = absurd (false≢true e)

-- ---- one not sent

pub zero_print : (m : Measures) (zero : Digest) (p f : List ℕ) → zero ≡ digest (zero_segment m) → p ≡ digest_bytes zero → same_numbers p f ≡ same_numbers (sha1 (zero_segment m)) f
unfolding sha1
zero_print m zero p f e q = ap (λ (l : List ℕ). same_numbers l f) (q ∙ ap digest_bytes e)

pub zero_bytes : (m : Measures) (n : ℕ) → n ≡ segment_bytes m → replicate n 0 ≡ zero_segment m
unfolding zero_segment zero_block
zero_bytes m n e = ap (λ (k : ℕ). replicate {A = ℕ} k 0) e

module _ (m : Measures) (storage : Storage) (earlier : List (List ℕ)) (f out : List ℕ) where
  abbrev has : List ℕ → Bool
  has x = same_numbers (sha1 x) f

  as_had : (o : Option (List ℕ)) (r : ℕ) → had sha1 m storage earlier f ≡ o → Brings (or_twenty o) r out → Brings (or_twenty (had sha1 m storage earlier f)) r out
  as_had o r e b = subst (λ (x : Option (List ℕ)). Brings (or_twenty x) r out) (sym e) b

  pub had_zero : has (zero_segment m) ≡ true → out ≡ zero_segment m → Brings (or_twenty (had sha1 m storage earlier f)) 0 out
  had_zero e q =
      as_had (some (zero_segment m)) 0
      (had_is sha1 f m storage earlier ∙ ap (λ (b : Bool). cond b (some (zero_segment m)) (or_else (first_with sha1 f earlier) (first_with sha1 f (contents m storage)))) e) (refl, q)

  module _ (e : has (zero_segment m) ≡ false) (o p : Option ℕ) (eo : first_from has 0 earlier ≡ o) (ep : first_from (is_printed sha1 m storage f) 0 storage.records ≡ p) where
    -- not the zero segment: the searches' answers
    had_other : had sha1 m storage earlier f ≡ or_else (pick (λ k. get_or earlier k []) o) (pick (λ k. content_in m storage (get_or storage.records k [])) p)
    had_other =
        had_is sha1 f m storage earlier
        ∙ ap (λ (b : Bool). cond b (some (zero_segment m)) (or_else (first_with sha1 f earlier) (first_with sha1 f (contents m storage)))) e
        ∙ ap (λ (x : Option (List ℕ)). or_else x (first_with sha1 f (contents m storage))) (sent_at_lem sha1 f earlier ∙ ap (pick (λ k. get_or earlier k [])) eo)
        ∙ ap (or_else (pick (λ k. get_or earlier k []) o)) (record_at_lem sha1 f m storage ∙ ap (pick (λ k. content_in m storage (get_or storage.records k []))) ep)

  pub had_sent : has (zero_segment m) ≡ false → (k : ℕ) → first_from has 0 earlier ≡ some k → out ≡ get_or earlier k [] → Brings (or_twenty (had sha1 m storage earlier f)) 0 out
  had_sent e k o q = as_had (some (get_or earlier k [])) 0 (had_other e (some k) (first_from (is_printed sha1 m storage f) 0 storage.records) o refl) (refl, q)

  pub had_record : has (zero_segment m) ≡ false → first_from has 0 earlier ≡ none → (k : ℕ) → first_from (is_printed sha1 m storage f) 0 storage.records ≡ some k
      → out ≡ content_in m storage (get_or storage.records k []) → Brings (or_twenty (had sha1 m storage earlier f)) 0 out
  had_record e o k p q = as_had (some (content_in m storage (get_or storage.records k []))) 0 (had_other e none (some k) o p) (refl, q)

  pub had_none : has (zero_segment m) ≡ false → first_from has 0 earlier ≡ none → first_from (is_printed sha1 m storage f) 0 storage.records ≡ none
      → Brings (or_twenty (had sha1 m storage earlier f)) 20 out
  had_none e o p = as_had none 20 (had_other e none none o p) refl

-- ---- from the code's answers

module _ (m : Measures) (pool words prints segments f : List ℕ) (s : ℕ) (t : PrintsOf (segment_bytes m) segments prints) (room : s * segment_bytes m ≤ length segments)
    (zero : Digest) (ez : zero ≡ digest (zero_segment m)) (print : List ℕ) (ep : print ≡ digest_bytes zero) (r : Bool) (er : r ≡ same_numbers print f) (out : List ℕ) where
  e : r ≡ same_numbers (sha1 (zero_segment m)) f
  e = er ∙ zero_print m zero print f ez ep

  abbrev storage : Storage
  storage = storage_in m pool words

  abbrev earlier : List (List ℕ)
  earlier = parts (segment_bytes m) s segments

  abbrev sent_found : Option ℕ
  sent_found = first_from (λ p. same_numbers p f) 0 (parts 20 s prints)

  abbrev FoundRecord : ℕ → Type 0
  FoundRecord k = as_option (length (records_in m.segment_blocks words)) k ≡ first_from (is_printed sha1 m storage f) 0 (records_in m.segment_blocks words)

  search_sent : (o : Option ℕ) → sent_found ≡ o → first_from (λ x. same_numbers (sha1 x) f) 0 earlier ≡ o
  search_sent o h = sym (prints_first (segment_bytes m) segments prints f s t room) ∙ h

  search_record : (k : ℕ) → FoundRecord k → first_from (is_printed sha1 m storage f) 0 storage.records ≡ as_option (length (records_in m.segment_blocks words)) k
  search_record k h = sym (h ∙ ap (first_from (is_printed sha1 m storage f) 0) (sym (records_of m pool words)))

  pub bring_zero : r ≡ true → (n : ℕ) → n ≡ segment_bytes m → out ≡ replicate n 0 → Brings (or_twenty (had sha1 m storage earlier f)) 0 out
  bring_zero b n l q = had_zero m storage earlier f out (sym e ∙ b) (q ∙ zero_bytes m n l)

  pub bring_sent : r ≡ false → (i : ℕ) → sent_found ≡ some i → i < s → (w : ℕ) → w ≡ m.segment_blocks * m.block_bytes → (out₀ : List ℕ) → length out₀ ≡ segment_bytes m
      → out ≡ take 0 out₀ ++ (take w (drop (i * w) segments) ++ drop (0 + w) out₀) → Brings (or_twenty (had sha1 m storage earlier f)) 0 out
  bring_sent b i h l w z out₀ n q =
      let x : w ≡ segment_bytes m = z ∙ sym (segment_long m) in
      had_sent m storage earlier f out (sym e ∙ b) i (search_sent (some i) h)
      (all_put out₀ w (take w (drop (i * w) segments)) out (n ∙ sym x) q
      ∙ ap (λ (k : ℕ). take k (drop (i * k) segments)) x
      ∙ sym (part_at (segment_bytes m) s segments i l))

  module _ (b : r ≡ false) (h : sent_found ≡ none) (k : ℕ) (g : FoundRecord k) where
    pub bring_record : k < length (records_in m.segment_blocks words) → out ≡ content_in m storage (get_or storage.records k []) → Brings (or_twenty (had sha1 m storage earlier f)) 0 out
    bring_record y q =
        had_record m storage earlier f out (sym e ∙ b) (search_sent none h) k (search_record k g ∙ as_some (length (records_in m.segment_blocks words)) k y) q

    pub bring_none : length (records_in m.segment_blocks words) ≤ k → Brings (or_twenty (had sha1 m storage earlier f)) 20 out
    bring_none y =
        had_none m storage earlier f out (sym e ∙ b) (search_sent none h) (search_record k g ∙ as_none (length (records_in m.segment_blocks words)) k y)
