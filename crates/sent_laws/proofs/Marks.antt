-- The first message's marks, by the number of the record that was found for each fingerprint.
use mathlib.Core.Path.{◌≡◌, refl, sym, ap, ◌∙◌}
use mathlib.Core.Bool.{Bool, true, false, cond}
use mathlib.Core.List.{List, [], map}
use mathlib.Core.Option.{Option, none, some}
use Prim.Native.Nat.{ℕ, ◌/◌, ◌*◌, ◌<◌}
use native.Mathlib.Omega.{arith}
use lib.Dec.{ltb}
use lib.ListN.{length, get_or, length-map, get_or-map}
use lib.Seq.{ext_get_or}
use Rattle.lists.specs.Lists.{is_some, first_from, same_numbers}
use Rattle.lists.specs.Rows.{chunks}
use Rattle.lists.specs.Search.{as_option}
use Rattle.lists.proofs.Cuts.{length_chunks, chunk_at}
use Rattle.lists.proofs.Puts.{get_d_any}
use Rattle.sha1_definition.specs.Sha1.{sha1}
use Rattle.model.specs.Measures.{Measures}
use Rattle.model.specs.State.{Storage}
use Rattle.sent.specs.Sent.{content_in, contents, zero_segment, first_with, had}
use Rattle.sent.specs.Found.{print_at, is_printed, RecordsFor}
use Rattle.sent_laws.proofs.Search.{or_else, pick, had_is, record_at_lem}

module _ (m : Measures) (storage : Storage) where
  abbrev count : ℕ
  count = length storage.records

  -- whether a fingerprint's segment is had, by the number found
  pub had_by : (f : List ℕ) (n : ℕ) → as_option count n ≡ first_from (is_printed sha1 m storage f) 0 storage.records
      → is_some (had sha1 m storage [] f) ≡ cond (same_numbers (sha1 (zero_segment m)) f) true (ltb n count)
  unfolding first_with is_some
  had_by f n e =
      ap is_some (had_is sha1 f m storage [])
      ∙ go (same_numbers (sha1 (zero_segment m)) f) (first_with sha1 f (contents m storage)) (ap is_some (record_at_lem sha1 f m storage ∙ ap (pick content) (sym e)) ∙ found (ltb n count))
    where
      content : ℕ → List ℕ
      content k = content_in m storage (get_or storage.records k [])

      found : (b : Bool) → is_some (pick content (cond b (some n) none)) ≡ b
      found true = refl
      found false = refl

      go : (b : Bool) (o : Option (List ℕ)) → is_some o ≡ ltb n count → is_some (cond b (some (zero_segment m)) (or_else none o)) ≡ cond b true (ltb n count)
      go true o q = refl
      go false o q = q

  module _ (fs numbers : List ℕ) (r : RecordsFor m storage fs numbers) (whole : length fs ≡ 20 * length numbers) where
    -- fingerprint j's mark
    abbrev mark : List ℕ → ℕ
    mark f = cond (is_some (had sha1 m storage [] f)) 1 0

    pub marks_are : (marks : List ℕ) → length marks ≡ length numbers
        → ((j : ℕ) → j < length marks → get_or marks j 0 ≡ cond (cond (same_numbers (sha1 (zero_segment m)) (print_at fs j)) true (ltb (get_or numbers j 0) count)) 1 0)
        → marks ≡ map mark (chunks 20 fs)
    marks_are marks l h = ext_get_or 0 marks (map mark (chunks 20 fs)) (l ∙ sym (length-map (chunks 20 fs) mark ∙ all)) (λ j b.
        h j b ∙ ap (λ (t : Bool). cond t 1 0) (sym (had_by (print_at fs j) (get_or numbers j 0) (r j (omega (arith, b, l)))))
        ∙ ap mark (sym (chunk_at 20 fs j (let q : j < length fs / 20 = omega (arith, b, l, whole) in q)))
        ∙ sym (get_or-map mark (chunks 20 fs) j [])
        ∙ get_d_any (map mark (chunks 20 fs)) j (mark []) 0 (let q : j < length (map mark (chunks 20 fs)) = omega (arith, b, l, length-map (chunks 20 fs) mark, all) in q))
      where
        all : length (chunks 20 fs) ≡ length numbers
        all = length_chunks 20 fs ∙ (let q : length fs / 20 ≡ length numbers = omega (arith, whole) in q)
