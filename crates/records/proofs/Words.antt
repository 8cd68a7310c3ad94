-- A record's words, read and written.
use mathlib.Core.Path.{◌≡◌, refl, sym, ap, ap₂, ◌∙◌}
use mathlib.Core.List.{List, [], ◌∷◌, ◌++◌, map}
use Prim.Native.Nat.{ℕ, ◌+◌, ◌-◌, ◌≤◌}
use native.Mathlib.Nat.{add-zero}
use native.Mathlib.Omega.{arith}
use lib.ListN.{length, get_or, take, drop, length-map, length-drop}
use lib.Seq.{length-take-le, get_or-drop, get_or-take, take_at, drop_at, drop-drop, take-take, take_all}
use Rattle.lists.specs.Masks.{mask_of}
use Rattle.lists.specs.Rows.{fill}
use Rattle.model.specs.Measures.{record_words}
use Rattle.model.specs.Records.{is_held, is_removed, is_blank_position, cell_of, count_of}
use Rattle.model.specs.State.{Segment}
use Rattle.model.specs.Table.{record_to_words}
use Rattle.laws.proofs.RoundTrip.{length_record}
use Rattle.records.specs.Records.{record_of, positions, record_in, Formed}
use Rattle.records.specs.declared.Record.{Record}
use Rattle.lists.proofs.Filled.{over_zeros}
use Rattle.lists.proofs.Slices.{drop_take}
use Rattle.lists.specs.Written.{written}
use Rattle.lists.proofs.Written.{written_written}
use Rattle.records.proofs.Records.{same_record, held_mask_lem, removed_mask, blank_mask_lem, cells_fill, counts_fill, front}

-- ---- record_to_words

-- a record's words written in three steps
pub store_all : (t l₁ l₂ l₃ : List ℕ) (at n : ℕ) (r : Record) → Formed r → length (positions r) ≡ n → at + record_words n ≤ length t
    → l₁ ≡ written t at (r.held ∷ r.removed ∷ r.blank ∷ []) → l₂ ≡ written l₁ (at + 3) (take n r.cells) → l₃ ≡ written l₂ (at + 3 + n) (take n r.counts)
    → l₃ ≡ take at t ++ (record_to_words (positions r) ++ drop (record_words n) (drop at t))
unfolding record_to_words
store_all t l₁ l₂ l₃ at n r f ln h a b c =
    let seg : Segment = positions r in
    let cells : List ℕ = map cell_of seg in
    let counts : List ℕ = map count_of seg in
    let head : List ℕ = mask_of is_held seg ∷ mask_of is_removed seg ∷ mask_of is_blank_position seg ∷ [] in
    let k : length cells ≡ n = length-map seg cell_of ∙ ln in
    let k' : length counts ≡ n = length-map seg count_of ∙ ln in
    let few : n ≤ 16 = omega (arith, f.few) in
    let ec : take n r.cells ≡ cells = ap (take n) (cells_fill r f) ∙ front cells n k few in
    let en : take n r.counts ≡ counts = ap (take n) (counts_fill r f) ∙ front counts n k' few in
    let e₁ : l₁ ≡ written t at head = a ∙ ap₂ (λ (x y : ℕ). written t at (x ∷ y ∷ r.blank ∷ [])) (held_mask_lem r f) (removed_mask r f)
    ∙ ap (λ (z : ℕ). written t at (mask_of is_held seg ∷ mask_of is_removed seg ∷ z ∷ [])) (blank_mask_lem r f) in
    let e₂ : l₂ ≡ written t at (head ++ cells) = b ∙ rw (e₁, ec) (written_written t at head cells (omega arith)) in
    let q : at + 3 + n ≡ at + length (head ++ cells) = omega arith in
    let e₃ : l₃ ≡ written t at ((head ++ cells) ++ counts) = c ∙ rw (e₂, en, q) (written_written t at (head ++ cells) counts (omega arith)) in
    e₃ ∙ back (record_to_words seg) (length_record n seg ln)
  where
    back : (ws : List ℕ) → length ws ≡ record_words n → written t at ws ≡ take at t ++ (ws ++ drop (record_words n) (drop at t))
    back ws l = unfold written in rw (l, drop-drop)

-- ---- record_in

-- the record of a row is read from the words around it
pub record_row : (t : List ℕ) (at n : ℕ) (r : Record) → r.held ≡ get_or t at 0 → r.removed ≡ get_or t (at + 1) 0 → r.blank ≡ get_or t (at + 2) 0 → r.used ≡ n
    → r.cells ≡ fill 16 (take n (drop (at + 3) t)) → r.counts ≡ fill 16 (take n (drop (at + 3 + n) t)) → r ≡ record_in n (take (record_words n) (drop at t))
unfolding record_in
record_row t at n r h d b u c k =
    same_record _ _
    (h ∙ ap (λ (i : ℕ). get_or t i 0) (sym (add-zero at)) ∙ sym (get_or-drop at t 0 0) ∙ sym (get_or-take (record_words n) (drop at t) 0 0 (omega arith)))
    (d ∙ sym (get_or-drop at t 1 0) ∙ sym (get_or-take (record_words n) (drop at t) 1 0 (omega arith)))
    (b ∙ sym (get_or-drop at t 2 0) ∙ sym (get_or-take (record_words n) (drop at t) 2 0 (omega arith)))
    u
    (c ∙ ap (fill 16) (some 3 (omega arith)))
    (k ∙ ap (λ (i : ℕ). fill 16 (take n (drop i t))) (let z : at + 3 + n ≡ at + (3 + n) = omega arith in z) ∙ ap (fill 16) (some (3 + n) (omega arith)))
  where
    some : (j : ℕ) → j + n ≤ record_words n → take n (drop (at + j) t) ≡ take n (drop j (take (record_words n) (drop at t)))
    some j l =
        ap (take n) (sym (drop-drop j at t)) ∙ sym (take-take n (record_words n - j) (drop j (drop at t)) (omega arith))
        ∙ ap (take n) (sym (drop_take j (record_words n) (drop at t)))

pub record_words_lem : (n : ℕ) (seg : Segment) → length seg ≡ n → record_in n (record_to_words seg) ≡ record_of seg
unfolding record_in record_to_words record_of
record_words_lem n seg l =
    let cells : List ℕ = map cell_of seg in
    let counts : List ℕ = map count_of seg in
    let lc : length cells ≡ n = length-map seg cell_of ∙ l in
    same_record _ _ refl refl refl (sym l)
    (ap (fill 16) (take_at cells counts n lc))
    (ap (fill 16) (ap (take n) (sym (drop-drop n 3 (record_to_words seg)) ∙ drop_at cells counts n lc) ∙ take_all n counts (omega (arith, length-map seg count_of))))

-- words copied over zeros
pub part_filled : (t z s : List ℕ) (at n : ℕ) → n ≤ 16 → at + n ≤ length t → z ≡ fill 16 [] → s ≡ take (at + n - at) (drop at t) → s ++ drop n z ≡ fill 16 (take n (drop at t))
part_filled t z s at n h l ez es =
    let part : List ℕ = take n (drop at t) in
    let lp : length part ≡ n = length-take-le n (drop at t) (omega (arith, length-drop at t)) in
    let k : at + n - at ≡ n = omega arith in
    rw (es, k, ez) (ap (λ (j : ℕ). part ++ drop j (fill 16 [])) (sym lp) ∙ over_zeros 16 part (omega (arith, lp)))
