-- Laws of tracing.
use mathlib.Core.Path.{◌≡◌, refl, sym, ap, ◌∙◌, subst}
use mathlib.Core.Bool.{Bool, true, false}
use mathlib.Core.List.{List, [], ◌∷◌, map}
use Prim.Native.Nat.{ℕ, zero, suc, ◌+◌, ◌*◌, ◌/◌, ◌%◌, ◌≤◌, ◌<◌, min}
use native.Mathlib.Nat.{add-zero, zero-add, zero-mul}
use native.Mathlib.Numerals.{add-one}
use native.Mathlib.Omega.{arith}
use lib.ListN.{length, get_or, take, drop, length-map, length-take, get_or-map, get_or-eq_default}
use lib.Seq.{get_or-take, get_or-drop, drop-cons}
use lib.Arith.{digits_lt}
use lib.Dec.{ltb}
use borrow.Author.Tests.{ltb-true, ltb-false}
use Rattle.lists.specs.Rows.{parts}
use Rattle.lists.proofs.Sets.{map_at}
use Rattle.lists.proofs.Cuts.{part_at, length_parts}
use Rattle.model.specs.Measures.{parts_for}
use Rattle.model.specs.State.{Pointer, null_pointer, blank_pointer, direct, indirect, Version}
use Rattle.model.specs.Table.{word_to_pointer, pointer_of, version_in, versions_in}
use Rattle.model.specs.Trace.{hops_via, end_via, hops, end_of}
use Rattle.storage.specs.Fits.{WithinRecords}
use Rattle.restore_trace.specs.Versions.{no_version, pointers_at, IndirectBelow, Traceable}

null_word : word_to_pointer 0 ≡ null_pointer
unfolding word_to_pointer pointer_of
null_word = refl

pub length_versions : (bytes b h : ℕ) (slots : List ℕ) → length (versions_in bytes b h slots) ≡ h
unfolding versions_in
length_versions bytes b h slots = length-map (parts (3 + b) h slots) (version_in bytes) ∙ length_parts (3 + b) h slots

-- a version that has a block is there
pub version_there : (bytes b h : ℕ) (slots : List ℕ) (i j : ℕ) → j < length (pointers_at (versions_in bytes b h slots) i) → i < h
version_there bytes b h slots i j l = go (ltb i h) refl
  where
    go : (t : Bool) → ltb i h ≡ t → i < h
    go true e = ltb-true i h e
    go false e =
        let d : get_or (versions_in bytes b h slots) i no_version ≡ no_version =
        get_or-eq_default (versions_in bytes b h slots) no_version {n = i} (omega (arith, ltb-false i h e, length_versions bytes b h slots)) in
        absurd (omega (arith, ap (λ (v : Version). length v.pointers) d))

pub version_row : (bytes b h : ℕ) (slots : List ℕ) (i : ℕ) → i < h → get_or (versions_in bytes b h slots) i no_version ≡ version_in bytes (take (3 + b) (drop (i * (3 + b)) slots))
unfolding versions_in
version_row bytes b h slots i l = map_at (version_in bytes) (parts (3 + b) h slots) i [] no_version (omega (arith, length_parts (3 + b) h slots)) ∙ ap (version_in bytes) (part_at (3 + b) h slots i l)

row_pointer : (bytes b : ℕ) (row : List ℕ) (j : ℕ) → j < length (version_in bytes row).pointers → get_or (version_in bytes row).pointers j null_pointer ≡ word_to_pointer (get_or row (3 + j) 0)
unfolding version_in
row_pointer bytes b row j l =
    let c : ℕ = parts_for bytes (get_or row 1 0) in
    let n : length (map word_to_pointer (take c (drop 3 row))) ≡ min c (length (drop 3 row)) = length-map (take c (drop 3 row)) word_to_pointer ∙ length-take c (drop 3 row) in
    let h : j < c = omega arith in
    ap (λ (p : Pointer). get_or (map word_to_pointer (take c (drop 3 row))) j p) (sym null_word)
    ∙ get_or-map word_to_pointer (take c (drop 3 row)) j 0
    ∙ ap word_to_pointer (get_or-take c (drop 3 row) j 0 h ∙ get_or-drop 3 row j 0)

-- a block's pointer is that of its word
pub word_at : (bytes b h : ℕ) (slots : List ℕ) (i j : ℕ) → j < length (pointers_at (versions_in bytes b h slots) i) → length (pointers_at (versions_in bytes b h slots) i) ≤ b
    → get_or (pointers_at (versions_in bytes b h slots) i) j null_pointer ≡ word_to_pointer (get_or slots (i * (3 + b) + (3 + j)) 0)
word_at bytes b h slots i j l f =
    let e = version_row bytes b h slots i (version_there bytes b h slots i j l) in
    let row : List ℕ = take (3 + b) (drop (i * (3 + b)) slots) in
    let k : j < length (version_in bytes row).pointers = rw (← e) l in
    ap (λ (v : Version). get_or v.pointers j null_pointer) e
    ∙ row_pointer bytes b row j k
    ∙ ap word_to_pointer (get_or-take (3 + b) (drop (i * (3 + b)) slots) (3 + j) 0 (omega arith) ∙ get_or-drop (i * (3 + b)) slots (3 + j) 0)

-- ---- the loop

indirect_word : (w : ℕ) → w / 16777216 ≡ 2 → word_to_pointer w ≡ indirect (w % 16777216)
unfolding word_to_pointer pointer_of
indirect_word w e = rw e

end_other : (w : ℕ) → (w / 16777216 ≡ 2 → ⊥) → (f : ℕ → Pointer) → end_via (word_to_pointer w) f ≡ word_to_pointer w
unfolding word_to_pointer pointer_of end_via
end_other w n f = go (w / 16777216) n
  where
    go : (k : ℕ) → (k ≡ 2 → ⊥) → end_via (pointer_of k (w % 16777216)) f ≡ pointer_of k (w % 16777216)
    go zero n = refl
    go (suc zero) n = refl
    go (suc (suc zero)) n = absurd (n refl)
    go (suc (suc (suc zero))) n = refl
    go (suc (suc (suc (suc k)))) n = refl

hops_other : (w : ℕ) → (w / 16777216 ≡ 2 → ⊥) → (f : ℕ → ℕ) → hops_via (word_to_pointer w) f ≡ 0
unfolding word_to_pointer pointer_of hops_via
hops_other w n f = go (w / 16777216) n
  where
    go : (k : ℕ) → (k ≡ 2 → ⊥) → hops_via (pointer_of k (w % 16777216)) f ≡ 0
    go zero n = refl
    go (suc zero) n = refl
    go (suc (suc zero)) n = absurd (n refl)
    go (suc (suc (suc zero))) n = refl
    go (suc (suc (suc (suc k)))) n = refl

-- from the pointer of w₀ on, v pointers are followed, and the next one is that of w
pub record Tracing (bytes b h : ℕ) (slots : List ℕ) (w₀ v w : ℕ) : Type 0 where
  pub inside : v < h
  pub resolves : IndirectBelow (length (pointers_at (versions_in bytes b h slots) (suc v))) (word_to_pointer w)
  pub ends : end_via (word_to_pointer w) (λ k. end_of (drop (suc v) (versions_in bytes b h slots)) k) ≡ end_via (word_to_pointer w₀) (λ k. end_of (drop 1 (versions_in bytes b h slots)) k)
  pub hop : v + hops_via (word_to_pointer w) (λ k. hops (drop (suc v) (versions_in bytes b h slots)) k) ≡ hops_via (word_to_pointer w₀) (λ k. hops (drop 1 (versions_in bytes b h slots)) k)

module _ (bytes b h : ℕ) (slots : List ℕ) (ok : Traceable bytes b h slots) where
  abbrev vs : List Version
  vs = versions_in bytes b h slots

  -- block n of version v, by its word
  module _ (v n w : ℕ) (there : n < length (pointers_at vs v)) (e : w ≡ get_or slots (v * (3 + b) + (3 + n)) 0) where
    pointer : get_or (pointers_at vs v) n null_pointer ≡ word_to_pointer w
    pointer = word_at bytes b h slots v n there (ok.fits v) ∙ ap word_to_pointer (sym e)

    cut : drop v vs ≡ get_or vs v no_version ∷ drop (suc v) vs
    cut = drop-cons vs v no_version (omega (arith, version_there bytes b h slots v n there, length_versions bytes b h slots))

    end_via_lem : end_of (drop v vs) n ≡ end_via (word_to_pointer w) (λ k. end_of (drop (suc v) vs) k)
    unfolding end_of
    end_via_lem = rw (cut, pointer)

    hop_via : hops (drop v vs) n ≡ hops_via (word_to_pointer w) (λ k. hops (drop (suc v) vs) k)
    unfolding hops
    hop_via = rw (cut, pointer)

    indirect_below : IndirectBelow (length (pointers_at vs (suc v))) (word_to_pointer w)
    indirect_below = subst (λ (p : Pointer). IndirectBelow (length (pointers_at vs (suc v))) p) pointer (ok.resolves v n)

  first_at : (block : ℕ) → get_or slots (3 + block) 0 ≡ get_or slots (0 * (3 + b) + (3 + block)) 0
  first_at block = let z : 0 * (3 + b) + (3 + block) ≡ 3 + block = omega (arith, zero-mul (3 + b)) in rw z

  pub trace_start : (block : ℕ) → block < length (pointers_at vs 0) → Tracing bytes b h slots (get_or slots (3 + block) 0) 0 (get_or slots (3 + block) 0)
  trace_start block l = record {
    inside = ok.some;
    resolves = indirect_below 0 block (get_or slots (3 + block) 0) l (first_at block);
    ends = refl;
    hop = zero-add (hops_via (word_to_pointer (get_or slots (3 + block) 0)) (λ k. hops (drop 1 vs) k));
  }

  module _ (w₀ v w : ℕ) (t : Tracing bytes b h slots w₀ v w) where
    next_there : w / 16777216 ≡ 2 → w % 16777216 < length (pointers_at vs (suc v))
    unfolding IndirectBelow
    next_there e = subst (λ (p : Pointer). IndirectBelow (length (pointers_at vs (suc v))) p) (indirect_word w e) t.resolves

    pub next_inside : w / 16777216 ≡ 2 → v + 1 < h
    next_inside e = rw (add-one v) (version_there bytes b h slots (suc v) (w % 16777216) (next_there e))

    pub next_block : w / 16777216 ≡ 2 → w % 16777216 < b
    next_block e = omega (arith, next_there e, ok.fits (suc v))

    pub trace_next : w / 16777216 ≡ 2 → Tracing bytes b h slots w₀ (v + 1) (get_or slots ((v + 1) * (3 + b) + (3 + w % 16777216)) 0)
    unfolding end_via hops_via
    trace_next e =
        let n : ℕ = w % 16777216 in
        let w' : ℕ = get_or slots ((v + 1) * (3 + b) + (3 + n)) 0 in
        let there : n < length (pointers_at vs (v + 1)) = rw (add-one v) (next_there e) in
        let en : end_via (word_to_pointer w) (λ k. end_of (drop (suc v) vs) k) ≡ end_of (drop (v + 1) vs) n = rw (indirect_word w e, add-one v) in
        let ho : hops_via (word_to_pointer w) (λ k. hops (drop (suc v) vs) k) ≡ suc (hops (drop (v + 1) vs) n) = rw (indirect_word w e, add-one v) in
        record {
          inside = next_inside e;
          resolves = indirect_below (v + 1) n w' there refl;
          ends = sym (end_via_lem (v + 1) n w' there refl) ∙ sym en ∙ t.ends;
          hop = omega (arith, hop_via (v + 1) n w' there refl, ho, t.hop);
        }

    module _ (f : w / 16777216 ≡ 2 → ⊥) (block : ℕ) (l : block < length (pointers_at vs 0)) (e : w₀ ≡ get_or slots (3 + block) 0) where
      pub trace_ends : word_to_pointer w ≡ end_of vs block
      trace_ends = sym (end_other w f (λ k. end_of (drop (suc v) vs) k)) ∙ t.ends ∙ sym (end_via_lem 0 block w₀ l (e ∙ first_at block))

      pub trace_hops : v ≡ hops vs block
      trace_hops = sym (add-zero v) ∙ ap (λ (x : ℕ). v + x) (sym (hops_other w f (λ k. hops (drop (suc v) vs) k))) ∙ t.hop ∙ sym (hop_via 0 block w₀ l (e ∙ first_at block))

-- where every pointer fits, so does the last one
pub ends_fit : (m l : ℕ) (vs : List Version) → ((i j : ℕ) → WithinRecords m l (get_or (pointers_at vs i) j null_pointer)) → (n : ℕ) → WithinRecords m l (end_of vs n)
unfolding end_of end_via WithinRecords
ends_fit m l [] f n = tt
ends_fit m l (v ∷ vs) f n = go (get_or v.pointers n null_pointer) (f 0 n) (λ k. ends_fit m l vs (λ i j. f (suc i) j) k)
  where
    go : (p : Pointer) → WithinRecords m l p → ((k : ℕ) → WithinRecords m l (end_of vs k)) → WithinRecords m l (end_via p (λ k. end_of vs k))
    go null_pointer a r = tt
    go blank_pointer a r = tt
    go (direct k i) a r = a
    go (indirect k) a r = r k

-- ---- places

pub place_inside : (bytes b h : ℕ) (slots : List ℕ) → Traceable bytes b h slots → (v n : ℕ) → v < h → n < b → v * (3 + b) + (3 + n) < length slots
place_inside bytes b h slots ok v n l k = rw ok.rows (digits_lt {c = 3 + b} l (omega arith))

pub start_inside : (bytes b h : ℕ) (slots : List ℕ) → Traceable bytes b h slots → (n : ℕ) → n < length (pointers_at (versions_in bytes b h slots) 0) → 3 + n < length slots
start_inside bytes b h slots ok n l = omega (arith, zero-mul (3 + b), place_inside bytes b h slots ok 0 n ok.some (omega (arith, ok.fits 0)))
