-- What the first pass marks: bit t of a position's mark tells whether till t has a direct pointer to it.
use mathlib.Core.Path.{◌≡◌, refl, sym, ap, ◌∙◌}
use mathlib.Core.Bool.{Bool, true, false, cond}
use mathlib.Core.List.{List, [], ◌∷◌, ◌++◌, map}
use Prim.Native.Nat.{ℕ, zero, suc, ◌+◌, ◌*◌, ◌/◌, ◌%◌, ◌^◌, ◌≤◌, ◌<◌, min}
use native.Mathlib.Nat.{pow-suc}
use native.Mathlib.Numerals.{add-one}
use native.Mathlib.Omega.{arith}
use lib.Dec.{eqb, ltb}
use lib.ListN.{length, get_or, set, take, drop, replicate, length-take, length-replicate}
use lib.Seq.{get_or-set_same, get_or-set_other}
use borrow.Author.Tests.{ne_eqb, eqb-true, eqb-false, lt-ltb, le-ltb, ltb-true, ltb-false}
use Rattle.lists.specs.Lists.{count, all_of}
use Rattle.lists.specs.Masks.{mask_of}
use Rattle.lists.specs.Rows.{joined, rows, parts}
use Rattle.lists.proofs.Masks.{mask_lt}
use Rattle.lists.proofs.Slices.{take_next}
use Rattle.model.specs.State.{Pointer, Till}
use Rattle.model.specs.Sound.{leads_to}
use Rattle.model.specs.Table.{kind_unit, pointer_of, word_to_pointer, version_in, versions_in, till_in}
use Rattle.model.specs.Calls.{empty_till}
use Rattle.laws.proofs.Serves.{pointers_of}
use Rattle.audit_tills.specs.Sound.{pointer_words, till_pointers}
use Rattle.bill_sums.specs.Marks.{with_bit, mark_word, mark_words, till_row, mark_tills}
use Rattle.bill_sums.proofs.Passes.{words_length, tills_length, bit_new, bit_old, zeros_at}

-- a till has a direct pointer to position i of record k
unfoldable pub points : ℕ → ℕ → Till → Bool
points k i till = ltb 0 (count (leads_to k i) (pointers_of till.versions))

-- ---- one word

-- a word that points to position p
abbrev here : ℕ → ℕ → ℕ → Bool
here p kind n = cond (eqb kind 1) (eqb n p) false

direct_here : (p n : ℕ) → all_of (eqb (p / 16) (n / 16) ∷ eqb (p % 16) (n % 16) ∷ []) ≡ eqb n p
unfolding all_of
direct_here p n = go (eqb n p) (eqb (p / 16) (n / 16)) (eqb (p % 16) (n % 16)) refl refl refl
  where
    go : (a b d : Bool) → eqb n p ≡ a → eqb (p / 16) (n / 16) ≡ b → eqb (p % 16) (n % 16) ≡ d → cond b (cond d true false) false ≡ a
    go true true true e f g = refl
    go true true false e f g = absurd (eqb-false _ _ g (ap (λ (x : ℕ). x % 16) (sym (eqb-true n p e))))
    go true false d e f g = absurd (eqb-false _ _ f (ap (λ (x : ℕ). x / 16) (sym (eqb-true n p e))))
    go false true true e f g = absurd (eqb-false n p e (omega (arith, eqb-true (p / 16) (n / 16) f, eqb-true (p % 16) (n % 16) g)))
    go false true false e f g = refl
    go false false d e f g = refl

leads_here : (p kind n : ℕ) → leads_to (p / 16) (p % 16) (pointer_of kind n) ≡ here p kind n
unfolding pointer_of
leads_here p zero n = rw (ne_eqb 0 1 (λ z. omega arith))
leads_here p (suc zero) n = direct_here p n
leads_here p (suc (suc zero)) n = rw (ne_eqb 2 1 (λ z. omega arith))
leads_here p (suc (suc (suc zero))) n = rw (ne_eqb 3 1 (λ z. omega arith))
leads_here p (suc (suc (suc (suc kind)))) n = rw (ne_eqb (suc (suc (suc (suc kind)))) 1 (λ z. omega arith))

module _ (bit p : ℕ) where
  word_at : (w : ℕ) (marks : List ℕ) → p < length marks
      → get_or (mark_word bit w marks) p 0 ≡ cond (leads_to (p / 16) (p % 16) (word_to_pointer w)) (with_bit bit (get_or marks p 0)) (get_or marks p 0)
  unfolding mark_word word_to_pointer
  word_at w marks l = rw (leads_here p (w / kind_unit) (w % kind_unit)) (go (eqb (w / kind_unit) 1) (eqb (w % kind_unit) p) refl)
    where
      go : (a b : Bool) → eqb (w % kind_unit) p ≡ b
          → get_or (cond a (set marks (w % kind_unit) (with_bit bit (get_or marks (w % kind_unit) 0))) marks) p 0 ≡ cond (cond a b false) (with_bit bit (get_or marks p 0)) (get_or marks p 0)
      go true true e = rw (eqb-true (w % kind_unit) p e) (get_or-set_same marks p _ 0 l)
      go true false e = get_or-set_other marks (w % kind_unit) p _ 0 (λ z. eqb-false (w % kind_unit) p e (sym z))
      go false b e = refl

  again : (mark : ℕ) → with_bit bit (with_bit bit mark) ≡ with_bit bit mark
  again mark = go (ltb mark bit) refl
    where
      go : (t : Bool) → ltb mark bit ≡ t → with_bit bit (with_bit bit mark) ≡ with_bit bit mark
      go true e = let q = bit_new bit mark (ltb-true mark bit e) in rw (sym q) (sym (bit_old bit (mark + bit) (omega arith)))
      go false e = ap (with_bit bit) (sym (bit_old bit mark (ltb-false mark bit e)))

  -- of some words: whether one points there
  words_at : (ws marks : List ℕ) → p < length marks
      → get_or (mark_words bit ws marks) p 0 ≡ cond (ltb 0 (count (leads_to (p / 16) (p % 16)) (map word_to_pointer ws))) (with_bit bit (get_or marks p 0)) (get_or marks p 0)
  unfolding mark_words count
  words_at [] marks l = refl
  words_at (w ∷ ws) marks l =
      words_at ws (mark_word bit w marks) (rw (words_length bit (w ∷ []) marks) l)
      ∙ rw (word_at w marks l) (go (leads_to (p / 16) (p % 16) (word_to_pointer w)) (ltb 0 (count (leads_to (p / 16) (p % 16)) (map word_to_pointer ws))) refl)
    where
      go : (a b : Bool) → ltb 0 (count (leads_to (p / 16) (p % 16)) (map word_to_pointer ws)) ≡ b
          → cond b (with_bit bit (cond a (with_bit bit (get_or marks p 0)) (get_or marks p 0))) (cond a (with_bit bit (get_or marks p 0)) (get_or marks p 0))
          ≡ cond (ltb 0 (cond a 1 0 + count (leads_to (p / 16) (p % 16)) (map word_to_pointer ws))) (with_bit bit (get_or marks p 0)) (get_or marks p 0)
      go true true e = rw (lt-ltb 0 (1 + count (leads_to (p / 16) (p % 16)) (map word_to_pointer ws)) (omega arith)) (again (get_or marks p 0))
      go true false e = rw (lt-ltb 0 (1 + count (leads_to (p / 16) (p % 16)) (map word_to_pointer ws)) (omega arith))
      go false true e = rw (lt-ltb 0 (0 + count (leads_to (p / 16) (p % 16)) (map word_to_pointer ws)) (omega (arith, ltb-true 0 (count (leads_to (p / 16) (p % 16)) (map word_to_pointer ws)) e)))
      go false false e = rw (le-ltb 0 (0 + count (leads_to (p / 16) (p % 16)) (map word_to_pointer ws)) (omega (arith, ltb-false 0 (count (leads_to (p / 16) (p % 16)) (map word_to_pointer ws)) e)))

-- ---- a till's pointers are those of its words

map_both : (xs ys : List ℕ) → map word_to_pointer (xs ++ ys) ≡ map word_to_pointer xs ++ map word_to_pointer ys
map_both [] ys = refl
map_both (x ∷ xs) ys = ap (λ (l : List Pointer). word_to_pointer x ∷ l) (map_both xs ys)

slots_pointers_lem : (bytes : ℕ) (slots : List (List ℕ)) → pointers_of (map (version_in bytes) slots) ≡ map word_to_pointer (rows (pointer_words bytes) slots)
unfolding joined version_in
slots_pointers_lem bytes [] = refl
slots_pointers_lem bytes (x ∷ xs) =
    ap (λ (l : List Pointer). map word_to_pointer (pointer_words bytes x) ++ l) (slots_pointers_lem bytes xs) ∙ sym (map_both (pointer_words bytes x) (rows (pointer_words bytes) xs))

pub till_pointers_lem : (bytes v b : ℕ) (row : List ℕ) → get_or row 1 0 ≤ v → pointers_of (till_in bytes v b row).versions ≡ map word_to_pointer (till_pointers bytes b row)
unfolding till_in versions_in
till_pointers_lem bytes v b row h =
    let e : min (get_or row 1 0) v ≡ get_or row 1 0 = omega arith in
    rw e (slots_pointers_lem bytes (parts (3 + b) (get_or row 1 0) (drop 4 row)))

-- ---- all tills

mask_snoc : (f : Till → Bool) (xs : List Till) (x : Till) → mask_of f (xs ++ (x ∷ [])) ≡ mask_of f xs + cond (f x) (2 ^ length xs) 0
unfolding mask_of
mask_snoc f [] x = go (f x)
  where
    go : (t : Bool) → ◌≡◌ {A = ℕ} (cond t 1 0 + 2 * 0) (0 + cond t (2 ^ 0) 0)
    go true = refl
    go false = refl
mask_snoc f (y ∷ ys) x = omega (arith, mask_snoc f ys x, twice (f x))
  where
    twice : (t : Bool) → cond t (2 ^ suc (length ys)) 0 ≡ 2 * cond t (2 ^ length ys) 0
    twice true = omega (arith, pow-suc 2 (length ys))
    twice false = omega arith

module _ (bytes b width : ℕ) (words : List ℕ) (tills : List Till)
    (same : (t : ℕ) → t < length tills → pointers_of (get_or tills t empty_till).versions ≡ map word_to_pointer (till_pointers bytes b (till_row width words t))) (n p : ℕ) (l : p < n) where
  abbrev f : Till → Bool
  f = points (p / 16) (p % 16)

  pub marks_at : (t : ℕ) → t ≤ length tills → get_or (mark_tills bytes b width words t (replicate n 0)) p 0 ≡ mask_of f (take t tills)
  unfolding mark_tills mask_of points
  marks_at zero h = zeros_at n p
  marks_at (suc t) h =
      let long : p < length (mark_tills bytes b width words t (replicate n 0)) = rw (tills_length bytes b width words t (replicate n 0), length-replicate {A = ℕ} n 0) l in
      words_at (2 ^ t) p (till_pointers bytes b (till_row width words t)) (mark_tills bytes b width words t (replicate n 0)) long
      ∙ rw (marks_at t (omega arith)) (go (ltb 0 (count (leads_to (p / 16) (p % 16)) (map word_to_pointer (till_pointers bytes b (till_row width words t))))) mine
      ∙ sym (ap (mask_of f) (ap (λ (k : ℕ). take k tills) (sym (add-one t)) ∙ take_next tills t empty_till h) ∙ mask_snoc f (take t tills) (get_or tills t empty_till)))
    where
      size : length (take t tills) ≡ t
      size = omega (arith, length-take t tills)

      mine : ltb 0 (count (leads_to (p / 16) (p % 16)) (map word_to_pointer (till_pointers bytes b (till_row width words t)))) ≡ f (get_or tills t empty_till)
      mine = ap (λ (ps : List Pointer). ltb 0 (count (leads_to (p / 16) (p % 16)) ps)) (sym (same t h))

      go : (x : Bool) → x ≡ f (get_or tills t empty_till) → cond x (with_bit (2 ^ t) (mask_of f (take t tills))) (mask_of f (take t tills)) ≡ mask_of f (take t tills) + cond (f (get_or tills t empty_till)) (2 ^ length (take t tills)) 0
      go true e = rw (sym e, size, sym (bit_new (2 ^ t) (mask_of f (take t tills)) (rw size at (mask_lt f (take t tills)))))
      go false e = rw (sym e) (omega arith)
