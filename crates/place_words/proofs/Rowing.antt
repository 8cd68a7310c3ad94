-- Laws for rewriting a record's row.
use mathlib.Core.Path.{◌∙◌, ◌≡◌, ap, ap₂, refl, sym}
use mathlib.Core.Bool.{Bool, cond, false, not, true}
use mathlib.Core.List.{List, [], ◌++◌, ◌∷◌, map}
use Prim.Native.Nat.{◌%◌, ◌*◌, ◌+◌, ◌-◌, ◌/◌, suc, zero, ℕ}
use native.Mathlib.Nat.{add-zero}
use native.Mathlib.Numerals.{add-one}
use native.Mathlib.Omega.{arith}
use lib.ListN.{drop, get_or, length, length-append, length-drop, length-map, length-set, set, take}
use lib.Seq.{length-take-le}
use Rattle.lists.specs.Lists.{all_zero}
use Rattle.lists.specs.Masks.{mask_of}
use Rattle.lists.specs.Walk.{bits, lowered, next_add, next_same, numbered, out_bit, out_less, out_more, out_pick, pick, raised, walk}
use Rattle.lists.proofs.Puts.{map_then}
use Rattle.lists.proofs.Slices.{tail_is, tail_put}
use Rattle.lists.proofs.Walks.{length_walk, walk_map}
use Rattle.model.specs.Measures.{record_words}
use Rattle.model.specs.Image.{is_bare, is_blank, with_blanks}
use Rattle.model.specs.Place.{bare_pointer, bare_position, new_positions, one_more, pointers_to}
use Rattle.model.specs.Records.{cell_of, count_of, is_blank_position, is_held, is_removed}
use Rattle.model.specs.State.{Block, Position, Segment, blank_pointer, blank_position, direct, held, null_pointer, null_position, removed}
use Rattle.model.specs.Sweep.{one_less}
use Rattle.model.specs.Table.{kind_unit, pointer_word, record_to_words}
use Rattle.laws.proofs.Bare.{by_bare_position}
use Rattle.laws.proofs.RoundTrip.{direct_word}
use Rattle.place_words.specs.Marks.{blank_bit, blank_mask, is_erased, stored_bit, stored_mask}
use Rattle.place_words.specs.Words.{pointer_if}
use Rattle.place_words.proofs.Marks.{blanks_div, blanks_mod, marks_div, marks_mod}
use Rattle.storage.proofs.Row.{held_word}

-- the counts are lent as the row's end
module _ (n : ℕ) (seg : Segment) (e : length seg ≡ n) (row : List ℕ) (s : row ≡ record_to_words seg) where
  lead : List ℕ
  lead = mask_of is_held seg ∷ mask_of is_removed seg ∷ mask_of is_blank_position seg ∷ map cell_of seg

  lead_length : length lead ≡ 3 + n
  unfolding lead
  lead_length = let q : suc (suc (suc (length (map cell_of seg)))) ≡ 3 + n = omega (arith, length-map seg cell_of) in q

  lead_split : row ≡ lead ++ map count_of seg
  unfolding record_to_words lead
  lead_split = s

  counts_lent : take (length row - (3 + n)) (drop (3 + n) row) ≡ map count_of seg
  counts_lent = tail_is lead (map count_of seg) row (3 + n) lead_split lead_length

  counts_back : (cs : List ℕ) → take (3 + n) row ++ (cs ++ drop (length row - (3 + n)) (drop (3 + n) row)) ≡ mask_of is_held seg ∷ mask_of is_removed seg ∷ mask_of is_blank_position seg ∷ (map cell_of seg ++ cs)
  unfolding lead
  counts_back cs = tail_put lead (map count_of seg) row (3 + n) lead_split lead_length cs

-- ---- one more, one less

raise_counts : (ps : Segment) → raised (mask_of is_held ps) (map count_of ps) ≡ map count_of (map one_more ps)
raise_counts ps = walk_map out_more 0 is_held count_of ps ∙ map_then (λ p. count_of p + cond (is_held p) 1 0) count_of one_more go ps
  where
    go : (p : Position) → count_of p + cond (is_held p) 1 0 ≡ count_of (one_more p)
    go null_position = refl
    go blank_position = refl
    go (held c n) = add-one n
    go removed = refl

lower_counts : (ps : Segment) → lowered (mask_of is_held ps) (map count_of ps) ≡ map count_of (map one_less ps)
lower_counts ps = walk_map out_less 0 is_held count_of ps ∙ map_then (λ p. count_of p - cond (is_held p) 1 0) count_of one_less go ps
  where
    go : (p : Position) → count_of p - cond (is_held p) 1 0 ≡ count_of (one_less p)
    go null_position = refl
    go blank_position = refl
    go (held c zero) = refl
    go (held c (suc n)) = let e : suc n - 1 ≡ n = omega arith in e
    go removed = refl

-- a change of counts keeps masks and cells
abbrev SameCells : (Position → Position) → Type 0
SameCells g = (p : Position) → (is_held (g p) ≡ is_held p) × (is_removed (g p) ≡ is_removed p) × (is_blank_position (g p) ≡ is_blank_position p) × (cell_of (g p) ≡ cell_of p)

more_same : SameCells one_more
more_same null_position = (refl, refl, refl, refl)
more_same blank_position = (refl, refl, refl, refl)
more_same (held c n) = (refl, refl, refl, refl)
more_same removed = (refl, refl, refl, refl)

less_same : SameCells one_less
less_same null_position = (refl, refl, refl, refl)
less_same blank_position = (refl, refl, refl, refl)
less_same (held c n) = (refl, refl, refl, refl)
less_same removed = (refl, refl, refl, refl)

kept_mask : (g : Position → Position) (f : Position → Bool) → ((p : Position) → f (g p) ≡ f p) → (ps : Segment) → mask_of f (map g ps) ≡ mask_of f ps
unfolding mask_of
kept_mask g f e [] = refl
kept_mask g f e (p ∷ ps) = rw (e p, kept_mask g f e ps)

kept_row : (g : Position → Position) → SameCells g → (ps : Segment) (cs : List ℕ) → cs ≡ map count_of (map g ps)
    → mask_of is_held ps ∷ mask_of is_removed ps ∷ mask_of is_blank_position ps ∷ (map cell_of ps ++ cs) ≡ record_to_words (map g ps)
unfolding record_to_words
kept_row g k ps cs e =
    rw (kept_mask g is_held (λ p. (k p).0) ps, kept_mask g is_removed (λ p. (k p).1) ps, kept_mask g is_blank_position (λ p. (k p).2) ps, ← map_then cell_of cell_of g (λ p. sym (k p).3) ps, e)

module _ (n : ℕ) (seg : Segment) (e : length seg ≡ n) (row : List ℕ) (s : row ≡ record_to_words seg) where
  first_word : get_or row 0 0 ≡ mask_of is_held seg
  first_word = ap (λ (l : List ℕ). get_or l 0 0) s ∙ held_word seg

  pub raised_row : (cs : List ℕ) → cs ≡ raised (get_or row 0 0) (take (length row - (3 + n)) (drop (3 + n) row))
      → take (3 + n) row ++ (cs ++ drop (length row - (3 + n)) (drop (3 + n) row)) ≡ record_to_words (map one_more seg)
  raised_row cs q =
      counts_back n seg e row s cs
      ∙ kept_row one_more more_same seg cs (q ∙ ap₂ (λ (m : ℕ) (l : List ℕ). raised m l) first_word (counts_lent n seg e row s) ∙ raise_counts seg)

  pub lowered_row : (cs : List ℕ) → cs ≡ lowered (get_or row 0 0) (take (length row - (3 + n)) (drop (3 + n) row))
      → take (3 + n) row ++ (cs ++ drop (length row - (3 + n)) (drop (3 + n) row)) ≡ record_to_words (map one_less seg)
  lowered_row cs q =
      counts_back n seg e row s cs
      ∙ kept_row one_less less_same seg cs (q ∙ ap₂ (λ (m : ℕ) (l : List ℕ). lowered m l) first_word (counts_lent n seg e row s) ∙ lower_counts seg)

-- ---- a new row

-- the position of a block that is null or blank
module _ (b : Block) where
  bare_held : is_held (bare_position b) ≡ false
  bare_held = by_bare_position b (λ (p : Position). is_held p ≡ false) refl refl

  bare_removed : is_removed (bare_position b) ≡ false
  bare_removed = by_bare_position b (λ (p : Position). is_removed p ≡ false) refl refl

  pub bare_cell : cell_of (bare_position b) ≡ 0
  bare_cell = by_bare_position b (λ (p : Position). cell_of p ≡ 0) refl refl

  pub bare_count : count_of (bare_position b) ≡ 0
  bare_count = by_bare_position b (λ (p : Position). count_of p ≡ 0) refl refl

new_held : (c : ℕ) (seg : List Block) → mask_of is_held (new_positions with_blanks c seg) ≡ stored_mask seg
unfolding mask_of new_positions
new_held c [] = refl
new_held c (b ∷ seg) = go (is_bare with_blanks b) (λ d. new_held d seg)
  where
    go : (t : Bool) → ((d : ℕ) → mask_of is_held (new_positions with_blanks d seg) ≡ stored_mask seg)
        → cond (is_held (cond t (bare_position b) (held c 1))) 1 0 + 2 * mask_of is_held (new_positions with_blanks (cond t c (suc c)) seg) ≡ cond (not t) 1 0 + 2 * stored_mask seg
    go true r = rw (bare_held b, r c)
    go false r = rw (r (suc c))

new_removed : (c : ℕ) (seg : List Block) → mask_of is_removed (new_positions with_blanks c seg) ≡ 0
unfolding mask_of new_positions
new_removed c [] = refl
new_removed c (b ∷ seg) = go (is_bare with_blanks b) (λ d. new_removed d seg)
  where
    go : (t : Bool) → ((d : ℕ) → mask_of is_removed (new_positions with_blanks d seg) ≡ 0)
        → cond (is_removed (cond t (bare_position b) (held c 1))) 1 0 + 2 * mask_of is_removed (new_positions with_blanks (cond t c (suc c)) seg) ≡ 0
    go true r = rw (bare_removed b, r c)
    go false r = rw (r (suc c))

new_blank : (c : ℕ) (seg : List Block) → mask_of is_blank_position (new_positions with_blanks c seg) ≡ blank_mask seg
unfolding mask_of new_positions
new_blank c [] = refl
new_blank c (b ∷ seg) =
    ap₂ (λ (x y : ℕ). x + 2 * y) (ap (λ (t : Bool). cond t 1 0) (here b)) (new_blank (cond (is_bare with_blanks b) c (suc c)) seg)
  where
    go : (z e : Bool) → is_blank_position (cond (cond z true e) (cond z null_position blank_position) (held c 1)) ≡ cond z false e
    go true e = refl
    go false true = refl
    go false false = refl

    here : (b : Block) → is_blank_position (cond (is_bare with_blanks b) (bare_position b) (held c 1)) ≡ is_erased b
    here b = unfold is_bare bare_position in go (all_zero b) (is_blank with_blanks b)

new_cells : (c : ℕ) (seg : List Block) (xs : List ℕ) → length xs ≡ length seg → numbered (stored_mask seg) c xs ≡ map cell_of (new_positions with_blanks c seg)
unfolding walk new_positions
new_cells c [] [] e = refl
new_cells c [] (x ∷ xs) e = absurd (omega arith)
new_cells c (b ∷ seg) [] e = absurd (omega arith)
new_cells c (b ∷ seg) (x ∷ xs) e = rw (marks_mod b seg, marks_div b seg) (go (is_bare with_blanks b) (λ d. new_cells d seg xs (omega arith)))
  where
    go : (t : Bool) → ((d : ℕ) → numbered (stored_mask seg) d xs ≡ map cell_of (new_positions with_blanks d seg))
        → pick (cond (not t) 1 0) c ∷ numbered (stored_mask seg) (c + cond (not t) 1 0) xs ≡ map cell_of (cond t (bare_position b) (held c 1) ∷ new_positions with_blanks (cond t c (suc c)) seg)
    go true r = rw (bare_cell b) (ap (λ (l : List ℕ). 0 ∷ l) (ap (λ (d : ℕ). numbered (stored_mask seg) d xs) (add-zero c) ∙ r c))
    go false r = ap (λ (l : List ℕ). c ∷ l) (ap (λ (d : ℕ). numbered (stored_mask seg) d xs) (add-one c) ∙ r (suc c))

new_counts : (c : ℕ) (seg : List Block) (xs : List ℕ) → length xs ≡ length seg → bits (stored_mask seg) xs ≡ map count_of (new_positions with_blanks c seg)
unfolding walk new_positions
new_counts c [] [] e = refl
new_counts c [] (x ∷ xs) e = absurd (omega arith)
new_counts c (b ∷ seg) [] e = absurd (omega arith)
new_counts c (b ∷ seg) (x ∷ xs) e = rw (marks_mod b seg, marks_div b seg) (go (is_bare with_blanks b) (λ d. new_counts d seg xs (omega arith)))
  where
    go : (t : Bool) → ((d : ℕ) → bits (stored_mask seg) xs ≡ map count_of (new_positions with_blanks d seg))
        → cond (not t) 1 0 ∷ bits (stored_mask seg) xs ≡ map count_of (cond t (bare_position b) (held c 1) ∷ new_positions with_blanks (cond t c (suc c)) seg)
    go true r = rw (bare_count b) (ap (λ (l : List ℕ). 0 ∷ l) (r c))
    go false r = ap (λ (l : List ℕ). 1 ∷ l) (r (suc c))

-- three words written, then the cells, then the counts
new_row_back : (n : ℕ) (row x y cells counts : List ℕ) (m b' : ℕ) → length row ≡ record_words n → length cells ≡ n → length counts ≡ n
    → x ≡ set (set (set row 0 m) 1 0) 2 b' → y ≡ take 3 x ++ (cells ++ drop n (drop 3 x))
    → take (3 + n) y ++ (counts ++ drop (length y - (3 + n)) (drop (3 + n) y)) ≡ m ∷ 0 ∷ b' ∷ (cells ++ counts)
new_row_back n [] x y cells counts m b' h lc ln ex ey = absurd (omega arith)
new_row_back n (a ∷ []) x y cells counts m b' h lc ln ex ey = absurd (omega arith)
new_row_back n (a ∷ b ∷ []) x y cells counts m b' h lc ln ex ey = absurd (omega arith)
new_row_back n (a ∷ b ∷ d ∷ rest) x y cells counts m b' h lc ln ex ey =
    let lead : List ℕ = m ∷ 0 ∷ b' ∷ cells in
    let e : y ≡ lead ++ drop n rest = ey ∙ ap (λ (l : List ℕ). take 3 l ++ (cells ++ drop n (drop 3 l))) ex in
    tail_put lead (drop n rest) y (3 + n) e (let q : suc (suc (suc (length cells))) ≡ 3 + n = omega arith in q) counts

pub new_row_all : (n : ℕ) (row x y cells counts : List ℕ) (m b' c : ℕ) → length row ≡ record_words n
    → x ≡ set (set (set row 0 m) 1 0) 2 b' → cells ≡ numbered m c (take n (drop 3 x)) → y ≡ take 3 x ++ (cells ++ drop n (drop 3 x))
    → counts ≡ bits m (take (length y - (3 + n)) (drop (3 + n) y)) → (seg : List Block) → length seg ≡ n → m ≡ stored_mask seg → b' ≡ blank_mask seg
    → take (3 + n) y ++ (counts ++ drop (length y - (3 + n)) (drop (3 + n) y)) ≡ record_to_words (new_positions with_blanks c seg)
unfolding record_to_words
new_row_all n row x y cells counts m b' c h ex ec ey en seg ls em eb =
    let nx : length x ≡ record_words n = ap length ex ∙ length-set (set (set row 0 m) 1 0) 2 b' ∙ length-set (set row 0 m) 1 0 ∙ length-set row 0 m ∙ h in
    let lm : length (take n (drop 3 x)) ≡ n = length-take-le n (drop 3 x) (omega (arith, length-drop 3 x)) in
    let lc : length cells ≡ n = ap length ec ∙ length_walk out_pick next_add m c (take n (drop 3 x)) ∙ lm in
    let ny : length y ≡ record_words n =
    ap length ey ∙ length-append (take 3 x) (cells ++ drop n (drop 3 x))
    ∙ (let z : length (take 3 x) + length (cells ++ drop n (drop 3 x)) ≡ record_words n = omega (arith, length-append cells (drop n (drop 3 x)), length-take-le 3 x (omega arith), length-drop n (drop 3 x), length-drop 3 x) in z) in
    let lt : length (take (length y - (3 + n)) (drop (3 + n) y)) ≡ n = length-take-le (length y - (3 + n)) (drop (3 + n) y) (omega (arith, length-drop (3 + n) y)) ∙ (let z : length y - (3 + n) ≡ n = omega arith in z) in
    let ln : length counts ≡ n = ap length en ∙ length_walk out_bit next_same m 0 (take (length y - (3 + n)) (drop (3 + n) y)) ∙ lt in
    new_row_back n row x y cells counts m b' h lc ln ex ey
    ∙ rw (ec, en, em, eb, new_cells c seg (take n (drop 3 x)) (lm ∙ sym ls), new_counts c seg (take (length y - (3 + n)) (drop (3 + n) y)) (lt ∙ sym ls), new_held c seg, new_removed c seg, new_blank c seg)

-- ---- pointers

-- the state is the word of the direct pointer to this place, and the blank mask from here on
abbrev pub out_pointer : ℕ → ℕ × ℕ → ℕ → ℕ
out_pointer s (w, b) x = pointer_if s (b % 2) w

abbrev pub next_pointer : ℕ → ℕ × ℕ → ℕ × ℕ
next_pointer s (w, b) = (w + 1, b / 2)

pointer_here : (k i : ℕ) (b : Block) → pointer_if (stored_bit b) (blank_bit b) (kind_unit + (k * 16 + i)) ≡ pointer_word (cond (is_bare with_blanks b) (bare_pointer b) (direct k i))
unfolding is_bare bare_pointer pointer_word
pointer_here k i b = go (all_zero b) (is_blank with_blanks b)
  where
    go : (z e : Bool) → pointer_if (cond (not (cond z true e)) 1 0) (cond (cond z false e) 1 0) (kind_unit + (k * 16 + i)) ≡ pointer_word (cond (cond z true e) (cond z null_pointer blank_pointer) (direct k i))
    go true e = refl
    go false true = refl
    go false false = refl

pointer_words_lem : (k i : ℕ) (seg : List Block) (xs : List ℕ) → length xs ≡ length seg
    → walk out_pointer next_pointer (stored_mask seg) (kind_unit + (k * 16 + i), blank_mask seg) xs ≡ map pointer_word (pointers_to with_blanks k i seg)
unfolding walk pointers_to
pointer_words_lem k i [] [] e = refl
pointer_words_lem k i [] (x ∷ xs) e = absurd (omega arith)
pointer_words_lem k i (b ∷ seg) [] e = absurd (omega arith)
pointer_words_lem k i (b ∷ seg) (x ∷ xs) e =
    let next : kind_unit + (k * 16 + i) + 1 ≡ kind_unit + (k * 16 + suc i) = omega arith in
    rw (marks_mod b seg, marks_div b seg, blanks_mod b seg, blanks_div b seg, next, pointer_words_lem k (suc i) seg xs (omega arith), pointer_here k i b)

-- to a record, from the word of the pointer to its first position
pub placed_words : (k w m b : ℕ) (ws : List ℕ) → w ≡ pointer_word (direct k 0) → (seg : List Block) → length seg ≡ length ws → m ≡ stored_mask seg → b ≡ blank_mask seg
    → walk out_pointer next_pointer m (w, b) ws ≡ map pointer_word (pointers_to with_blanks k 0 seg)
placed_words k w m b ws e seg l em eb = rw (e ∙ direct_word k 0, em, eb) (pointer_words_lem k 0 seg ws (sym l))
