-- A record struck, renumbered, and the mask of those that go.
use mathlib.Core.Path.{◌≡◌, refl, sym, ap, ap₂, ◌∙◌}
use mathlib.Core.Bool.{Bool, true, false, cond, not, false≢true}
use mathlib.Core.List.{List, [], ◌∷◌, map}
use Prim.Native.Nat.{ℕ, zero, suc, ◌+◌, ◌-◌, ◌*◌, ◌/◌, ◌%◌, ◌^◌, ◌≤◌, ◌<◌}
use native.Mathlib.Nat.{add-zero, pow-zero, pow-suc}
use native.Mathlib.Numerals.{add-one}
use native.Mathlib.Omega.{arith}
use lib.Count.{ones}
use lib.Dec.{eqb}
use mir.Val.{bool_byte}
use borrow.Author.Tests.{ne_eqb}
use lib.ListN.{length, get_or, set, take, drop, replicate, length-drop, length-set, length-map, length-replicate, get_or-map}
use lib.Seq.{map-set_same, length-take-le}
use lib.Pow.{pow_mono}
use Rattle.lists.specs.Lists.{count}
use Rattle.lists.specs.Masks.{mask_of}
use Rattle.lists.specs.Walk.{walk, next_add}
use Rattle.lists.proofs.Masks.{First, here, later, first_le, first_bit, first_lt, mask_odd, mask_half, mask_bit, mask_lt, mask_off, mask_on, mask_same, ones_mask, bit_le, bit_true, bit_false, one_shl}
use Rattle.lists.specs.Rows.{fill}
use Rattle.lists.proofs.Rows.{get_d_fill, set_fill}
use Rattle.lists.proofs.Filled.{fill_front}
use Rattle.lists.proofs.Sets.{map_set}
use Rattle.lists.proofs.Slices.{drop_next, drop_end}
use Rattle.model.specs.Records.{is_held, is_removed, is_blank_position, cell_of, count_of, free_segment}
use Rattle.model.specs.State.{Position, null_position, blank_position, held, removed, Segment}
use Rattle.model.specs.Sweep.{is_unreferenced, struck, moved}
use Rattle.model.specs.Table.{position_of, positions_in}
use Rattle.laws.proofs.RoundTrip.{positions_back}
use Rattle.records.specs.Records.{record_of, positions, Formed}
use Rattle.records.specs.declared.Record.{Record}

pub same_record : (a b : Record) → a.held ≡ b.held → a.removed ≡ b.removed → a.blank ≡ b.blank → a.used ≡ b.used → a.cells ≡ b.cells → a.counts ≡ b.counts → a ≡ b
same_record a b h r e u c n = λ i. record { held = h i; removed = r i; blank = e i; used = u i; cells = c i; counts = n i }

-- ---- positions

pub front : (xs : List ℕ) (n : ℕ) → length xs ≡ n → n ≤ 16 → take n (fill 16 xs) ≡ xs
front xs n l h = ap (λ (k : ℕ). take k (fill 16 xs)) (sym l) ∙ fill_front 16 xs (fill 16 xs) (omega arith) refl

pub positions_of : (seg : Segment) → length seg ≤ 16 → positions (record_of seg) ≡ seg
unfolding positions record_of
positions_of seg h =
    ap₂ (positions_in (mask_of is_held seg) (mask_of is_removed seg) (mask_of is_blank_position seg)) (front (map cell_of seg) (length seg) (length-map seg cell_of) h) (front (map count_of seg) (length seg) (length-map seg count_of) h)
    ∙ positions_back seg

pub formed_of : (r : Record) (seg : Segment) → r ≡ record_of seg → length seg ≤ 16 → Formed r
formed_of r seg e l =
    let p : positions r ≡ seg = ap positions e ∙ positions_of seg l in
    record { few = rw p l; same = e ∙ ap record_of (sym p) }

-- how many positions the record of a list has
pub count_of_lem : (r : Record) (seg : Segment) (n : ℕ) → r ≡ record_of seg → length seg ≡ n → n ≤ 16 → length (positions r) ≡ n
count_of_lem r seg n e l h = ap length (ap positions e ∙ positions_of seg (omega arith)) ∙ l

-- a mask of at most sixteen positions
pub mask_small : (f : Position → Bool) (seg : Segment) → length seg ≤ 16 → mask_of f seg < 65536
mask_small f seg h = let m : mask_of f seg < 2 ^ length seg = mask_lt f seg in omega (arith, pow_mono {i = length seg} {j = 16} h)

-- ---- Formed

module _ (r : Record) (f : Formed r) where
  pub held_mask_lem : r.held ≡ mask_of is_held (positions r)
  unfolding record_of
  held_mask_lem = ap (λ (x : Record). x.held) f.same

  pub removed_mask : r.removed ≡ mask_of is_removed (positions r)
  unfolding record_of
  removed_mask = ap (λ (x : Record). x.removed) f.same

  pub blank_mask_lem : r.blank ≡ mask_of is_blank_position (positions r)
  unfolding record_of
  blank_mask_lem = ap (λ (x : Record). x.blank) f.same

  pub used_is : r.used ≡ length (positions r)
  unfolding record_of
  used_is = ap (λ (x : Record). x.used) f.same

  pub used_few : r.used ≤ 16
  used_few = omega (arith, used_is, f.few)

  pub cells_fill : r.cells ≡ fill 16 (map cell_of (positions r))
  unfolding record_of
  cells_fill = ap (λ (x : Record). x.cells) f.same

  pub counts_fill : r.counts ≡ fill 16 (map count_of (positions r))
  unfolding record_of
  counts_fill = ap (λ (x : Record). x.counts) f.same

  pub held_small : r.held < 65536
  held_small = omega (arith, held_mask_lem, mask_small is_held (positions r) f.few)

  pub removed_small : r.removed < 65536
  removed_small = omega (arith, removed_mask, mask_small is_removed (positions r) f.few)

  pub size_is : ones r.held ≡ count is_held (positions r)
  size_is = ap ones held_mask_lem ∙ ones_mask is_held (positions r)

-- ---- the room of a record of n positions

pub few_of : (r : Record) (n : ℕ) → Formed r × (length (positions r) ≡ n) → n ≤ 16
few_of r n f = omega (arith, f.1, f.0.few)

pub part_of : (xs : List ℕ) (n : ℕ) → length xs ≡ 16 → n ≤ 16 → length (take n xs) ≡ n
part_of xs n l h = length-take-le n xs (omega arith)

-- a position's bit, as the code shifts it
module _ (r : Record) (f : Formed r) (i : ℕ) (h : i < length (positions r)) where
  pub position_small : i < 16
  position_small = omega (arith, f.few)

  pub position_bit : 1 * 2 ^ i % 2 ^ 32 ≡ 2 ^ i
  position_bit = one_shl i 32 (omega (arith, position_small))

-- ---- unreferenced

pub unused_bit : (p : Position) → is_unreferenced (position_of (cond (is_held p) 1 0) 0 0 0 (count_of p)) ≡ is_unreferenced p
unfolding position_of
unused_bit null_position = refl
unused_bit blank_position = refl
unused_bit (held c zero) = refl
unused_bit (held c (suc n)) = refl
unused_bit removed = refl

pub unused_even : (h n : ℕ) → h % 2 ≡ 0 → not (eqb (h % 2) 0) ≡ is_unreferenced (position_of (h % 2) 0 0 0 n)
unfolding position_of
unused_even h n e = rw e

pub unused_odd : (h n : ℕ) → (h % 2 ≡ 0 → ⊥) → eqb n 0 ≡ is_unreferenced (position_of (h % 2) 0 0 0 n)
unfolding position_of
unused_odd h zero f = let o : h % 2 ≡ 1 = omega arith in rw o
unused_odd h (suc n) f = let o : h % 2 ≡ 1 = omega arith in rw o (ne_eqb (suc n) 0 (λ z. omega arith))

-- a test as a number
pub bit_of : (b : Bool) → bool_byte b ≡ cond b 1 0
bit_of true = refl
bit_of false = refl

pub bit_small : (b : Bool) → bool_byte b ≤ 1
bit_small true = omega arith
bit_small false = omega arith

mask_cons : (p : Position) (seg : Segment) → mask_of is_unreferenced (p ∷ seg) ≡ cond (is_unreferenced p) 1 0 + 2 * mask_of is_unreferenced seg
unfolding mask_of
mask_cons p seg = refl

-- from the last position down
pub unreferenced_start : (r : Record) → Formed r → 0 ≡ mask_of is_unreferenced (drop r.used (positions r))
unfolding mask_of
unreferenced_start r f = rw (drop_end (positions r) r.used (omega (arith, used_is r f)))

pub unreferenced_next : (r : Record) → Formed r → (i m u : ℕ) → 0 < i → i ≤ r.used → m ≡ mask_of is_unreferenced (drop i (positions r))
    → u ≡ cond (is_unreferenced (position_of (r.held / 2 ^ (i - 1) % 2) 0 0 0 (get_or r.counts (i - 1) 0))) 1 0 → 2 * m + u ≡ mask_of is_unreferenced (drop (i - 1) (positions r))
unreferenced_next r f i m u z h em eu =
    let seg : Segment = positions r in
    let j : ℕ = i - 1 in
    let l : j < length seg = omega (arith, used_is r f) in
    let n : i ≡ j + 1 = omega arith in
    let a : r.held / 2 ^ j % 2 ≡ cond (is_held (get_or seg j null_position)) 1 0 = ap (λ (m : ℕ). m / 2 ^ j % 2) (held_mask_lem r f) ∙ mask_bit is_held seg j null_position l in
    let b : get_or r.counts j 0 ≡ count_of (get_or seg j null_position) =
    ap (λ (l : List ℕ). get_or l j 0) (counts_fill r f) ∙ get_d_fill 16 (map count_of seg) j (omega (arith, length-map seg count_of, f.few)) ∙ get_or-map count_of seg j null_position in
    let eu' : u ≡ cond (is_unreferenced (get_or seg j null_position)) 1 0 =
    eu ∙ ap₂ (λ (x y : ℕ). cond (is_unreferenced (position_of x 0 0 0 y)) 1 0) a b ∙ ap (λ (t : Bool). cond t 1 0) (unused_bit (get_or seg j null_position)) in
    let em' : m ≡ mask_of is_unreferenced (drop (j + 1) seg) = em ∙ ap (λ (k : ℕ). mask_of is_unreferenced (drop k seg)) n in
    rw (drop_next seg j null_position l, mask_cons) (omega (arith, eu', em'))

pub unreferenced_small : (r : Record) → Formed r → (i : ℕ) → mask_of is_unreferenced (drop i (positions r)) < 65536
unreferenced_small r f i = mask_small is_unreferenced (drop i (positions r)) (omega (arith, length-drop i (positions r), f.few))

-- ---- struck

held_not_removed : (p : Position) → is_held p ≡ true → is_removed p ≡ false
held_not_removed null_position h = refl
held_not_removed blank_position h = refl
held_not_removed (held c n) h = refl
held_not_removed removed h = absurd (false≢true h)

held_not_blank : (p : Position) → is_held p ≡ true → is_blank_position p ≡ false
held_not_blank null_position h = refl
held_not_blank blank_position h = absurd (false≢true h)
held_not_blank (held c n) h = refl
held_not_blank removed h = refl

-- a held position's bit is in the mask
pub held_bit : (r : Record) → Formed r → (i : ℕ) → i < length (positions r) → is_held (get_or (positions r) i null_position) ≡ true → 2 ^ i ≤ r.held
held_bit r f i h e =
    bit_le r.held i (ap (λ (m : ℕ). m / 2 ^ i % 2) (held_mask_lem r f) ∙ mask_bit is_held (positions r) i null_position h ∙ ap (λ (b : Bool). cond b 1 0) e)

pub struck_of : (r : Record) → Formed r → (i : ℕ) → i < length (positions r) → is_held (get_or (positions r) i null_position) ≡ true
    → record { held = r.held - 2 ^ i; removed = r.removed + 2 ^ i; blank = r.blank; used = r.used; cells = set r.cells i 0; counts = set r.counts i 0 }
    ≡ record_of (set (positions r) i removed)
unfolding record_of
struck_of r f i h e =
    let seg : Segment = positions r in
    same_record _ _
    (ap (λ (m : ℕ). m - 2 ^ i) (held_mask_lem r f) ∙ sym (mask_off is_held seg i null_position removed h e refl))
    (ap (λ (m : ℕ). m + 2 ^ i) (removed_mask r f) ∙ sym (mask_on is_removed seg i null_position removed h (held_not_removed (get_or seg i null_position) e) refl))
    (blank_mask_lem r f ∙ sym (mask_same is_blank_position seg i null_position removed (sym (held_not_blank (get_or seg i null_position) e))))
    (used_is r f ∙ sym (length-set seg i removed))
    (ap (λ (l : List ℕ). set l i 0) (cells_fill r f) ∙ zeroed cell_of refl)
    (ap (λ (l : List ℕ). set l i 0) (counts_fill r f) ∙ zeroed count_of refl)
  where
    zeroed : (g : Position → ℕ) → g removed ≡ 0 → set (fill 16 (map g (positions r))) i 0 ≡ fill 16 (map g (set (positions r) i removed))
    zeroed g z =
        set_fill 16 (map g (positions r)) i 0 (omega (arith, length-map (positions r) g))
        ∙ ap (fill 16) (ap (set (map g (positions r)) i) (sym z) ∙ sym (map_set g (positions r) i removed))

-- ---- all that go struck

unreferenced_held : (p : Position) → is_unreferenced p ≡ true → is_held p ≡ true
unreferenced_held null_position e = absurd (false≢true e)
unreferenced_held blank_position e = absurd (false≢true e)
unreferenced_held (held c n) e = refl
unreferenced_held removed e = absurd (false≢true e)

unreferenced_struck : (p : Position) → is_unreferenced p ≡ true → struck removed ≡ struck p
unreferenced_struck null_position e = absurd (false≢true e)
unreferenced_struck blank_position e = absurd (false≢true e)
unreferenced_struck (held c zero) e = refl
unreferenced_struck (held c (suc n)) e = absurd (false≢true e)
unreferenced_struck removed e = absurd (false≢true e)

others_struck : (p : Position) → is_unreferenced p ≡ false → struck p ≡ p
others_struck null_position e = refl
others_struck blank_position e = refl
others_struck (held c zero) e = absurd (false≢true (sym e))
others_struck (held c (suc n)) e = refl
others_struck removed e = refl

-- a mask of none
pub mask_none : (f : Position → Bool) (p : Position) (seg : Segment) → mask_of f (p ∷ seg) ≡ 0 → (f p ≡ false) × (mask_of f seg ≡ 0)
unfolding mask_of
mask_none f p seg e = (bit_false (f p) (omega arith), omega arith)

pub struck_none : (seg : Segment) → mask_of is_unreferenced seg ≡ 0 → map struck seg ≡ seg
struck_none [] e = refl
struck_none (p ∷ seg) e = ap₂ ◌∷◌ (others_struck p (mask_none is_unreferenced p seg e).0) (struck_none seg (mask_none is_unreferenced p seg e).1)

pub record Striking (r₀ r : Record) (left : ℕ) : Type 0 where
  pub formed : Formed r
  pub mask : left ≡ mask_of is_unreferenced (positions r)
  pub all : map struck (positions r) ≡ map struck (positions r₀)

pub left_small : (r₀ r : Record) (left : ℕ) → Striking r₀ r left → left < 65536
left_small r₀ r left s = let m : mask_of is_unreferenced (positions r) < 65536 = unreferenced_small r s.formed 0 in omega (arith, s.mask)

module _ (r₀ r : Record) (left p : ℕ) (s : Striking r₀ r left) (f : First left p) where
  pub next_small : p < length (positions r)
  next_small = first_lt (length (positions r)) f (rw s.mask (mask_lt is_unreferenced (positions r)))

  next_unreferenced : is_unreferenced (get_or (positions r) p null_position) ≡ true
  next_unreferenced =
      bit_true (is_unreferenced (get_or (positions r) p null_position))
      (sym (mask_bit is_unreferenced (positions r) p null_position next_small) ∙ ap (λ (m : ℕ). m / 2 ^ p % 2) (sym s.mask) ∙ first_bit f)

  pub next_held : is_held (get_or (positions r) p null_position) ≡ true
  next_held = unreferenced_held (get_or (positions r) p null_position) next_unreferenced

  pub next_struck : (r' : Record) → r' ≡ record_of (set (positions r) p removed) → Striking r₀ r' (left - 2 ^ p)
  next_struck r' e =
      let seg : Segment = positions r in
      let few : length (set seg p removed) ≤ 16 = omega (arith, length-set seg p removed, s.formed.few) in
      let q : positions r' ≡ set seg p removed = ap positions e ∙ positions_of (set seg p removed) few in
      record {
        formed = formed_of r' (set seg p removed) e few;
        mask = rw (q, s.mask) (sym (mask_off is_unreferenced seg p null_position removed next_small next_unreferenced refl));
        all = rw q (map-set_same struck seg p removed null_position (unreferenced_struck (get_or seg p null_position) next_unreferenced) ∙ s.all);
      }

pub all_struck : (r₀ r : Record) (left : ℕ) → Striking r₀ r left → left ≡ 0 → r ≡ record_of (map struck (positions r₀))
all_struck r₀ r left s e = s.formed.same ∙ ap record_of (sym (struck_none (positions r) (sym s.mask ∙ e)) ∙ s.all)

-- ---- renumbered

abbrev out_number : ℕ → ℕ → ℕ → ℕ
out_number zero a x = x
out_number (suc b) a x = a

-- where a bit is set, the next number
unfoldable pub renumbered : ℕ → ℕ → List ℕ → List ℕ
renumbered m at cs = walk out_number next_add m at cs

-- one set bit at a time
pub first_renumbered : {m t : ℕ} (at : ℕ) (cs : List ℕ) → First m t → renumbered m at cs ≡ renumbered (m - 2 ^ t) (at + 1) (set cs t at)
unfolding renumbered walk
first_renumbered at [] f = refl
first_renumbered at (c ∷ cs) (here {m} e) =
    let a : (m - 1) % 2 ≡ 0 = omega arith in
    let b : (m - 1) / 2 ≡ m / 2 = omega arith in
    let d : at + 1 + 0 ≡ at + 1 = omega arith in
    rw (e, a, b, d)
first_renumbered {m = m'} at (c ∷ cs) (later {m} {t} e f) =
    let a : (m - 2 ^ suc t) % 2 ≡ 0 = omega (arith, pow-suc 2 t, first_le f) in
    let b : (m - 2 ^ suc t) / 2 ≡ m / 2 - 2 ^ t = omega (arith, pow-suc 2 t, first_le f) in
    let d : at + 1 + 0 ≡ at + 1 = omega arith in
    let d' : at + 0 ≡ at = omega arith in
    rw (e, a, b, d, d', first_renumbered {m = m / 2} at cs f)

pub renumbered_none : (at : ℕ) (cs : List ℕ) → renumbered 0 at cs ≡ cs
unfolding renumbered walk
renumbered_none at [] = refl
renumbered_none at (c ∷ cs) = rw (renumbered_none (at + 0) cs)

-- zeros after the last position are not renumbered
renumbered_fill : (k m at : ℕ) (cs : List ℕ) → m < 2 ^ length cs → renumbered m at (fill k cs) ≡ fill k (renumbered m at cs)
unfolding renumbered walk fill
renumbered_fill zero m at cs h = refl
renumbered_fill (suc k) m at [] h = let z : m ≡ 0 = omega (arith, pow-zero 2) in rw z (renumbered_none at (fill (suc k) []))
renumbered_fill (suc k) m at (c ∷ cs) h =
    ap (λ (l : List ℕ). out_number (m % 2) at c ∷ l) (renumbered_fill k (m / 2) (at + m % 2) cs (omega (arith, pow-suc 2 (length cs))))

-- what is renumbered is moved, where none goes
moved_cells : (at : ℕ) (seg : Segment) → mask_of is_unreferenced seg ≡ 0 → renumbered (mask_of is_held seg) at (map cell_of seg) ≡ map cell_of (moved at seg)
unfolding renumbered walk moved
moved_cells at [] n = refl
moved_cells at (p ∷ seg) n =
    rw (mask_odd is_held p seg, mask_half is_held p seg)
    (go p (mask_none is_unreferenced p seg n).0 (λ a. moved_cells a seg (mask_none is_unreferenced p seg n).1))
  where
    go : (p : Position) → is_unreferenced p ≡ false → ((a : ℕ) → walk out_number next_add (mask_of is_held seg) a (map cell_of seg) ≡ map cell_of (moved a seg))
        → out_number (cond (is_held p) 1 0) at (cell_of p) ∷ walk out_number next_add (mask_of is_held seg) (at + cond (is_held p) 1 0) (map cell_of seg) ≡ map cell_of (moved at (p ∷ seg))
    go null_position g e = rw (add-zero at, e at)
    go blank_position g e = rw (add-zero at, e at)
    go (held c zero) g e = absurd (false≢true (sym g))
    go (held c (suc k)) g e = rw (add-one at, e (suc at))
    go removed g e = rw (add-zero at, e at)

moved_mask : (f : Position → Bool) → ((c n at : ℕ) → f (held c n) ≡ f (held at n)) → (at : ℕ) (seg : Segment) → mask_of is_unreferenced seg ≡ 0 → mask_of f seg ≡ mask_of f (moved at seg)
unfolding mask_of moved
moved_mask f same at [] n = refl
moved_mask f same at (null_position ∷ seg) n = rw (moved_mask f same at seg (omega arith))
moved_mask f same at (blank_position ∷ seg) n = rw (moved_mask f same at seg (omega arith))
moved_mask f same at (held c zero ∷ seg) n = absurd (omega arith)
moved_mask f same at (held c (suc k) ∷ seg) n = rw (moved_mask f same (suc at) seg (omega arith), same c (suc k) at)
moved_mask f same at (removed ∷ seg) n = rw (moved_mask f same at seg (omega arith))

moved_counts : (at : ℕ) (seg : Segment) → mask_of is_unreferenced seg ≡ 0 → map count_of seg ≡ map count_of (moved at seg)
unfolding mask_of moved
moved_counts at [] n = refl
moved_counts at (null_position ∷ seg) n = rw (moved_counts at seg (omega arith))
moved_counts at (blank_position ∷ seg) n = rw (moved_counts at seg (omega arith))
moved_counts at (held c zero ∷ seg) n = absurd (omega arith)
moved_counts at (held c (suc k) ∷ seg) n = rw (moved_counts (suc at) seg (omega arith))
moved_counts at (removed ∷ seg) n = rw (moved_counts at seg (omega arith))

pub length_moved : (at : ℕ) (seg : Segment) → length (moved at seg) ≡ length seg
unfolding moved
length_moved at [] = refl
length_moved at (null_position ∷ seg) = ap suc (length_moved at seg)
length_moved at (blank_position ∷ seg) = ap suc (length_moved at seg)
length_moved at (held c zero ∷ seg) = ap suc (length_moved at seg)
length_moved at (held c (suc n) ∷ seg) = ap suc (length_moved (suc at) seg)
length_moved at (removed ∷ seg) = ap suc (length_moved at seg)

pub moved_of : (r r' : Record) → Formed r → mask_of is_unreferenced (positions r) ≡ 0 → (at : ℕ) → r'.held ≡ r.held → r'.removed ≡ r.removed → r'.blank ≡ r.blank → r'.used ≡ r.used
    → r'.cells ≡ renumbered r.held at r.cells → r'.counts ≡ r.counts → r' ≡ record_of (moved at (positions r))
unfolding record_of
moved_of r r' f n at h d b u c k =
    let seg : Segment = positions r in
    let m : mask_of is_held seg < 2 ^ length (map cell_of seg) = rw (length-map seg cell_of) (mask_lt is_held seg) in
    same_record _ _
    (h ∙ held_mask_lem r f ∙ moved_mask is_held (λ c n t. refl) at seg n)
    (d ∙ removed_mask r f ∙ moved_mask is_removed (λ c n t. refl) at seg n)
    (b ∙ blank_mask_lem r f ∙ moved_mask is_blank_position (λ c n t. refl) at seg n)
    (u ∙ used_is r f ∙ sym (length_moved at seg))
    (c ∙ ap₂ (λ (m : ℕ) (l : List ℕ). renumbered m at l) (held_mask_lem r f) (cells_fill r f) ∙ renumbered_fill 16 (mask_of is_held seg) at (map cell_of seg) m ∙ ap (fill 16) (moved_cells at seg n))
    (k ∙ counts_fill r f ∙ ap (fill 16) (moved_counts at seg n))

-- a record struck, then renumbered, is moved
pub unreferenced_none : (seg : Segment) → mask_of is_unreferenced (map struck seg) ≡ 0
unfolding mask_of
unreferenced_none [] = refl
unreferenced_none (null_position ∷ seg) = rw (unreferenced_none seg)
unreferenced_none (blank_position ∷ seg) = rw (unreferenced_none seg)
unreferenced_none (held c zero ∷ seg) = rw (unreferenced_none seg)
unreferenced_none (held c (suc n) ∷ seg) = rw (unreferenced_none seg)
unreferenced_none (removed ∷ seg) = rw (unreferenced_none seg)

pub moved_struck : (at : ℕ) (seg : Segment) → moved at (map struck seg) ≡ moved at seg
unfolding moved
moved_struck at [] = refl
moved_struck at (null_position ∷ seg) = rw (moved_struck at seg)
moved_struck at (blank_position ∷ seg) = rw (moved_struck at seg)
moved_struck at (held c zero ∷ seg) = rw (moved_struck at seg)
moved_struck at (held c (suc n) ∷ seg) = rw (moved_struck (suc at) seg)
moved_struck at (removed ∷ seg) = rw (moved_struck at seg)

-- ---- Formed again, and how many positions there are

free_length : (n : ℕ) → length (free_segment n) ≡ n
free_length n = unfold free_segment in length-replicate n null_position

pub free_formed : (r : Record) (n : ℕ) → r ≡ record_of (free_segment n) → n ≤ 16 → Formed r × (length (positions r) ≡ n)
free_formed r n e h = (formed_of r (free_segment n) e (omega (arith, free_length n)), count_of_lem r (free_segment n) n e (free_length n) h)

pub struck_formed : (r m : Record) → Formed r → m ≡ record_of (map struck (positions r)) → Formed m × (length (positions m) ≡ length (positions r))
struck_formed r m f e =
    let l : length (map struck (positions r)) ≡ length (positions r) = length-map (positions r) struck in
    (formed_of m (map struck (positions r)) e (omega (arith, f.few)), count_of_lem m (map struck (positions r)) (length (positions r)) e l f.few)

pub struck_clean : (r m : Record) → Formed r → m ≡ record_of (map struck (positions r)) → mask_of is_unreferenced (positions m) ≡ 0
struck_clean r m f e =
    ap (mask_of is_unreferenced) (ap positions e ∙ positions_of (map struck (positions r)) (omega (arith, length-map (positions r) struck, f.few))) ∙ unreferenced_none (positions r)

pub moved_formed : (m n : Record) → Formed m → (at : ℕ) → n ≡ record_of (moved at (positions m)) → Formed n × (length (positions n) ≡ length (positions m))
moved_formed m n f at e =
    let l : length (moved at (positions m)) ≡ length (positions m) = length_moved at (positions m) in
    (formed_of n (moved at (positions m)) e (omega (arith, f.few)), count_of_lem n (moved at (positions m)) (length (positions m)) e l f.few)

-- ---- a free record

free_mask : (f : Position → Bool) → f null_position ≡ false → (n : ℕ) → mask_of f (replicate n null_position) ≡ 0
unfolding mask_of
free_mask f e zero = refl
free_mask f e (suc n) = rw (e, free_mask f e n)

free_fill : (g : Position → ℕ) → g null_position ≡ 0 → (k n : ℕ) → fill k (map g (replicate n null_position)) ≡ fill k []
unfolding fill
free_fill g e zero n = refl
free_fill g e (suc k) zero = refl
free_fill g e (suc k) (suc n) = rw (e, free_fill g e k n)

pub free_record_lem : (r : Record) (n : ℕ) → r.held ≡ 0 → r.removed ≡ 0 → r.blank ≡ 0 → r.used ≡ n → r.cells ≡ fill 16 [] → r.counts ≡ fill 16 [] → r ≡ record_of (free_segment n)
unfolding record_of free_segment
free_record_lem r n h d b u c k =
    same_record _ _
    (h ∙ sym (free_mask is_held refl n))
    (d ∙ sym (free_mask is_removed refl n))
    (b ∙ sym (free_mask is_blank_position refl n))
    (u ∙ sym (length-replicate n null_position))
    (c ∙ sym (free_fill cell_of refl 16 n))
    (k ∙ sym (free_fill count_of refl 16 n))
