-- A count changed, among the records' words.
use mathlib.Core.Path.{◌≡◌, refl, sym, ap, ◌∙◌, subst}
use mathlib.Core.Bool.{true, false≢true}
use mathlib.Core.List.{List, [], ◌∷◌, map}
use Prim.Native.Nat.{ℕ, zero, suc, ◌+◌, ◌*◌, ◌/◌, ◌%◌, ◌≤◌, ◌<◌, pred}
use native.Mathlib.Omega.{arith}
use lib.ListN.{length, get_or, set, drop, length-map, length-set, get_or-map}
use lib.Seq.{get_or-append-add, map-set_same}
use Rattle.lists.specs.Masks.{mask_of}
use Rattle.lists.specs.Rows.{rows}
use Rattle.lists.proofs.Each.{each_set}
use Rattle.lists.proofs.Masks.{mask_same}
use Rattle.lists.proofs.Rows.{get_d_rows, set_rows}
use Rattle.lists.proofs.Sets.{map_set, set_append_add}
use Rattle.lists.proofs.Slices.{drop_next, drop_end}
use Rattle.model.specs.Measures.{record_words}
use Rattle.model.specs.Records.{is_held, is_removed, is_blank_position, cell_of, count_of}
use Rattle.model.specs.State.{Position, null_position, blank_position, held, removed, Segment, Pointer, null_pointer, blank_pointer, direct, indirect}
use Rattle.model.specs.Place.{one_more}
use Rattle.model.specs.Sweep.{one_less, change_at, change_all}
use Rattle.model.specs.Table.{record_to_words, word_to_pointer, pointer_of, records_in}
use Rattle.laws.proofs.Counts.{Recount, falls, grows, change_held, raise_most}
use Rattle.storage.specs.Fits.{WithinRecords, NamesHeld}
use Rattle.storage.specs.Stored.{EncodesRecords, position_in}
use Rattle.storage.proofs.Read.{row_inside, count_at, wide_of, records_read}

-- a change of a position's count, by `g` where `Ok` holds of the position, and of nothing else
pub record Recounts (f : Position → Position) (g : ℕ → ℕ) (Ok : Position → Type 0) : Type 0 where
  pub recount : Recount f
  pub is_removed : (p : Position) → is_removed (f p) ≡ is_removed p
  pub is_blank : (p : Position) → is_blank_position (f p) ≡ is_blank_position p
  pub count : (p : Position) → Ok p → count_of (f p) ≡ g (count_of p)

count_word : (n : ℕ) (seg : Segment) → length seg ≡ n → (i : ℕ) → get_or (record_to_words seg) (3 + n + i) 0 ≡ count_of (get_or seg i null_position)
unfolding record_to_words
count_word n seg h i =
    let q : 3 + n + i ≡ suc (suc (suc (length (map cell_of seg) + i))) = omega (arith, length-map seg cell_of) in
    rw q (get_or-append-add (map cell_of seg) (map count_of seg) i 0 ∙ get_or-map count_of seg i null_position)

-- the count of a position, among the words
pub position_word : (n : ℕ) (ws : List ℕ) (segs : List Segment) → EncodesRecords n ws segs → (k i : ℕ) → k * record_words n + record_words n ≤ length ws → i < n
    → get_or ws (k * record_words n + (3 + n + i)) 0 ≡ count_of (position_in segs k i)
position_word n ws segs r k i room hi =
    let hk : k < length segs = row_inside n ws segs r k room in
    rw r.words
    (get_d_rows record_to_words (record_words n) [] 0 segs (wide_of n segs r.sized) k (3 + n + i) hk (omega arith) ∙ count_word n (get_or segs k []) (count_at n ws segs r k hk) i)

-- ---- the pointer of a word, by its kind

pub direct_word : (w : ℕ) → w / 16777216 ≡ 1 → word_to_pointer w ≡ direct (w % 16777216 / 16) (w % 16777216 % 16)
unfolding word_to_pointer pointer_of
direct_word w e = rw e

pub fits_direct : (n l w : ℕ) → w / 16777216 ≡ 1 → WithinRecords n l (word_to_pointer w)
    → (w % 16777216 / 16 * record_words n + record_words n ≤ l) × (w % 16777216 % 16 < n)
unfolding WithinRecords
fits_direct n l w e f = subst (λ (p : Pointer). WithinRecords n l p) (direct_word w e) f

pub held_direct : (segs : List Segment) (w : ℕ) → w / 16777216 ≡ 1 → NamesHeld segs (word_to_pointer w) → is_held (position_in segs (w % 16777216 / 16) (w % 16777216 % 16)) ≡ true
unfolding NamesHeld
held_direct segs w e f = subst (λ (p : Pointer). NamesHeld segs p) (direct_word w e) f

-- ---- one pointer, and a list of them

module _ (f : Position → Position) (g : ℕ → ℕ) (Ok : Position → Type 0) (c : Recounts f g Ok) where
  count_set : (n : ℕ) (seg : Segment) → length seg ≡ n → (i : ℕ) → Ok (get_or seg i null_position)
      → set (record_to_words seg) (3 + n + i) (g (count_of (get_or seg i null_position))) ≡ record_to_words (set seg i (f (get_or seg i null_position)))
  unfolding record_to_words
  count_set n seg h i ok =
      let p : Position = get_or seg i null_position in
      let q : 3 + n + i ≡ suc (suc (suc (length (map cell_of seg) + i))) = omega (arith, length-map seg cell_of) in
      rw (
        q,
        mask_same is_held seg i null_position (f p) (c.recount.is_held p),
        mask_same is_removed seg i null_position (f p) (c.is_removed p),
        mask_same is_blank_position seg i null_position (f p) (c.is_blank p),
        map-set_same cell_of seg i (f p) null_position (c.recount.cell p),
        map_set count_of seg i (f p),
        c.count p ok,
      )
      (ap (λ (l : List ℕ). mask_of is_held seg ∷ mask_of is_removed seg ∷ mask_of is_blank_position seg ∷ l) (set_append_add (map cell_of seg) (map count_of seg) i (g (count_of p))))

  -- the position of a direct pointer
  change_word : (n : ℕ) (ws : List ℕ) (segs : List Segment) → EncodesRecords n ws segs → (k i : ℕ) → k * record_words n + record_words n ≤ length ws → i < n → Ok (position_in segs k i)
      → (let at = k * record_words n + (3 + n + i) in EncodesRecords n (set ws at (g (get_or ws at 0))) (change_at f segs (direct k i)))
  unfolding change_at
  change_word n ws segs r k i room hi ok =
      let hk : k < length segs = row_inside n ws segs r k room in
      let seg : Segment = get_or segs k [] in
      let hn : length seg ≡ n = count_at n ws segs r k hk in
      let w = wide_of n segs r.sized in
      let hj : 3 + n + i < record_words n = omega arith in
      let e : get_or (rows record_to_words segs) (k * record_words n + (3 + n + i)) 0 ≡ count_of (get_or seg i null_position) =
      get_d_rows record_to_words (record_words n) [] 0 segs w k (3 + n + i) hk hj ∙ count_word n seg hn i in
      record {
        sized = each_set (λ (s : Segment). length s ≡ n) segs k _ r.sized (length-set seg i _ ∙ hn);
        words = rw (r.words, e) (set_rows record_to_words (record_words n) [] segs w k (3 + n + i) (g (count_of (get_or seg i null_position))) _ hk hj (count_set n seg hn i ok));
      }

  pub change_direct : (n : ℕ) (ws : List ℕ) (w : ℕ) (ys : List ℕ) → EncodesRecords n ws (records_in n ws) → w / 16777216 ≡ 1 → WithinRecords n (length ws) (word_to_pointer w)
      → Ok (position_in (records_in n ws) (w % 16777216 / 16) (w % 16777216 % 16))
      → (let at = w % 16777216 / 16 * record_words n + (3 + n + w % 16777216 % 16) in ys ≡ set ws at (g (get_or ws at 0))) → EncodesRecords n ys (change_at f (records_in n ws) (word_to_pointer w))
  change_direct n ws w ys r e h ok q =
      let (room, hi) = fits_direct n (length ws) w e h in
      rw (q, direct_word w e) (change_word n ws (records_in n ws) r (w % 16777216 / 16) (w % 16777216 % 16) room hi ok)

pub change_other : (f : Position → Position) (segs : List Segment) (w : ℕ) → (w / 16777216 ≡ 1 → ⊥) → change_at f segs (word_to_pointer w) ≡ segs
unfolding change_at word_to_pointer pointer_of
change_other f segs w h = go (w / 16777216) h
  where
    go : (k : ℕ) → (k ≡ 1 → ⊥) → change_at f segs (pointer_of k (w % 16777216)) ≡ segs
    go zero h = refl
    go (suc zero) h = absurd (h refl)
    go (suc (suc zero)) h = refl
    go (suc (suc (suc zero))) h = refl
    go (suc (suc (suc (suc k)))) h = refl

-- the pointers from `i` on are still to change their counts
pub record Changing (f : Position → Position) (n : ℕ) (words₀ pointers words : List ℕ) (i : ℕ) : Type 0 where
  pub inside : i ≤ length pointers
  pub long : length words ≡ length words₀
  pub encodes : EncodesRecords n words (records_in n words)
  pub rest : change_all f (records_in n words) (map word_to_pointer (drop i pointers)) ≡ change_all f (records_in n words₀) (map word_to_pointer pointers)

module _ (f : Position → Position) where
  pub changed_read : (n : ℕ) (ws ys : List ℕ) (p : Pointer) → EncodesRecords n ys (change_at f (records_in n ws) p) → records_in n ys ≡ change_at f (records_in n ws) p
  changed_read n ws ys p r = records_read n ys (change_at f (records_in n ws) p) r

  pub changing_next : (n : ℕ) (words₀ pointers words : List ℕ) (i : ℕ) → i < length pointers → Changing f n words₀ pointers words i
      → (ys : List ℕ) → length ys ≡ length words → EncodesRecords n ys (change_at f (records_in n words) (word_to_pointer (get_or pointers i 0))) → Changing f n words₀ pointers ys (i + 1)
  unfolding change_all
  changing_next n words₀ pointers words i h v ys l r =
      let p : Pointer = word_to_pointer (get_or pointers i 0) in
      let e : records_in n ys ≡ change_at f (records_in n words) p = changed_read n words ys p r in
      record {
        inside = omega arith;
        long = l ∙ v.long;
        encodes = subst (λ (s : List Segment). EncodesRecords n ys s) (sym e) r;
        rest =
            ap (λ (s : List Segment). change_all f s (map word_to_pointer (drop (i + 1) pointers))) e
            ∙ ap (λ (l : List ℕ). change_all f (records_in n words) (map word_to_pointer l)) (sym (drop_next pointers i 0 h)) ∙ v.rest;
      }

  pub changing_all : (n : ℕ) (words₀ pointers words : List ℕ) (i : ℕ) → Changing f n words₀ pointers words i → length pointers ≤ i
      → EncodesRecords n words (change_all f (records_in n words₀) (map word_to_pointer pointers))
  unfolding change_all
  changing_all n words₀ pointers words i v h =
      let e : records_in n words ≡ change_all f (records_in n words₀) (map word_to_pointer pointers) =
      ap (λ (l : List ℕ). change_all f (records_in n words) (map word_to_pointer l)) (sym (drop_end pointers i h)) ∙ v.rest in
      subst (λ (s : List Segment). EncodesRecords n words s) e v.encodes

-- ---- counts that fall, and that rise

pub lowers : Recounts one_less pred (λ p. Unit)
lowers = record { recount = falls; is_removed = same; is_blank = blank; count = λ p ok. less p }
  where
    same : (p : Position) → is_removed (one_less p) ≡ is_removed p
    same null_position = refl
    same blank_position = refl
    same (held c n) = refl
    same removed = refl

    blank : (p : Position) → is_blank_position (one_less p) ≡ is_blank_position p
    blank null_position = refl
    blank blank_position = refl
    blank (held c n) = refl
    blank removed = refl

    less : (p : Position) → count_of (one_less p) ≡ pred (count_of p)
    less null_position = refl
    less blank_position = refl
    less (held c n) = refl
    less removed = refl

pub raises : Recounts one_more (λ n. n + 1) (λ p. is_held p ≡ true)
raises = record { recount = grows; is_removed = same; is_blank = blank; count = more }
  where
    same : (p : Position) → is_removed (one_more p) ≡ is_removed p
    same null_position = refl
    same blank_position = refl
    same (held c n) = refl
    same removed = refl

    blank : (p : Position) → is_blank_position (one_more p) ≡ is_blank_position p
    blank null_position = refl
    blank blank_position = refl
    blank (held c n) = refl
    blank removed = refl

    more : (p : Position) → is_held p ≡ true → count_of (one_more p) ≡ count_of p + 1
    more null_position h = absurd (false≢true h)
    more blank_position h = absurd (false≢true h)
    more (held c n) h = omega arith
    more removed h = absurd (false≢true h)

-- the pointers from `i` on are still to raise their counts; the same positions are held, and no count has risen by more than `i`
pub record Raising (n : ℕ) (words₀ pointers words : List ℕ) (i : ℕ) : Type 0 where
  pub changing : Changing one_more n words₀ pointers words i
  pub same : (k j : ℕ) → is_held (position_in (records_in n words) k j) ≡ is_held (position_in (records_in n words₀) k j)
  pub most : (k j : ℕ) → count_of (position_in (records_in n words) k j) ≤ count_of (position_in (records_in n words₀) k j) + i

one_held : (segs : List Segment) (p : Pointer) (k j : ℕ) → is_held (position_in (change_at one_more segs p) k j) ≡ is_held (position_in segs k j)
unfolding change_all
one_held segs p k j = change_held one_more grows (p ∷ []) segs k j

one_most : (segs : List Segment) (p : Pointer) (k j : ℕ) → count_of (position_in (change_at one_more segs p) k j) ≤ count_of (position_in segs k j) + 1
unfolding change_all
one_most segs p k j = raise_most (p ∷ []) segs k j

pub raising_next : (n : ℕ) (words₀ pointers words : List ℕ) (i : ℕ) → i < length pointers → Raising n words₀ pointers words i
    → (ys : List ℕ) → length ys ≡ length words → EncodesRecords n ys (change_at one_more (records_in n words) (word_to_pointer (get_or pointers i 0))) → Raising n words₀ pointers ys (i + 1)
raising_next n words₀ pointers words i h v ys l r =
    let p : Pointer = word_to_pointer (get_or pointers i 0) in
    let e : records_in n ys ≡ change_at one_more (records_in n words) p = changed_read one_more n words ys p r in
    record {
      changing = changing_next one_more n words₀ pointers words i h v.changing ys l r;
      same = λ k j. rw e (one_held (records_in n words) p k j ∙ v.same k j);
      most = λ k j. rw e (omega (arith, one_most (records_in n words) p k j, v.most k j));
    }

-- what a pointer names is held as long as it was at first
pub names_still : (old new : List Segment) → ((k j : ℕ) → is_held (position_in new k j) ≡ is_held (position_in old k j)) → (p : Pointer) → NamesHeld old p → NamesHeld new p
unfolding NamesHeld
names_still old new s null_pointer h = tt
names_still old new s blank_pointer h = tt
names_still old new s (direct k i) h = s k i ∙ h
names_still old new s (indirect b) h = tt
