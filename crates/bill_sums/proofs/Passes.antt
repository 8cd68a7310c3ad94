-- The two passes as their loops go, a word, a slot, a till or a mark at a time.
use mathlib.Core.Path.{◌≡◌, refl, sym, ap, ap₂, ◌∙◌}
use mathlib.Core.Bool.{Bool, true, false, cond, not}
use mathlib.Core.List.{List, [], ◌∷◌, ◌++◌}
use Prim.Native.Nat.{ℕ, zero, suc, ◌+◌, ◌*◌, ◌-◌, ◌/◌, ◌%◌, ◌^◌, ◌≤◌, ◌<◌}
use native.Mathlib.Nat.{pow-suc, suc-mul, mul-le-mul_right, div-le_self}
use native.Mathlib.Numerals.{add-one}
use native.Mathlib.Omega.{arith}
use lib.Count.{ones, ones_step}
use lib.Dec.{eqb, ltb}
use lib.Seq.{get_or-take, set_out, drop-drop}
use lib.Pow.{pow_mono}
use lib.ListN.{length, get_or, set, take, drop, replicate, length-set, length-take, length-drop, take-append-drop}
use borrow.Author.Tests.{eq-eqb, ne_eqb, eqb-true, eqb-false, not-true, lt-ltb, le-ltb, ltb-true, ltb-false}
use Rattle.lists.specs.Rows.{joined, rows, parts}
use Rattle.lists.specs.Walk.{walk}
use Rattle.lists.proofs.Answers.{part_is}
use Rattle.lists.proofs.Cuts.{cut_next}
use Rattle.lists.proofs.Masks.{First, here, later, first_le, one_shl}
use Rattle.lists.proofs.Slices.{drop_next, drop_end, every_next, every_stop, every_end}
use Rattle.lists.proofs.Tests.{every_head, every_tail}
use Rattle.model.specs.Table.{kind_unit}
use Rattle.audit_tills.specs.Sound.{till_pointers}
use Rattle.bill.specs.Bill.{BillAnswer}
use Rattle.bill_sums.specs.Marks.{with_bit, mark_word, mark_words, none_direct, till_row, mark_tills, TillRows, part_of, share_out, shared, share_all}

-- ---- the marks

pub bit_new : (bit mark : ℕ) → mark < bit → mark + bit ≡ with_bit bit mark
unfolding with_bit
bit_new bit mark h = rw (lt-ltb mark bit h)

pub bit_old : (bit mark : ℕ) → bit ≤ mark → mark ≡ with_bit bit mark
unfolding with_bit
bit_old bit mark h = rw (le-ltb mark bit h)

-- a word whose upper half is 256 points to a position below 65,536
pub word_direct : (bit w mark : ℕ) (marks : List ℕ) → w / 65536 ≡ 256 → mark ≡ with_bit bit (get_or marks (w % 65536) 0) → set marks (w % 65536) mark ≡ mark_word bit w marks
unfolding mark_word
word_direct bit w mark marks h e =
    let kind : w / kind_unit ≡ 1 = omega arith in
    let at : w % kind_unit ≡ w % 65536 = omega arith in
    rw (eq-eqb (w / kind_unit) 1 kind, at) (ap (set marks (w % 65536)) e)

-- and any other to none
pub word_other : (bit w : ℕ) (marks : List ℕ) → (w / 65536 ≡ 256 → ⊥) → length marks ≡ 65536 → marks ≡ mark_word bit w marks
unfolding mark_word
word_other bit w marks h l = go (eqb (w / kind_unit) 1) refl
  where
    go : (t : Bool) → eqb (w / kind_unit) 1 ≡ t → marks ≡ cond t (set marks (w % kind_unit) (with_bit bit (get_or marks (w % kind_unit) 0))) marks
    go true e = sym (set_out marks (w % kind_unit) _ (omega (arith, h, l, eqb-true (w / kind_unit) 1 e)))
    go false e = refl

word_length : (bit w : ℕ) (marks : List ℕ) → length (mark_word bit w marks) ≡ length marks
unfolding mark_word
word_length bit w marks = go (eqb (w / kind_unit) 1)
  where
    go : (t : Bool) → length (cond t (set marks (w % kind_unit) (with_bit bit (get_or marks (w % kind_unit) 0))) marks) ≡ length marks
    go true = length-set marks (w % kind_unit) _
    go false = refl

pub words_length : (bit : ℕ) (ws marks : List ℕ) → length (mark_words bit ws marks) ≡ length marks
unfolding mark_words
words_length bit [] marks = refl
words_length bit (w ∷ ws) marks = words_length bit ws (mark_word bit w marks) ∙ word_length bit w marks

pub words_turn : (bit : ℕ) (ws : List ℕ) (i : ℕ) (marks : List ℕ) → i < length ws → mark_words bit (drop i ws) marks ≡ mark_words bit (drop (i + 1) ws) (mark_word bit (get_or ws i 0) marks)
unfolding mark_words
words_turn bit ws i marks h = rw (drop_next ws i 0 h)

pub words_done : (bit : ℕ) (ws : List ℕ) (i : ℕ) (marks after : List ℕ) → length ws ≤ i → mark_words bit (drop i ws) marks ≡ after → marks ≡ after
unfolding mark_words
words_done bit ws i marks after h e = rw (drop_end ws i h) at e

pub words_append : (bit : ℕ) (xs ys marks : List ℕ) → mark_words bit (xs ++ ys) marks ≡ mark_words bit ys (mark_words bit xs marks)
unfolding mark_words
words_append bit [] ys marks = refl
words_append bit (x ∷ xs) ys marks = words_append bit xs ys (mark_word bit x marks)

-- whether a group has no direct pointer, word by word
module _ (ws : List ℕ) (i : ℕ) where
  pub none_end : length ws ≤ i → none_direct (drop i ws) ≡ true
  unfolding none_direct
  none_end h = every_end (λ w. not (eqb (w / 65536) 256)) ws i h

-- a group with no direct pointer leaves the marks as they are
pub none_marked : (bit : ℕ) (ws marks : List ℕ) → none_direct ws ≡ true → length marks ≡ 65536 → marks ≡ mark_words bit ws marks
unfolding none_direct mark_words
none_marked bit [] marks e l = refl
none_marked bit (w ∷ ws) marks e l =
    let other : w / 65536 ≡ 256 → ⊥ = λ z. eqb-false (w / 65536) 256 (not-true _ (every_head (λ w. not (eqb (w / 65536) 256)) w ws e)) z in
    none_marked bit ws marks (every_tail (λ w. not (eqb (w / 65536) 256)) w ws e) l ∙ ap (mark_words bit ws) (word_other bit w marks other l)

-- the words of each of some rows of w words
module _ (bit : ℕ) (f : List ℕ → List ℕ) (w : ℕ) where
  pub rows_none : (ws marks : List ℕ) → marks ≡ mark_words bit (rows f (parts w 0 ws)) marks
  unfolding mark_words parts joined
  rows_none ws marks = refl

  pub rows_next : (i : ℕ) (ws marks before after : List ℕ) → marks ≡ mark_words bit (rows f (parts w i ws)) before → after ≡ mark_words bit (f (take w (drop (i * w) ws))) marks
      → after ≡ mark_words bit (rows f (parts w (i + 1) ws)) before
  rows_next i ws marks before after e g =
      g ∙ ap (mark_words bit (f (take w (drop (i * w) ws)))) e ∙ sym (words_append bit (rows f (parts w i ws)) (f (take w (drop (i * w) ws))) before)
      ∙ ap (λ (xs : List ℕ). mark_words bit xs before) (sym (cut_next f w i ws))

-- a till's bit
pub bit_small : (t : ℕ) → t < 16 → 1 * 2 ^ t % 2 ^ 16 ≤ 32768
bit_small t h = rw (one_shl t 16 h) (pow_mono {i = t} {j = 15} (omega arith))

pub tills_none : (bytes b width : ℕ) (tills marks : List ℕ) → marks ≡ mark_tills bytes b width tills 0 marks
unfolding mark_tills
tills_none bytes b width tills marks = refl

pub tills_next : (bytes b width : ℕ) (tills : List ℕ) (t : ℕ) (marks before after : List ℕ) (bit : ℕ) → bit ≡ 2 ^ t → marks ≡ mark_tills bytes b width tills t before
    → after ≡ mark_words bit (till_pointers bytes b (till_row width tills t)) marks → after ≡ mark_tills bytes b width tills (t + 1) before
unfolding mark_tills
tills_next bytes b width tills t marks before after bit e f g =
    g ∙ ap (λ (n : ℕ). mark_words n (till_pointers bytes b (till_row width tills t)) marks) e ∙ ap (mark_words (2 ^ t) (till_pointers bytes b (till_row width tills t))) f
    ∙ ap (λ (n : ℕ). mark_tills bytes b width tills n before) (sym (add-one t))

pub tills_length : (bytes b width : ℕ) (tills : List ℕ) (t : ℕ) (marks : List ℕ) → length (mark_tills bytes b width tills t marks) ≡ length marks
unfolding mark_tills
tills_length bytes b width tills zero marks = refl
tills_length bytes b width tills (suc t) marks = words_length (2 ^ t) _ _ ∙ tills_length bytes b width tills t marks

-- one of some rows of w words, as it is lent
pub row_long : (at w : ℕ) (ws : List ℕ) → at + w ≤ length ws → length (take (at + w - at) (drop at ws)) ≡ w
row_long at w ws h = omega (arith, ap length (part_is ws at w), length-take w (drop at ws), length-drop at ws)

module _ (width count b : ℕ) (tills : List ℕ) (r : TillRows width count b tills) (t : ℕ) (h : t < count) where
  pub till_inside : t * width + width ≤ length tills
  till_inside = let q : suc t * width ≤ count * width = mul-le-mul_right width h in omega (arith, q, suc-mul t width, r.inside)

  abbrev row : List ℕ
  row = take (t * width + width - t * width) (drop (t * width) tills)

  held_word : get_or row 1 0 ≡ get_or (till_row width tills t) 1 0
  held_word = ap (λ (ws : List ℕ). get_or ws 1 0) (part_is tills (t * width) width)

  pub till_few : get_or row 1 0 ≤ 64
  till_few = rw held_word (r.few t h)

  pub till_room : 4 + get_or row 1 0 * (3 + b) ≤ length row
  till_room = rw (held_word, row_long (t * width) width tills till_inside) (r.room t h)

-- ---- the sums

pub part_quotient : (q left : ℕ) → left ≡ 0 → q ≡ part_of q 1 left
part_quotient q zero e = refl
part_quotient q (suc left) e = absurd (omega arith)

pub part_more : (q left : ℕ) → (left ≡ 0 → ⊥) → q + 1 ≡ part_of q 1 left
part_more q zero n = absurd (n refl)
part_more q (suc left) n = refl

part_most : (q bit left : ℕ) → part_of q bit left ≤ q + 1
part_most q zero left = omega arith
part_most q (suc bit) zero = omega arith
part_most q (suc bit) (suc left) = omega arith

-- no sum grows by more than a part
pub share_most : (q n : ℕ) (sums : List ℕ) (m left t : ℕ) → ((t : ℕ) → get_or sums t 0 ≤ n) → get_or (share_out q m left sums) t 0 ≤ n + (q + 1)
unfolding walk
share_most q n [] m left t h = omega arith
share_most q n (x ∷ xs) m left zero h = omega (arith, h 0, part_most q (m % 2) left)
share_most q n (x ∷ xs) m left (suc t) h = share_most q n xs (m / 2) (left - m % 2) t (λ j. h (suc j))

none_more : (n : ℕ) → n ≡ n + 0
none_more n = omega arith

none_less : (n : ℕ) → n ≡ n - 0
none_less n = omega arith

-- no tills, no parts
pub share_none : (q left : ℕ) (sums : List ℕ) → sums ≡ share_out q 0 left sums
unfolding walk
share_none q left [] = refl
share_none q left (x ∷ xs) =
    ap₂ (λ (y : ℕ) (ys : List ℕ). y ∷ ys) (none_more x) (share_none q left xs ∙ ap (λ (n : ℕ). share_out q 0 n xs) (none_less left))

-- the lowest till first, and then the others
pub first_out : {m t : ℕ} → First m t → (q left : ℕ) (sums : List ℕ) → t < length sums
    → share_out q m left sums ≡ share_out q (m - 2 ^ t) (left - 1) (set sums t (get_or sums t 0 + part_of q 1 left))
unfolding walk
first_out (here e) q left [] l = absurd (omega arith)
first_out (here {m} e) q left (x ∷ xs) l =
    let a : (m - 1) % 2 ≡ 0 = omega arith in
    let b : (m - 1) / 2 ≡ m / 2 = omega arith in
    rw (e, a, b) (ap₂ (λ (y n : ℕ). y ∷ share_out q (m / 2) n xs) (none_more (x + part_of q 1 left)) (none_less (left - 1)))
first_out (later e f) q left [] l = absurd (omega arith)
first_out (later {m} {t} e f) q left (x ∷ xs) l =
    let a : (m - 2 ^ suc t) % 2 ≡ 0 = omega (arith, pow-suc 2 t, first_le f) in
    let b : (m - 2 ^ suc t) / 2 ≡ m / 2 - 2 ^ t = omega (arith, pow-suc 2 t, first_le f) in
    rw (e, a, b)
    (ap (λ (n : ℕ). (x + 0) ∷ share_out q (m / 2) n xs) (sym (none_less left))
    ∙ ap (λ (ys : List ℕ). (x + 0) ∷ ys) (first_out f q left xs (omega arith))
    ∙ ap (λ (n : ℕ). (x + 0) ∷ share_out q (m / 2 - 2 ^ t) n (set xs t (get_or xs t 0 + part_of q 1 left))) (none_less (left - 1)))

pub shared_most : (p n : ℕ) (sums : List ℕ) (m t : ℕ) → p ≤ 10000 → ((t : ℕ) → get_or sums t 0 ≤ n) → get_or (shared p m sums) t 0 ≤ n + 10001
shared_most p n sums m t l h = omega (arith, share_most (p / ones m) n sums m (p % ones m) t h, div-le_self p (ones m))

some_in : (n m : ℕ) → m ≤ n → 0 < m → 0 < ones m
some_in zero m l h = absurd (omega arith)
some_in (suc n) m l h = go (ltb 0 (m / 2)) refl (λ g. some_in n (m / 2) (omega arith) g)
  where
    go : (b : Bool) → ltb 0 (m / 2) ≡ b → (0 < m / 2 → 0 < ones (m / 2)) → 0 < ones m
    go true q r = omega (arith, ones_step m, r (ltb-true 0 (m / 2) q))
    go false q r = omega (arith, ones_step m, ltb-false 0 (m / 2) q)

-- a mark that is not 0 has tills
pub ones_some : (m : ℕ) → 0 < m → 0 < ones m
ones_some m h = some_in m m (omega arith) h

-- one till alone has the whole price
pub one_shared : (p m : ℕ) (sums after : List ℕ) → ones m ≡ 1 → after ≡ share_out p m 0 sums → after ≡ shared p m sums
one_shared p m sums after e f =
    let q : p / 1 ≡ p = omega arith in
    let r : p % 1 ≡ 0 = omega arith in
    rw (e, q, r) f

-- mark after mark
pub all_turn : (p : ℕ) (marks : List ℕ) (i : ℕ) (sums : List ℕ) → i < length marks
    → share_all p (drop i marks) sums ≡ share_all p (drop (i + 1) marks) (shared p (get_or marks i 0) sums)
unfolding share_all
all_turn p marks i sums h = rw (drop_next marks i 0 h)

pub all_done : (p : ℕ) (marks : List ℕ) (i : ℕ) (sums after : List ℕ) → length marks ≤ i → share_all p (drop i marks) sums ≡ after → sums ≡ after
unfolding share_all
all_done p marks i sums after h e = rw (drop_end marks i h) at e

-- ---- the answer

pub zeros_at : (n k : ℕ) → ◌≡◌ {A = ℕ} (get_or (replicate n 0) k 0) 0
zeros_at zero k = refl
zeros_at (suc n) zero = refl
zeros_at (suc n) (suc k) = zeros_at n k

pub bill_is : (p n : ℕ) (marks after sums : List ℕ) → marks ≡ after → sums ≡ share_all p (take n marks) (replicate 16 0)
    → ◌≡◌ {A = BillAnswer} (record { refusal = 0; sums = sums }) (record { refusal = 0; sums = share_all p (take n after) (replicate 16 0) })
bill_is p n marks after sums e f = ap {B = BillAnswer} (λ (xs : List ℕ). record { refusal = 0; sums = xs }) (f ∙ ap (λ (ms : List ℕ). share_all p (take n ms) (replicate 16 0)) e)
