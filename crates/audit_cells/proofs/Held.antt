-- The cells that a record names, from one held position to the next.
use mathlib.Core.Path.{◌≡◌, refl, sym, ap, ◌∙◌}
use mathlib.Core.Bool.{Bool, true, false}
use mathlib.Core.List.{List, [], ◌∷◌}
use Prim.Native.Nat.{ℕ, zero, suc, ◌+◌, ◌-◌, ◌/◌, ◌%◌, ◌^◌, ◌≤◌, ◌<◌}
use native.Mathlib.Nat.{pow-suc, suc_inj}
use native.Mathlib.Omega.{arith}
use lib.ListN.{length, get_or, take, drop}
use lib.Seq.{get_or-take, get_or-drop}
use Rattle.lists.specs.Marks.{fits, marked, MarkResult}
use Rattle.lists.proofs.Checkers.{clash}
use Rattle.lists.proofs.Marks.{fits_append, fits_stop, marked_append}
use Rattle.lists.proofs.Masks.{First, here, later, first_le}
use Rattle.model.specs.Measures.{record_words}
use Rattle.model.specs.Records.{cells_of}
use Rattle.model.specs.Table.{position_of, positions_in, segment_in}
use Rattle.audit_words.proofs.Positions.{cells_long, counts_long}

abbrev pick : ℕ → ℕ → List ℕ → List ℕ
pick zero c cs = cs
pick (suc h) c cs = c ∷ cs

-- the cells at the places of a mask
unfoldable pub cells_by : ℕ → List ℕ → List ℕ
cells_by m [] = []
cells_by m (c ∷ cs) = pick (m % 2) c (cells_by (m / 2) cs)

by_held : (h r b : ℕ) (cs ns : List ℕ) → length cs ≡ length ns → cells_of (positions_in h r b cs ns) ≡ cells_by h cs
unfolding positions_in position_of cells_of cells_by
by_held h r b [] ns l = refl
by_held h r b (c ∷ cs) [] l = absurd (omega arith)
by_held h r b (c ∷ cs) (n ∷ ns) l = go (h % 2) (r % 2) (b % 2) (by_held (h / 2) (r / 2) (b / 2) cs ns (suc_inj l))
  where
    go : (x y z : ℕ) → cells_of (positions_in (h / 2) (r / 2) (b / 2) cs ns) ≡ cells_by (h / 2) cs
        → cells_of (position_of x y z c n ∷ positions_in (h / 2) (r / 2) (b / 2) cs ns) ≡ pick x c (cells_by (h / 2) cs)
    go zero zero zero e = e
    go zero zero (suc z) e = e
    go zero (suc y) z e = e
    go (suc x) y z e = ap {B = List ℕ} (λ l. c ∷ l) e

-- those of a record are those of its held mask
pub record_by : (n : ℕ) (row : List ℕ) → length row ≡ record_words n → cells_of (segment_in n row) ≡ cells_by (get_or row 0 0) (take n (drop 3 row))
unfolding segment_in
record_by n row l = by_held (get_or row 0 0) (get_or row 1 0) (get_or row 2 0) (take n (drop 3 row)) (take n (drop (3 + n) row)) (cells_long n row l ∙ sym (counts_long n row l))

by_none : (cs : List ℕ) → cells_by 0 cs ≡ []
unfolding cells_by
by_none [] = refl
by_none (c ∷ cs) = by_none cs

-- the first place, and then the others
by_first : {m t : ℕ} → First m t → (cs : List ℕ) → t < length cs → cells_by m cs ≡ get_or cs t 0 ∷ cells_by (m - 2 ^ t) cs
unfolding cells_by
by_first (here e) [] l = absurd (omega arith)
by_first (here {m} e) (c ∷ cs) l =
    let a : (m - 1) % 2 ≡ 0 = omega arith in
    let b : (m - 1) / 2 ≡ m / 2 = omega arith in
    rw (e, a, b)
by_first (later e f) [] l = absurd (omega arith)
by_first (later {m} {t} e f) (c ∷ cs) l =
    let a : (m - 2 ^ suc t) % 2 ≡ 0 = omega (arith, pow-suc 2 t, first_le f) in
    let b : (m - 2 ^ suc t) / 2 ≡ m / 2 - 2 ^ t = omega (arith, pow-suc 2 t, first_le f) in
    rw (e, a, b) (by_first f cs (omega arith))

-- none where the first place is past the last cell
by_past : {m t : ℕ} → First m t → (cs : List ℕ) → length cs ≤ t → cells_by m cs ≡ []
unfolding cells_by
by_past f [] l = refl
by_past (here e) (c ∷ cs) l = absurd (omega arith)
by_past {m = m} (later e f) (c ∷ cs) l = rw e (by_past {m = m / 2} f cs (omega arith))

-- ---- a loop that marks the cells of a record

-- those of the mask m are left, and every place is below top
pub record Left (n top m : ℕ) (row : List ℕ) (occ₀ occ : List Bool) : Type 0 where
  pub kept : length occ ≡ length occ₀
  pub ok : fits top (cells_by m (take n (drop 3 row))) occ ≡ fits top (cells_of (segment_in n row)) occ₀
  pub done : marked (cells_by m (take n (drop 3 row))) occ ≡ marked (cells_of (segment_in n row)) occ₀

module _ (n top : ℕ) (row : List ℕ) (l : length row ≡ record_words n) where
  abbrev cs : List ℕ
  cs = take n (drop 3 row)

  pub left_all : (occ : List Bool) → Left n top (get_or row 0 0) row occ occ
  left_all occ = let e = record_by n row l in record { kept = refl; ok = rw e; done = rw e }

  -- all are marked where none is left
  left_none : (m : ℕ) (occ₀ occ : List Bool) → Left n top m row occ₀ occ → cells_by m cs ≡ [] → MarkResult true top (cells_of (segment_in n row)) occ₀ occ
  unfolding fits marked
  left_none m occ₀ occ w e = record { ok = rw e at w.ok; done = λ t. rw e at w.done }

  pub left_done : (m : ℕ) (occ₀ occ : List Bool) → Left n top m row occ₀ occ → m ≡ 0 → MarkResult true top (cells_of (segment_in n row)) occ₀ occ
  left_done m occ₀ occ w e = left_none m occ₀ occ w (ap (λ (k : ℕ). cells_by k cs) e ∙ by_none cs)

  module _ (m t : ℕ) (f : First m t) (occ₀ occ : List Bool) (w : Left n top m row occ₀ occ) where
    pub left_past : n ≤ t → MarkResult true top (cells_of (segment_in n row)) occ₀ occ
    left_past h = left_none m occ₀ occ w (by_past f cs (omega (arith, cells_long n row l)))

    next : t < n → cells_by m cs ≡ get_or row (3 + t) 0 ∷ cells_by (m - 2 ^ t) cs
    next h = by_first f cs (omega (arith, cells_long n row l)) ∙ ap (λ (c : ℕ). c ∷ cells_by (m - 2 ^ t) cs) (get_or-take n (drop 3 row) t 0 h ∙ get_or-drop 3 row t 0)

    pub left_less : (occ' : List Bool) (r : Bool) → t < n → length occ' ≡ length occ → MarkResult r top (get_or row (3 + t) 0 ∷ []) occ occ' → r ≡ true → Left n top (m - 2 ^ t) row occ₀ occ'
    left_less occ' r h k s e =
        let g : fits top (get_or row (3 + t) 0 ∷ []) occ ≡ true = sym s.ok ∙ e in
        record {
          kept = k ∙ w.kept;
          ok = rw (s.done e) (sym (fits_append top (get_or row (3 + t) 0 ∷ []) (cells_by (m - 2 ^ t) cs) occ g) ∙ ap (λ (x : List ℕ). fits top x occ) (sym (next h)) ∙ w.ok);
          done = rw (s.done e) (sym (marked_append (get_or row (3 + t) 0 ∷ []) (cells_by (m - 2 ^ t) cs) occ) ∙ ap (λ (x : List ℕ). marked x occ) (sym (next h)) ∙ w.done);
        }

    pub left_fails : (occ' : List Bool) (r : Bool) → t < n → MarkResult r top (get_or row (3 + t) 0 ∷ []) occ occ' → r ≡ false → MarkResult false top (cells_of (segment_in n row)) occ₀ occ'
    left_fails occ' r h s e =
        record {
          ok = sym (fits_stop top (get_or row (3 + t) 0 ∷ []) (cells_by (m - 2 ^ t) cs) occ (sym s.ok ∙ e)) ∙ ap (λ (x : List ℕ). fits top x occ) (sym (next h)) ∙ w.ok;
          done = λ q. absurd (clash refl q);
        }
