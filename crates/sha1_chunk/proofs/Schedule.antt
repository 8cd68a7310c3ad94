-- The schedule as two loops write it: the words so far, then what stood there before.
use Rattle.std.proofs.Common.{◌≡◌, ℕ, zero, suc, ◌+◌, ◌-◌, ◌<◌, ◌≤◌, cond, ltb, List, [], ◌∷◌, ◌++◌, length, get_or, take, drop, set, sym, refl, ap, ◌∙◌, add-one, arith, length-append, take_at, le-ltb, lt-ltb}
use lib.ListN.{get_or-append}
use lib.Seq.{set_at, append_snoc}
use Rattle.lists.proofs.Slices.{drop_next}
use Rattle.sha1_definition.specs.Sha1.{chunk_word, mixed, schedule}

pub length_schedule : (chunk : List ℕ) (t : ℕ) → length (schedule chunk t) ≡ t
unfolding schedule
length_schedule chunk zero = refl
length_schedule chunk (suc t) =
    let w = schedule chunk t in
    let h : length w ≡ t = length_schedule chunk t in
    omega (arith, length-append w (cond (ltb t 16) (chunk_word chunk t) (mixed w t) ∷ []))

module _ (chunk before : List ℕ) (t : ℕ) (fits : t < length before) where
  write : (v : ℕ) → v ≡ cond (ltb t 16) (chunk_word chunk t) (mixed (schedule chunk t) t)
      → set (schedule chunk t ++ drop t before) t v ≡ schedule chunk (t + 1) ++ drop (t + 1) before
  unfolding schedule
  write v e =
      ap (λ (l : List ℕ). set (schedule chunk t ++ l) t v) (drop_next before t 0 fits)
      ∙ set_at (schedule chunk t) (get_or before t 0) (drop (t + 1) before) v t (length_schedule chunk t)
      ∙ sym (append_snoc (schedule chunk t) v (drop (t + 1) before))
      ∙ ap (λ (x : ℕ). (schedule chunk t ++ (x ∷ [])) ++ drop (t + 1) before) e
      ∙ ap (λ (n : ℕ). schedule chunk n ++ drop (t + 1) before) (sym (add-one t))

  pub load_more : t < 16 → set (schedule chunk t ++ drop t before) t (chunk_word chunk t) ≡ schedule chunk (t + 1) ++ drop (t + 1) before
  load_more h = write (chunk_word chunk t) (rw (lt-ltb t 16 h))

  read : (j : ℕ) → 0 < j → j ≤ t → get_or (schedule chunk t ++ drop t before) (t - j) 0 ≡ get_or (schedule chunk t) (t - j) 0
  read j p q =
      get_or-append (schedule chunk t) (drop t before) 0 (t - j) (omega (arith, length_schedule chunk t))

  pub extend_more : 16 ≤ t
      → set (schedule chunk t ++ drop t before) t (mixed (schedule chunk t ++ drop t before) t) ≡ schedule chunk (t + 1) ++ drop (t + 1) before
  unfolding mixed
  extend_more h =
      write (mixed (schedule chunk t ++ drop t before) t)
      (rw (le-ltb t 16 h, read 3 (omega arith) (omega arith), read 8 (omega arith) (omega arith), read 14 (omega arith) (omega arith), read 16 (omega arith) (omega arith)))

-- what the first loop leaves for the second
pub loaded_first : (chunk before w : List ℕ) → w ≡ schedule chunk 16 ++ drop 16 before → take 16 w ≡ schedule chunk 16
loaded_first chunk before w e =
    ap (take 16) e ∙ take_at (schedule chunk 16) (drop 16 before) 16 (length_schedule chunk 16)
