-- Laws of marking places.
use mathlib.Core.Path.{◌≡◌, refl, sym, ap, ◌∙◌}
use mathlib.Core.Bool.{Bool, true, false, cond}
use mathlib.Core.List.{List, [], ◌∷◌, ◌++◌}
use Prim.Native.Nat.{ℕ, suc, ◌+◌, ◌-◌, ◌≤◌, ◌<◌}
use native.Mathlib.Numerals.{add-one}
use native.Mathlib.Omega.{arith}
use lib.ListN.{length, get_or, set, length-set}
use lib.Dec.{ltb}
use borrow.Author.Tests.{lt-ltb, le-ltb}
use Rattle.lists.specs.Lists.{counted}
use Rattle.lists.specs.Rows.{joined}
use Rattle.lists.specs.Marks.{fits, marked, MarkResult}
use Rattle.lists.proofs.Checkers.{clash}

-- ---- collect

-- what `g` gives at `i`, `i + 1` and so on, `n` times, one after the other
abbrev pub collect {ℓ} : {A : Type ℓ} → (ℕ → List A) → ℕ → ℕ → List A
collect g i n = joined (counted g i n)

module _ {ℓ} {A : Type ℓ} (g : ℕ → List A) (i n : ℕ) where
  pub collect_next : i < n → collect g i (n - i) ≡ g i ++ collect g (i + 1) (n - (i + 1))
  unfolding joined counted
  collect_next h =
      let e : n - i ≡ suc (n - (i + 1)) = omega arith in
      rw (e, add-one i)

  pub collect_end : n ≤ i → collect g i (n - i) ≡ []
  unfolding joined counted
  collect_end h = let e : n - i ≡ 0 = omega arith in rw e

-- ---- fits

module _ (n : ℕ) where
  pub fits_append : (xs ys : List ℕ) (occ : List Bool) → fits n xs occ ≡ true → fits n (xs ++ ys) occ ≡ fits n ys (marked xs occ)
  unfolding fits marked
  fits_append [] ys occ h = refl
  fits_append (c ∷ xs) ys occ h = go (λ e. fits_append xs ys (set occ c true) e) (ltb c n) (get_or occ c false) h
    where
      go : (fits n xs (set occ c true) ≡ true → fits n (xs ++ ys) (set occ c true) ≡ fits n ys (marked xs (set occ c true)))
          → (a b : Bool) → cond a (cond b false (fits n xs (set occ c true))) false ≡ true
          → cond a (cond b false (fits n (xs ++ ys) (set occ c true))) false ≡ fits n ys (marked xs (set occ c true))
      go rec true true e = absurd (clash refl e)
      go rec true false e = rec e
      go rec false b e = absurd (clash refl e)

  pub fits_stop : (xs ys : List ℕ) (occ : List Bool) → fits n xs occ ≡ false → fits n (xs ++ ys) occ ≡ false
  unfolding fits
  fits_stop [] ys occ h = absurd (clash h refl)
  fits_stop (c ∷ xs) ys occ h = go (λ e. fits_stop xs ys (set occ c true) e) (ltb c n) (get_or occ c false) h
    where
      go : (fits n xs (set occ c true) ≡ false → fits n (xs ++ ys) (set occ c true) ≡ false)
          → (a b : Bool) → cond a (cond b false (fits n xs (set occ c true))) false ≡ false
          → cond a (cond b false (fits n (xs ++ ys) (set occ c true))) false ≡ false
      go rec true true e = refl
      go rec true false e = rec e
      go rec false b e = refl

-- ---- marked

pub marked_append : (xs ys : List ℕ) (occ : List Bool) → marked (xs ++ ys) occ ≡ marked ys (marked xs occ)
unfolding marked
marked_append [] ys occ = refl
marked_append (c ∷ xs) ys occ = marked_append xs ys (set occ c true)

pub length_marked : (xs : List ℕ) (occ : List Bool) → length (marked xs occ) ≡ length occ
unfolding marked
length_marked [] occ = refl
length_marked (c ∷ xs) occ = length_marked xs (set occ c true) ∙ length-set occ c true

-- ---- MarkResult

-- one place
module _ (n c : ℕ) (occ : List Bool) where
  pub one_out : n ≤ c → MarkResult false n (c ∷ []) occ occ
  unfolding fits
  one_out h = record { ok = rw (le-ltb c n h); done = λ t. absurd (clash refl t) }

  pub one_twice : c < n → get_or occ c false ≡ true → MarkResult false n (c ∷ []) occ occ
  unfolding fits
  one_twice h e = record { ok = rw (lt-ltb c n h, e); done = λ t. absurd (clash refl t) }

  pub one_marked : c < n → get_or occ c false ≡ false → MarkResult true n (c ∷ []) occ (set occ c true)
  unfolding fits marked
  one_marked h e = record { ok = rw (lt-ltb c n h, e); done = λ t. refl }

pub none_marked : (n : ℕ) (occ : List Bool) → MarkResult true n [] occ occ
unfolding fits marked
none_marked n occ = record { ok = refl; done = λ t. refl }

-- ---- Going

-- a loop that marks what g gives, by number: i turns of n are done, and every place is below top
pub record Going (g : ℕ → List ℕ) (n i top : ℕ) (occ₀ occ : List Bool) : Type 0 where
  pub kept : length occ ≡ length occ₀
  pub ok : fits top (collect g i (n - i)) occ ≡ fits top (collect g 0 n) occ₀
  pub done : marked (collect g i (n - i)) occ ≡ marked (collect g 0 n) occ₀

pub starts : (g : ℕ → List ℕ) (n top : ℕ) (occ : List Bool) → Going g n 0 top occ occ
starts g n top occ = let e : n - 0 ≡ n = omega arith in record { kept = refl; ok = rw e; done = rw e }

module _ (g : ℕ → List ℕ) (n i top : ℕ) (occ₀ occ occ' : List Bool) (w : Going g n i top occ₀ occ) where
  pub again : (r : Bool) → i < n → length occ' ≡ length occ → MarkResult r top (g i) occ occ' → r ≡ true → Going g n (i + 1) top occ₀ occ'
  again r h l m e =
      let f : fits top (g i) occ ≡ true = sym m.ok ∙ e in
      record {
        kept = l ∙ w.kept;
        ok = rw (m.done e) (sym (fits_append top (g i) (collect g (i + 1) (n - (i + 1))) occ f) ∙ ap (λ (l : List ℕ). fits top l occ) (sym (collect_next g i n h)) ∙ w.ok);
        done = rw (m.done e) (sym (marked_append (g i) (collect g (i + 1) (n - (i + 1))) occ) ∙ ap (λ (l : List ℕ). marked l occ) (sym (collect_next g i n h)) ∙ w.done);
      }

  pub fails : (r : Bool) → i < n → MarkResult r top (g i) occ occ' → r ≡ false → MarkResult false top (collect g 0 n) occ₀ occ'
  fails r h m e =
      record {
        ok = sym (fits_stop top (g i) (collect g (i + 1) (n - (i + 1))) occ (sym m.ok ∙ e)) ∙ ap (λ (l : List ℕ). fits top l occ) (sym (collect_next g i n h)) ∙ w.ok;
        done = λ t. absurd (clash refl t);
      }

pub ends : (g : ℕ → List ℕ) (n i top : ℕ) (occ₀ occ : List Bool) → Going g n i top occ₀ occ → n ≤ i → MarkResult true top (collect g 0 n) occ₀ occ
unfolding fits marked
ends g n i top occ₀ occ w h =
    let e : collect g i (n - i) ≡ [] = collect_end g i n h in
    record { ok = rw e at w.ok; done = λ t. rw e at w.done }
