-- Places fit if and only if they are in range, apart and free; and which places are marked.
use mathlib.Core.Path.{◌≡◌, refl, sym, ap, ◌∙◌}
use mathlib.Core.Bool.{Bool, true, false, cond}
use mathlib.Core.List.{List, [], ◌∷◌}
use Prim.Native.Nat.{ℕ, zero, suc, ◌≤◌, ◌<◌}
use native.Mathlib.Nat.{zero-add}
use native.Mathlib.Omega.{arith}
use borrow.Author.Tests.{ltb-true, eqb-true, eqb-false, eq-eqb, ne_eqb}
use lib.Dec.{eqb, ltb}
use lib.ListN.{length, get_or, set, replicate, length-set, length-replicate}
use lib.Seq.{get_or-set_same, get_or-set_other}
use Rattle.lists.specs.Lists.{every, is_in, distinct}
use Rattle.lists.specs.Rows.{joined}
use Rattle.lists.specs.Marks.{fits, marked}
use Rattle.lists.proofs.Checkers.{clash}
use Rattle.lists.proofs.Counted.{counted_is}
use Rattle.lists.proofs.Marks.{collect}
use Rattle.lists.proofs.Tests.{cond_true}

-- ---- collect

-- what is read right, one after the other
pub collect_at {ℓ} : {A : Type ℓ} (g : ℕ → List A) (d : List A) (xs : List (List A)) → ((j : ℕ) → j < length xs → g j ≡ get_or xs j d) → collect g 0 (length xs) ≡ joined xs
collect_at g d xs h = ap joined (counted_is g d 0 xs (λ j b. ap g (zero-add j) ∙ h j b))

-- ---- is_in

in_none : (x : ℕ) → is_in x [] ≡ true → ⊥
unfolding is_in
in_none x h = clash refl h

in_head : (c : ℕ) (cs : List ℕ) → is_in c (c ∷ cs) ≡ true
unfolding is_in
in_head c cs = rw (eq-eqb c c refl)

in_tail : (x c : ℕ) (cs : List ℕ) → is_in x cs ≡ true → is_in x (c ∷ cs) ≡ true
unfolding is_in
in_tail x c cs h = rw h (go (eqb x c))
  where
    go : (t : Bool) → cond t true true ≡ true
    go true = refl
    go false = refl

in_cases : (x c : ℕ) (cs : List ℕ) → is_in x (c ∷ cs) ≡ true → (x ≡ c → ⊥) → is_in x cs ≡ true
unfolding is_in
in_cases x c cs h n = rw (ne_eqb x c n) at h

-- ---- fits

pub record Apart (n : ℕ) (cs : List ℕ) (occ : List Bool) : Type 0 where
  pub below : every (λ c. ltb c n) cs ≡ true
  pub apart : distinct cs ≡ true
  pub free : (x : ℕ) → is_in x cs ≡ true → get_or occ x false ≡ false

-- three conditions of a place that fits
fits_cons : (n c : ℕ) (cs : List ℕ) (occ : List Bool) → fits n (c ∷ cs) occ ≡ true
    → (ltb c n ≡ true) × (get_or occ c false ≡ false) × (fits n cs (set occ c true) ≡ true)
unfolding fits
fits_cons n c cs occ h = go (ltb c n) (get_or occ c false) h
  where
    go : (a b : Bool) → cond a (cond b false (fits n cs (set occ c true))) false ≡ true → (a ≡ true) × (b ≡ false) × (fits n cs (set occ c true) ≡ true)
    go true true e = absurd (clash refl e)
    go true false e = (refl, refl, e)
    go false b e = absurd (clash refl e)

no_in : (b : Bool) → (b ≡ true → ⊥) → b ≡ false
no_in true h = absurd (h refl)
no_in false h = refl

pub fits_apart : (n : ℕ) (cs : List ℕ) (occ : List Bool) → n ≤ length occ → fits n cs occ ≡ true → Apart n cs occ
unfolding every distinct
fits_apart n [] occ l h = record { below = refl; apart = refl; free = λ x e. absurd (in_none x e) }
fits_apart n (c ∷ cs) occ l h = build (fits_cons n c cs occ h) (λ g. fits_apart n cs (set occ c true) (rw (length-set occ c true) l) g)
  where
    build : (ltb c n ≡ true) × (get_or occ c false ≡ false) × (fits n cs (set occ c true) ≡ true)
        → (fits n cs (set occ c true) ≡ true → Apart n cs (set occ c true)) → Apart n (c ∷ cs) occ
    build p rec =
        let r : Apart n cs (set occ c true) = rec p.2 in
        let b : c < length occ = (let q : c < n = ltb-true c n p.0 in omega arith) in
        let once : is_in c cs ≡ false = no_in (is_in c cs) (λ e. clash (r.free c e) (get_or-set_same occ c true false b)) in
        record {
          below = rw p.0 r.below;
          apart = rw once r.apart;
          free = λ x e. cases r x e (eqb x c) refl;
        }
      where
        cases : Apart n cs (set occ c true) → (x : ℕ) → is_in x (c ∷ cs) ≡ true → (t : Bool) → eqb x c ≡ t → get_or occ x false ≡ false
        cases r x e true q = rw (eqb-true x c q) p.1
        cases r x e false q = let z : x ≡ c → ⊥ = eqb-false x c q in sym (get_or-set_other occ c x true false z) ∙ r.free x (in_cases x c cs e z)

pub apart_fits : (n : ℕ) (cs : List ℕ) (occ : List Bool) → Apart n cs occ → fits n cs occ ≡ true
unfolding fits
apart_fits n [] occ p = refl
apart_fits n (c ∷ cs) occ p = rw (lower.0, p.free c (in_head c cs)) (apart_fits n cs (set occ c true) rest)
  where
    lower : (ltb c n ≡ true) × (every (λ x. ltb x n) cs ≡ true)
    lower = cond_true (ltb c n) (every (λ x. ltb x n) cs) (unfold every in p.below)

    twice : (is_in c cs ≡ false) × (distinct cs ≡ true)
    twice = go (is_in c cs) (unfold distinct in p.apart)
      where
        go : (b : Bool) → cond b false (distinct cs) ≡ true → (b ≡ false) × (distinct cs ≡ true)
        go true e = absurd (clash refl e)
        go false e = (refl, e)

    rest : Apart n cs (set occ c true)
    rest = record { below = lower.1; apart = twice.1; free = λ x e. go x e (eqb x c) refl }
      where
        go : (x : ℕ) → is_in x cs ≡ true → (t : Bool) → eqb x c ≡ t → get_or (set occ c true) x false ≡ false
        go x e true q = absurd (clash twice.0 (rw (eqb-true x c q) at e))
        go x e false q = get_or-set_other occ c x true false (eqb-false x c q) ∙ p.free x (in_tail x c cs e)

-- ---- marked

pub none_marked : (m x : ℕ) → get_or (replicate m false) x false ≡ false
none_marked zero x = refl
none_marked (suc m) zero = refl
none_marked (suc m) (suc x) = none_marked m x

pub marked_at : (cs : List ℕ) (occ : List Bool) (x : ℕ) → x < length occ → get_or (marked cs occ) x false ≡ cond (is_in x cs) true (get_or occ x false)
unfolding marked is_in
marked_at [] occ x h = refl
marked_at (c ∷ cs) occ x h = marked_at cs (set occ c true) x (rw (length-set occ c true) h) ∙ go (eqb x c) refl (is_in x cs)
  where
    go : (t : Bool) → eqb x c ≡ t → (b : Bool) → cond b true (get_or (set occ c true) x false) ≡ cond (cond (eqb x c) true b) true (get_or occ x false)
    go true e true = rw e
    go true e false = rw e (ap (λ (y : ℕ). get_or (set occ y true) x false) (sym (eqb-true x c e)) ∙ get_or-set_same occ x true false h)
    go false e true = rw e
    go false e false = rw e (get_or-set_other occ c x true false (eqb-false x c e))

-- from none marked on, the marked places are those of the list
pub marked_all : (m : ℕ) (cs : List ℕ) (x : ℕ) → x < m → get_or (marked cs (replicate m false)) x false ≡ is_in x cs
marked_all m cs x h =
    marked_at cs (replicate m false) x (rw (length-replicate m false) h) ∙ ap (λ (b : Bool). cond (is_in x cs) true b) (none_marked m x) ∙ go (is_in x cs)
  where
    go : (b : Bool) → cond b true false ≡ b
    go true = refl
    go false = refl
