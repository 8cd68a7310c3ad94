-- Making and using a test that tells.
use mathlib.Core.Path.{◌≡◌, refl, sym, ◌∙◌}
use mathlib.Core.Bool.{Bool, true, false, cond, not, false≢true}
use mathlib.Core.List.{List, [], ◌∷◌}
use Prim.Native.Nat.{ℕ, ◌<◌}
use lib.Dec.{ltb, eqb}
use borrow.Author.Tests.{ltb-true, eqb-true, lt-ltb, eq-eqb, not-true, not-false}
use Rattle.lists.specs.Lists.{every, all_of}
use Rattle.lists.specs.Each.{Each}
use Rattle.lists.specs.Decides.{Decides}
use Rattle.lists.proofs.Tests.{cond_true}

-- ---- Decides

pub clash : {b : Bool} → b ≡ false → b ≡ true → ⊥
clash p q = false≢true (sym p ∙ q)

pub is_so : {P : Type 0} → P → Decides true P
is_so p = record { holds = λ e. p; seen = λ q. refl }

pub is_not : {P : Type 0} → (P → ⊥) → Decides false P
is_not f = record { holds = λ e. absurd (clash refl e); seen = λ p. absurd (f p) }

-- the test itself
pub itself : (r : Bool) → Decides r (r ≡ true)
itself r = record { holds = λ e. e; seen = λ e. e }

-- of the same fact
pub same_as : {r : Bool} {P Q : Type 0} → (P → Q) → (Q → P) → Decides r P → Decides r Q
same_as f g t = record { holds = λ e. f (t.holds e); seen = λ q. t.seen (g q) }

-- an answer of no, and a fact that is not so
pub denies : {r : Bool} {P : Type 0} → Decides r P → r ≡ false → P → ⊥
denies t e p = clash e (t.seen p)

pub unseen : {r : Bool} {P : Type 0} → Decides r P → (P → ⊥) → r ≡ false
unseen {r} t f = go r refl
  where
    go : (b : Bool) → r ≡ b → r ≡ false
    go true e = absurd (f (t.holds e))
    go false e = e

-- a call's test, negated, taken and left
pub refutes : {r : Bool} {P : Type 0} → Decides r P → not r ≡ true → P → ⊥
refutes {r} t e p = denies t (not-true r e) p

pub proves : {r : Bool} {P : Type 0} → Decides r P → not r ≡ false → P
proves {r} t e = t.holds (not-false r e)

-- ---- not

-- ---- cond

-- one after the other; the second test may count on the first
pub decides_then : {a b : Bool} {P Q : Type 0} → Decides a P → (P → Decides b Q) → Decides (cond a b false) (P × Q)
decides_then {a} {b} s t =
    record {
      holds = λ e. let p = s.holds (cond_true a b e).0 in (p, (t p).holds (cond_true a b e).1);
      seen = λ pq. rw (s.seen pq.0) ((t pq.0).seen pq.1);
    }

pub decides_both : {a b : Bool} {P Q : Type 0} → Decides a P → Decides b Q → Decides (cond a b false) (P × Q)
decides_both s t = decides_then s (λ p. t)

-- ---- every

pub decides_every {ℓ} : {A : Type ℓ} (f : A → Bool) (P : A → Type 0) → ((x : A) → Decides (f x) (P x)) → (xs : List A) → Decides (every f xs) (Each P xs)
unfolding every
decides_every f P t [] = is_so tt
decides_every f P t (x ∷ xs) = decides_both (t x) (decides_every f P t xs)

-- ---- all_of

pub decides_all : (bs : List Bool) → Decides (all_of bs) (Each (λ b. b ≡ true) bs)
unfolding all_of
decides_all [] = is_so tt
decides_all (b ∷ bs) = decides_both (itself b) (decides_all bs)

-- ---- tests of numbers

pub decides_eqb : (a b : ℕ) → Decides (eqb a b) (a ≡ b)
decides_eqb a b = record { holds = eqb-true a b; seen = eq-eqb a b }

pub decides_ltb : (a b : ℕ) → Decides (ltb a b) (a < b)
decides_ltb a b = record { holds = ltb-true a b; seen = lt-ltb a b }
