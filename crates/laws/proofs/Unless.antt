-- What waits for a refusal: the refusal, or the answer.
use mathlib.Core.Path.{◌≡◌, refl, sym, ◌∙◌}
use mathlib.Core.Bool.{Bool, true, false, cond}
use Prim.Native.Nat.{ℕ}
use lib.Dec.{eqb}
use borrow.Author.Tests.{eq-eqb, ne_eqb, eqb-true}
use Rattle.model.specs.Rights.{unless}

module _ {A : Type 0} (refuse : ℕ → A) where
  pub unless_none : (n : ℕ) (a : A) → n ≡ 0 → unless n refuse a ≡ a
  unless_none n a e = rw (eq-eqb n 0 e) refl

  pub unless_some : (n : ℕ) (a : A) → ¬ (n ≡ 0) → unless n refuse a ≡ refuse n
  unless_some n a e = rw (ne_eqb n 0 e) refl

  -- what is accepted had nothing refused, where `f` gives the refusal that an answer carries
  pub accepted_none : (f : A → ℕ) → ((n : ℕ) → f (refuse n) ≡ n) → (n : ℕ) (a : A) → f (unless n refuse a) ≡ 0 → n ≡ 0
  accepted_none f h n a = go (eqb n 0) refl
    where
      go : (q : Bool) → eqb n 0 ≡ q → f (cond q a (refuse n)) ≡ 0 → n ≡ 0
      go true q e = eqb-true n 0 q
      go false q e = sym (h n) ∙ e

-- the same for code that asked, and has the number
module _ {A : Type 0} (refuse : ℕ → A) (answer : A) (n asked : ℕ) (e : n ≡ asked) where
  pub user_refused : ¬ (n ≡ 0) → refuse n ≡ unless asked refuse answer
  user_refused h = rw (sym e) (sym (unless_some refuse n answer h))

  pub user_served : n ≡ 0 → (a : A) → a ≡ answer → a ≡ unless asked refuse answer
  user_served z a q = q ∙ rw (sym e) (sym (unless_none refuse n answer z))
