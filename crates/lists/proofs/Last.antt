-- Laws of a field of the last element.
use mathlib.Core.Path.{◌≡◌, refl}
use mathlib.Core.List.{List, [], ◌∷◌, ◌++◌, map}
use lib.ListN.{length, get_or}
use Rattle.lists.specs.Lists.{last_of}
use Rattle.lists.specs.Each.{Each}

module _ {ℓ ℓ₁} {A : Type ℓ} {B : Type ℓ₁} (f : A → B) where
  pub last_snoc : (d : B) (xs : List A) (x : A) → last_of f d (xs ++ (x ∷ [])) ≡ f x
  unfolding last_of
  last_snoc d [] x = refl
  last_snoc d (y ∷ xs) x = last_snoc (f y) xs x

  pub last_at : (d e : B) (x : A) (xs : List A) → last_of f d (x ∷ xs) ≡ get_or (map f (x ∷ xs)) (length xs) e
  unfolding last_of
  last_at d e x [] = refl
  last_at d e x (y ∷ xs) = last_at d e y xs

  -- the last of the fields
  pub last_map : (d : B) (xs : List A) → last_of f d xs ≡ last_of (λ (y : B). y) d (map f xs)
  unfolding last_of
  last_map d [] = refl
  last_map d (x ∷ xs) = last_map (f x) xs

-- what holds of the default and of each field
pub last_each {ℓ ℓ₁} : {A : Type ℓ} {B : Type ℓ₁} (f : A → B) (P : A → Type 0) (Q : B → Type 0) → ((x : A) → P x → Q (f x)) → (d : B) → Q d → (xs : List A) → Each P xs → Q (last_of f d xs)
unfolding last_of
last_each f P Q g d h [] e = h
last_each f P Q g d h (x ∷ xs) e = last_each f P Q g (f x) (g x e.0) xs e.1
