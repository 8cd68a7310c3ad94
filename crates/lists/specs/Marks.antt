-- Marking places, each at most once.
use Rattle.std.specs.Prelude.{ℕ, Bool, true, false, cond, ◌≡◌, List, [], ◌∷◌, get_or, set, ltb}

-- each place is below `n` and not marked when its turn comes
unfoldable pub fits : ℕ → List ℕ → List Bool → Bool
fits n [] occ = true
fits n (c ∷ cs) occ = let r = fits n cs (set occ c true) in cond (ltb c n) (cond (get_or occ c false) false r) false

unfoldable pub marked : List ℕ → List Bool → List Bool
marked [] occ = occ
marked (c ∷ cs) occ = marked cs (set occ c true)

-- `r` tells whether the places fit, and where they do they are marked
pub record MarkResult (r : Bool) (n : ℕ) (cs : List ℕ) (before after : List Bool) : Type 0 where
  pub ok : r ≡ fits n cs before
  pub done : r ≡ true → after ≡ marked cs before
