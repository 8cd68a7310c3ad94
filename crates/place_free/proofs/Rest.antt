-- The records that are free up to the last.
use mathlib.Core.Path.{◌≡◌, ap, refl, sym, ◌∙◌}
use mathlib.Core.Bool.{Bool, false, true}
use mathlib.Core.List.{List, []}
use Prim.Native.Nat.{◌+◌, ◌≤◌, ℕ}
use native.Mathlib.Omega.{arith}
use lib.ListN.{get_or, length}
use lib.Dec.{ltb}
use borrow.Author.Tests.{ltb-false, ltb-true}
use Rattle.model.specs.Records.{is_free}
use Rattle.model.specs.State.{Segment}
use Rattle.place_free.specs.Free.{RestFree}

pub rest_none : (segs : List Segment) (u : ℕ) → length segs ≤ u → RestFree u segs
rest_none segs u h j g l = absurd (omega arith)

-- one more record from the end
pub rest_down : (segs : List Segment) (k u : ℕ) → u ≡ k + 1 → true ≡ is_free (get_or segs k []) → RestFree u segs → RestFree k segs
rest_down segs k u e f r j g l = go (ltb k j) refl
  where
    here : j ≡ k → is_free (get_or segs j []) ≡ true
    here q = ap (λ (i : ℕ). is_free (get_or segs i [])) q ∙ sym f

    go : (t : Bool) → ltb k j ≡ t → is_free (get_or segs j []) ≡ true
    go true q = r j (omega (arith, ltb-true k j q)) l
    go false q = here (omega (arith, ltb-false k j q))
