-- A till's versions with other pointers in the newest, and versions after it.
use mathlib.Core.Path.{◌≡◌, refl, sym, ap}
use mathlib.Core.List.{List, [], ◌∷◌, ◌++◌, map}
use Prim.Native.Nat.{ℕ, ◌+◌, ◌≤◌}
use native.Mathlib.Nat.{zero-add, le_refl}
use native.Mathlib.Omega.{arith}
use lib.ListN.{length}
use Rattle.lists.specs.Lists.{count, last_of}
use Rattle.lists.proofs.Last.{last_snoc}
use Rattle.lists.specs.Rows.{joined}
use Rattle.lists.proofs.Counts.{count_append}
use Rattle.model.specs.State.{Pointer, Version, with_pointers}
use Rattle.model.specs.Sound.{leads_to}
use Rattle.model.specs.Calls.{newest_pointers, with_newest_pointers}
use Rattle.laws.proofs.Serves.{pointers_of}

pub versions_append : (k i : ℕ) (vs ws : List Version) → count (leads_to k i) (pointers_of (vs ++ ws)) ≡ count (leads_to k i) (pointers_of vs) + count (leads_to k i) (pointers_of ws)
unfolding joined
versions_append k i [] ws = unfold count in sym (zero-add (count (leads_to k i) (pointers_of ws)))
versions_append k i (v ∷ vs) ws =
    omega (
      arith,
      versions_append k i vs ws,
      count_append (leads_to k i) v.pointers (pointers_of (vs ++ ws)),
      count_append (leads_to k i) v.pointers (pointers_of vs),
    )

pub newest_count : (k i : ℕ) (v : Version) (vs : List Version) (qs : List Pointer)
    → count (leads_to k i) (pointers_of (with_newest_pointers (v ∷ vs) qs)) + count (leads_to k i) (newest_pointers (v ∷ vs))
    ≡ count (leads_to k i) (pointers_of (v ∷ vs)) + count (leads_to k i) qs
unfolding with_newest_pointers last_of newest_pointers joined
newest_count k i v [] qs = omega (arith, count_append (leads_to k i) v.pointers [], count_append (leads_to k i) qs [])
newest_count k i v (w ∷ vs) qs =
    omega (
      arith,
      newest_count k i w vs qs,
      count_append (leads_to k i) v.pointers (pointers_of (with_newest_pointers (w ∷ vs) qs)),
      count_append (leads_to k i) v.pointers (pointers_of (w ∷ vs)),
    )

-- the newest version's pointers are among all
pub newest_among : (k i : ℕ) (vs : List Version) → count (leads_to k i) (newest_pointers vs) ≤ count (leads_to k i) (pointers_of vs)
unfolding last_of newest_pointers joined
newest_among k i [] = le_refl _
newest_among k i (v ∷ []) = omega (arith, count_append (leads_to k i) v.pointers [])
newest_among k i (v ∷ w ∷ vs) = omega (arith, newest_among k i (w ∷ vs), count_append (leads_to k i) v.pointers (pointers_of (w ∷ vs)))

pub newest_numbers : (vs : List Version) (qs : List Pointer) (ws : List Version)
    → map (λ (v : Version). v.number) (with_newest_pointers vs qs ++ ws) ≡ map (λ (v : Version). v.number) vs ++ map (λ (v : Version). v.number) ws
unfolding with_newest_pointers
newest_numbers [] qs ws = refl
newest_numbers (v ∷ []) qs ws = refl
newest_numbers (v ∷ u ∷ vs) qs ws = ap {B = List ℕ} (λ l. v.number ∷ l) (newest_numbers (u ∷ vs) qs ws)

pub newest_length : (vs : List Version) (qs : List Pointer) (ws : List Version) → length (with_newest_pointers vs qs ++ ws) ≡ length vs + length ws
unfolding with_newest_pointers
newest_length [] qs ws = sym (zero-add (length ws))
newest_length (v ∷ []) qs ws = omega arith
newest_length (v ∷ u ∷ vs) qs ws = omega (arith, newest_length (u ∷ vs) qs ws)

-- where the newest is given
pub newest_last : (us : List Version) (u : Version) → newest_pointers (us ++ (u ∷ [])) ≡ u.pointers
unfolding newest_pointers
newest_last us u = last_snoc (λ (v : Version). v.pointers) [] us u

pub with_last : (us : List Version) (u : Version) (ps : List Pointer) (ws : List Version)
    → with_newest_pointers (us ++ (u ∷ [])) ps ++ ws ≡ us ++ (with_pointers u ps ∷ ws)
unfolding with_newest_pointers
with_last [] u ps ws = refl
with_last (v ∷ []) u ps ws = refl
with_last (v ∷ w ∷ us) u ps ws = ap {B = List Version} (λ l. v ∷ l) (with_last (w ∷ us) u ps ws)
