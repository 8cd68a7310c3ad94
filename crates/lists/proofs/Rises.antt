-- Laws of `rises`: numbers that rise.
use mathlib.Core.Path.{◌≡◌, refl}
use mathlib.Core.Bool.{true, false, cond}
use mathlib.Core.List.{List, [], ◌∷◌, ◌++◌}
use Prim.Native.Nat.{ℕ, ◌+◌, ◌≤◌, ◌<◌}
use native.Mathlib.Omega.{arith}
use lib.ListN.{length}
use lib.Dec.{ltb, leb}
use borrow.Author.Tests.{ltb-true, lt-ltb, leb-true, le-leb}
use Rattle.lists.specs.Lists.{rises}
use Rattle.lists.specs.Each.{Each}
use Rattle.lists.proofs.Tests.{cond_true}

pub record Rises (low high n : ℕ) (ns : List ℕ) : Type 0 where
  pub above : low < n
  pub most : n ≤ high
  pub rest : rises n high ns ≡ true

pub rises_first : (low high n : ℕ) (ns : List ℕ) → rises low high (n ∷ ns) ≡ true → Rises low high n ns
unfolding rises
rises_first low high n ns h =
    let (a, b) = cond_true (ltb low n) (cond (leb n high) (rises n high ns) false) h in
    let (c, d) = cond_true (leb n high) (rises n high ns) b in
    record { above = ltb-true low n a; most = leb-true n high c; rest = d }

pub first_rises : (low high n : ℕ) (ns : List ℕ) → Rises low high n ns → rises low high (n ∷ ns) ≡ true
unfolding rises
first_rises low high n ns r = rw (lt-ltb low n r.above, le-leb n high r.most) r.rest

-- from a lower number on
pub rises_from : (low low' high : ℕ) (ns : List ℕ) → low' ≤ low → rises low high ns ≡ true → rises low' high ns ≡ true
unfolding rises
rises_from low low' high [] l h = refl
rises_from low low' high (n ∷ ns) l h =
    let r = rises_first low high n ns h in first_rises low' high n ns (record { above = omega (arith, l, r.above); most = r.most; rest = r.rest })

-- each is above the first bound and at most the second
pub rises_within : (low high : ℕ) (ns : List ℕ) → rises low high ns ≡ true → Each (λ (n : ℕ). (low < n) × (n ≤ high)) ns
rises_within low high [] h = tt
rises_within low high (n ∷ ns) h =
    let r = rises_first low high n ns h in ((r.above, r.most), rises_within low high ns (rises_from n low high ns (omega (arith, r.above)) r.rest))

-- there are no more than fit between
pub rises_length : (low high : ℕ) (ns : List ℕ) → low ≤ high → rises low high ns ≡ true → low + length ns ≤ high
rises_length low high [] l h = omega (arith, l)
rises_length low high (n ∷ ns) l h = let r = rises_first low high n ns h in omega (arith, rises_length n high ns r.most r.rest, r.above)

-- with one more at the end
pub rises_snoc : (low high n : ℕ) (ns : List ℕ) → low ≤ high → high < n → rises low high ns ≡ true → rises low n (ns ++ (n ∷ [])) ≡ true
rises_snoc low high n [] b l h = first_rises low n n [] (record { above = omega (arith, b, l); most = omega (arith); rest = unfold rises in refl })
rises_snoc low high n (m ∷ ns) b l h =
    let r = rises_first low high m ns h in
    first_rises low n m (ns ++ (n ∷ [])) (record { above = r.above; most = omega (arith, r.most, l); rest = rises_snoc m high n ns r.most l r.rest })

-- without one
pub rises_without : (low high n : ℕ) (ms ns : List ℕ) → rises low high (ms ++ (n ∷ ns)) ≡ true → rises low high (ms ++ ns) ≡ true
rises_without low high n [] ns h = let r = rises_first low high n ns h in rises_from n low high ns (omega (arith, r.above)) r.rest
rises_without low high n (m ∷ ms) ns h =
    let r = rises_first low high m (ms ++ (n ∷ ns)) h in
    first_rises low high m (ms ++ ns) (record { above = r.above; most = r.most; rest = rises_without m high n ms ns r.rest })
