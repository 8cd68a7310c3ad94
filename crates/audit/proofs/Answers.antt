-- What the check answers: the header's test, then that of what is behind it.
use mathlib.Core.Path.{◌≡◌, refl, sym, subst}
use mathlib.Core.Bool.{Bool, true, false}
use mathlib.Core.List.{List}
use Prim.Native.Nat.{ℕ}
use Rattle.lists.specs.Lists.{is_some}
use Rattle.lists.specs.Decides.{Decides}
use Rattle.lists.proofs.Checkers.{is_not, denies, same_as}
use Rattle.lists.proofs.Tests.{clause}
use Rattle.model.specs.Measures.{Measures}
use Rattle.model.specs.Table.{shape_of}
use Rattle.model.specs.Sound.{has_lengths, store_of}
use Rattle.laws.proofs.Ranges.{measured}
use Rattle.audit_header.specs.Header.{HeaderSound}
use Rattle.audit.specs.Sound.{TableBody}
use Rattle.audit.proofs.Ranges.{header_measured}
use Rattle.audit.proofs.Whole.{body_store, store_body, store_long}

record HeaderAndBody (pool ws : List ℕ) : Type 0 where
  header : HeaderSound pool ws
  body : TableBody (shape_of ws).measures pool ws

good_store : (pool ws : List ℕ) → HeaderAndBody pool ws → is_some (store_of pool ws) ≡ true
unfolding store_of
good_store pool ws g =
    let h = g.header in body_store (shape_of ws) (header_measured pool ws h) pool ws h.lengths h.words g.body

store_good : (pool ws : List ℕ) → is_some (store_of pool ws) ≡ true → HeaderAndBody pool ws
unfolding store_of has_lengths
store_good pool ws h =
    let l : has_lengths (shape_of ws) pool ws ≡ true = store_long (shape_of ws) pool ws h in
    let b = store_body (shape_of ws) (measured (shape_of ws) (clause _ 0 l)) pool ws l h in
    record { header = record { lengths = l; words = b.0 }; body = b.1 }

same_test : (r b : Bool) (P : Type 0) → Decides r P → (P → b ≡ true) → (b ≡ true → P) → r ≡ b
same_test true b P t f g = sym (f (t.holds refl))
same_test false true P t f g = t.seen (g refl)
same_test false false P t f g = refl

-- the answers of the two checks, one after the other
module _ {r : Bool} (pool ws : List ℕ) where
  pub no_header : Decides r (HeaderSound pool ws) → r ≡ false → false ≡ is_some (store_of pool ws)
  no_header h e = same_test false _ (HeaderAndBody pool ws) (is_not (λ g. denies h e g.header)) (good_store pool ws) (store_good pool ws)

  pub with_header : {t : Bool} (m : Measures) → m ≡ (shape_of ws).measures → Decides r (HeaderSound pool ws) → r ≡ true → Decides t (TableBody m pool ws) → t ≡ is_some (store_of pool ws)
  with_header {t} m q h e b =
      same_test t _ (HeaderAndBody pool ws)
      (same_as (λ x. record { header = h.holds e; body = subst (λ (n : Measures). TableBody n pool ws) q x }) (λ g. subst (λ (n : Measures). TableBody n pool ws) (sym q) g.body) b)
      (good_store pool ws) (store_good pool ws)
