-- What the check of the header answers, test by test.
use mathlib.Core.Path.{◌≡◌, refl, sym, ap, ◌∙◌, subst}
use mathlib.Core.Bool.{Bool, true, false, cond, not, ◌&&◌}
use mathlib.Core.List.{List}
use Prim.Native.Nat.{ℕ, ◌≤◌, ◌<◌}
use native.Mathlib.Omega.{arith}
use lib.ListN.{length}
use lib.Dec.{eqb}
use borrow.Author.Tests.{eqb-true}
use Rattle.lists.specs.Lists.{all_of}
use Rattle.lists.specs.Decides.{Decides}
use Rattle.lists.proofs.Checkers.{is_not, refutes, clash}
use Rattle.lists.proofs.Tests.{clause}
use Rattle.model.specs.Measures.{Shape, in_range, table_words, pool_bytes}
use Rattle.model.specs.Table.{shape_of}
use Rattle.model.specs.Sound.{has_lengths}
use Rattle.audit_header.specs.Header.{MeasuresCanonical, HeaderSound}
use Rattle.audit_header.proofs.Words.{header_written, written_header}

module _ (pool ws : List ℕ) where
  long : HeaderSound pool ws → 8 ≤ length ws
  unfolding has_lengths table_words
  long h = omega (arith, eqb-true (length ws) _ (clause _ 2 h.lengths))

  pub too_short : length ws < 8 → Decides false (HeaderSound pool ws)
  too_short h = is_not (λ g. omega (arith, long g, h))

  -- with the shape that the header gives, as code has it
  module _ (s : Shape) (is : s ≡ shape_of ws) where
    pub out_of_range : in_range s ≡ false → Decides false (HeaderSound pool ws)
    unfolding has_lengths
    out_of_range e = is_not (λ g. clash (ap in_range (sym is) ∙ e) (clause _ 0 g.lengths))

    pub not_written : {r : Bool} → Decides r (MeasuresCanonical ws s.measures) → not r ≡ true → Decides false (HeaderSound pool ws)
    not_written t e = is_not (λ g. refutes t e (subst (λ (z : Shape). MeasuresCanonical ws z.measures) (sym is) (written_header ws (long g) g.words)))

    -- the lengths decide
    pub by_lengths : {r : Bool} → 8 ≤ length ws → in_range s ≡ true → MeasuresCanonical ws s.measures
        → r ≡ (eqb (length pool) (pool_bytes s) && eqb (length ws) (table_words s)) → Decides r (HeaderSound pool ws)
    by_lengths l a w e = record {
      holds = λ h. record { lengths = lengths_are ∙ sym e ∙ h; words = header_written ws l (subst (λ (z : Shape). MeasuresCanonical ws z.measures) is w) };
      seen = λ g. e ∙ sym lengths_are ∙ g.lengths;
    }
      where
        both : (a b : Bool) → cond a (cond b true false) false ≡ (a && b)
        both true true = refl
        both true false = refl
        both false b = refl

        lengths_are : has_lengths (shape_of ws) pool ws ≡ (eqb (length pool) (pool_bytes s) && eqb (length ws) (table_words s))
        lengths_are = ap (λ (z : Shape). has_lengths z pool ws) (sym is) ∙ unfold has_lengths all_of in rw a (both (eqb (length pool) (pool_bytes s)) (eqb (length ws) (table_words s)))
