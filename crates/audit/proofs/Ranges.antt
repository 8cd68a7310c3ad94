-- What the check of the header gives to the checks behind it.
use mathlib.Core.Path.{◌≡◌, sym, subst}
use mathlib.Core.List.{List}
use Prim.Native.Nat.{ℕ, ◌≤◌}
use native.Mathlib.Omega.{arith}
use lib.ListN.{length}
use borrow.Author.Tests.{eqb-true}
use Rattle.lists.proofs.Tests.{clause}
use Rattle.model.specs.Measures.{Measures, table_words, pool_bytes}
use Rattle.model.specs.Table.{shape_of}
use Rattle.model.specs.Sound.{has_lengths}
use Rattle.laws.specs.Ranges.{Measured, Ranges}
use Rattle.laws.proofs.Ranges.{ranges}
use Rattle.laws.proofs.Stores.{header_ranges}
use Rattle.audit_header.specs.Header.{HeaderSound}
use Rattle.audit.specs.Sound.{Sized}

module _ (pool ws : List ℕ) (h : HeaderSound pool ws) where
  in_ranges : Ranges (shape_of ws)
  unfolding has_lengths
  in_ranges = ranges (shape_of ws) (clause _ 0 h.lengths)

  pub header_measured : Measured (shape_of ws).measures
  header_measured = in_ranges.measured

  pub header_long : 8 ≤ length ws
  unfolding has_lengths table_words
  header_long = let e : length ws ≡ table_words (shape_of ws) = eqb-true _ _ (clause _ 2 h.lengths) in omega (arith, e)

  header_sized : Sized (shape_of ws).measures pool ws
  unfolding has_lengths pool_bytes table_words shape_of
  header_sized = record {
    header = header_ranges ws in_ranges header_long;
    bytes = eqb-true _ _ (clause _ 1 h.lengths);
    words = eqb-true _ _ (clause _ 2 h.lengths);
  }

  -- of the measures that the code read
  pub header_body : (m : Measures) → m ≡ (shape_of ws).measures → Measured m × Sized m pool ws
  header_body m q = (subst Measured (sym q) header_measured, subst (λ (n : Measures). Sized n pool ws) (sym q) header_sized)
