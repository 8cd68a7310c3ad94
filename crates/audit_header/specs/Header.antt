-- When a table's header and the lengths of pool and table are in order.
use Rattle.std.specs.Prelude.{ℕ, true, ◌≡◌, List, get_or, take}
use Rattle.model.specs.Measures.{Measures}
use Rattle.model.specs.Table.{measure_word, shape_of, header_to_words}
use Rattle.model.specs.Sound.{has_lengths}

-- the last three words, of a table with these measures: zeros for the base's, and for no others
pub record MeasuresCanonical (ws : List ℕ) (m : Measures) : Type 0 where
  pub bytes : get_or ws 5 0 ≡ measure_word m (get_or ws 5 0)
  pub blocks : get_or ws 6 0 ≡ measure_word m (get_or ws 6 0)
  pub percent : get_or ws 7 0 ≡ measure_word m (get_or ws 7 0)

-- the header is that of what it is read as, with capacities in range, and the buffers have its lengths
pub record HeaderSound (pool ws : List ℕ) : Type 0 where
  pub lengths : has_lengths (shape_of ws) pool ws ≡ true
  pub words : header_to_words (shape_of ws) ≡ take 8 ws
