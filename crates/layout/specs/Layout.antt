-- The capacities that the code has, as the model's; and what its answers are.
use Rattle.std.specs.Prelude.{ℕ, List, Result, Ok, Err}
use Rattle.model.specs.Measures as measures
use Rattle.model.specs.Calls.{LengthAnswer, LayoutAnswer}
use Rattle.numbers.specs.Measures.{measures_of}
use Rattle.refusals.specs.declared.Refusal.{Refusal}
use Rattle.refusals.specs.Refusals.{number_of}
use Rattle.layout.specs.declared.Capacities.{Capacities}

abbrev pub shape : Capacities → measures.Shape
shape c = record {
  measures = measures_of c.measures;
  capacities = record { tills = c.tills; versions = c.versions; blocks = c.blocks; records = c.records; cells = c.cells };
}

-- the same of a length or its refusal
abbrev pub length_result : Result ℕ Refusal → LengthAnswer
length_result (Ok words) = record { refusal = 0; words = words }
length_result (Err r) = record { refusal = number_of r; words = 0 }

-- the answer of lay out, with the buffers after it
abbrev pub layout_answer : ℕ → List ℕ → List ℕ → LayoutAnswer
layout_answer refusal pool table = record { refusal = refusal; pool = pool; table = table }
