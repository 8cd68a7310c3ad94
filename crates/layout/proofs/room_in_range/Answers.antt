use mathlib.Core.Path.{sym, ◌∙◌}
use native.Mathlib.Omega.{arith}
use Rattle.laws.proofs.Ranges.{measures_in_lem}
use Rattle.layout.proofs.Laws.{out_of, by_cells}
use Rattle.layout.specs.Layout.{shape}
use Rattle.layout.proofs.room_in_range.Goals as goal
use Rattle.layout.proofs.room_in_range.Goals.{then-within, else-within, then-within-2, else-within-2, then-blocks_within, else-blocks_within}

pub blocks_within-requires : goal.blocks_within-requires
blocks_within-requires c = let m = measures_in_lem _ c.requires in (omega (arith, m.some_bytes), omega (arith, m.most_bytes))

-- the last test decides where the four before it hold
pub returns-then-within-3 : goal.returns-then-within-3
returns-then-within-3 c = elim c.if-blocks_within.branch [
  | then-blocks_within w3 ↦ elim c.if-within-2.branch [
    | then-within-2 w2 ↦ elim c.if-within.branch [
      | then-within w1 ↦ c.within-then-within-3.ensures ∙ by_cells (shape c.args.c)
          (sym c.within.ensures ∙ w1.if-within.true)
          (sym w1.within-then-within.ensures ∙ (sym w1.value-is ∙ w2.if-within-2.true))
          (sym w2.blocks_within.ensures ∙ (sym w2.value-is ∙ w3.if-blocks_within.true))
          (sym w3.within-then-blocks_within.ensures ∙ (sym w3.value-is ∙ c.if-within-3.true))
          c.requires
      | else-within w1 ↦ cc
    ]
    | else-within-2 w2 ↦ cc
  ]
  | else-blocks_within w3 ↦ cc
]

-- the first test that fails
pub returns-else-within-3 : goal.returns-else-within-3
returns-else-within-3 c = c.if-within-3.false ∙ elim c.if-blocks_within.branch [
  | then-blocks_within w3 ↦ out_of _ 3 (sym w3.within-then-blocks_within.ensures ∙ (sym w3.value-is ∙ c.if-within-3.false))
  | else-blocks_within w3 ↦ elim c.if-within-2.branch [
    | then-within-2 w2 ↦ out_of _ 2 (sym w2.blocks_within.ensures ∙ (sym w2.value-is ∙ w3.if-blocks_within.false))
    | else-within-2 w2 ↦ elim c.if-within.branch [
      | then-within w1 ↦ out_of _ 1 (sym w1.within-then-within.ensures ∙ (sym w1.value-is ∙ w2.if-within-2.false))
      | else-within w1 ↦ out_of _ 0 (sym c.within.ensures ∙ w1.if-within.false)
    ]
  ]
]
