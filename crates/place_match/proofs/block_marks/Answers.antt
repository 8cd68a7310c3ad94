use mathlib.Core.Path.{◌∙◌, sym}
use Rattle.model.specs.Image.{block_from}
use Rattle.place_match.proofs.Blank.{blank_marks, null_marks, stored_marks}
use Rattle.place_match.proofs.block_marks.Goals as goal

pub returns-then-block_null : goal.returns-then-block_null
returns-then-block_null c = let a = c.args in
    null_marks (block_from a.bytes a.image.now a.at) (sym c.if-block_null.true ∙ c.block_null.ensures)

pub returns-then-block_blank : goal.returns-then-block_blank
returns-then-block_blank c = let a = c.args in
    blank_marks (block_from a.bytes a.image.now a.at) (sym c.if-block_null.false ∙ c.block_null.ensures) (sym c.if-block_blank.true ∙ c.block_blank.ensures)

pub returns-else-block_blank : goal.returns-else-block_blank
returns-else-block_blank c = let a = c.args in
    stored_marks (block_from a.bytes a.image.now a.at) (sym c.if-block_null.false ∙ c.block_null.ensures) (sym c.if-block_blank.false ∙ c.block_blank.ensures)
