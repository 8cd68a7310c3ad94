use mathlib.Core.Path.{sym, ◌∙◌}
use Rattle.laws.proofs.Ranges.{ranges}
use Rattle.layout.proofs.Laws.{refused_1, refused_2, fitting, laid}
use Rattle.layout.proofs.lay_out.Goals as goal

pub returns-then-not-in_range : goal.returns-then-not-in_range
returns-then-not-in_range c = refused_1 _ _ _ (sym c.in_range.ensures ∙ c.if-not-in_range.true)

pub lengths_fit-requires : goal.lengths_fit-requires
lengths_fit-requires c = sym c.in_range.ensures ∙ c.if-not-in_range.false

pub returns-then-not-lengths_fit : goal.returns-then-not-lengths_fit
returns-then-not-lengths_fit c = refused_2 _ _ _ (sym c.in_range.ensures ∙ c.if-not-in_range.false) (sym c.lengths_fit.ensures ∙ c.if-not-lengths_fit.true)

pub write_empty-requires : goal.write_empty-requires
write_empty-requires c = let (bytes, words) = fitting _ c.args.pool.now c.args.table.now (sym c.lengths_fit.ensures ∙ c.if-not-lengths_fit.false) in
    (bytes, words, ranges _ (sym c.in_range.ensures ∙ c.if-not-in_range.false))

pub returns : goal.returns
returns c = laid _ _ _ _ _ (sym c.in_range.ensures ∙ c.if-not-in_range.false) (sym c.lengths_fit.ensures ∙ c.if-not-lengths_fit.false) c.write_empty.ensures.bytes c.write_empty.ensures.words
