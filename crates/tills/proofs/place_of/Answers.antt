use mathlib.Core.Path.{sym, ◌∙◌}
use native.Mathlib.Omega.{arith}
use Rattle.tills.specs.Answers.{numbers_held}
use Rattle.tills.proofs.Cases.{none_next, place_here, place_none}
use Rattle.tills.proofs.place_of.Goals as goal

pub returns-then-number_at-version : goal.returns-then-number_at-version
returns-then-number_at-version c = place_here c.requires.0 _ c.requires.1 _ _ (omega (arith, c.loop-j-test.true, c.requires.2.held)) c.loop-j.invariant (sym c.number_at.ensures ∙ c.if-number_at-version.true)

pub loop-j-preserved : goal.loop-j-preserved
loop-j-preserved c = let a = c.args in
    none_next (numbers_held a.pool.now a.table.now a.till) _ _ c.loop-j.invariant (λ e. c.if-number_at-version.false (c.number_at.ensures ∙ e))

pub returns : goal.returns
returns c = place_none c.requires.0 _ c.requires.1 _ (λ i l e. c.loop-j.invariant i (omega (arith, l, c.loop-j-test.false, c.requires.2.held)) e)
