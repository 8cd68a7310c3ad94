use native.Mathlib.Omega.{arith}
use Rattle.refusals.specs.declared.Refusal.TheVariants.{StreamSize, StreamBits}
use mathlib.Core.Path.{sym, ◌∙◌, subst}
use Rattle.stream.specs.Stream.{Read}
use Rattle.stream_laws.proofs.Steps.{group_none, group_missing, group_blocks}
use Rattle.stream_check.specs.Answers.{ReadsTo}
use Rattle.stream_check.proofs.Laws.{reaches_stop}
use Rattle.stream_check.proofs.check_group.Goals as goal

pub returns-then-stream-at : goal.returns-then-stream-at
returns-then-stream-at c = let a = c.args in
    reaches_stop _ a.stream.now StreamSize (group_none a.left a.at a.stream.now (omega arith))

pub returns-then-not-all_there : goal.returns-then-not-all_there
returns-then-not-all_there c = let a = c.args in
    reaches_stop _ a.stream.now StreamBits (group_missing a.left a.at a.stream.now (omega arith) (rw c.from-bits.ensures at (sym c.all_there.ensures ∙ c.if-not-all_there.true)))

pub returns : goal.returns
returns c = let a = c.args in
    subst (λ (x : Read). ReadsTo x a.stream.now c.check_blocks.result) (sym (group_blocks a.left a.at a.stream.now (omega arith) (rw c.from-bits.ensures at (sym c.all_there.ensures ∙ c.if-not-all_there.false)))) (rw c.from-bits.ensures at c.check_blocks.ensures)
