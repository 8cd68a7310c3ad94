use Rattle.std.proofs.Common.{arith, ap, ◌∙◌, ◌≡◌}
use Rattle.std.proofs.Math.Option.{some}
use Rattle.model.specs.Runs as model
use Rattle.runs.specs.Runs.{run_found}
use Rattle.runs.specs.declared.Run.{Run}
use Rattle.runs.proofs.Runs.{better_short, better_first, better_less, better_kept}
use Rattle.runs.proofs.Run.or.Goals as goal
use Rattle.runs.proofs.Run.or.Goals.{in_default-via-in-Some+else-run-size, in_default-via-in_default}

pub returns-then-size-need : goal.returns-then-size-need
returns-then-size-need c = let a = c.args in better_short a.need a.at.0 a.size _ c.if-size-need.true

pub returns-in-Some : goal.returns-in-Some
returns-in-Some c = let a = c.args in
    rw c.in-Some.is (better_kept a.need a.at.0 a.size (omega arith) _ c.if-run-size.true)

pub returns-in_default : goal.returns-in_default
returns-in_default c = let a = c.args in
    rw c.ended.ensures (elim c.in_default.branch [
      | in_default-via-in-Some+else-run-size w ↦ rw w.in-Some.is (better_less a.need a.at.0 a.size (omega arith) _ w.if-run-size.false)
      | in_default-via-in_default w ↦ rw w.in_default.is (better_first a.need a.at.0 a.size (omega arith))
    ])
