use native.Mathlib.Omega.{arith}
use mathlib.Core.Path.{◌∙◌}
use Rattle.sent_prints.proofs.Lets.{match_lost, match_free, match_held, match_blank}
use Rattle.sent_prints.proofs.can_match.Goals as goal
use Rattle.sent_prints.proofs.can_match.Goals.{else-row-eq0-via-then-row-eq0+else-row-eq0-2, else-row-eq0-via-else-row-eq0}

pub returns-then-row-ne0 : goal.returns-then-row-ne0
returns-then-row-ne0 c = λ s seg e l q. match_lost s seg c.args.row.now q c.if-row-ne0.true

pub returns-then-row-eq0-2 : goal.returns-then-row-eq0-2
returns-then-row-eq0-2 c = λ s seg e l q. match_free s seg c.args.row.now q c.if-row-eq0.true (omega (arith, c.if-row-ne0.false)) c.if-row-eq0-2.true

pub returns : goal.returns
returns c = λ s seg e l q.
    let row = c.args.row.now in
    c.positions_let.ensures s seg e l q
    ∙ elim c.else-row-eq0.branch [
      | else-row-eq0-via-then-row-eq0+else-row-eq0-2 w ↦ match_blank s seg row q w.if-row-eq0.true (omega (arith, c.if-row-ne0.false)) w.if-row-eq0-2.false
      | else-row-eq0-via-else-row-eq0 w ↦ match_held s seg row q w.if-row-eq0.false
    ]
