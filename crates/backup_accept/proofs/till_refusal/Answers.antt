use Rattle.laws.proofs.Stores.{header}
use native.Mathlib.Omega.{arith}
use Rattle.backup_accept.proofs.Deciding.{refusal_11, refusal_12, refusal_0}
use Rattle.backup_accept.proofs.till_refusal.Goals as goal

pub bounds-table-1 : goal.bounds-table-1
bounds-table-1 c = omega (arith, (header c.requires.0).eight)

pub returns-then-table-head : goal.returns-then-table-head
returns-then-table-head c = refusal_11 c.requires.0 c.args.till _ c.till_head-head.ensures c.if-table-head.true

pub returns-then-head-eq65535 : goal.returns-then-head-eq65535
returns-then-head-eq65535 c = refusal_12 c.requires.0 c.args.till _ c.till_head-head.ensures (omega (arith, c.if-table-head.false)) c.if-head-eq65535.true

pub returns : goal.returns
returns c = refusal_0 c.requires.0 c.args.till _ c.till_head-head.ensures (omega (arith, c.if-table-head.false)) c.if-head-eq65535.false
