use native.Mathlib.Omega.{arith}
use Rattle.retire.proofs.Cases.{by_bytes, holds_older, older_none, older_some, length_most}
use Rattle.retire.proofs.copy_older.Goals as goal

pub returns-then-j-eq0 : goal.returns-then-j-eq0
returns-then-j-eq0 c = (older_none c.requires.0 c.if-j-eq0.true c.args.older.now, omega arith)

pub copy_version-length-requires : goal.copy_version-length-requires
copy_version-length-requires c = (holds_older c.requires.0 c.if-j-eq0.false, c.requires.1, c.requires.2)

pub parts_for-requires : goal.parts_for-requires
parts_for-requires c = length_most (holds_older c.requires.0 c.if-j-eq0.false) _ _ c.copy_version-length.ensures _ c.requires.2

pub returns : goal.returns
returns c = older_some c.requires.0 c.if-j-eq0.false _ _ c.copy_version-length.ensures _ (by_bytes _ _ _ _ c.requires.2 c.parts_for.ensures)
