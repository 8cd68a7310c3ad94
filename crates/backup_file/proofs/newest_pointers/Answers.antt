use native.Mathlib.Omega.{arith}
use Rattle.backup_file.proofs.Slots.{no_newest, newest_read, few_at, positive_of}
use Rattle.backup_file.proofs.newest_pointers.Goals as goal

pub returns-then-till-eq0 : goal.returns-then-till-eq0
returns-then-till-eq0 c = ((λ v t h e. no_newest v c.args.b t c.args.till.now c.args.out.now e c.if-till-eq0.true), omega arith)

pub returns : goal.returns
returns c = let q = few_at c.args.bytes c.args.b c.args.till.now c.newest_at-at.result c.newest_at-at.ensures.0 c.requires.1 c.if-till-eq0.false in
    (newest_read c.args.bytes c.args.b c.args.till.now c.newest_at-at.result c.parts_for-n.result (positive_of _ c.if-till-eq0.false) c.newest_at-at.ensures.0 c.parts_for-n.ensures _ _ c.copy_in.ensures (omega (arith, q.1, c.parts_for-n.ensures, c.newest_at-at.ensures.1)), omega (arith, q.1, c.parts_for-n.ensures))
