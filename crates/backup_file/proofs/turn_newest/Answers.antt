use mathlib.Core.Path.{refl}
use Rattle.backup_file.proofs.Slots.{no_turned, newest_turned, positive_of, same_head}
use native.Mathlib.Omega.{arith}
use Rattle.backup_file.proofs.turn_newest.Goals as goal

pub returns-then-till-eq0 : goal.returns-then-till-eq0
returns-then-till-eq0 c = ((λ v t ps m et ep lo. no_turned v _ t ps _ et c.if-till-eq0.true), record { size = refl; last = refl; held = refl })

pub returns : goal.returns
returns c = (newest_turned _ _ _ (positive_of _ c.if-till-eq0.false) c.newest_at-start.ensures.0 _ _ c.requires.1 c.copy_in.ensures, same_head c.args.till.now c.args.pointers.now _ c.newest_at-start.result c.args.b (omega (arith, c.newest_at-start.ensures.1)) c.requires.1 c.copy_in.ensures)
