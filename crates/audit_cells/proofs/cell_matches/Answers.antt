use Rattle.std.proofs.Common.{◌≡◌, Bool, true, false, not, refl}
use mathlib.Core.Bool.{beq}
use Rattle.lists.specs.Decides.{Decides}
use Rattle.lists.specs.Lists.{all_zero}
use Rattle.lists.proofs.Checkers.{is_so, is_not, clash}
use Rattle.audit_cells.proofs.cell_matches.Goals as goal

differs : (z o : Bool) → Decides (not (beq z o)) (o ≡ not z)
differs true true = is_not (λ e. clash e refl)
differs true false = is_so refl
differs false true = is_so refl
differs false false = is_not (λ e. clash refl e)

pub returns : goal.returns
returns c = rw c.pieces_zero.ensures (differs (all_zero c.args.cell.now) c.args.occupied)
