use native.Mathlib.Omega.{arith}
use mathlib.Core.Path.{refl}
use Rattle.place_undo.proofs.Undoing.{going_end, going_step}
use Rattle.place_undo.proofs.undo_all.Goals as goal

pub loop-j-init : goal.loop-j-init
loop-j-init c = record { stored = c.requires.0; left = refl; same_pool = refl; same_table = refl }

pub undo_placing-requires : goal.undo_placing-requires
undo_placing-requires c = c.loop-j.invariant.stored

pub loop-j-preserved : goal.loop-j-preserved
loop-j-preserved c = going_step c.loop-j.invariant (omega arith) _ _ (omega arith) (omega arith) c.undo_placing.ensures

pub returns : goal.returns
returns c = going_end c.loop-j.invariant (omega arith)
