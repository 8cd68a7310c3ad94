use native.Mathlib.Omega.{arith}
use mathlib.Core.Path.{sym, ap, ◌∙◌}
use Prim.Native.Nat.{◌-◌}
use Rattle.lists.specs.Lists.{every}
use Rattle.chain_check.proofs.Cells.{later_all, one_unsound, one_sound, all_sound}
use Rattle.chain_check.proofs.stores_sound.Goals as goal

pub loop-i-init : goal.loop-i-init
loop-i-init c = ap (every _) (later_all _)

pub store_sound-requires : goal.store_sound-requires
store_sound-requires c = (c.requires, omega arith)

pub returns-then-not-store_sound : goal.returns-then-not-store_sound
returns-then-not-store_sound c = one_unsound _ _ _ _ c.loop-i.invariant (omega arith) (sym c.store_sound.ensures ∙ c.if-not-store_sound.true)

pub loop-i-preserved : goal.loop-i-preserved
loop-i-preserved c = one_sound _ _ _ _ c.loop-i.invariant (omega arith) (sym c.store_sound.ensures ∙ c.if-not-store_sound.false)

pub returns : goal.returns
returns c = all_sound _ _ _ _ c.loop-i.invariant (omega arith)
