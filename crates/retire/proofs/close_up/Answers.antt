use mathlib.Core.Path.{◌≡◌}
use Prim.Native.Nat.{◌+◌, ◌-◌}
use native.Mathlib.Omega.{arith}
use Rattle.retire.proofs.Cases.{slot_closed}
use Rattle.retire.proofs.close_up.Goals as goal

pub close_up-requires : goal.close_up-requires
close_up-requires c = let k : c.args.at + c.args.size - c.args.at ≡ c.args.size = omega arith in
    rw k (c.requires.1, c.requires.2)

pub returns : goal.returns
returns c = λ s st t older u newer ps p ev lo et ep lp.
    slot_closed s st t _ _ _ p _ et _ older u newer ps _ _ ev c.close_up.ensures lo ep lp
