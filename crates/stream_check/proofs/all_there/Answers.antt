use native.Mathlib.Omega.{arith}
use mathlib.Core.Path.{◌≡◌, ap, ◌∙◌}
use Prim.Native.Nat.{ℕ, ◌+◌, ◌/◌, ◌^◌, min}
use lib.Dec.{ltb}
use Rattle.lists.proofs.Masks.{one_shl}
use Rattle.model.specs.Measures.{parts_for}
use Rattle.stream_check.proofs.all_there.Goals as goal

pub returns : goal.returns
unfolding parts_for
returns c = let l = c.args.left in
    let n = c.div_ceil.result in
    let e : n ≡ min 8 ((l + 63) / 64) = omega (arith, c.min-near.ensures, c.div_ceil.ensures) in
    ap (ltb c.args.bits) (one_shl n 32 (omega (arith, c.min-near.ensures, c.div_ceil.ensures)) ∙ ap (λ (k : ℕ). 2 ^ k) e)
