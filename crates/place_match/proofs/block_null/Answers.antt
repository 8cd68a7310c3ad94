use native.Mathlib.Omega.{arith}
use mathlib.Core.Path.{◌∙◌, ◌≡◌, ap}
use Prim.Native.Nat.{◌+◌, ◌-◌, ℕ}
use lib.ListN.{drop, length, length-drop, take}
use lib.Seq.{length-take-le}
use Rattle.lists.specs.Lists.{all_zero}
use Rattle.place_match.proofs.Copying.{block_whole}
use Rattle.place_match.proofs.block_null.Goals as goal

pub pieces_zero-requires : goal.pieces_zero-requires
pieces_zero-requires c = let a = c.args in
    let k = length-take-le (a.at + a.bytes - a.at) (drop a.at a.image.now) (omega (arith, length-drop a.at a.image.now)) in
    let e : length (take (a.at + a.bytes - a.at) (drop a.at a.image.now)) ≡ a.bytes = omega (arith, k) in
    rw e (c.requires.1, c.requires.3)

pub returns-then-end-image : goal.returns-then-end-image
returns-then-end-image c = let a = c.args in
    let e : a.at + a.bytes - a.at ≡ a.bytes = omega arith in
    c.pieces_zero.ensures ∙ ap all_zero (ap (λ (k : ℕ). take k (drop a.at a.image.now)) e ∙ block_whole a.bytes a.image.now a.at (omega arith))
