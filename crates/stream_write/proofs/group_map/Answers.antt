use native.Mathlib.Omega.{arith}
use mathlib.Core.Path.{◌≡◌, refl, ap, ◌∙◌}
use Prim.Native.Nat.{ℕ, ◌+◌, ◌-◌, ◌*◌, ◌<◌}
use Rattle.lists.specs.Masks.{mask_of}
use Rattle.model.specs.Image.{blocks_from}
use Rattle.model.specs.Sound.{is_filled}
use Rattle.stream_write.proofs.Laws.{map_front, map_small}
use Rattle.stream_write.proofs.group_map.Goals as goal

pub loop-i-init : goal.loop-i-init
unfolding blocks_from mask_of
loop-i-init c = refl

pub overflow_mul-m : goal.overflow_mul-m
overflow_mul-m c =
    let small : c.loop-i.m < 256 = (let l = c.loop-i in
    let a = c.args in
    omega (arith, l.invariant, map_small a.image.now (a.from + l.i * 64) (8 - l.i) (omega arith))) in
    omega (arith, small, c.block_mark.ensures.1)

pub overflow_add-m : goal.overflow_add-m
overflow_add-m c =
    let small : c.loop-i.m < 256 = (let l = c.loop-i in
    let a = c.args in
    omega (arith, l.invariant, map_small a.image.now (a.from + l.i * 64) (8 - l.i) (omega arith))) in
    omega (arith, small, c.block_mark.ensures.1)

pub loop-i-preserved : goal.loop-i-preserved
loop-i-preserved c = let l = c.loop-i in
    let a = c.args in
    ap (λ (x : ℕ). x + 2 * l.m) c.block_mark.ensures.0 ∙ map_front a.image.now a.from l.i l.m (omega arith) (omega arith) l.invariant

pub returns : goal.returns
returns c = let l = c.loop-i in
    let a = c.args in
    let e : a.from + l.i * 64 ≡ a.from = omega arith in
    let f : 8 - l.i ≡ 8 = omega arith in
    let g : l.m ≡ mask_of is_filled (blocks_from 64 a.image.now a.from 8) = rw (e, f) at l.invariant in
    (g, omega (arith, g, map_small a.image.now a.from 8 (omega arith)))
