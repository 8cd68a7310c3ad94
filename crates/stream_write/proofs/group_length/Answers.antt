use native.Mathlib.Omega.{arith}
use mathlib.Core.Path.{sym, ap, ◌∙◌}
use Prim.Native.Nat.{ℕ, ◌+◌, ◌*◌, ◌≤◌}
use lib.Count.{ones}
use Rattle.stream_write.proofs.Laws.{group_size}
use Rattle.stream_write.proofs.group_length.Goals as goal

pub overflow_cast-result : goal.overflow_cast-result
overflow_cast-result c =
    let few : ones c.group_map-ones.result ≤ 8 = (let a = c.args in
    rw c.group_map-ones.ensures.0 (group_size a.image.now a.from).1) in
    omega (arith, few)

pub overflow_mul-result : goal.overflow_mul-result
overflow_mul-result c =
    let few : ones c.group_map-ones.result ≤ 8 = (let a = c.args in
    rw c.group_map-ones.ensures.0 (group_size a.image.now a.from).1) in
    omega (arith, few)

pub overflow_add-result : goal.overflow_add-result
overflow_add-result c =
    let few : ones c.group_map-ones.result ≤ 8 = (let a = c.args in
    rw c.group_map-ones.ensures.0 (group_size a.image.now a.from).1) in
    omega (arith, few)

pub returns : goal.returns
returns c =
    let few : ones c.group_map-ones.result ≤ 8 = (let a = c.args in
    rw c.group_map-ones.ensures.0 (group_size a.image.now a.from).1) in
    let a = c.args in
    (ap (λ (m : ℕ). 1 + 64 * ones m) c.group_map-ones.ensures.0 ∙ sym (group_size a.image.now a.from).0, omega (arith, few))
