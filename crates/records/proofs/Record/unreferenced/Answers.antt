use Rattle.std.proofs.Common.{ap, ◌∙◌, ℕ, Bool, cond, arith, rules}
use Rattle.records.proofs.Records.{used_few, unreferenced_start, unreferenced_next, unreferenced_small, bit_of, bit_small}
use Rattle.records.proofs.Record.unreferenced.Goals as goal

pub loop-i-init : goal.loop-i-init
loop-i-init c = (c.requires, search rules, used_few _ c.requires, unreferenced_start _ c.requires)

pub overflow_mul-mask : goal.overflow_mul-mask
overflow_mul-mask c = let i = c.loop-i.invariant in
    omega (arith, i.3, unreferenced_small _ i.0 c.loop-i.i)

pub overflow_add-mask : goal.overflow_add-mask
overflow_add-mask c = let i = c.loop-i.invariant in
    omega (arith, i.3, unreferenced_small _ i.0 c.loop-i.i, c.from.ensures, bit_small c.unused.result)

pub loop-i-preserved : goal.loop-i-preserved
loop-i-preserved c =
    let l = c.loop-i in
    let i = l.invariant in
    let u = c.from.ensures ∙ bit_of c.unused.result ∙ ap (λ (b : Bool). cond {A = ℕ} b 1 0) c.unused.ensures in
    (i.0, omega arith, i.2, unreferenced_next _ i.0 l.i _ _ (omega arith) i.1 i.3 u)
