use native.Mathlib.Omega.{arith}
use Prim.Native.Nat.{◌*◌, ◌≤◌}
use mathlib.Core.Path.{◌∙◌}
use native.Mathlib.Nat.{mul-le-mul}
use Rattle.sent_prints.proofs.Digests.{given, digest_start, digest_next, digest_end}
use Rattle.sent_prints.proofs.record_digest.Goals as goal

pub loop-i-init : goal.loop-i-init
loop-i-init c = λ s seg e l q. digest_start (given c.args.bytes c.args.n c.args.pool.now c.args.row.now s seg e l q c.requires.1 c.requires.2 c.requires.4) _ c.start-h.ensures

pub absorb_position-h-requires : goal.absorb_position-h-requires
absorb_position-h-requires c = (omega arith, omega arith, c.requires.1 c.loop-i.i (omega arith), c.requires.2, c.requires.3, c.requires.4)

pub loop-i-preserved : goal.loop-i-preserved
loop-i-preserved c = let k = c.loop-i in
    λ s seg e l q. digest_next (given c.args.bytes c.args.n c.args.pool.now c.args.row.now s seg e l q c.requires.1 c.requires.2 c.requires.4) (k.invariant s seg e l q) (omega arith) _ (λ p x y z. c.absorb_position-h.ensures s p e x y z)

pub overflow_mul-n : goal.overflow_mul-n
overflow_mul-n c = let p : c.args.n * c.args.bytes ≤ 8192 = mul-le-mul c.requires.5 c.requires.3 in
    omega (arith, p)

pub returns : goal.returns
returns c = λ s seg e l q.
    let k = c.loop-i in
    c.finish_whole.ensures
    ∙ digest_end (given c.args.bytes c.args.n c.args.pool.now c.args.row.now s seg e l q c.requires.1 c.requires.2 c.requires.4) (k.invariant s seg e l q) c.args.n _ l (omega arith) (omega arith)
