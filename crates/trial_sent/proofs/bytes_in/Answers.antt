use Rattle.std.proofs.Common.{◌*◌, ◌≤◌, mul-le-mul, arith}
use Rattle.trial_sent.proofs.bytes_in.Goals as goal

pub overflow_mul-result : goal.overflow_mul-result
overflow_mul-result c = let p : c.args.n * c.args.width ≤ 16 * 8192 = mul-le-mul c.requires.0 c.requires.1 in
    omega (arith, p)
