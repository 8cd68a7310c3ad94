use Rattle.std.proofs.Common.{rules, ◌≡◌, ◌∙◌, ◌≤◌, arith}
use Rattle.std.specs.Prelude.{sum}
use Rattle.sent_accept.proofs.Fits.{sum_total}
use Rattle.sent_accept.proofs.marked.Goals as goal

pub sum-requires-clause-fits : goal.sum-requires-clause-fits
sum-requires-clause-fits c = let h : sum c.args.marks.now ≤ 256 = omega (arith, sum_total c.args.marks.now, c.requires) in search rules

pub returns : goal.returns
returns c = let e : c.sum.result ≡ sum c.args.marks.now = search rules in e ∙ sum_total c.args.marks.now
