use Rattle.std.proofs.Common.{rules, ◌≤◌, ℕ}
use Rattle.std.specs.Prelude.{◌↔◌, IsTrue}
use Rattle.std.specs.List.{All}
use Rattle.sent_accept.proofs.Fits.{marks_every}
use Rattle.sent_accept.proofs.marks_valid.Goals as goal

pub returns : goal.returns
returns c = let a : (IsTrue c.all.result ↔ All (λ (i : ℕ). i ≤ 1) c.args.marks.now) = search rules in marks_every c.all.result c.args.marks.now a
