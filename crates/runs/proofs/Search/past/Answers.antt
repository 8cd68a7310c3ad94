use Rattle.std.proofs.Common.{rules, arith, sym}
use Rattle.runs.specs.Runs.{run_found}
use Rattle.runs.proofs.Runs.{scan_free, scan_taken}
use Rattle.runs.proofs.Search.past.Goals as goal

pub returns-then-free : goal.returns-then-free
returns-then-free c = let a = c.args in
    (search rules, search rules, λ fs. rw c.if-free.true (sym (scan_free a.need a.n fs a.self.at a.self.run (run_found a.self.best))))

pub returns-else-free : goal.returns-else-free
returns-else-free c = let a = c.args in
    (search rules, search rules, λ fs. rw (c.if-free.false, c.or.ensures) (sym (scan_taken a.need (omega arith) a.n fs a.self.at a.self.run (run_found a.self.best) (omega arith))))
