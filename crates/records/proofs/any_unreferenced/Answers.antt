use native.Mathlib.Omega.{arith}
use mathlib.Core.Path.{◌∙◌, sym}
use Prim.Native.Nat.{ℕ, ◌+◌, ◌-◌}
use Rattle.lists.proofs.Checkers.{is_not}
use Rattle.records.proofs.Unreferenced.{none_held, row_held, row_counts}
use Rattle.records.proofs.any_unreferenced.Goals as goal

pub returns-then-words-at-eq0 : goal.returns-then-words-at-eq0
returns-then-words-at-eq0 c = λ seg l q.
    let a = c.args in
    let w = c.word-at.ensures in
    is_not (λ x. omega (arith, none_held seg (sym (row_held a.words.now _ a.n seg l (rw w q)) ∙ c.if-words-at-eq0.true)))

pub returns : goal.returns
returns c = λ seg l q.
    let w = c.word-at in
    let from : ℕ = w.result + 3 + c.args.n in
    c.any_unused.ensures seg (row_held c.args.words.now w.result c.args.n seg l (rw w.ensures q))
    (row_counts c.args.words.now w.result c.args.n seg l (rw w.ensures q) c.requires.0 (omega (arith, w.ensures, c.requires.1)) (from + c.args.n - from) (omega arith))
