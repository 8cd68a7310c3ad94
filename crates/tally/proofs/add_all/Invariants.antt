use Rattle.std.proofs.Common.{◌≡◌, ◌+◌, drop}
use Rattle.tally.specs.Answers.{sum}
use Rattle.tally.proofs.add_all.Given as goal

abbrev pub invariant-loop-word : goal.invariant-loop-word
invariant-loop-word l = l.n + sum (drop l.word-index l.words) ≡ sum l.words
