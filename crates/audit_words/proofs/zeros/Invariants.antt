use Rattle.std.proofs.Common.{◌≡◌, false, cond, drop}
use Rattle.lists.specs.Lists.{all_zero}
use Rattle.audit_words.proofs.zeros.Given as goal

abbrev pub invariant-loop-word : goal.invariant-loop-word
invariant-loop-word l = cond l.good (all_zero (drop l.word-index l.words)) false ≡ all_zero l.words
