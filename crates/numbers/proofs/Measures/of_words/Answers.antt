use Rattle.std.proofs.Common.{◌∙◌, lit<}
use Rattle.numbers.proofs.Header.{some_word, no_word}
use Rattle.numbers.proofs.Measures.of_words.Goals as goal
use Rattle.numbers.proofs.Measures.of_words.Goals.{in_default-via-in-0+in-0-blocks+in_default, in_default-via-in-0+in_default, in_default-via-in_default}

pub returns-in-0-eq0-eq0 : goal.returns-in-0-eq0-eq0
returns-in-0-eq0-eq0 c = let w = c.in-0-eq0-eq0 in
    c.base.ensures.0 ∙ no_word _ _ _ w.is-0 w.is-1 w.is-2

pub returns-in_default : goal.returns-in_default
returns-in_default c = elim c.in_default.branch [
  | in_default-via-in-0+in-0-blocks+in_default w ↦ c.chosen.ensures ∙ some_word _ _ _ 2 (lit< tt) w.in_default.is-2.1
  | in_default-via-in-0+in_default w ↦ c.chosen.ensures ∙ some_word _ _ _ 1 (lit< tt) w.in_default.is-1.1
  | in_default-via-in_default w ↦ c.chosen.ensures ∙ some_word _ _ _ 0 (lit< tt) w.in_default.is-0.1
]
