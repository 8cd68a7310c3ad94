use Rattle.std.proofs.Common.{◌≡◌, ℕ, ◌≤◌, get_or}
use Rattle.lists.specs.Walk.{next_same}
use Rattle.lists.proofs.Walks.{Walked}
use Rattle.place_words.proofs.step_each.Given as goal

-- the words to come are the old ones, and each rule that the step keeps has rewritten those before
abbrev pub invariant-loop-word : goal.invariant-loop-word
invariant-loop-word g l = ((j : ℕ) → l.word-index ≤ j → get_or l.words j 0 ≡ get_or l.initial.words j 0) × ((out : ℕ → ℕ → ℕ) → ((b x y : ℕ) → goal.F-post g l.step b x y → y ≡ out b x) → Walked (λ b a x. out b x) next_same l.mask 0 l.initial.words l.m 0 l.word-index l.words)
