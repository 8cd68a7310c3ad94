use Rattle.std.proofs.Common.{◌≡◌, ℕ, List, ◌++◌, take, drop}
use Rattle.sha1_definition.specs.Sha1.{schedule}
use Rattle.sha1_chunk.proofs.extend.Given as goal

abbrev pub invariant-loop-t : goal.invariant-loop-t
invariant-loop-t l = (chunk : List ℕ) → take 16 l.initial.words ≡ schedule chunk 16 → l.words ≡ schedule chunk l.t ++ drop l.t l.initial.words
