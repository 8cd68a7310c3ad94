use Rattle.std.proofs.Common.{◌≡◌, ◌++◌, drop}
use Rattle.sha1_definition.specs.Sha1.{schedule}
use Rattle.sha1_chunk.proofs.load.Given as goal

abbrev pub invariant-loop-t : goal.invariant-loop-t
invariant-loop-t l = l.words ≡ schedule l.chunk l.t ++ drop l.t l.initial.words
