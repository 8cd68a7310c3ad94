use Rattle.std.proofs.Common.{◌≡◌, ◌*◌, replicate}
use Rattle.sha1_definition.specs.Sha1.{absorbed}
use Rattle.sha1_message.proofs.absorb_same.Given as goal

abbrev pub invariant-loop : goal.invariant-loop
invariant-loop l = l.s ≡ absorbed l.initial.s (replicate (64 * l.counter) l.byte)
