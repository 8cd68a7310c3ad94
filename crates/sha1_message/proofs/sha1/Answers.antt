use Rattle.std.proofs.Common.{ℕ, ◌++◌, length, ◌∙◌, ap₂, zero-add}
use Rattle.sha1_definition.specs.declared.State.{State}
use Rattle.sha1_definition.specs.Sha1.{absorbed, padding, digest_in, digest}
use Rattle.sha1_definition.specs.Chunks.{finished}
use Rattle.sha1_message.proofs.sha1.Goals as goal

pub returns : goal.returns
unfolding digest finished
returns c = let m = c.args.message.now in
    c.finish.ensures ∙ ap₂ (λ (s : State) (n : ℕ). digest_in (absorbed s (m ++ padding n))) c.start.ensures (zero-add (length m))
