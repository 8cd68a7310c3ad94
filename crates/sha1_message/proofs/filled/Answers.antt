use Rattle.std.proofs.Common.{ℕ, ◌*◌, [], replicate, ap, ◌∙◌}
use lib.ListN.{length-replicate}
use Rattle.sha1_definition.specs.declared.State.{State}
use Rattle.sha1_definition.specs.Sha1.{absorbed}
use Rattle.sha1_definition.specs.Chunks.{finished}
use Rattle.sha1_definition.proofs.Messages.{by_parts}
use Rattle.sha1_message.proofs.filled.Goals as goal

pub returns : goal.returns
returns c = let a = c.args in
    c.finish_whole.ensures
    ∙ ap (λ (s : State). finished s [] a.chunks)
    (c.absorb_same-s.ensures ∙ ap (λ (s : State). absorbed s (replicate (64 * a.chunks) a.byte)) c.start.ensures)
    ∙ by_parts (replicate (64 * a.chunks) a.byte) a.chunks (length-replicate {0} {A = ℕ} (64 * a.chunks) a.byte)
