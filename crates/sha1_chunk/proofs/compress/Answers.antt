use Rattle.std.proofs.Common.{ℕ, List, replicate, ap, ◌∙◌}
use Rattle.sha1_definition.specs.Sha1.{added, compress, rounds}
use Rattle.sha1_chunk.proofs.Schedule.{loaded_first}
use Rattle.sha1_chunk.proofs.compress.Goals as goal

pub returns : goal.returns
unfolding compress
returns c = let chunk = c.args.chunk.now in
    let s = c.args.h in
    c.add.ensures
    ∙ ap (added s)
    (c.all_rounds.ensures
    ∙ ap (λ (w : List ℕ). rounds w 0 80 s) (c.extend.ensures chunk (loaded_first chunk (replicate 80 0) c.load.new.words c.load.ensures)))
