use Rattle.std.proofs.Common.{ℕ, List, ◌++◌, take, ap, ◌∙◌, ap₂, arith}
use Rattle.sha1_definition.specs.Sha1.{bytes_of, compress}
use Rattle.sha1_message.proofs.Ends.{ends_once, ends_twice}
use Rattle.sha1_message.proofs.close.Goals as goal

pub returns-then-tail-lt56 : goal.returns-then-tail-lt56
returns-then-tail-lt56 c = let a = c.args in
    let l : List ℕ = bytes_of a.high ++ bytes_of a.low in
    c.compress.ensures
    ∙ ap (compress a.h) (c.with_length-last.ensures ∙ ap (λ (x : List ℕ). take 56 x ++ l) c.padded-chunk.ensures)
    ∙ ends_once a.h a.tail.now a.high a.low c.if-tail-lt56.true

pub returns-else-tail-lt56 : goal.returns-else-tail-lt56
returns-else-tail-lt56 c = let a = c.args in
    c.compress-else-tail-lt56.ensures
    ∙ ap₂ compress (c.compress-s.ensures ∙ ap (compress a.h) c.padded-chunk.ensures) c.with_length-last-else-tail-lt56.ensures
    ∙ ends_twice a.h a.tail.now a.high a.low c.if-tail-lt56.false (omega arith)
