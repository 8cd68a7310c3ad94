use Rattle.std.proofs.Common.{◌≡◌, ℕ, ◌*◌, replicate, ap, ◌∙◌, arith}
use Rattle.sha1_definition.specs.declared.State.{State}
use Rattle.sha1_definition.specs.Sha1.{compress, absorbed}
use Rattle.sha1_message.proofs.Loops.{same_none, same_more}
use Rattle.sha1_message.proofs.absorb_same.Goals as goal

pub loop-init : goal.loop-init
loop-init c = same_none c.args.h c.args.byte

pub loop-preserved : goal.loop-preserved
loop-preserved c = let l = c.«loop» in
    let a = c.args in
    c.compress_filled-s.ensures ∙ ap (λ (s : State). compress s (replicate 64 a.byte)) l.invariant ∙ same_more a.h a.byte l.counter

pub returns : goal.returns
returns c = let a = c.args in
    let e : c.«loop».counter ≡ a.chunks = omega arith in
    c.«loop».invariant ∙ ap (λ (i : ℕ). absorbed a.h (replicate (64 * i) a.byte)) e
