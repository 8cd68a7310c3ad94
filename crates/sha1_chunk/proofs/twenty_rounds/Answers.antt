use Rattle.std.proofs.Common.{◌+◌, ◌<◌, ◌≤◌, sym, ◌∙◌, arith}
use Rattle.sha1_chunk.proofs.Rounds.{next_round, rounds_none}
use Rattle.sha1_chunk.proofs.twenty_rounds.Goals as goal

pub loop-t-preserved : goal.loop-t-preserved
loop-t-preserved g c = let l = c.loop-t in
    let low : c.args.from ≤ l.t = omega arith in
    let high : l.t < c.args.from + 20 = omega arith in
    next_round c.args.words.now l.t (c.args.from + 20) c.mix.result c.args.kt l.s c.turn-s.result high (c.requires.mixes l.t l.s.b l.s.c l.s.d c.mix.result low high c.mix.ensures) (c.requires.constant l.t low high) c.turn-s.ensures
    ∙ l.invariant

pub returns : goal.returns
returns g c = sym (rounds_none c.args.words.now c.loop-t.t (c.args.from + 20) c.loop-t.s (omega arith)) ∙ c.loop-t.invariant
