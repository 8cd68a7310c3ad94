use native.Mathlib.Omega.{arith}
use Rattle.numbers.specs.Measures.{measures_of}
use Rattle.turn.specs.Turn.{target_of}
use Rattle.lists.proofs.Maps.{map_end, map_more}
use Rattle.turn.proofs.find_targets.Goals as goal

pub loop-b-preserved : goal.loop-b-preserved
loop-b-preserved c = let l = c.loop-b in
    map_more (target_of (measures_of c.args.m) c.args.image.now c.args.pool.now c.args.records.now) c.args.pointers.now c.args.targets.now l.targets l.b _ (omega arith) c.requires.2 l.invariant c.target_of.ensures

pub returns : goal.returns
returns c = let l = c.loop-b in
    map_end (target_of (measures_of c.args.m) c.args.image.now c.args.pool.now c.args.records.now) c.args.pointers.now c.args.targets.now l.targets l.b (omega arith) c.requires.2 l.invariant
