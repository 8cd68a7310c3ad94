use Rattle.std.proofs.Common.{◌≡◌, ◌∙◌, arith}
use Rattle.numbers.specs.Measures.{measures_of}
use Rattle.refusals.specs.Refusals.{refusal_of}
use Rattle.backup_steps.proofs.Steps.{free_so, stored_so, turnable_so}
use Rattle.backup_steps.proofs.store_image_with.Goals as goal

pub turn_and_sweep-requires : goal.turn_and_sweep-requires
turn_and_sweep-requires c =
    let p = c.place_all in
    let z : refusal_of p.result ≡ 0 = grind arith in
    record {
      turn_pre = (
        turnable_so (measures_of c.args.m) c.args.image.now c.args.pool.now c.args.records.now c.args.words.now c.args.prev.now c.requires.store_pre.0 c.args.limit.others c.args.limit.most _ _ _ _ p.new.words p.new.free p.ensures z (p.auto.placed ∙ c.requires.store_pre.1),
        c.requires.store_pre.2,
      );
      free_value = free_so (measures_of c.args.m) c.args.image.now c.args.pool.now c.args.records.now c.args.words.now c.args.prev.now c.requires.store_pre.0 c.args.limit.others c.args.limit.most _ p.new.pool p.new.records p.new.placed p.new.words p.new.free p.ensures z;
    }

pub returns : goal.returns
returns c =
    let p = c.place_all in
    let z : refusal_of p.result ≡ 0 = grind arith in
    stored_so (measures_of c.args.m) c.args.image.now c.args.pool.now c.args.records.now c.args.words.now c.args.prev.now c.requires.store_pre.0 c.args.limit.others c.args.limit.most _ p.new.pool p.new.records p.new.placed _ p.new.free p.ensures z _ _ _ _ c.turn_and_sweep.ensures
