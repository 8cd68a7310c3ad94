use native.Mathlib.Omega.{arith}
use mathlib.Core.Path.{sym, ◌∙◌}
use lib.ListN.{length}
use lib.Seq.{length-take-le}
use Rattle.numbers.specs.Measures.{measures_of}
use Rattle.backup_steps.proofs.Steps.{prev_fits, turned_settling, turned_settled}
use Rattle.backup_steps.proofs.turn_with.Goals as goal

pub slice_bounds-turn_pointers-end-2 : goal.slice_bounds-turn_pointers-end-2
slice_bounds-turn_pointers-end-2 c = sym (length-take-le (length c.args.prev.now) c.args.targets.now (omega (arith, c.requires.turn_pre.0.pointers.few, c.requires.turn_pre.1)))

pub turn_pointers-count-requires : goal.turn_pointers-count-requires
turn_pointers-count-requires c = (c.requires.turn_pre.0.short, c.requires.turn_pre.0.stored, length-take-le (length c.args.prev.now) c.args.targets.now (omega (arith, c.requires.turn_pre.0.pointers.few, c.requires.turn_pre.1)), omega (arith, c.requires.turn_pre.0.pointers.few, c.requires.turn_pre.2), prev_fits _ _ _ c.requires.turn_pre.0.pointers)

pub remove_or_take_back-requires : goal.remove_or_take_back-requires
remove_or_take_back-requires c = let t = c.turn_pointers-count in
    record { remove_pre = (turned_settling (measures_of c.args.m) c.args.image.now c.args.pool.now c.args.records.now c.args.prev.now c.args.placed.now c.requires.turn_pre.0 t.new.out t.result c.segments-segments.result t.ensures.1 c.segments-segments.ensures t.ensures.2 (t.auto.out ∙ c.requires.turn_pre.2), c.requires.turn_pre.3); free_value = c.requires.free_value }

pub returns : goal.returns
returns c = let t = c.turn_pointers-count in
    turned_settled (measures_of c.args.m) c.args.image.now c.args.pool.now c.args.records.now c.args.prev.now c.args.placed.now c.requires.turn_pre.0 t.new.out t.result c.segments-segments.result t.ensures.1 c.segments-segments.ensures c.args.limit.others c.args.limit.most _ _ _ _ c.remove_or_take_back.ensures t.ensures.0
