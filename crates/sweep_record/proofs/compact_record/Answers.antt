use Rattle.std.proofs.Common.{arith, ap, refl, sym, ◌∙◌, ◌≡◌, ◌-◌, ◌<◌, ◌≤◌}
use lib.Count.{ones}
use Rattle.numbers.specs.declared.Cell.{Cell}
use Rattle.runs.specs.Runs.{run_found}
use Rattle.runs.specs.declared.Run.{Run}
use Rattle.runs.proofs.Runs.{found_long, run_none, run_some}
use Rattle.sweep_laws.specs.Ways.{referenced_at}
use Rattle.sweep_laws.proofs.Results.{record_pre, need_ones}
use Rattle.sweep_laws.proofs.Sweeps.{recoded, run_chosen, run_missing}
use Rattle.sweep_record.proofs.compact_record.Goals as goal

pub overflow_sub-keep : goal.overflow_sub-keep
overflow_sub-keep c =
    let y = record_pre _ _ _ _ _ _ _ c.requires.stored_marked c.requires.loaded in
    y.within

pub best_run-requires : goal.best_run-requires
best_run-requires c =
    let start-ones : ones (c.args.old.held - c.args.unreferenced) ≡ referenced_at c.args.m.blocks c.args.words.now c.args.number.0 = (need_ones _ _ _ _ _ _ _ c.requires.stored_marked c.requires.loaded) in
    (omega (arith, start-ones, c.requires.number_nonzero), omega (arith, c.requires.stored_marked.few))

pub move_record-requires-clause-chosen : goal.move_record-requires-clause-chosen
move_record-requires-clause-chosen c =
    let start-ones : ones (c.args.old.held - c.args.unreferenced) ≡ referenced_at c.args.m.blocks c.args.words.now c.args.number.0 = (need_ones _ _ _ _ _ _ _ c.requires.stored_marked c.requires.loaded) in
    let run = c.in-Some.run' in
    let long : ones (c.args.old.held - c.args.unreferenced) ≤ run.size = found_long _ _ _ c.in-Some.ensures in
    let some_cells : 0 < run.size = omega (arith, long, start-ones, c.requires.number_nonzero) in
    run_chosen _ _ _ _ c.requires.stored_marked _ _ start-ones run
    (run_some run.start.0 run.size (λ z. omega (arith, z, some_cells)) ∙ c.in-Some.ensures)
    c.requires.number_nonzero (λ z. omega (arith, z, some_cells))

-- no run stands for a run of no cells
no_run : Run
no_run = record { start = record { 0 = 0 }; size = 0 }

pub returns-in-None : goal.returns-in-None
unfolding no_run
returns-in-None c =
    let start-ones : ones (c.args.old.held - c.args.unreferenced) ≡ referenced_at c.args.m.blocks c.args.words.now c.args.number.0 = (need_ones _ _ _ _ _ _ _ c.requires.stored_marked c.requires.loaded) in
    recoded (run_missing _ _ _ _ c.requires.stored_marked _ _ start-ones no_run (run_none 0 0 refl ∙ sym (ap run_found c.in-None.is) ∙ c.best_run.ensures) refl) c.strike_record.ensures
