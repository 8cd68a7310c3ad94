use Rattle.model.specs.Table.{storage_in}
use Rattle.numbers.specs.Measures.{measures_of}
use Rattle.place_undo.specs.Undo.{undo_upto}
use Rattle.place_undo.proofs.Undoing.{Going}
use Rattle.place_undo.proofs.undo_all.Given as goal

abbrev pub invariant-loop-j : goal.invariant-loop-j
invariant-loop-j l = Going (measures_of l.m) l.placed (undo_upto (measures_of l.m) l.placed l.count (storage_in (measures_of l.m) l.initial.pool l.initial.records)) l.initial.pool l.initial.records l.pool l.records l.j
