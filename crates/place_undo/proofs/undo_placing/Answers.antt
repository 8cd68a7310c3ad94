use native.Mathlib.Omega.{arith}
use Rattle.numbers.specs.Measures.{measures_of}
use Rattle.storage.proofs.Read.{records_count}
use Rattle.place_undo.proofs.Undoing.{undo_nothing}
use Rattle.place_undo.proofs.undo_placing.Goals as goal

pub rows-requires : goal.rows-requires
rows-requires c = c.requires.measured.most_blocks

pub returns-then-rows-n : goal.returns-then-rows-n
returns-then-rows-n c = undo_nothing (measures_of c.args.m) c.args.pool.now c.args.records.now c.requires c.args.k.0 (omega (arith, c.rows.ensures, records_count c.args.m.blocks c.args.records.now))

pub undo_record-requires : goal.undo_record-requires
undo_record-requires c = (c.requires, omega (arith, c.rows.ensures, records_count c.args.m.blocks c.args.records.now))
