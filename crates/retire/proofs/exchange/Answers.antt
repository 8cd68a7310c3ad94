use native.Mathlib.Omega.{arith}
use lib.ListN.{length}
use Rattle.laws.proofs.Stores.{header}
use Rattle.model.specs.Table.{records_in}
use Rattle.storage.specs.Fits.{WithinRecords, NamesHeld}
use Rattle.sound_laws.proofs.Records.{stored_read}
use Rattle.retire.proofs.Cases.{records_in_lem, there_read, counts_read, exchanged_read}
use Rattle.retire.proofs.exchange.Goals as goal

pub records_at-records-requires : goal.records_at-records-requires
records_at-records-requires c = header c.requires.sound.0

pub offset_bounds-table-records : goal.offset_bounds-table-records
offset_bounds-table-records c = let (p, q) = records_in_lem c.requires.sound.0 _ c.records_at-records.ensures in omega (arith, p, q)

pub slice_bounds-exchange-count : goal.slice_bounds-exchange-count
slice_bounds-exchange-count c = (records_in_lem c.requires.sound.0 _ c.records_at-records.ensures).0

pub slice_bounds-exchange-start : goal.slice_bounds-exchange-start
slice_bounds-exchange-start c = (records_in_lem c.requires.sound.0 _ c.records_at-records.ensures).0

pub exchange-requires : goal.exchange-requires
exchange-requires c = let e = c.records_at-records.ensures in record {
  stored = stored_read c.requires.sound.0 _ e _ c.requires.sound.1;
  by_index = (
    there_read c.requires.sound.0 _ e _ c.requires.sound.1 (λ n w p. WithinRecords n (length w) p × NamesHeld (records_in n w) p) c.args.taken.now c.requires.by_index,
    there_read c.requires.sound.0 _ e _ c.requires.sound.1 (λ n w p. WithinRecords n (length w) p) c.args.gone.now c.requires.by_index_2,
  );
  by_index_2 = counts_read c.requires.sound.0 _ e _ c.requires.sound.1 _ c.requires.sound.2;
}

pub returns : goal.returns
returns c = exchanged_read c.requires.sound.0 _ c.records_at-records.ensures _ c.requires.sound.1 _ _ _ _ c.exchange.ensures
