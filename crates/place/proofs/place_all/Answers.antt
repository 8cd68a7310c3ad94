use lib.ListN.{length}
use Rattle.model.specs.Table.{cells_in}
use Rattle.numbers.specs.Measures.{measures_of}
use Rattle.storage.proofs.Inside.{cell_inside}
use Rattle.storage.proofs.Read.{stored_records}
use Rattle.place.proofs.Marked.{marked_free, marked_length}
use Rattle.place.proofs.place_all.Goals as goal

pub take_all-requires : goal.take_all-requires
take_all-requires c = let st = c.requires.0.stored in
    record { n_bound = (st.measured.most_blocks, stored_records _ st, st.short); by_index = rw (marked_length (length (cells_in c.args.m.bytes c.args.pool.now)) c.args.free.now c.requires.1) (cell_inside st) }

pub place_segments-requires : goal.place_segments-requires
place_segments-requires c = (c.requires.0, marked_free (measures_of c.args.m) c.args.pool.now c.args.records.now c.args.free.now _ c.requires.1 c.take_all.ensures, c.requires.2)
