use Rattle.std.proofs.Common.{arith, sym, ◌∙◌, ◌-◌, ◌<◌, length}
use Rattle.lists.proofs.Places.{rows_few}
use Rattle.model.specs.Measures.{record_words}
use Rattle.model.specs.Table.{records_in}
use Rattle.storage.proofs.Read.{records_count, row_part_lem}
use Rattle.place_free.proofs.Rest.{rest_down, rest_none}
use Rattle.place_free.proofs.used_records.Goals as goal

pub loop-last-init : goal.loop-last-init
loop-last-init c = let ws = c.args.records.now in
    let w = record_words c.args.n in
    (omega (arith, c.rows-last.ensures, records_count c.args.n ws), omega (arith, c.rows-last.ensures, rows_few (length ws) w (omega arith) 4096 c.requires.2), rest_none (records_in c.args.n ws) c.rows-last.result (omega (arith, c.rows-last.ensures, records_count c.args.n ws)))

pub loop-last-preserved : goal.loop-last-preserved
loop-last-preserved c = let l = c.loop-last in
    let ws = c.args.records.now in
    let h : l.last - 1 < length (records_in c.args.n ws) = omega (arith, l.invariant.0) in
    let e = row_part_lem c.args.n ws (records_in c.args.n ws) c.requires.1 (l.last - 1) h c.word-start.result c.row_words-width.result c.word-start.ensures c.row_words-width.ensures.0 in
    (omega (arith, l.invariant.0), omega (arith, l.invariant.1), rest_down (records_in c.args.n ws) (l.last - 1) l.last (omega arith) (sym c.if-not-row_free.false ∙ c.row_free.ensures _ e) l.invariant.2)
