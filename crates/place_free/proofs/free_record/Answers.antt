use Rattle.std.proofs.Common.{arith, rules, ap, sym, ◌∙◌, [], length}
use Rattle.std.proofs.Math.Option.{some}
use Rattle.std.specs.Iterator.Adapters.{enumerate_count}
use Rattle.model.specs.Records.{is_free}
use Rattle.model.specs.Table.{records_in}
use Rattle.lists.proofs.Puts.{as_none, as_some, first_end, first_no, first_yes}
use Rattle.place_free.proofs.Chunked.{chunk_end, chunk_inside, chunk_next, chunk_row}
use Rattle.place_free.proofs.free_record.Goals as goal

pub returns-then-row_free : goal.returns-then-row_free
returns-then-row_free c =
    let i = c.loop-k.invariant in
    let n = c.in-Some.ensures.steps in
    let k = enumerate_count c.loop-k.k-iterator in
    let segs = records_in c.args.n c.args.records.now in
    let below = chunk_inside i.2 c.requires.1 _ _ n.0.1.0 n.0.1.1 in
    let e = c.row_free.ensures _ (chunk_row i.2 c.requires.1 _ _ n.0.1.0 n.0.1.1) in
    ap some n.1 ∙ sym (as_some (length segs) k below) ∙ first_yes is_free [] segs k below (sym c.if-row_free.true ∙ e) ∙ i.3

pub loop-k-preserved : goal.loop-k-preserved
loop-k-preserved c =
    let i = c.loop-k.invariant in
    let n = c.in-Some.ensures.steps in
    let segs = records_in c.args.n c.args.records.now in
    let below = chunk_inside i.2 c.requires.1 _ _ n.0.1.0 n.0.1.1 in
    let e = c.row_free.ensures _ (chunk_row i.2 c.requires.1 _ _ n.0.1.0 n.0.1.1) in (
      search rules,
      search rules,
      rw (n.0.0, n.2) (chunk_next i.2 c.requires.1 _ _ n.0.1.0 n.0.1.1),
      rw n.2 (sym (first_no is_free [] segs (enumerate_count c.loop-k.k-iterator) below (sym c.if-row_free.false ∙ e)) ∙ i.3),
    )

pub returns : goal.returns
returns c =
    let i = c.loop-k.invariant in
    let k = enumerate_count c.loop-k.k-iterator in
    let segs = records_in c.args.n c.args.records.now in
    let end = chunk_end i.2 c.requires.1 c.in-None.ensures.steps.0.1.0 in
    sym (as_none (length segs) k end) ∙ first_end is_free [] segs k end ∙ i.3
