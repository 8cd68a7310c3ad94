use Rattle.std.proofs.Common.{arith, sym, ◌∙◌, ◌≡◌, ◌+◌, [], ◌∷◌, ◌++◌, get_or, length, length-append}
use Rattle.model.specs.Table.{records_in}
use Rattle.storage.proofs.Row.{cells_below}
use Rattle.place_free.proofs.Chunked.{chunk_end, chunk_inside, chunk_length, chunk_next, chunk_row, chunk_sized}
use Rattle.place_free.proofs.Searches.{named_done, named_step}
use Rattle.place_free.proofs.take_all.Goals as goal

pub take_row-requires : goal.take_row-requires
take_row-requires c =
    let i = c.loop-row.invariant in
    let n = c.in-Some.ensures.steps in
    let r = c.requires.n_bound.1 in
    let k = length c.loop-row.yielded in (
      c.requires.n_bound.0,
      chunk_length i.2 r _ _ n.1.0 n.1.1,
      rw i.3 (cells_below c.args.n _ (get_or (records_in c.args.n c.args.records.now) k []) (chunk_sized i.2 r _ _ n.1.0 n.1.1) (λ j. c.requires.by_index k j) _ (chunk_row i.2 r _ _ n.1.0 n.1.1)),
    )

pub loop-row-preserved : goal.loop-row-preserved
loop-row-preserved c =
    let i = c.loop-row.invariant in
    let n = c.in-Some.ensures.steps in
    let r = c.requires.n_bound.1 in
    let ys = c.loop-row.yielded in
    let e : length (ys ++ c.in-Some.row ∷ []) ≡ length ys + 1 = length-append ys (c.in-Some.row ∷ []) in
    let next = chunk_next i.2 r _ _ n.1.0 n.1.1 in (
      omega (arith, n.0, i.0),
      tt,
      rw (e, n.0) next,
      omega (arith, i.3),
      rw (e, c.take_row.ensures _ (chunk_sized i.2 r _ _ n.1.0 n.1.1) (chunk_row i.2 r _ _ n.1.0 n.1.1)) (sym (named_step (records_in c.args.n c.args.records.now) (length ys) c.loop-row.free (chunk_inside i.2 r _ _ n.1.0 n.1.1)) ∙ i.4),
    )

pub returns : goal.returns
returns c =
    let i = c.loop-row.invariant in
    let k = length c.loop-row.yielded in
    sym (named_done (records_in c.args.n c.args.records.now) k c.loop-row.free (chunk_end i.2 c.requires.n_bound.1 c.in-None.ensures.steps.1.0)) ∙ i.4
