use Rattle.std.proofs.Common.{◌≡◌, sym, length, arith, rules}
use Rattle.lists.specs.Written.{written}
use Rattle.records.proofs.Records.{few_of, part_of}
use Rattle.records.proofs.Words.{store_all}
use Rattle.records.proofs.Record.store.Goals as goal

pub slice_bounds-cells-end : goal.slice_bounds-cells-end
slice_bounds-cells-end c =
    let sixteen : length c.args.self.cells ≡ 16 = search rules in
    omega (arith, few_of _ _ c.requires.formed, sixteen)

pub slice_bounds-put_at-end-2 : goal.slice_bounds-put_at-end-2
slice_bounds-put_at-end-2 c = sym (part_of c.args.self.cells _ (search rules) (few_of _ _ c.requires.formed))

pub put_at-requires-2 : goal.put_at-requires-2
put_at-requires-2 c = omega (arith, part_of c.args.self.cells c.args.n (search rules) (few_of _ _ c.requires.formed))

pub slice_bounds-counts-end : goal.slice_bounds-counts-end
slice_bounds-counts-end c =
    let sixteen : length c.args.self.counts ≡ 16 = search rules in
    omega (arith, few_of _ _ c.requires.formed, sixteen)

pub slice_bounds-put_at-end-3 : goal.slice_bounds-put_at-end-3
slice_bounds-put_at-end-3 c = sym (part_of c.args.self.counts _ (search rules) (few_of _ _ c.requires.formed))

pub put_at-requires-3 : goal.put_at-requires-3
put_at-requires-3 c = omega (arith, part_of c.args.self.cells c.args.n (search rules) (few_of _ _ c.requires.formed), part_of c.args.self.counts c.args.n (search rules) (few_of _ _ c.requires.formed))

pub returns : goal.returns
unfolding written
returns c = rw (sym c.word-at.ensures) (store_all _ _ _ _ _ _ _ c.requires.formed.0 c.requires.formed.1 (omega (arith, c.requires.n_in_bounds, c.word-at.ensures)) c.put_at.ensures c.put_at-2.ensures c.put_at-3.ensures)
