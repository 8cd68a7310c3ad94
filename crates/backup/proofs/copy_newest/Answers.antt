use Rattle.backup.proofs.Tills.{till_room, few_read, held_read}
use Rattle.backup.proofs.Joined.{till_in_lem, till_part}
use Rattle.laws.proofs.Stores.{header}
use native.Mathlib.Omega.{arith}
use Rattle.backup.proofs.copy_newest.Goals as goal

pub bounds-table-2 : goal.bounds-table-2
bounds-table-2 c = omega (arith, (header c.requires.0).eight)

pub overflow_cast-b : goal.overflow_cast-b
overflow_cast-b c = omega (arith, (header c.requires.0).blocks)

pub till_words-requires : goal.till_words-requires
till_words-requires c = header c.requires.0

pub overflow_add-end : goal.overflow_add-end
overflow_add-end c = let p = c.requires in let (x, y, z) = till_in_lem p.0 _ p.1 _ _ p.2 c.till_words.ensures in omega (arith, x, y, z)

pub offset_bounds-table-at : goal.offset_bounds-table-at
offset_bounds-table-at c = let p = c.requires in let (x, y, z) = till_in_lem p.0 _ p.1 _ _ p.2 c.till_words.ensures in omega (arith, x, y, z)

pub slice_bounds-newest_pointers-count : goal.slice_bounds-newest_pointers-count
slice_bounds-newest_pointers-count c = let p = c.requires in let (x, y, z) = till_in_lem p.0 _ p.1 _ _ p.2 c.till_words.ensures in omega (arith, x, y, z)

pub slice_bounds-newest_pointers-start : goal.slice_bounds-newest_pointers-start
slice_bounds-newest_pointers-start c = let p = c.requires in let (x, y, z) = till_in_lem p.0 _ p.1 _ _ p.2 c.till_words.ensures in omega (arith, x, y, z)

pub slice_bounds-newest_pointers-end : goal.slice_bounds-newest_pointers-end
slice_bounds-newest_pointers-end c = let p = c.requires in let (x, y, z) = till_in_lem p.0 _ p.1 _ _ p.2 c.till_words.ensures in omega (arith, x, y, z)

pub newest_pointers-requires : goal.newest_pointers-requires
newest_pointers-requires c = let p = c.requires in let e = till_part p.0 _ p.1 _ _ p.2 c.till_words.ensures in let f = few_read p.0 _ p.1 _ p.4 _ e in (till_room p.0 _ p.1 _ e, f.0, omega (arith, (header p.0).blocks, p.3), f.1, f.2)

pub returns : goal.returns
returns c = let p = c.requires in (c.newest_pointers.ensures.0 _ _ (held_read p.0 _ p.1 _ p.4) (till_part p.0 _ p.1 _ _ p.2 c.till_words.ensures), c.newest_pointers.ensures.1)
