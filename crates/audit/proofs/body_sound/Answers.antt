use native.Mathlib.Omega.{arith}
use mathlib.Core.Bool.{Bool}
use mathlib.Core.Path.{◌≡◌}
use mathlib.Core.List.{List}
use Prim.Native.Nat.{ℕ, ◌+◌, ◌*◌, ◌-◌, ◌≤◌}
use native.Mathlib.Nat.{mul-le-mul_right}
use lib.ListN.{length, get_or, take, drop}
use Rattle.lists.specs.Decides.{Decides}
use Rattle.lists.proofs.Slices.{tail_all}
use Rattle.model.specs.Measures.{Measures, till_words, record_words, records_at}
use Rattle.model.specs.Table.{shape_of}
use Rattle.laws.specs.Stores.{HeaderRanges}
use Rattle.laws.proofs.Measures.{sizes}
use Rattle.audit.specs.Sound.{Sized, Body, TableBody}
use borrow.Author.Rules.{rules}
use Rattle.audit.proofs.body_sound.Goals as goal

parts : {r : Bool} (m : Measures) (pool ws : List ℕ) (base : ℕ) → base ≡ records_at (shape_of ws).capacities
    → Decides r (Body m pool (take (base - 8) (drop 8 ws)) (take (length ws - base) (drop base ws)) (get_or ws 0 0) (get_or ws 1 0) (get_or ws 2 0))
    → Decides r (TableBody m pool ws)
unfolding shape_of
parts m pool ws base e t =
    let n : base - 8 ≡ get_or ws 0 0 * (4 + get_or ws 1 0 * (3 + get_or ws 2 0)) = omega (arith, e) in
    rw (n, tail_all ws base, e) at t

-- where the records begin, in numbers
begins : (ws : List ℕ) (base : ℕ) → HeaderRanges ws → base ≡ records_at (shape_of ws).capacities
    → (base ≡ 8 + get_or ws 0 0 * till_words (get_or ws 1 0) (get_or ws 2 0)) × (base ≤ 1051720)
unfolding shape_of
begins ws base h e = (e, omega (arith, e, (sizes (get_or ws 0 0) (get_or ws 1 0) (get_or ws 2 0) h.tills h.versions h.blocks).1))

-- the lengths' most
most : (m : Measures) (pool ws : List ℕ) → Sized m pool ws
    → (get_or ws 3 0 * record_words m.segment_blocks ≤ 4096 * record_words m.segment_blocks) × (get_or ws 4 0 * m.block_bytes ≤ 32768 * m.block_bytes)
most m pool ws z = (mul-le-mul_right (record_words m.segment_blocks) z.header.records, mul-le-mul_right m.block_bytes z.header.cells)

pub parts_sound-requires : goal.parts_sound-requires
parts_sound-requires c = let l = most _ c.args.pool.now c.args.table.now c.requires.1 in
    let b = begins c.args.table.now _ c.requires.1.header c.records_at-base.ensures in
    (search rules, search rules, search rules, search rules, omega (arith, b.0), omega (arith, b.1), omega (arith, l.0), omega (arith, l.1))

pub returns : goal.returns
returns c = parts _ c.args.pool.now c.args.table.now _ c.records_at-base.ensures c.parts_sound.ensures
