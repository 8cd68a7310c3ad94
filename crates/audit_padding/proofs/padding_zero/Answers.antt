use native.Mathlib.Omega.{arith}
use mathlib.Core.Path.{◌≡◌}
use mathlib.Core.List.{List}
use Prim.Native.Nat.{ℕ, ◌+◌, ◌-◌, ◌≤◌}
use lib.ListN.{length, take, drop}
use Rattle.model.specs.Table.{version_in}
use Rattle.audit_padding.proofs.Blocks.{first_slot, first_long, slot_fits, tail_of}
use borrow.Author.Rules.{rules}
use Rattle.audit_padding.proofs.padding_zero.Goals as goal

count-is : (bytes b : ℕ) (ws : List ℕ) (n : ℕ) → n ≡ length (version_in bytes (take (3 + b - 0) (drop 0 ws))).pointers → n ≡ length (version_in bytes (take (3 + b) ws)).pointers
count-is bytes b ws n e = rw (first_slot b ws) at e

pub slice_bounds-pointer_count-end : goal.slice_bounds-pointer_count-end
slice_bounds-pointer_count-end c =
    let here : 3 + c.args.blocks ≤ length c.args.slots.now = (slot_fits c.args.blocks c.args.count _ c.requires.1 c.requires.4) in
    omega (arith, here)

pub pointer_count-count_of_first-requires : goal.pointer_count-count_of_first-requires
pointer_count-count_of_first-requires c =
    let here : 3 + c.args.blocks ≤ length c.args.slots.now = (slot_fits c.args.blocks c.args.count _ c.requires.1 c.requires.4) in
    (search rules, first_long c.args.blocks c.args.slots.now (here), search rules, search rules)

pub bounds-slots-1 : goal.bounds-slots-1
bounds-slots-1 c =
    let here : 3 + c.args.blocks ≤ length c.args.slots.now = (slot_fits c.args.blocks c.args.count _ c.requires.1 c.requires.4) in
    omega (arith, here)

pub overflow_cast-length : goal.overflow_cast-length
overflow_cast-length c = omega (arith, c.type_inv.slots 1)

pub returns : goal.returns
returns c = tail_of c.args.m.bytes _ c.args.blocks c.args.count c.args.slots.now c.requires.1 c.pointer_count-count_of_first.result c.saturating_sub-last.result _ c.byte.result _ _
    (count-is _ c.args.blocks c.args.slots.now _ c.pointer_count-count_of_first.ensures.0) c.saturating_sub-last.ensures c.byte.ensures c.saturating_sub-from.ensures c.end_of-w.ensures c.block_zero.ensures
