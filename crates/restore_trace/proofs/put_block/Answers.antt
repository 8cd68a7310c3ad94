use mathlib.Core.Path.{◌≡◌, ◌∙◌, ap, sym}
use Prim.Native.Nat.{◌*◌, ◌+◌, ◌/◌, ◌≤◌, ℕ}
use native.Mathlib.Omega.{arith}
use lib.ListN.{length}
use borrow.Author.Tests.{eqb-false, eqb-true}
use Rattle.storage.proofs.Changes.{fits_direct}
use Rattle.storage.proofs.Read.{stored_records}
use Rattle.restore_trace.proofs.Images.{cell_put, cell_room, filled_put}
use Rattle.restore_trace.proofs.put_block.Goals as goal

pub cell_of-cell-requires : goal.cell_of-cell-requires
cell_of-cell-requires c =
    let one : c.args.pointer.0 / 16777216 ≡ 1 = (eqb-true _ _ (sym c.is_direct.ensures ∙ c.if-is_direct.true)) in
    let f = fits_direct _ _ _ (one) c.requires.within_records.0 in
    record { n_bound = (c.requires.stored.measured.most_blocks, stored_records _ c.requires.stored); n_in_bounds = (rw c.«record».ensures f.0, rw c.position.ensures f.1) }

pub copy_block-requires : goal.copy_block-requires
copy_block-requires c =
    let one : c.args.pointer.0 / 16777216 ≡ 1 = (eqb-true _ _ (sym c.is_direct.ensures ∙ c.if-is_direct.true)) in
    let room : (let a = c.args in c.cell_of-cell.result.0 * a.m.bytes + a.m.bytes ≤ length a.pool.now) = (let f = fits_direct _ _ _ (one) c.requires.within_records.0 in
    let q = c.cell_of-cell.ensures in
    let e = rw (c.«record».ensures, c.position.ensures) at q in
    omega (arith, ap (λ (i : ℕ). i * c.args.m.bytes) e, cell_room _ _ _ c.requires.stored _ _ f.0 f.1)) in
    (c.requires.stored.measured.most_bytes, omega (arith, room, c.requires.within_records.1), c.requires.within_records.2)

pub returns-then-is_direct : goal.returns-then-is_direct
returns-then-is_direct c =
    let one : c.args.pointer.0 / 16777216 ≡ 1 = (eqb-true _ _ (sym c.is_direct.ensures ∙ c.if-is_direct.true)) in
    let q = c.cell_of-cell.ensures in
    let e = rw (c.«record».ensures, c.position.ensures) at q in
    cell_put _ _ _ c.requires.stored c.args.pointer.0 c.args.n (c.args.block.0 * c.args.m.bytes) c.args.out.now _ c.requires.within_records.1 _ (one) c.requires.within_records.0 e c.copy_block.ensures

pub returns-else-is_direct : goal.returns-else-is_direct
returns-else-is_direct c = let other = eqb-false _ _ (sym c.is_direct.ensures ∙ c.if-is_direct.false) in
    filled_put _ _ _ c.requires.stored c.args.pointer.0 c.args.n (c.args.block.0 * c.args.m.bytes) c.args.out.now _ c.requires.within_records.1 _ other c.fill_byte.ensures c.fill_block.ensures
