use mathlib.Core.Path.{◌≡◌, ◌∙◌, sym}
use mathlib.Core.List.{[]}
use Prim.Native.Nat.{◌%◌, ◌*◌, ◌+◌, ◌/◌, ◌≤◌}
use native.Mathlib.Omega.{arith}
use lib.ListN.{get_or, length}
use borrow.Author.Tests.{eqb-false, eqb-true}
use Rattle.model.specs.Records.{cell_of}
use Rattle.model.specs.State.{null_position}
use Rattle.model.specs.Table.{records_in}
use Rattle.numbers.specs.Measures.{measures_of}
use Rattle.storage.proofs.Read.{stored_records}
use Rattle.turn.proofs.Turning.{cell_fits, target_is, target_none, there}
use Rattle.turn.proofs.target_of.Goals as goal

pub returns-then-not-is_direct : goal.returns-then-not-is_direct
returns-then-not-is_direct c = let a = c.args in
    target_none (measures_of a.m) a.image.now a.pool.now a.records.now a.pointer.0 (eqb-false _ _ (sym c.is_direct.ensures ∙ c.if-not-is_direct.true))

pub cell_of-cell-requires : goal.cell_of-cell-requires
cell_of-cell-requires c =
    let one : c.args.pointer.0 / 16777216 ≡ 1 = (eqb-true _ _ (sym c.is_direct.ensures ∙ c.if-not-is_direct.false)) in
    let f = there (measures_of c.args.m) c.args.image.now c.args.pool.now c.args.records.now c.requires.1 c.args.pointer.0 (one) c.requires.2.fits in
    record { n_bound = (c.requires.1.measured.most_blocks, stored_records (measures_of c.args.m) c.requires.1); n_in_bounds = (rw c.«record».ensures f.0, rw c.position.ensures f.1) }

pub overflow_add-end : goal.overflow_add-end
overflow_add-end c =
    let one : c.args.pointer.0 / 16777216 ≡ 1 = (eqb-true _ _ (sym c.is_direct.ensures ∙ c.if-not-is_direct.false)) in
    let cell : (let a = c.args in c.cell_of-cell.result.0 ≡ cell_of (get_or (get_or (records_in a.m.blocks a.records.now) (a.pointer.0 % 16777216 / 16) []) (a.pointer.0 % 16777216 % 16) null_position)) = (let q = c.cell_of-cell.ensures in
    rw (c.«record».ensures, c.position.ensures) at q) in
    let room : (let a = c.args in c.cell_of-cell.result.0 * a.m.bytes + a.m.bytes ≤ length a.pool.now) = (cell_fits (measures_of c.args.m) c.args.image.now c.args.pool.now c.args.records.now c.requires.1 c.args.pointer.0 (one) _ (cell)) in
    omega (arith, c.requires.1.measured.most_bytes, c.requires.1.few, c.byte-start.ensures, room)

pub slice_bounds-turned_to-end : goal.slice_bounds-turned_to-end
slice_bounds-turned_to-end c =
    let one : c.args.pointer.0 / 16777216 ≡ 1 = (eqb-true _ _ (sym c.is_direct.ensures ∙ c.if-not-is_direct.false)) in
    let cell : (let a = c.args in c.cell_of-cell.result.0 ≡ cell_of (get_or (get_or (records_in a.m.blocks a.records.now) (a.pointer.0 % 16777216 / 16) []) (a.pointer.0 % 16777216 % 16) null_position)) = (let q = c.cell_of-cell.ensures in
    rw (c.«record».ensures, c.position.ensures) at q) in
    let room : (let a = c.args in c.cell_of-cell.result.0 * a.m.bytes + a.m.bytes ≤ length a.pool.now) = (cell_fits (measures_of c.args.m) c.args.image.now c.args.pool.now c.args.records.now c.requires.1 c.args.pointer.0 (one) _ (cell)) in
    omega (arith, c.byte-start.ensures, room)

pub returns : goal.returns
returns c =
    let one : c.args.pointer.0 / 16777216 ≡ 1 = (eqb-true _ _ (sym c.is_direct.ensures ∙ c.if-not-is_direct.false)) in
    let cell : (let a = c.args in c.cell_of-cell.result.0 ≡ cell_of (get_or (get_or (records_in a.m.blocks a.records.now) (a.pointer.0 % 16777216 / 16) []) (a.pointer.0 % 16777216 % 16) null_position)) = (let q = c.cell_of-cell.ensures in
    rw (c.«record».ensures, c.position.ensures) at q) in
    target_is (measures_of c.args.m) c.args.image.now c.args.pool.now c.args.records.now c.requires.1 c.args.pointer.0 (one) _ (cell) _ _ c.byte-start.ensures c.turned_to.ensures
