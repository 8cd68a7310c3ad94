use native.Mathlib.Omega.{arith}
use mathlib.Core.Path.{◌∙◌, ◌≡◌, ap, sym}
use mathlib.Core.Bool.{true}
use Prim.Native.Nat.{◌≤◌, ℕ}
use lib.ListN.{length, length-replicate, replicate, take}
use Rattle.lists.proofs.Slices.{take_replicate}
use Rattle.model.specs.Table.{cells_in}
use Rattle.storage.proofs.Inside.{cells_count, few_cells}
use borrow.Author.Rules.{rules}
use Rattle.backup_steps.proofs.store_image.Goals as goal

pub parts-cells-requires : goal.parts-cells-requires
parts-cells-requires c = omega (arith, c.requires.0.ready.stored.measured.some_bytes)

pub slice_bounds-free-end : goal.slice_bounds-free-end
slice_bounds-free-end c =
    let as_many : c.parts-cells.result ≡ length (cells_in c.args.m.bytes c.args.pool.now) = (c.parts-cells.ensures ∙ sym (cells_count _ c.args.pool.now)) in
    let few : c.parts-cells.result ≤ 32768 = (omega (arith, as_many, few_cells c.requires.0.ready.stored)) in
    omega (arith, few)

pub slice_bounds-store_image_with-end : goal.slice_bounds-store_image_with-end
slice_bounds-store_image_with-end c =
    let as_many : c.parts-cells.result ≡ length (cells_in c.args.m.bytes c.args.pool.now) = (c.parts-cells.ensures ∙ sym (cells_count _ c.args.pool.now)) in
    let few : c.parts-cells.result ≤ 32768 = (omega (arith, as_many, few_cells c.requires.0.ready.stored)) in
    let marks : take c.parts-cells.result (replicate 32768 true) ≡ replicate c.parts-cells.result true = (take_replicate c.parts-cells.result 32768 true (few)) in
    sym (ap length (marks) ∙ length-replicate _ true)

pub store_image_with-requires : goal.store_image_with-requires
store_image_with-requires c =
    let as_many : c.parts-cells.result ≡ length (cells_in c.args.m.bytes c.args.pool.now) = (c.parts-cells.ensures ∙ sym (cells_count _ c.args.pool.now)) in
    let few : c.parts-cells.result ≤ 32768 = (omega (arith, as_many, few_cells c.requires.0.ready.stored)) in
    let marks : take c.parts-cells.result (replicate 32768 true) ≡ replicate c.parts-cells.result true = (take_replicate c.parts-cells.result 32768 true (few)) in
    record { store_pre = (c.requires.0, search rules, c.requires.1); free_value = marks ∙ ap (λ (i : ℕ). replicate i true) (as_many) }
