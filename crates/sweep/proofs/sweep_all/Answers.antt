use native.Mathlib.Omega.{arith}
use mathlib.Core.Path.{◌≡◌, ap, ◌∙◌}
use Prim.Native.Nat.{ℕ, ◌*◌, ◌≤◌}
use lib.ListN.{length}
use Rattle.lists.proofs.Places.{rows_few}
use Rattle.sweep_laws.proofs.Named.{length_false, false_part, whole_cells}
use Rattle.sweep.proofs.sweep_all.Goals as goal

pub parts-n-requires : goal.parts-n-requires
parts-n-requires c = omega (arith, c.requires.measured.some_bytes)

pub slice_bounds-occupied-end : goal.slice_bounds-occupied-end
slice_bounds-occupied-end c =
    let few : c.parts-n.result ≤ 32768 = (omega (arith, c.parts-n.ensures, rows_few _ c.args.m.bytes (omega (arith, c.requires.measured.some_bytes)) 32768 c.requires.few)) in
    omega (arith, few)

pub slice_bounds-sweep_with-end : goal.slice_bounds-sweep_with-end
slice_bounds-sweep_with-end c =
    let few : c.parts-n.result ≤ 32768 = (omega (arith, c.parts-n.ensures, rows_few _ c.args.m.bytes (omega (arith, c.requires.measured.some_bytes)) 32768 c.requires.few)) in
    length_false _ 32768 (few)

pub sweep_with-requires : goal.sweep_with-requires
sweep_with-requires c =
    let few : c.parts-n.result ≤ 32768 = (omega (arith, c.parts-n.ensures, rows_few _ c.args.m.bytes (omega (arith, c.requires.measured.some_bytes)) 32768 c.requires.few)) in
    let whole : c.parts-n.result * c.args.m.bytes ≡ length c.args.pool.now = (ap (λ (i : ℕ). i * c.args.m.bytes) c.parts-n.ensures ∙ whole_cells _ _ _ c.requires) in
    record { stored = c.requires; occupied_value = false_part _ _ 32768 _ (few) (whole) }
