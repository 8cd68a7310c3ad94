use native.Mathlib.Omega.{arith}
use mathlib.Core.Bool.{Bool, true, false, not}
use mathlib.Core.Path.{◌≡◌, sym, ◌∙◌}
use mathlib.Core.List.{List}
use Prim.Native.Nat.{ℕ, ◌*◌, ◌/◌, ◌≤◌, ◌<◌}
use lib.ListN.{length, get_or, take, drop, replicate}
use borrow.Author.Tests.{not-false}
use Rattle.lists.specs.Decides.{Decides}
use Rattle.lists.specs.Marks.{MarkResult, marked}
use Rattle.lists.proofs.Answers.{answer_no}
use Rattle.lists.proofs.Checkers.{is_not}
use Rattle.lists.proofs.Places.{rows_few}
use Rattle.model.specs.Measures.{Measures}
use Rattle.model.specs.Records.{named_cells}
use Rattle.model.specs.Sound.{is_filled}
use Rattle.model.specs.Table.{records_in, storage_in}
use Rattle.numbers.specs.Measures.{measures_of}
use Rattle.audit_cells.specs.Cells.{CellsSound}
use Rattle.audit_cells.proofs.Cells.{marked_sound, sound_marked}
use mathlib.Core.Path.{ap}
use Rattle.audit_cells.proofs.cells_sound.Goals as goal

-- marks were made that do not fit, or they were made and the bytes are tested
module _ (sz : Measures) (pool ws : List ℕ) (m : ℕ) (most : length pool / sz.block_bytes ≤ m) (cells : ℕ) (ec : cells ≡ length pool / sz.block_bytes) (occ : List Bool) where
  abbrev named : List ℕ
  named = named_cells (records_in sz.segment_blocks ws)

  fails : {r : Bool} → MarkResult r cells named (replicate m false) occ → not r ≡ true → Decides false (CellsSound (storage_in sz pool ws))
  fails h e = is_not (λ s. answer_no h.ok e (rw ec (sound_marked sz m pool ws most s).named))

  decides : {r t : Bool} → MarkResult r cells named (replicate m false) occ → not r ≡ false
      → Decides t ((k : ℕ) → k < length pool / sz.block_bytes → get_or occ k false ≡ is_filled (take sz.block_bytes (drop (k * sz.block_bytes) pool)))
      → Decides t (CellsSound (storage_in sz pool ws))
  decides {r} h e f =
      let d : occ ≡ marked named (replicate m false) = h.done (not-false r e) in
      record {
        holds = λ t. marked_sound sz m pool ws most (record { named = rw (← ec) (sym h.ok ∙ not-false r e); filled = rw d at (f.holds t) });
        seen = λ s. f.seen (rw d (sound_marked sz m pool ws most s).filled);
      }

pub mark_all-requires : goal.mark_all-requires
mark_all-requires c =
    let few : length c.args.pool.now / c.args.m.bytes ≤ 32768 = (rows_few _ c.args.m.bytes (omega (arith, c.requires.0.some_bytes)) 32768 c.requires.1) in
    (c.requires.0.most_blocks, omega (arith, few, c.parts-cells.ensures))

pub returns-then-not-mark_all : goal.returns-then-not-mark_all
returns-then-not-mark_all c =
    let few : length c.args.pool.now / c.args.m.bytes ≤ 32768 = (rows_few _ c.args.m.bytes (omega (arith, c.requires.0.some_bytes)) 32768 c.requires.1) in
    fails (measures_of c.args.m) c.args.pool.now c.args.records.now 32768 (few) _ c.parts-cells.ensures _ c.mark_all.ensures (ap not c.if-not-mark_all.true)

pub cells_filled-requires : goal.cells_filled-requires
cells_filled-requires c =
    let few : length c.args.pool.now / c.args.m.bytes ≤ 32768 = (rows_few _ c.args.m.bytes (omega (arith, c.requires.0.some_bytes)) 32768 c.requires.1) in
    omega (arith, few, c.requires.0.some_bytes, c.requires.0.most_bytes)

pub returns : goal.returns
returns c =
    let few : length c.args.pool.now / c.args.m.bytes ≤ 32768 = (rows_few _ c.args.m.bytes (omega (arith, c.requires.0.some_bytes)) 32768 c.requires.1) in
    decides (measures_of c.args.m) c.args.pool.now c.args.records.now 32768 (few) _ c.parts-cells.ensures _ c.mark_all.ensures (ap not c.if-not-mark_all.false) c.cells_filled.ensures
