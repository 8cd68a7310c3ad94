use Rattle.std.proofs.Common.{◌≡◌, ◌≤◌, drop}
use Rattle.lists.specs.Masks.{mask_of}
use Rattle.model.specs.Sweep.{is_unreferenced}
use Rattle.records.specs.Records.{positions, Formed}
use Rattle.records.proofs.Record.unreferenced.Given as goal

abbrev pub invariant-loop-i : goal.invariant-loop-i
invariant-loop-i l = Formed l.self × (l.i ≤ l.self.used) × (l.self.used ≤ 16) × (l.mask ≡ mask_of is_unreferenced (drop l.i (positions l.self)))
