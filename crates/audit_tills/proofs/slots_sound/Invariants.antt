use mathlib.Core.Path.{◌≡◌}
use Prim.Native.Nat.{ℕ, ◌+◌, ◌*◌, ◌-◌, ◌≤◌, ◌<◌}
use lib.ListN.{length, drop}
use Rattle.model.specs.Table.{storage_in}
use Rattle.numbers.specs.Measures.{measures_of}
use Rattle.audit_counts.specs.Counters.{counts_after}
use Rattle.audit_tills.specs.Sound.{slots_pointers, SlotSound}
use Rattle.audit_tills.proofs.slots_sound.Given as goal

abbrev pub invariant-loop-i : goal.invariant-loop-i
invariant-loop-i l = ((j : ℕ) → j < l.i → SlotSound l.m.bytes (storage_in (measures_of l.m) l.pool l.records) l.blocks (l.count - j) (drop (j * (3 + l.blocks)) l.slots))
    × (length l.counts ≡ length l.initial.counts) × (l.counts ≡ counts_after (slots_pointers l.m.bytes l.blocks l.i l.slots) l.initial.counts)
