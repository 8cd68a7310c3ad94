use mathlib.Core.Path.{◌≡◌}
use Prim.Native.Nat.{ℕ, ◌*◌, ◌-◌, ◌≤◌, ◌<◌}
use lib.ListN.{length, take, drop}
use Rattle.model.specs.Measures.{till_words}
use Rattle.model.specs.Table.{storage_in}
use Rattle.numbers.specs.Measures.{measures_of}
use Rattle.audit_counts.specs.Counters.{counts_after}
use Rattle.audit_tills.specs.Sound.{tills_pointers, TillSound}
use Rattle.audit_tills.proofs.tills_sound.Given as goal

abbrev pub invariant-loop-t : goal.invariant-loop-t
invariant-loop-t l = ((j : ℕ) → j < l.t → TillSound l.m.bytes (storage_in (measures_of l.m) l.pool l.records) l.versions l.blocks (take (till_words l.versions l.blocks) (drop (j * till_words l.versions l.blocks) l.tills)))
    × (length l.counts ≡ length l.initial.counts) × (l.counts ≡ counts_after (tills_pointers l.m.bytes l.versions l.blocks l.t l.tills) l.initial.counts)
