use mathlib.Core.Path.{◌≡◌}
use mathlib.Core.List.{map}
use Prim.Native.Nat.{ℕ, ◌+◌, ◌-◌, ◌^◌, ◌<◌}
use lib.ListN.{length, get_or, drop}
use Rattle.lists.specs.Lists.{every}
use Rattle.model.specs.State.{Storage}
use Rattle.model.specs.Table.{word_to_pointer, records_in}
use Rattle.model.specs.Sound.{resolves}
use Rattle.audit_words.specs.Words.{IsPointerWord}
use Rattle.audit_counts.specs.Counters.{counts_after}
use Rattle.audit_pointers.proofs.pointers_sound.Given as goal

abbrev pub invariant-loop-w : goal.invariant-loop-w
invariant-loop-w l = ((k : ℕ) → k < l.w-index → IsPointerWord (get_or l.words k 0)) × ((storage : Storage) → storage.records ≡ records_in l.n l.records → every (λ w. resolves storage (map word_to_pointer l.newer) (word_to_pointer w)) (drop l.w-index l.words) ≡ every (λ w. resolves storage (map word_to_pointer l.newer) (word_to_pointer w)) l.words)
    × (length l.counts ≡ length l.initial.counts) × (counts_after (drop l.w-index l.words) l.counts ≡ counts_after l.words l.initial.counts) × ((k : ℕ) → get_or l.counts k 0 + (length l.words - l.w-index) < 2 ^ 32)
