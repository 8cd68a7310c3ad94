-- The counts of a sound state have room for a backup's pointers.
use mathlib.Core.Path.{◌≡◌}
use mathlib.Core.Bool.{true}
use native.Mathlib.Omega.{arith}
use Rattle.lists.proofs.Tests.{clause}
use Rattle.model.specs.Measures.{Shape}
use Rattle.model.specs.Sound.{is_sound, all_pointers}
use Rattle.model.specs.State.{State}
use Rattle.laws.proofs.Bounds.{count_bound}
use Rattle.laws.proofs.Counts.{held_positive}
use Rattle.laws.proofs.Fits.{range_fit}
use Rattle.storage.specs.Stored.{Countable}

pub sound_counts : (s : Shape) (st : State) → is_sound s st ≡ true → Countable 2147483648 st.storage.records
unfolding is_sound
sound_counts s st sound = record {
  some = λ k i e. held_positive (all_pointers st.tills) 0 st.storage.records (clause _ 5 sound) k i e;
  below = λ k i. omega (arith, count_bound s (range_fit s (clause _ 0 sound)) st sound k i);
}
