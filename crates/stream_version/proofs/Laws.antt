-- What an accepted restore wrote fits its output, and is written from there.
use mathlib.Core.Path.{◌≡◌, refl, sym, ◌∙◌, subst}
use mathlib.Core.List.{List}
use mathlib.Core.Option.{Option, none, some}
use Prim.Native.Nat.{ℕ, ◌≤◌}
use native.Mathlib.Omega.{arith}
use lib.ListN.{length, take, replicate, length-take}
use lib.Dec.{ltb, leb}
use borrow.Author.Tests.{eq-eqb, ne_eqb, ltb-false}
use Rattle.lists.proofs.Tests.{by_test}
use Rattle.model.specs.State.{Storage}
use Rattle.model.specs.Sound.{Store, store_of}
use Rattle.model.specs.Calls.{RestoreAnswer, restore_refusal, restore_from, restore, restore_in, restore_of, till_of, Lookup, found, missing, look_up}
use Rattle.stream.specs.Stream.{StreamAnswer, stream_refusal, write_stream}
use Rattle.stream.specs.Version.{longest_output, write_restored, write_stream_of}

abbrev Fits : List ℕ → RestoreAnswer → Type 0
Fits output r = r.length ≤ length output

from_fits : (bytes : ℕ) (a : Storage) (output : List ℕ) (l : Lookup) → Fits output (restore_from bytes a l output)
unfolding restore_from restore_refusal
from_fits bytes a output (missing n) = omega arith
from_fits bytes a output (found older v newer) =
    by_test (Fits output) (ltb (length output) v.length) (λ e. omega arith) (λ e. ltb-false (length output) v.length e)

in_fits : (t v : ℕ) (output : List ℕ) (o : Option Store) → Fits output (restore_in o t v output)
unfolding restore_in restore restore_refusal
in_fits t v output none = omega arith
in_fits t v output (some x) =
    by_test (Fits output) (leb x.shape.capacities.tills t) (λ e. omega arith)
    (λ e. from_fits x.shape.measures.block_bytes x.state.storage output (look_up (till_of x.state t) v))

restore_fits : (pool table : List ℕ) (t v : ℕ) (output : List ℕ) → (restore_of pool table t v output).length ≤ length output
unfolding restore_of
restore_fits pool table t v output = in_fits t v output (store_of pool table)

-- of an answer that is the restore's
pub fits : (pool table : List ℕ) (t v : ℕ) (output : List ℕ) (r : RestoreAnswer) → r ≡ restore_of pool table t v output → r.length ≤ length output
fits pool table t v output r e = subst (Fits output) (sym e) (restore_fits pool table t v output)

pub front_few : (n k : ℕ) (xs : List ℕ) → length xs ≤ k → length (take n xs) ≤ k
front_few n k xs h = omega (arith, h, length-take n xs)

-- ---- the writer's answers

module _ (r a : RestoreAnswer) (e : r ≡ a) (output : List ℕ) where
  pub refused : ¬ (r.refusal ≡ 0) → record { refusal = r.refusal; length = 0; output = output } ≡ write_restored a output
  unfolding write_restored stream_refusal
  refused n = rw (← e, ne_eqb r.refusal 0 n)

  pub accepted : (x : StreamAnswer) → r.refusal ≡ 0 → x ≡ write_stream (take r.length r.output) output → x ≡ write_restored a output
  unfolding write_restored
  accepted x z q = q ∙ rw (← e, eq-eqb r.refusal 0 z)

pub into_zeros : (pool table : List ℕ) (t v : ℕ) (output : List ℕ) → write_restored (restore_of pool table t v (replicate 65536 0)) output ≡ write_stream_of pool table t v output
unfolding write_stream_of longest_output
into_zeros pool table t v output = refl
