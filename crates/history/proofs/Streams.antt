-- A held version's stream: what the writer answers, by what is kept.
use mathlib.Core.Path.{◌≡◌, refl, sym, ap, ◌∙◌, subst}
use mathlib.Core.Bool.{true}
use mathlib.Core.List.{List, [], ◌∷◌, ◌++◌}
use Prim.Native.Nat.{ℕ, ◌*◌, ◌≤◌, ◌<◌}
use native.Mathlib.Nat.{mul_comm}
use native.Mathlib.Omega.{arith}
use lib.ListN.{length, take, drop, length-replicate}
use lib.Seq.{take_at}
use lib.Dec.{leb}
use borrow.Author.Tests.{eq-eqb, ne_eqb, le-leb, lt-leb, leb-true}
use Rattle.lists.specs.Lists.{is_some}
use Rattle.lists.proofs.Tests.{clause}
use Rattle.model.specs.Measures.{Shape, is_within}
use Rattle.model.specs.State.{Version, State}
use Rattle.model.specs.Table.{shape_of}
use Rattle.model.specs.Sound.{has_length, are_traceable}
use Rattle.laws.proofs.Tills.{not_held_some}
use Rattle.model.specs.Calls.{till_of, held_from, RestoreAnswer, restore_of, restore_refusal, not_held}
use Rattle.model.specs.Rights.{to_restore, user_refusal, restore_as}
use Rattle.laws.specs.Stores.{HeaderRanges}
use Rattle.laws.proofs.Stores.{sound_if, header}
use Rattle.stream.specs.Stream.{StreamAnswer, stream_refusal, stream_of, write_stream}
use Rattle.stream.specs.Version.{longest_output, write_restored, write_stream_of, write_stream_as}
use Rattle.stream_laws.proofs.Ranges.{has_yes}
use Rattle.stream_laws.proofs.Theorems.{claims}
use Rattle.history.specs.Calls.{Buffers}
use Rattle.history.specs.Keeper.{Kept, Keeper, kept_till, kept_from}
use Rattle.history.proofs.View.{view_versions, view_of, view_at, shown_from}
use Rattle.history.specs.Demand.{Streams}
use Rattle.history.proofs.Shown.{from_same}
use Rattle.history.proofs.Chains.{from_traceable, all_traceable}
use Rattle.history.proofs.Kept.{Agree, agree_from}
use Rattle.history.proofs.Fed.{Stands}
use Rattle.history.proofs.Steps.{Represents, left_store}
use Rattle.history.proofs.Bullets.{restores}
use Rattle.history.proofs.Keys.{may_same, may_missing}

-- ---- a restore's answer, written

-- a restore that wrote the image to the front of its output
given_write : (r : RestoreAnswer) (image rest output : List ℕ) → r.refusal ≡ 0 → r.length ≡ length image → r.output ≡ image ++ rest
    → write_restored r output ≡ write_stream image output
unfolding write_restored
given_write r image rest output z l o =
    let e : take r.length r.output ≡ image = ap (take r.length) o ∙ take_at image rest r.length (sym l) in
    rw (eq-eqb r.refusal 0 z, e)

refused_write : (r : RestoreAnswer) (output : List ℕ) (n : ℕ) → 0 < n → r.refusal ≡ n → (write_restored r output).refusal ≡ n
unfolding write_restored stream_refusal
refused_write r output n h e = rw (ne_eqb r.refusal 0 (λ z. omega (arith, h, e, z))) e

-- an output long enough, and one that is shorter than the stream
long_write : (image output : List ℕ) → length (stream_of image) ≤ length output
    → write_stream image output ≡ record { refusal = 0; length = length (stream_of image); output = stream_of image ++ drop (length (stream_of image)) output }
unfolding write_stream
long_write image output h = rw (le-leb (length (stream_of image)) (length output) h)

short_write : (image output : List ℕ) → length output < length (stream_of image) → (write_stream image output).refusal ≡ 5
unfolding write_stream stream_refusal
short_write image output h = rw (lt-leb (length (stream_of image)) (length output) h)

-- ---- a kept image has a stream

header_most : (table : List ℕ) → HeaderRanges table → (shape_of table).measures.block_bytes * (shape_of table).capacities.blocks ≤ 65536
unfolding shape_of
header_most table h = subst (λ (n : ℕ). n ≤ 65536) (mul_comm (shape_of table).capacities.blocks (shape_of table).measures.block_bytes) h.image

module _ (s : Shape) (b : Buffers) (st : State) (k : Keeper) (l : Represents s b st) (z : Stands s k st) where
  most : s.measures.block_bytes * s.capacities.blocks ≤ 65536
  unfolding is_some
  most =
      let h = header (sound_if b.pool b.table (ap is_some (sym (left_store s b st l)))) in
      let e : shape_of b.table ≡ s = ap shape_of l.table ∙ l.fit.back st in
      subst (λ (x : Shape). x.measures.block_bytes * x.capacities.blocks ≤ 65536) e
      (header_most b.table h)

  first_length : (t : ℕ) (x : Kept) (newer : List Kept) (hs : List Version) → are_traceable s.measures.block_bytes s.capacities.blocks st.storage hs ≡ true
      → Agree s.measures.block_bytes (x ∷ newer) (view_versions s.measures.block_bytes st.storage hs) → (1 ≤ length x.image) × (length x.image ≤ 65536)
  unfolding are_traceable has_length is_within view_versions
  first_length t x newer [] tr a = absurd a
  first_length t x newer (v ∷ vs) tr a =
      let w : is_within 1 (s.measures.block_bytes * s.capacities.blocks) v.length ≡ true = clause _ 0 (clause _ 0 tr) in
      let low : 1 ≤ v.length = leb-true 1 v.length (clause _ 0 w) in
      let high : v.length ≤ s.measures.block_bytes * s.capacities.blocks = leb-true v.length (s.measures.block_bytes * s.capacities.blocks) (clause _ 1 w) in
      (omega (arith, low, a.0.size), omega (arith, high, most, a.0.size))

  kept_length : (t v : ℕ) (x : Kept) (newer : List Kept) → kept_from v (kept_till k t).versions ≡ x ∷ newer → (1 ≤ length x.image) × (length x.image ≤ 65536)
  unfolding view_of
  kept_length t v x newer e =
      first_length t x newer (held_from v (till_of st t).versions)
      (from_traceable s st.storage v (till_of st t).versions (all_traceable s l.fit.proper st l.sound t))
      (subst (Agree s.measures.block_bytes (x ∷ newer)) (from_same s.measures.block_bytes st.storage v (till_of st t).versions)
      (subst (λ (xs : List Kept). Agree s.measures.block_bytes xs (shown_from v (view_at s.measures.block_bytes st t).versions)) e
      (agree_from s.measures.block_bytes v (kept_till k t).versions (view_at s.measures.block_bytes st t).versions (z.tills t).1)))

  -- ---- the writer

  long_enough : length longest_output ≡ 65536
  unfolding longest_output
  long_enough = length-replicate {A = ℕ} 65536 0

  owners : (t v : ℕ) → restore_as b.pool b.table 0 t v longest_output ≡ restore_of b.pool b.table t v longest_output
  unfolding restore_as
  owners t v = may_same s b st k l z 0 t to_restore (λ n. restore_refusal n longest_output) (restore_of b.pool b.table t v longest_output) refl

  -- by a user who may
  written_by : (u t v : ℕ) (output : List ℕ) → user_refusal (leb (length k) t) (kept_till k t).rights u to_restore ≡ 0 → write_stream_as b.pool b.table u t v output ≡ write_stream_of b.pool b.table t v output
  unfolding write_stream_as
  written_by u t v output m = may_same s b st k l z u t to_restore (λ n. stream_refusal n output) (write_stream_of b.pool b.table t v output) m

  written_is : (t v : ℕ) (x : Kept) (newer : List Kept) (output : List ℕ) → kept_from v (kept_till k t).versions ≡ x ∷ newer
      → write_stream_of b.pool b.table t v output ≡ write_stream x.image output
  unfolding write_stream_of
  written_is t v x newer output e =
      let g = (restores s b st k l z).given 0 t v x newer longest_output refl e (omega (arith, long_enough, (kept_length t v x newer e).1)) in
      ap (λ (r : RestoreAnswer). write_restored r output) (sym (owners t v))
      ∙ given_write (restore_as b.pool b.table 0 t v longest_output) x.image (drop (length x.image) longest_output) output g.0 g.1 g.2

  pub streams : Streams s.measures.block_bytes st k b
  unfolding write_stream_of
  streams = record {
    given = λ u t v x newer output m e h.
        let w = written_by u t v output m ∙ written_is t v x newer output e ∙ long_write x.image output h in
        (ap (λ (a : StreamAnswer). a.refusal) w, ap (λ (a : StreamAnswer). a.length) w, ap (λ (a : StreamAnswer). a.output) w);
    short = λ u t v x newer output m e h. ap (λ (a : StreamAnswer). a.refusal) (written_by u t v output m ∙ written_is t v x newer output e) ∙ short_write x.image output h;
    not_held = λ u t v output m e h.
        ap (λ (a : StreamAnswer). a.refusal) (written_by u t v output m)
        ∙ refused_write (restore_of b.pool b.table t v longest_output) output (not_held (kept_till k t).last v) (not_held_some (kept_till k t).last v)
        (ap (λ (r : RestoreAnswer). r.refusal) (sym (owners t v)) ∙ (restores s b st k l z).not_held 0 t v longest_output refl e h);
    no_till = λ u t v output h.
        ap (λ (a : StreamAnswer). a.refusal) (written_by u t v output (may_missing k u t to_restore h))
        ∙ refused_write (restore_of b.pool b.table t v longest_output) output 3 (omega arith)
        (ap (λ (r : RestoreAnswer). r.refusal) (sym (owners t v)) ∙ (restores s b st k l z).no_till 0 t v longest_output h);
    read_again = λ t v x newer output e h.
        let n = kept_length t v x newer e in
        claims.read_back x.image output (has_yes (length x.image) (λ q. omega (arith, n.0, q)) n.1) h;
  }
