-- The steps on the table, joined to the call's answer.
use mathlib.Core.Path.{◌≡◌, refl, sym, ap, ◌∙◌}
use mathlib.Core.Bool.{Bool, true, false, cond}
use mathlib.Core.List.{List}
use mathlib.Core.Option.{some}
use Prim.Native.Nat.{ℕ, suc, ◌+◌, ◌<◌}
use native.Mathlib.Omega.{arith}
use lib.ListN.{length, get_or, take, length-map}
use borrow.Author.Tests.{lt-leb, ne_eqb, le-ltb}
use Rattle.lists.proofs.Maps.{take_map}
use Rattle.model.specs.Calls.{BackupAnswer, After, till_of, with_till, till_with, newest_pointers, file_in, place_and_file, newest_day, day_for, backup, backup_answer, backup_in, backup_by, backup_of, backup_dated_of}
use Rattle.model.specs.Image.{image_blocks, image_segments, with_blanks}
use Rattle.model.specs.Measures.{till_words}
use Rattle.model.specs.Place.{Placed}
use Rattle.model.specs.State.{Block, Pointer, Storage, State, Outcome, refused, done}
use Rattle.model.specs.Table.{shape_of, state_in, state_to_bytes, state_to_words, pointer_word}
use Rattle.model.specs.Turn.{turn, turning, target, found_or}
use Rattle.model.specs.Rights.{backup_refusal}
use Rattle.laws.specs.Stores.{till_at, Sound, store_read}
use Rattle.laws.proofs.Tills.{there}
use Rattle.backup_accept.specs.Accept.{Accepted}
use Rattle.chain.specs.Limit.{within}
use Rattle.chain.proofs.Within.{within_refused, within_done}
use Rattle.backup_laws.proofs.Placed.{refusal_positive}
use Rattle.backup_steps.specs.Limit.{beyond, limited}
use Rattle.backup.specs.Backup.{measures_on, blocks_on, placed_on, limited_on, swept_state, StoreInResult, FileResult}

turn_size : (storage : Storage) (bs : List Block) (qs : List Pointer) → length (turn with_blanks storage bs qs) ≡ length qs
unfolding turn
turn_size storage bs qs = length-map qs (λ p. found_or p (target with_blanks storage bs p))

-- the backup with the newest version's day is the one without a day
pub undated : {pool table : List ℕ} → Sound pool table → (others most t : ℕ) (image : List ℕ) (day : ℕ) → day ≡ newest_day (till_of (state_in (shape_of table) pool table) t).versions
    → (r : BackupAnswer) → r ≡ within others most pool table (backup_dated_of pool table t day image) → r ≡ within others most pool table (backup_of pool table t image)
undated {pool} {table} h others most t image day e r q = q ∙ ap (within others most pool table) same
  where
    same : backup_dated_of pool table t day image ≡ backup_of pool table t image
    same = unfold backup_of backup_dated_of backup_by backup_in backup day_for in rw (e, h.is)

module _ (pool table : List ℕ) (h : Sound pool table) (t day : ℕ) (image : List ℕ) (a : Accepted pool table t day image) where
  abbrev st : State
  st = state_in (shape_of table) pool table

  abbrev ps : List Pointer
  ps = newest_pointers (till_of st t).versions

  abbrev o : Outcome Placed
  o = placed_on pool table image

  -- what follows from step 1's outcome
  abbrev filed : Outcome Placed → Outcome After
  filed x = file_in with_blanks (shape_of table) st t day image (image_blocks (measures_on table).block_bytes image) (till_of st t) x

  is_filed : backup with_blanks (shape_of table) st t (some day) image ≡ filed o
  unfolding backup day_for shape_of place_and_file
  is_filed =
      rw (
        lt-leb _ _ a.there,
        ne_eqb (length image) 0 (λ e. omega (arith, e, a.some)),
        le-ltb _ _ a.few,
        lt-leb _ _ a.free.room,
        ne_eqb (till_of st t).last 65535 (λ e. omega (arith, e, a.free.number)),
        le-ltb day (newest_day (till_of st t).versions) a.dated,
      )

  -- the answer that follows from it
  abbrev answered : Outcome Placed → BackupAnswer
  answered x = backup_answer pool table (shape_of table) (filed x)

  answer : backup_dated_of pool table t day image ≡ answered o
  unfolding backup_dated_of backup_by backup_in
  answer = rw h.is (ap (backup_answer pool table (shape_of table)) is_filed)

  not_zero : (n : ℕ) → 0 < n → (answered (refused n)).refusal ≡ 0 → ⊥
  unfolding file_in backup_answer
  not_zero n z r = omega (arith, z, r)

  module _ (others most : ℕ) where
    abbrev limited_answer : BackupAnswer
    limited_answer = within others most pool table (backup_dated_of pool table t day image)

    -- 14 and 16 come before 21
    within_stopped : (n : ℕ) → o ≡ refused n → limited_answer ≡ answered (refused n)
    within_stopped n e =
        let z : 0 < n = refusal_positive st.storage (image_segments (measures_on table).block_bytes (measures_on table).segment_blocks image) n e in
        let q : backup_dated_of pool table t day image ≡ answered (refused n) = answer ∙ ap answered e in
        within_refused others most pool table (backup_dated_of pool table t day image) (λ r. not_zero n z (sym (ap (λ (b : BackupAnswer). b.refusal) q) ∙ r)) ∙ q

    -- the cells of the state that it leaves are those of the swept storage
    within_filed : (p : Placed) → o ≡ done p → limited_answer ≡ answered (limited others most (measures_on table) (blocks_on table image) ps (done p))
    unfolding backup_dated_of file_in with_till
    within_filed p e =
        within_done others most pool table (store_read pool table) h.is with_blanks t (some day) image _ (is_filed ∙ ap filed e)
        ∙ either (beyond others most (measures_on table) p.storage (turning with_blanks p.storage (blocks_on table image) ps))
      where
        either : (b : Bool) → cond b (backup_refusal pool table 21) (backup_dated_of pool table t day image) ≡ answered (cond b (refused 21) (done p))
        either true = unfold backup_refusal file_in backup_answer in refl
        either false = answer ∙ ap answered e

    -- what step 1 did, or 21: the answer within the limit is the one that follows
    within_answer : limited_answer ≡ answered (limited_on others most pool table image ps)
    within_answer = go o refl
      where
        go : (x : Outcome Placed) → o ≡ x → limited_answer ≡ answered (limited others most (measures_on table) (blocks_on table image) ps x)
        go (refused n) e = within_stopped n e
        go (done p) e = within_filed p e

    module _ (r : ℕ) (pool' table' words' prev' : List ℕ) (d : StoreInResult image ps pool table (limited_on others most pool table image ps) r pool' table' words' prev') where
      pub refused_answer : (r ≡ 0 → ⊥) → record { refusal = r; version = 0; pool = pool'; table = table' } ≡ within others most pool table (backup_dated_of pool table t day image)
      refused_answer z = go (limited_on others most pool table image ps) d ∙ sym within_answer
        where
          go : (x : Outcome Placed) → StoreInResult image ps pool table x r pool' table' words' prev' → record { refusal = r; version = 0; pool = pool'; table = table' } ≡ answered x
          go (refused n) q = unfold backup_answer file_in in (λ i. record { refusal = q.0 i; version = 0; pool = q.2 i; table = q.3 i })
          go (done p) q = absurd (z q.0)

      pub filed_answer : r ≡ 0 → (at end b k last : ℕ) (out : List ℕ) → last ≡ (till_of st t).last → b ≡ get_or table 2 0 → at ≡ till_at (shape_of table) t
          → end ≡ at + till_words (get_or table 1 0) (get_or table 2 0) → k ≡ length (image_blocks (measures_on table).block_bytes image) → FileResult at end b prev' (length image) day (take k words') table' out
          → record { refusal = 0; version = last + 1; pool = pool'; table = out } ≡ within others most pool table (backup_dated_of pool table t day image)
      unfolding till_of with_till shape_of backup_answer file_in state_to_bytes
      filed_answer z at end b k last out el eb ea ee ek f = go (limited_on others most pool table image ps) d ∙ sym within_answer
        where
          go : (x : Outcome Placed) → StoreInResult image ps pool table x r pool' table' words' prev'
              → record { refusal = 0; version = last + 1; pool = pool'; table = out } ≡ answered x
          go (refused n) q = absurd (omega (arith, z, q.0, q.1))
          go (done p) q =
              let turned : List Pointer = turn with_blanks p.storage (image_blocks (measures_on table).block_bytes image) ps in
              let lt : length turned ≡ length ps = turn_size p.storage (image_blocks (measures_on table).block_bytes image) ps in
              let v : last + 1 ≡ suc (till_of st t).last = omega (arith, el) in
              let e = f (shape_of table) (swept_state (measures_on table) st (blocks_on table image) ps p.storage) t turned (take k p.pointers) (there h t a.there)
              eb ea ee q.1.tables a.free.room q.1.turned lt (ap (take k) q.1.placed ∙ take_map pointer_word k p.pointers) in
              let e' = e ∙ ap (λ (j : ℕ). state_to_words (shape_of table) (with_till st t (till_with (till_of st t) turned (length image) day (take j p.pointers)) (swept_state (measures_on table) st (blocks_on table image) ps p.storage).storage)) ek in
              (λ i. record { refusal = 0; version = v i; pool = q.1.bytes i; table = e' i })
