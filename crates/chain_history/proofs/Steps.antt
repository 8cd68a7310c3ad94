-- A call on a chain leaves its store as the calls that the store gets by it leave it alone.
use mathlib.Core.Path.{◌≡◌, refl, sym, ap}
use mathlib.Core.Bool.{Bool, true, false, cond}
use mathlib.Core.List.{List, [], ◌∷◌, ◌++◌}
use Prim.Native.Nat.{ℕ}
use Rattle.model.specs.Calls.{BackupAnswer}
use Rattle.model.specs.Rights.{backup_refusal, backup_as, set_rights_of}
use Rattle.sent.specs.Sent.{backup_sent_as}
use Rattle.closing.specs.Closing.{TillImage, images_in, closing_fits, all_refused}
use Rattle.closing.specs.Singly.{SinglyMade, made_each, image_backup, answer_to}
use Rattle.history.specs.Calls.{Call, call_layout, call_backup, call_restore, call_retire, call_listing, call_version_on, call_tally, call_bill, call_write_stream, call_offer, call_backup_sent, call_backup_all, call_set_rights, Buffers, refused_layout}
use Rattle.history.specs.Users.{UserCall, buffers_by, buffers_after_all, refused_layouts}
use Rattle.history.specs.Keeper.{backup_for}
use Rattle.chain.specs.Chain.{Chain, pool_at, table_at, tables_with, chain_refusal}
use Rattle.chain.specs.Limit.{other_cells, is_over, within, image_within, backup_all_within}
use Rattle.chain.specs.Calls.{chain_backup, chain_backup_sent, chain_backup_all, chain_retire, chain_set_rights, backup_on_chain, all_on_chain, retire_on_chain, rights_on_chain}
use Rattle.chain_history.specs.Calls.{buffers_at, with_buffers, left_on, unless_over, images_left, reaches}
use Rattle.chain_history.proofs.Puts.{LengthsAddUp, put, pools_same, put_same}

-- ---- lists of a store's calls, one after the other

pub after_append : (xs ys : List UserCall) (b : Buffers) → buffers_after_all b (xs ++ ys) ≡ buffers_after_all (buffers_after_all b xs) ys
unfolding buffers_after_all
after_append [] ys b = refl
after_append (x ∷ xs) ys b = after_append xs ys (buffers_by b x.user x.call)

pub refused_append : (xs ys : List UserCall) (b : Buffers) → refused_layouts b xs → refused_layouts (buffers_after_all b xs) ys → refused_layouts b (xs ++ ys)
unfolding buffers_after_all
refused_append [] ys b p q = q
refused_append (x ∷ xs) ys b p q = (p.0, refused_append xs ys (buffers_by b x.user x.call) p.1 q)

-- ---- what the limit leaves

-- the buffers of an answer
abbrev left : BackupAnswer → Buffers
left a = record { pool = a.pool; table = a.table }

over_left : (over : Bool) (b : Buffers) (a : BackupAnswer) (u : ℕ) (call : Call) → buffers_by b u call ≡ left a
    → left (cond over (backup_refusal b.pool b.table 21) a) ≡ buffers_after_all b (unless_over over u call)
unfolding backup_refusal unless_over buffers_after_all
over_left true b a u call e = refl
over_left false b a u call e = sym e

over_refused : (over : Bool) (b : Buffers) (u : ℕ) (call : Call) → refused_layout b call → refused_layouts b (unless_over over u call)
unfolding unless_over
over_refused true b u call r = tt
over_refused false b u call r = (r, tt)

module _ (others limit u : ℕ) where
  -- the images of a closing, one after the other
  abbrev made : Buffers → List TillImage → SinglyMade
  made b xs = made_each (image_within others limit u) b.pool b.table xs

  abbrev lefts : Buffers → List TillImage → List UserCall
  lefts b xs = images_left others limit u b.pool b.table xs

  pub images_left_lem : (xs : List TillImage) (b : Buffers) → record { pool = (made b xs).pool; table = (made b xs).table } ≡ buffers_after_all b (lefts b xs)
  unfolding made_each images_left buffers_after_all image_within within
  images_left_lem [] b = refl
  images_left_lem (x ∷ xs) b = go (images_left_lem xs) (is_over others limit (image_backup u b.pool b.table x))
    where
      a : BackupAnswer
      a = image_backup u b.pool b.table x

      go : ((b : Buffers) → record { pool = (made b xs).pool; table = (made b xs).table } ≡ buffers_after_all b (lefts b xs)) → (over : Bool)
          → record { pool = (made (left (cond over (backup_refusal b.pool b.table 21) a)) xs).pool; table = (made (left (cond over (backup_refusal b.pool b.table 21) a)) xs).table }
          ≡ buffers_after_all b (cond over (lefts b xs) (record { user = u; call = backup_for x } ∷ lefts (left a) xs))
      go later true = unfold backup_refusal in later b
      go later false = unfold buffers_after_all backup_for buffers_by in later (left a)

  pub images_refused : (xs : List TillImage) (b : Buffers) → refused_layouts b (lefts b xs)
  unfolding images_left
  images_refused [] b = tt
  images_refused (x ∷ xs) b = go (images_refused xs) (is_over others limit (image_backup u b.pool b.table x))
    where
      a : BackupAnswer
      a = image_backup u b.pool b.table x

      go : ((b : Buffers) → refused_layouts b (lefts b xs)) → (over : Bool) → refused_layouts b (cond over (lefts b xs) (record { user = u; call = backup_for x } ∷ lefts (left a) xs))
      go later true = later b
      go later false = unfold backup_for buffers_by in (tt, later (left a))

-- ---- a call that names store `i` of a chain that is not refused

module _ (c : Chain) (l : LengthsAddUp c) (i limit u : ℕ) (z : chain_refusal c i ≡ 0) where
  abbrev b : Buffers
  b = buffers_at c i

  pub step_left : (call : Call) → left_on c i limit u call ≡ put c i (buffers_after_all b (reaches c i limit u call))
  unfolding left_on reaches buffers_after_all buffers_by buffers_at
  step_left (call_layout s) = refl
  step_left (call_backup era t d image) =
      let a : BackupAnswer = backup_as era (pool_at c i) (table_at c i) u t d image in
      unfold chain_backup backup_on_chain within in
      rw z (ap (put c i) (over_left (is_over (other_cells c i) limit a) (buffers_at c i) a u (call_backup era t d image) (unfold buffers_by buffers_at in refl)))
  step_left (call_restore t v output) = sym (put_same c l i)
  step_left (call_retire t v) = unfold chain_retire retire_on_chain in rw z refl
  step_left (call_listing t) = sym (put_same c l i)
  step_left (call_version_on t day) = sym (put_same c l i)
  step_left call_tally = sym (put_same c l i)
  step_left (call_bill price) = sym (put_same c l i)
  step_left (call_write_stream t v output) = sym (put_same c l i)
  step_left (call_offer t fs ms) = sym (put_same c l i)
  step_left (call_backup_sent t n fs ms ss) =
      let a : BackupAnswer = backup_sent_as (pool_at c i) (table_at c i) u t n fs ms ss in
      unfold chain_backup_sent backup_on_chain within in
      rw z (ap (put c i) (over_left (is_over (other_cells c i) limit a) (buffers_at c i) a u (call_backup_sent t n fs ms ss) (unfold buffers_by buffers_at in refl)))
  step_left (call_backup_all ts ns is) = unfold chain_backup_all all_on_chain backup_all_within in rw z (ap (put c i) (fits (closing_fits ts ns is)))
    where
      xs : List TillImage
      xs = images_in ts ns is

      fits : (fit : Bool)
          → record {
            pool = (cond fit (answer_to (made (other_cells c i) limit u (buffers_at c i) xs)) (record { answer = all_refused 4; pool = pool_at c i; table = table_at c i })).pool;
            table = (cond fit (answer_to (made (other_cells c i) limit u (buffers_at c i) xs)) (record { answer = all_refused 4; pool = pool_at c i; table = table_at c i })).table;
          }
          ≡ buffers_after_all (buffers_at c i) (cond fit (lefts (other_cells c i) limit u (buffers_at c i) xs) [])
      fits true = unfold answer_to in images_left_lem (other_cells c i) limit u xs (buffers_at c i)
      fits false = unfold buffers_after_all buffers_at in refl
  step_left (call_set_rights subject t r) =
      unfold chain_set_rights rights_on_chain in
      rw z (ap (λ (p : List ℕ). with_buffers c p (tables_with c i (set_rights_of (pool_at c i) (table_at c i) u subject t r).table)) (sym (pools_same c l i)))

  -- lay outs that are refused stay refused
  pub step_refused : (call : Call) → refused_layout b call → refused_layouts b (reaches c i limit u call)
  unfolding reaches
  step_refused (call_layout s) r = (r, tt)
  step_refused (call_backup era t d image) r = over_refused (is_over (other_cells c i) limit (backup_as era (pool_at c i) (table_at c i) u t d image)) b u (call_backup era t d image) r
  step_refused (call_restore t v output) r = (tt, tt)
  step_refused (call_retire t v) r = (tt, tt)
  step_refused (call_listing t) r = (tt, tt)
  step_refused (call_version_on t day) r = (tt, tt)
  step_refused call_tally r = (tt, tt)
  step_refused (call_bill price) r = (tt, tt)
  step_refused (call_write_stream t v output) r = (tt, tt)
  step_refused (call_offer t fs ms) r = (tt, tt)
  step_refused (call_backup_sent t n fs ms ss) r = over_refused (is_over (other_cells c i) limit (backup_sent_as (pool_at c i) (table_at c i) u t n fs ms ss)) b u (call_backup_sent t n fs ms ss) r
  step_refused (call_backup_all ts ns is) r = go (closing_fits ts ns is)
    where
      go : (fit : Bool) → refused_layouts (buffers_at c i) (cond fit (images_left (other_cells c i) limit u (pool_at c i) (table_at c i) (images_in ts ns is)) [])
      go true = unfold buffers_at in images_refused (other_cells c i) limit u (images_in ts ns is) (buffers_at c i)
      go false = tt
  step_refused (call_set_rights subject t r) q = (tt, tt)
