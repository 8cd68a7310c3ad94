-- §13: the days of a till's versions never fall, and lookup by day goes by the keeper's.
use mathlib.Core.Path.{◌≡◌, refl, sym, ap, ap₂, ◌∙◌, subst}
use mathlib.Core.Bool.{Bool, true, false, cond}
use mathlib.Core.List.{List, [], ◌∷◌, ◌++◌, map, map-append}
use mathlib.Core.Option.{Option}
use Prim.Native.Nat.{ℕ, zero, suc, ◌≤◌, ◌<◌}
use native.Mathlib.Nat.{suc-ne-zero}
use native.Mathlib.Omega.{arith}
use lib.ListN.{length, get_or, replicate, get_or-eq_default}
use lib.Dec.{eqb, leb}
use borrow.Author.Tests.{ne_eqb, eqb-true, eqb-false, leb-true, le-leb, lt-leb}
use Rattle.lists.specs.Lists.{keep, last_of}
use Rattle.lists.specs.Each.{Each}
use Rattle.lists.proofs.Last.{last_map}
use Rattle.lists.proofs.Each.{each_append}
use Rattle.lists.proofs.Keep.{keep_same}
use Rattle.model.specs.Measures.{Shape}
use Rattle.model.specs.Image.{Era, image_blocks}
use Rattle.model.specs.State.{Block, Rights, State, Outcome, refused, done}
use Rattle.model.specs.Sound.{is_sound, Store}
use Rattle.model.specs.Calls.{empty_till, empty_state, till_of, After, backup, retire, outcome_refusal, newest_day, day_for, VersionOnAnswer, version_on_in, version_on_of}
use Rattle.model.specs.Rights.{to_list, version_on_refusal, version_on_as, set_rights}
use Rattle.laws.proofs.Fits.{Proper}
use Rattle.laws.proofs.Backup.{backup_day}
use Rattle.history.specs.Calls.{Call, call_layout, call_backup, call_restore, call_retire, call_listing, call_version_on, call_tally, call_bill, call_write_stream, call_offer, call_backup_sent, call_backup_all, call_set_rights, Buffers, refusal_in, till_named}
use Rattle.history.proofs.Calls.{state_after, answer_in, is_accepted}
use Rattle.history.specs.Users.{UserCall, buffers_by, state_by, refused_layouts, state_after_all}
use Rattle.history.specs.Keeper.{Kept, KeptTill, Keeper, no_till, kept_till, newest_kept, kept_not_after, CallMade, comes_to}
use Rattle.history.proofs.View.{VersionView, TillView, view_versions, view_of, view_at, with_kinds, turn_newest, newest_day_shown, day_shown, shown_with, take_over_kind, drop_version, shown_without, shown_rights, changed, IsPlain, shown_not_after}
use Rattle.history.specs.Demand.{NeverFall, Days}
use Rattle.history.proofs.Shown.{newest_of, newest_day_is, day_is, views_days, newest_or_none_lem, of_views}
use Rattle.history.proofs.Numbered.{Numbered, backup_numbered}
use Rattle.history.proofs.Frame.{frame_own, frame_other}
use Rattle.history.proofs.Kept.{Agree, agree_numbers, agree_days}
use Rattle.history.proofs.Steps.{Represents, left_store}
use Rattle.history.proofs.Users.{left_by}
use Rattle.history.proofs.Carried.{made_of, made_sound, Carries, carried}
use Rattle.history.proofs.Fed.{Stands}
use Rattle.history.proofs.Keys.{may_same, may_missing}

-- ---- days that never fall

days_of : List VersionView → List ℕ
days_of ws = map (λ (w : VersionView). w.day) ws

-- the last is the latest
last_latest : (day : ℕ) (days : List ℕ) → Each (λ (later : ℕ). day ≤ later) days → 0 < length days → day ≤ last_of (λ (n : ℕ). n) 0 days
unfolding last_of
last_latest day [] h l = absurd (omega (arith, l))
last_latest day (d ∷ []) h l = h.0
last_latest day (d ∷ e ∷ days) h l = last_latest day (e ∷ days) h.1 (omega arith)

fall_snoc : (days : List ℕ) (day : ℕ) → NeverFall days → last_of (λ (n : ℕ). n) 0 days ≤ day → NeverFall (days ++ (day ∷ []))
unfolding last_of
fall_snoc [] day h l = (tt, tt)
fall_snoc (d ∷ []) day h l = ((l, tt), (tt, tt))
fall_snoc (d ∷ e ∷ days) day h l =
    let most : d ≤ day = omega (arith, l, last_latest d (e ∷ days) h.0 (omega arith)) in
    (each_append (λ (later : ℕ). d ≤ later) (e ∷ days) (day ∷ []) h.0 (most, tt), fall_snoc (e ∷ days) day h.1 l)

newest_day_lem : (ws : List VersionView) → newest_day_shown ws ≡ last_of (λ (n : ℕ). n) 0 (days_of ws)
unfolding newest_day_shown days_of
newest_day_lem ws = last_map (λ (w : VersionView). w.day) 0 ws

turned_days : (era : Era) (bytes : ℕ) (new : List Block) (ws : List VersionView) → days_of (turn_newest era bytes new ws) ≡ days_of ws
unfolding turn_newest with_kinds days_of
turned_days era bytes new [] = refl
turned_days era bytes new (w ∷ []) = refl
turned_days era bytes new (w ∷ x ∷ ws) = ap {B = List ℕ} (λ l. w.day ∷ l) (turned_days era bytes new (x ∷ ws))

-- a version filed
filed_days : (era : Era) (bytes : ℕ) (w : TillView) (d : Option ℕ) (image : List ℕ) → NeverFall (days_of w.versions) → newest_day_shown w.versions ≤ day_shown d w.versions
    → NeverFall (days_of (shown_with era bytes w d image).versions)
unfolding shown_with days_of
filed_days era bytes w d image h l =
    subst NeverFall
    (sym (map-append (λ (v : VersionView). v.day) (turn_newest era bytes (image_blocks bytes image) w.versions) _
    ∙ ap (λ (ds : List ℕ). ds ++ (day_shown d w.versions ∷ [])) (turned_days era bytes (image_blocks bytes image) w.versions)))
    (fall_snoc (days_of w.versions) (day_shown d w.versions) h (omega (arith, l, newest_day_lem w.versions)))

-- a version struck
struck_each : (P : ℕ → Type 0) (n : ℕ) (ws : List VersionView) → Each P (days_of ws) → Each P (days_of (drop_version n ws))
unfolding drop_version with_kinds days_of
struck_each P n [] h = tt
struck_each P n (w ∷ []) h = go (eqb w.number n)
  where
    go : (b : Bool) → Each P (days_of (cond b [] (w ∷ [])))
    go true = tt
    go false = h
struck_each P n (w ∷ x ∷ ws) h = go (eqb w.number n) (eqb x.number n) (struck_each P n (x ∷ ws) h.1)
  where
    go : (b c : Bool) → Each P (days_of (drop_version n (x ∷ ws)))
        → Each P (days_of (cond b (x ∷ ws) (cond c (with_kinds w (map (take_over_kind x.kinds) w.kinds) ∷ ws) (w ∷ drop_version n (x ∷ ws)))))
    go true c r = h.1
    go false true r = unfold with_kinds in (h.0, h.1.1)
    go false false r = (h.0, r)

struck_days : (n : ℕ) (ws : List VersionView) → NeverFall (days_of ws) → NeverFall (days_of (drop_version n ws))
unfolding drop_version days_of
struck_days n [] h = tt
struck_days n (w ∷ []) h = go (eqb w.number n)
  where
    go : (b : Bool) → NeverFall (days_of (cond b [] (w ∷ [])))
    go true = tt
    go false = h
struck_days n (w ∷ x ∷ ws) h =
    go (eqb w.number n) (eqb x.number n) (struck_days n (x ∷ ws) h.1) (unfold days_of in struck_each (λ (later : ℕ). w.day ≤ later) n (x ∷ ws) h.0)
  where
    go : (b c : Bool) → NeverFall (days_of (drop_version n (x ∷ ws))) → Each (λ (later : ℕ). w.day ≤ later) (days_of (drop_version n (x ∷ ws)))
        → NeverFall (days_of (cond b (x ∷ ws) (cond c (with_kinds w (map (take_over_kind x.kinds) w.kinds) ∷ ws) (w ∷ drop_version n (x ∷ ws)))))
    go true c r l = h.1
    go false true r l = unfold with_kinds in (h.0.1, h.1.1)
    go false false r l = (l, r)

-- ---- in a state that calls reach

abbrev pub Dated : Shape → State → Type 0
Dated s st = (t : ℕ) → NeverFall (map (λ (w : VersionView). w.day) (view_at s.measures.block_bytes st t).versions)

pub dated_empty : (s : Shape) → Dated s (empty_state s)
unfolding empty_state till_of view_of
dated_empty s t = go s.capacities.tills t
  where
    none_held : NeverFall (map (λ (w : VersionView). w.day) (view_versions s.measures.block_bytes (empty_state s).storage empty_till.versions))
    none_held = unfold empty_till view_versions in tt

    go : (n t : ℕ) → NeverFall (map (λ (w : VersionView). w.day) (view_versions s.measures.block_bytes (empty_state s).storage (get_or (replicate n empty_till) t empty_till).versions))
    go zero t = none_held
    go (suc n) zero = none_held
    go (suc n) (suc t) = go n t

module _ (s : Shape) (pr : Proper s.measures) (st : State) (h : is_sound s st ≡ true) (z : Dated s st) where
  backup_days : (era : Era) (t : ℕ) (d : Option ℕ) (image : List ℕ) (o : Outcome After) → Numbered o → backup era s st t d image ≡ o
      → NeverFall (map (λ (w : VersionView). w.day) (changed s.measures.block_bytes (call_backup era t d image) (eqb (outcome_refusal o) 0) (view_at s.measures.block_bytes st t)).versions)
  unfolding changed outcome_refusal
  backup_days era t d image (refused n) g q = rw (ne_eqb n 0 (λ e. omega (arith, g, e))) (z t)
  backup_days era t d image (done a) g q =
      unfold days_of in
      filed_days era s.measures.block_bytes (view_at s.measures.block_bytes st t) d image (unfold days_of in z t)
      (unfold view_of in
      (let l : newest_day (till_of st t).versions ≤ day_for d (till_of st t).versions = backup_day era s t d image st a q in
      omega (arith, l, newest_day_is s.measures.block_bytes st.storage (till_of st t).versions, day_is s.measures.block_bytes st.storage d (till_of st t).versions)))

  retire_days : (t v : ℕ) (ok : Bool) → NeverFall (map (λ (w : VersionView). w.day) (changed s.measures.block_bytes (call_retire t v) ok (view_at s.measures.block_bytes st t)).versions)
  unfolding changed shown_without
  retire_days t v true = unfold days_of in struck_days v (view_at s.measures.block_bytes st t).versions (unfold days_of in z t)
  retire_days t v false = z t

  rights_days : (subject t : ℕ) (r : Rights) (ok : Bool)
      → NeverFall (map (λ (w : VersionView). w.day) (changed s.measures.block_bytes (call_set_rights subject t r) ok (view_at s.measures.block_bytes st t)).versions)
  unfolding changed shown_rights
  rights_days subject t r true = z t
  rights_days subject t r false = z t

  own_days : (call : Call) → IsPlain call
      → NeverFall (map (λ (w : VersionView). w.day) (changed s.measures.block_bytes call (is_accepted s st call) (view_at s.measures.block_bytes st (till_named call))).versions)
  unfolding is_accepted answer_in refusal_in till_named changed
  own_days (call_layout c) p = z 0
  own_days (call_backup era t d image) p = unfold changed in backup_days era t d image (backup era s st t d image) (backup_numbered era s st t d image) refl
  own_days (call_restore t v output) p = z t
  own_days (call_retire t v) p = unfold changed in retire_days t v (eqb (outcome_refusal (retire s st t v)) 0)
  own_days (call_listing t) p = z t
  own_days (call_version_on t day) p = z t
  own_days call_tally p = z 0
  own_days (call_bill price) p = z 0
  own_days (call_write_stream t v output) p = z t
  own_days (call_offer t fs ms) p = z t
  own_days (call_backup_sent t n fs ms ss) p = absurd p
  own_days (call_backup_all ts ns is) p = absurd p
  own_days (call_set_rights subject t r) p = unfold changed in rights_days subject t r (eqb (outcome_refusal (set_rights s st 0 subject t r)) 0)

  dated_plain : (call : Call) → IsPlain call → Dated s (state_after s st call)
  dated_plain call p t = go (eqb t (till_named call)) refl
    where
      Fine : ℕ → Type 0
      Fine t = NeverFall (map (λ (w : VersionView). w.day) (view_at s.measures.block_bytes (state_after s st call) t).versions)

      go : (b : Bool) → eqb t (till_named call) ≡ b → Fine t
      go true e =
          subst Fine (sym (eqb-true t (till_named call) e))
          (subst (λ (w : TillView). NeverFall (map (λ (v : VersionView). v.day) w.versions)) (sym (frame_own s pr st h call p)) (own_days call p))
      go false e =
          subst (λ (w : TillView). NeverFall (map (λ (v : VersionView). v.day) w.versions)) (sym (frame_other s pr st h call p t (eqb-false t (till_named call) e))) (z t)

dated_each : (s : Shape) → Proper s.measures → (ms : List CallMade) (st end : State) → is_sound s st ≡ true → Carries s st ms end → Dated s st → Dated s end
dated_each s pr [] st end h c z = subst (Dated s) c z
dated_each s pr (m ∷ ms) st end h c z = dated_each s pr ms (made_of s st m) end (made_sound s pr st h m) c.2 (go m.accepted)
  where
    go : (b : Bool) → Dated s (cond b (state_after s st m.call) st)
    go true = dated_plain s pr st h z m.call c.0
    go false = z

pub dated_all : (s : Shape) (calls : List UserCall) (b : Buffers) (st : State) → Represents s b st → Dated s st → refused_layouts b calls → Dated s (state_after_all s st calls)
unfolding state_after_all
dated_all s [] b st l z r = z
dated_all s (c ∷ calls) b st l z r =
    dated_all s calls (buffers_by b c.user c.call) (state_by s st c.user c.call) (left_by s b st c.user c.call l r.0)
    (dated_each s l.fit.proper (comes_to b c.user c.call) st (state_by s st c.user c.call) l.sound (carried s b st l c.user c.call) z) r.1

-- ---- the keeper's days

newest_kept_lem : (xs : List Kept) → newest_kept xs ≡ last_of (λ (n : ℕ). n) 0 (map (λ (x : Kept). x.number) xs)
unfolding newest_kept
newest_kept_lem xs = last_map (λ (x : Kept). x.number) 0 xs

module _ (s : Shape) (b : Buffers) (st : State) (k : Keeper) (l : Represents s b st) (z : Stands s k st) (dated : Dated s st) where
  -- what is shown of till `t`
  abbrev shown : ℕ → List VersionView
  shown t = view_versions s.measures.block_bytes st.storage (till_of st t).versions

  agree : (t : ℕ) → Agree s.measures.block_bytes (kept_till k t).versions (shown t)
  unfolding view_of
  agree t = (z.tills t).1

  same_days : (t : ℕ) → map (λ (w : VersionView). w.day) (shown t) ≡ map (λ (x : Kept). x.day) (kept_till k t).versions
  same_days t = agree_days s.measures.block_bytes (kept_till k t).versions (shown t) (agree t)

  days_shown : (t : ℕ) → NeverFall (map (λ (w : VersionView). w.day) (shown t))
  unfolding view_of
  days_shown t = dated t

  early_same : (t day : ℕ) → map (λ (w : VersionView). w.number) (shown_not_after day (shown t)) ≡ map (λ (x : Kept). x.number) (kept_not_after day (kept_till k t).versions)
  unfolding shown_not_after kept_not_after
  early_same t day =
      keep_same (λ (n : ℕ). leb n day) (λ (w : VersionView). w.day) (λ (w : VersionView). w.number) (λ (x : Kept). x.day) (λ (x : Kept). x.number) (shown t) (kept_till k t).versions
      (same_days t) (agree_numbers s.measures.block_bytes (kept_till k t).versions (shown t) (agree t))

  found_is : (t day : ℕ) → version_on_of b.pool b.table t day
      ≡ cond (leb s.capacities.tills t) (record { refusal = 3; version = 0 }) (newest_of (map (λ (x : Kept). x.number) (kept_not_after day (kept_till k t).versions)))
  unfolding version_on_of version_on_in
  found_is t day =
      ap (λ (o : Option Store). version_on_in o t day) (left_store s b st l)
      ∙ ap (λ (a : VersionOnAnswer). cond (leb s.capacities.tills t) (record { refusal = 3; version = 0 }) a)
      (newest_or_none_lem s.measures.block_bytes st.storage day (till_of st t).versions ∙ of_views (shown_not_after day (shown t)) ∙ ap newest_of (early_same t day))

  none_there : (t day : ℕ) → length k ≤ t → kept_not_after day (kept_till k t).versions ≡ []
  unfolding kept_till kept_not_after no_till keep
  none_there t day h = ap (λ (y : KeptTill). keep (λ (x : Kept). leb x.day day) y.versions) (get_or-eq_default k no_till h)

  -- a till with a version that early is there
  there : (t day : ℕ) (x : Kept) (xs : List Kept) → kept_not_after day (kept_till k t).versions ≡ x ∷ xs → leb s.capacities.tills t ≡ false
  there t day x xs e = go (leb s.capacities.tills t) refl
    where
      go : (q : Bool) → leb s.capacities.tills t ≡ q → q ≡ false
      go true q = absurd (suc-ne-zero (length xs) (sym (ap length (sym (none_there t day (omega (arith, leb-true s.capacities.tills t q, z.many))) ∙ e))))
      go false q = refl

  given : (t day : ℕ) (x : Kept) (xs : List Kept) → kept_not_after day (kept_till k t).versions ≡ x ∷ xs → version_on_of b.pool b.table t day ≡ record { refusal = 0; version = newest_kept (x ∷ xs) }
  unfolding newest_of
  given t day x xs e =
      found_is t day
      ∙ ap₂ (λ (q : Bool) (ys : List Kept). cond q (record { refusal = 3; version = 0 }) (newest_of (map (λ (y : Kept). y.number) ys))) (there t day x xs e) e
      ∙ ap (λ (n : ℕ). record { refusal = 0; version = n }) (sym (newest_kept_lem (x ∷ xs)))

  too_early : (t day : ℕ) → kept_not_after day (kept_till k t).versions ≡ [] → t < length k → (version_on_of b.pool b.table t day).refusal ≡ 29
  unfolding newest_of
  too_early t day e q =
      ap (λ (a : VersionOnAnswer). a.refusal)
      (found_is t day
      ∙ ap₂ (λ (q : Bool) (ys : List Kept). cond q (record { refusal = 3; version = 0 }) (newest_of (map (λ (y : Kept). y.number) ys)))
      (lt-leb s.capacities.tills t (omega (arith, q, z.many))) e)

  pub days : Days s.measures.block_bytes st k b
  days = record {
    kept = λ t. sym (views_days s.measures.block_bytes st.storage (till_of st t).versions) ∙ same_days t;
    ordered = λ t. subst NeverFall (same_days t) (days_shown t);
    given = λ u t day x xs m e.
        let is = may_same s b st k l z u t to_list version_on_refusal (version_on_of b.pool b.table t day) m in
        unfold version_on_as in (ap (λ (a : VersionOnAnswer). a.refusal) (is ∙ given t day x xs e), ap (λ (a : VersionOnAnswer). a.version) (is ∙ given t day x xs e));
    none = λ u t day m e q.
        unfold version_on_as in (ap (λ (a : VersionOnAnswer). a.refusal) (may_same s b st k l z u t to_list version_on_refusal (version_on_of b.pool b.table t day) m) ∙ too_early t day e q);
    no_till = λ u t day q.
        unfold version_on_as in ap (λ (a : VersionOnAnswer). a.refusal)
        (may_same s b st k l z u t to_list version_on_refusal (version_on_of b.pool b.table t day) (may_missing k u t to_list q)
        ∙ found_is t day
        ∙ ap (λ (q : Bool). cond q (record { refusal = 3; version = 0 }) (newest_of (map (λ (y : Kept). y.number) (kept_not_after day (kept_till k t).versions))))
        (le-leb s.capacities.tills t (omega (arith, q, z.many))));
  }
