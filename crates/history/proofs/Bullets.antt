-- Bullets 1, 2 and 3 of demand 3: what each call on a till answers, by what is kept of it.
use mathlib.Core.Path.{◌≡◌, refl, sym, ap, ap₂, ◌∙◌, subst}
use mathlib.Core.Bool.{Bool, true, false, cond, ◌||◌}
use mathlib.Core.List.{List, [], ◌∷◌, ◌++◌}
use mathlib.Core.Option.{Option, none}
use Prim.Native.Nat.{ℕ, suc, ◌*◌, ◌≤◌, ◌<◌, zero-le}
use native.Mathlib.Nat.{suc-ne-zero}
use native.Mathlib.Omega.{arith}
use lib.ListN.{length, drop, get_or-eq_default}
use lib.Seq.{get_or-set_same}
use lib.Dec.{eqb, leb, ltb}
use borrow.Author.Tests.{eq-eqb, le-leb, le-ltb, lt-leb, lt-ltb, leb-true, leb-false}
use Rattle.lists.proofs.Tests.{by_test}
use Rattle.model.specs.Measures.{Shape}
use Rattle.model.specs.Image.{Era, with_blanks}
use Rattle.model.specs.State.{State}
use Rattle.model.specs.Trace.{longest_chain}
use Rattle.laws.proofs.Tills.{not_held_some}
use Rattle.model.specs.Sound.{store_of}
use Rattle.model.specs.Calls.{till_of, held_from, BackupAnswer, backup_by, restore_of, restore_refusal, retire_of, listing_of, listing_refusal, RestoreAnswer, ListingAnswer, not_held}
use Rattle.model.specs.Rights.{to_back_up, to_restore, user_refusal, backup_refusal, restore_as}
use Rattle.history.specs.Calls.{Call, call_backup, call_backup_sent, call_restore, call_retire, call_listing, Buffers, Answer, laid_out, backed_up, restored, retired, listed, found_on, tallied, billed, streamed, offered, backed_up_all, rights_set, refusal_in, till_named}
use Rattle.history.proofs.Calls.{answer_of}
use Rattle.history.specs.Users.{answer_by, refusal_by}
use Rattle.history.specs.Keeper.{Kept, KeptTill, Keeper, no_till, kept_till, filed, image_sent, change, fed, fed_each, comes_to, kept_from, oldest_kept, newest_kept}
use Rattle.history.proofs.View.{VersionView, TillView, view_of, view_at, is_on_till, chain_shown, newest_day_shown, day_shown, shown_from, oldest_shown, newest_shown, restore_shown, retire_shown, answer_shown}
use Rattle.sent.specs.Sent.{backup_sent_by, backup_sent_of, backup_sent_as}
use Rattle.history.specs.Demand.{Restores}
use Rattle.history.proofs.Sent.{accepted_is}
use Rattle.history.proofs.Local.{NotFull, HasRoom, answer_in_lem}
use Rattle.history.proofs.Shown.{from_same, chain_is}
use Rattle.history.proofs.Chains.{chain_most}
use Rattle.history.proofs.Kept.{Agree, agree_from, agree_oldest, agree_newest, agree_length}
use Rattle.history.proofs.Fed.{Stands}
use Rattle.history.proofs.Keys.{may_same, may_missing, accepted_same}
use Rattle.history.proofs.Steps.{Represents, answer_same}

unrestored : Answer → RestoreAnswer
unrestored (laid_out n) = restore_refusal n []
unrestored (backed_up n v) = restore_refusal n []
unrestored (restored a) = a
unrestored (retired n l) = restore_refusal n []
unrestored (listed a) = restore_refusal 0 []
unrestored (found_on a) = restore_refusal 0 []
unrestored (tallied a) = restore_refusal 0 []
unrestored (billed a) = restore_refusal 0 []
unrestored (streamed a) = restore_refusal 0 []
unrestored (offered a) = restore_refusal 0 []
unrestored (backed_up_all a) = restore_refusal 0 []
unrestored (rights_set n) = restore_refusal 0 []

unlisted : Answer → ListingAnswer
unlisted (laid_out n) = listing_refusal n
unlisted (backed_up n v) = listing_refusal n
unlisted (restored a) = listing_refusal 0
unlisted (retired n l) = listing_refusal n
unlisted (listed a) = a
unlisted (found_on a) = listing_refusal 0
unlisted (tallied a) = listing_refusal 0
unlisted (billed a) = listing_refusal 0
unlisted (streamed a) = listing_refusal 0
unlisted (offered a) = listing_refusal 0
unlisted (backed_up_all a) = listing_refusal 0
unlisted (rights_set n) = listing_refusal 0

-- a version's number, or a length
unfoldable pub number_in : Answer → ℕ
number_in (laid_out n) = 0
number_in (backed_up n v) = v
number_in (restored a) = 0
number_in (retired n l) = l
number_in (listed a) = 0
number_in (found_on a) = 0
number_in (tallied a) = 0
number_in (billed a) = 0
number_in (streamed a) = 0
number_in (offered a) = 0
number_in (backed_up_all a) = 0
number_in (rights_set n) = 0

-- The law: a call on a till answers what the till's view says, 14 and 16 apart.
pub answer_shown_lem : (s : Shape) (b : Buffers) (st : State) → Represents s b st → (call : Call) → is_on_till call ≡ true → HasRoom call (answer_of b call)
    → answer_of b call ≡ answer_shown s (view_at s.measures.block_bytes st (till_named call)) call
answer_shown_lem s b st l call on room = let same = answer_same s b st call l in same ∙ answer_in_lem s st call on (subst (HasRoom call) same room)

-- an accepted retire's length
struck_length : (n : ℕ) → 0 < n → (hs : List VersionView) → refusal_in (retire_shown n hs) ≡ 0 → (w : VersionView) × (newer : List VersionView) × (hs ≡ w ∷ newer) × (number_in (retire_shown n hs) ≡ w.length)
unfolding retire_shown refusal_in number_in
struck_length n h [] z = absurd (omega (arith, h, z))
struck_length n h (w ∷ ws) z = (w, ws, refl, refl)

-- of versions that agree with one that is shown, the first
first_kept : (bytes : ℕ) (xs : List Kept) (w : VersionView) (ws : List VersionView) → Agree bytes xs (w ∷ ws)
    → (x : Kept) × (newer : List Kept) × (xs ≡ x ∷ newer) × (w.length ≡ length x.image)
first_kept bytes [] w ws a = absurd a
first_kept bytes (x ∷ newer) w ws a = (x, newer, refl, a.0.size)

module _ (s : Shape) (b : Buffers) (st : State) (k : Keeper) (l : Represents s b st) (z : Stands s k st) where
  -- what till `t` shows
  shown : ℕ → TillView
  shown t = view_at s.measures.block_bytes st t

  answer_is : (call : Call) → is_on_till call ≡ true → HasRoom call (answer_of b call) → answer_of b call ≡ answer_shown s (view_at s.measures.block_bytes st (till_named call)) call
  answer_is = answer_shown_lem s b st l

  held : (t v : ℕ) → Agree s.measures.block_bytes (kept_from v (kept_till k t).versions) (shown_from v (shown t).versions)
  unfolding shown
  held t v = agree_from s.measures.block_bytes v (kept_till k t).versions (view_at s.measures.block_bytes st t).versions (z.tills t).1

  restore_is : (t v : ℕ) (output : List ℕ) → restore_of b.pool b.table t v output
      ≡ cond (leb s.capacities.tills t) (restore_refusal 3 output) (restore_shown (not_held (shown t).last v) (shown_from v (shown t).versions) output)
  unfolding unrestored answer_of answer_shown till_named shown
  restore_is t v output = ap unrestored (answer_is (call_restore t v output) refl tt)

  listing_is : (t : ℕ) → listing_of b.pool b.table t
      ≡ cond (leb s.capacities.tills t) (listing_refusal 3)
      (record { refusal = 0; oldest = oldest_shown (shown t).versions; newest = newest_shown (shown t).versions; last = (shown t).last })
  unfolding unlisted answer_of answer_shown till_named shown
  listing_is t = ap unlisted (answer_is (call_listing t) refl tt)

  -- a till with a version is there
  held_there : (t v : ℕ) (x : Kept) (newer : List Kept) → kept_from v (kept_till k t).versions ≡ x ∷ newer → leb s.capacities.tills t ≡ false
  held_there t v x newer e = go (leb s.capacities.tills t) refl
    where
      gone : kept_till k t ≡ no_till → kept_from v (kept_till k t).versions ≡ []
      gone q = ap (λ (y : KeptTill). kept_from v y.versions) q ∙ (unfold no_till kept_from in refl)

      go : (q : Bool) → leb s.capacities.tills t ≡ q → leb s.capacities.tills t ≡ false
      go true q =
          let out : kept_till k t ≡ no_till =
          unfold kept_till in get_or-eq_default k no_till (omega (arith, leb-true s.capacities.tills t q, z.many)) in
          absurd (suc-ne-zero (length newer) (ap length (sym e ∙ gone out)))
      go false q = q

  last_is : (t : ℕ) → (shown t).last ≡ (kept_till k t).last
  unfolding shown
  last_is t = (z.tills t).0

  -- a till of the keeper is there
  there : (t : ℕ) → t < length k → leb s.capacities.tills t ≡ false
  there t q = lt-leb s.capacities.tills t (omega (arith, q, z.many))

  -- what is not held is not shown
  none_shown : (t v : ℕ) → kept_from v (kept_till k t).versions ≡ [] → Agree s.measures.block_bytes [] (shown_from v (shown t).versions)
  none_shown t v e = subst (λ (xs : List Kept). Agree s.measures.block_bytes xs (shown_from v (shown t).versions)) e (held t v)

  -- a restore of a held version, which is shown as `w` with the newer ones `ws`
  held_is : (t v : ℕ) (x : Kept) (newer : List Kept) (output : List ℕ) (Q : RestoreAnswer → Type 0) → kept_from v (kept_till k t).versions ≡ x ∷ newer
      → ((w : VersionView) (ws : List VersionView) → Agree s.measures.block_bytes (x ∷ newer) (w ∷ ws) → shown_from v (shown t).versions ≡ w ∷ ws → Q (restore_shown (not_held (shown t).last v) (w ∷ ws) output))
      → Q (restore_of b.pool b.table t v output)
  held_is t v x newer output Q e f =
      subst Q
      (sym (restore_is t v output
      ∙ ap (λ (q : Bool). cond q (restore_refusal 3 output) (restore_shown (not_held (shown t).last v) (shown_from v (shown t).versions) output)) (held_there t v x newer e)))
      (go (shown_from v (shown t).versions) refl (subst (λ (xs : List Kept). Agree s.measures.block_bytes xs (shown_from v (shown t).versions)) e (held t v)))
    where
      go : (hs : List VersionView) → shown_from v (shown t).versions ≡ hs → Agree s.measures.block_bytes (x ∷ newer) hs → Q (restore_shown (not_held (shown t).last v) hs output)
      go [] q a = absurd a
      go (w ∷ ws) q a = f w ws a q

  -- by a user who may
  restore_by : (u t v : ℕ) (output : List ℕ) → user_refusal (leb (length k) t) (kept_till k t).rights u to_restore ≡ 0 → restore_as b.pool b.table u t v output ≡ restore_of b.pool b.table t v output
  unfolding restore_as
  restore_by u t v output m = may_same s b st k l z u t to_restore (λ n. restore_refusal n output) (restore_of b.pool b.table t v output) m

  held_by : (u t v : ℕ) (x : Kept) (newer : List Kept) (output : List ℕ) (Q : RestoreAnswer → Type 0) → user_refusal (leb (length k) t) (kept_till k t).rights u to_restore ≡ 0 → kept_from v (kept_till k t).versions ≡ x ∷ newer
      → ((w : VersionView) (ws : List VersionView) → Agree s.measures.block_bytes (x ∷ newer) (w ∷ ws) → shown_from v (shown t).versions ≡ w ∷ ws → Q (restore_shown (not_held (shown t).last v) (w ∷ ws) output))
      → Q (restore_as b.pool b.table u t v output)
  held_by u t v x newer output Q m e f = subst Q (sym (restore_by u t v output m)) (held_is t v x newer output Q e f)

  chain_of_lem : (t v : ℕ) → chain_shown (shown_from v (shown t).versions) ≡ longest_chain (held_from v (till_of st t).versions)
  unfolding shown view_of
  chain_of_lem t v =
      ap chain_shown (from_same s.measures.block_bytes st.storage v (till_of st t).versions)
      ∙ sym (chain_is s.measures.block_bytes st.storage (held_from v (till_of st t).versions))

  pub restores : Restores s.measures.block_bytes st k b
  unfolding restore_shown restore_refusal
  restores = record {
    given = λ u t v x newer output m e q.
        held_by u t v x newer output (λ (r : RestoreAnswer). (r.refusal ≡ 0) × (r.length ≡ length x.image) × (r.output ≡ x.image ++ drop (length x.image) output)
        × (r.hops ≡ longest_chain (held_from v (till_of st t).versions))) m e (λ w ws a y.
        rw (le-ltb (length output) w.length (omega (arith, q, a.0.size))) (
          refl,
          a.0.size,
          ap₂ (λ (i : List ℕ) (n : ℕ). i ++ drop n output) a.0.image a.0.size,
          ap chain_shown (sym y) ∙ chain_of_lem t v,
        ));
    short = λ u t v x newer output m e q.
        held_by u t v x newer output (λ (r : RestoreAnswer). r.refusal ≡ 5) m e (λ w ws a y. rw (lt-ltb (length output) w.length (omega (arith, q, a.0.size))) refl);
    not_held = λ u t v output m e q.
        ap (λ (r : RestoreAnswer). r.refusal) (restore_by u t v output m ∙ restore_is t v output)
        ∙ ap (λ (b : Bool). (cond b (restore_refusal 3 output) (restore_shown (not_held (shown t).last v) (shown_from v (shown t).versions) output)).refusal) (there t q)
        ∙ none (not_held (shown t).last v) output (shown_from v (shown t).versions) (none_shown t v e)
        ∙ ap (λ (n : ℕ). not_held n v) (last_is t);
    no_till = λ u t v output q.
        ap (λ (r : RestoreAnswer). r.refusal) (restore_by u t v output (may_missing k u t to_restore q) ∙ restore_is t v output)
        ∙ ap (λ (b : Bool). (cond b (restore_refusal 3 output) (restore_shown (not_held (shown t).last v) (shown_from v (shown t).versions) output)).refusal)
        (le-leb s.capacities.tills t (omega (arith, q, z.many)));
    chain = λ u t v x newer output m e.
        held_by u t v x newer output (λ (r : RestoreAnswer). r.hops ≤ length newer) m e (λ w ws a y.
        by_test (λ (r : RestoreAnswer). r.hops ≤ length newer) (ltb (length output) w.length) (λ q. zero-le)
        (λ q. subst (λ (n : ℕ). chain_shown (w ∷ ws) ≤ n) (agree_length s.measures.block_bytes newer ws a.1) (chain_most s l.fit.proper st l.sound t v w ws (unfold shown in y))));
  }
    where
      none : (n : ℕ) (output : List ℕ) (hs : List VersionView) → Agree s.measures.block_bytes [] hs → (restore_shown n hs output).refusal ≡ n
      none n output [] a = unfold restore_shown restore_refusal in refl
      none n output (w ∷ ws) a = absurd a

  -- an accepted backup
  room : (era : Era) (t : ℕ) (d : Option ℕ) (image : List ℕ) → (backup_by era b.pool b.table t d image).refusal ≡ 0 → NotFull (answer_of b (call_backup era t d image))
  unfolding answer_of refusal_in
  room era t d image z = (
    λ e. suc-ne-zero 13 (sym (ap refusal_in e) ∙ z),
    λ e. suc-ne-zero 15 (sym (ap refusal_in e) ∙ z),
  )

  Given : ℕ → ℕ → Answer → Type 0
  Given t n a = refusal_in a ≡ 0 → (number_in a ≡ n) × (leb s.capacities.tills t ≡ false)

  backup_is : (era : Era) (t : ℕ) (d : Option ℕ) (image : List ℕ) → Given t (suc (shown t).last) (answer_shown s (shown t) (call_backup era t d image))
  unfolding answer_shown Given refusal_in number_in
  backup_is era t d image = go (leb s.capacities.tills t) refl
    where
      later : leb s.capacities.tills t ≡ false → (b₁ b₂ b₃ b₄ : Bool)
          → Given t (suc (shown t).last)
          (cond b₁ (backed_up 4 0) (cond b₂ (backed_up 11 0) (cond b₃ (backed_up 12 0) (cond b₄ (backed_up 28 0) (backed_up 0 (suc (shown t).last))))))
      later e true b₂ b₃ b₄ = unfold Given refusal_in in (λ z. absurd (suc-ne-zero 3 z))
      later e false true b₃ b₄ = unfold Given refusal_in in (λ z. absurd (suc-ne-zero 10 z))
      later e false false true b₄ = unfold Given refusal_in in (λ z. absurd (suc-ne-zero 11 z))
      later e false false false true = unfold Given refusal_in in (λ z. absurd (suc-ne-zero 27 z))
      later e false false false false = unfold Given refusal_in number_in in (λ z. (refl, e))

      go : (q : Bool) → leb s.capacities.tills t ≡ q
          → Given t (suc (shown t).last)
          (cond q (backed_up 3 0)
          (cond (eqb (length image) 0 || ltb (s.measures.block_bytes * s.capacities.blocks) (length image)) (backed_up 4 0)
          (cond (leb s.capacities.versions (length (shown t).versions)) (backed_up 11 0)
          (cond (eqb (shown t).last 65535) (backed_up 12 0)
          (cond (ltb (day_shown d (shown t).versions) (newest_day_shown (shown t).versions)) (backed_up 28 0) (backed_up 0 (suc (shown t).last)))))))
      go true q = unfold Given refusal_in in (λ z. absurd (suc-ne-zero 2 z))
      go false q =
          later q (eqb (length image) 0 || ltb (s.measures.block_bytes * s.capacities.blocks) (length image))
          (leb s.capacities.versions (length (shown t).versions)) (eqb (shown t).last 65535)
          (ltb (day_shown d (shown t).versions) (newest_day_shown (shown t).versions))

  backup_given : (era : Era) (t : ℕ) (d : Option ℕ) (image : List ℕ) → (backup_by era b.pool b.table t d image).refusal ≡ 0
      → ((backup_by era b.pool b.table t d image).version ≡ suc (shown t).last) × (leb s.capacities.tills t ≡ false)
  unfolding answer_of till_named refusal_in number_in Given shown
  backup_given era t d image z = subst (Given t (suc (shown t).last)) (sym (answer_is (call_backup era t d image) refl (room era t d image z))) (backup_is era t d image) z

  fed_last : (era : Era) (t : ℕ) (d : Option ℕ) (image : List ℕ) → t < length k → (kept_till (fed k (call_backup era t d image) true) t).last ≡ suc (kept_till k t).last
  unfolding fed change till_named kept_till filed
  fed_last era t d image h = ap (λ (y : KeptTill). y.last) (get_or-set_same k t (filed (kept_till k t) d image) no_till h)

  pub retire_given : (t v : ℕ) → (retire_of b.pool b.table t v).refusal ≡ 0
      → (x : Kept) × (newer : List Kept) × (kept_from v (kept_till k t).versions ≡ x ∷ newer) × ((retire_of b.pool b.table t v).length ≡ length x.image)
  unfolding answer_of answer_shown till_named refusal_in number_in shown
  retire_given t v =
      subst (λ (a : Answer). refusal_in a ≡ 0 → Struck (number_in a)) (sym (answer_is (call_retire t v) refl tt))
      (by_test (λ (a : Answer). refusal_in a ≡ 0 → Struck (number_in a)) (leb s.capacities.tills t) (λ q z. absurd (suc-ne-zero 2 z))
      (λ q z. go (struck_length (not_held (shown t).last v) (not_held_some (shown t).last v) (shown_from v (shown t).versions) z)))
    where
      Struck : ℕ → Type 0
      Struck n = (x : Kept) × (newer : List Kept) × (kept_from v (kept_till k t).versions ≡ x ∷ newer) × (n ≡ length x.image)

      go : {n : ℕ} → (w : VersionView) × (ws : List VersionView) × (shown_from v (shown t).versions ≡ w ∷ ws) × (n ≡ w.length) → Struck n
      go f =
          let x = first_kept s.measures.block_bytes (kept_from v (kept_till k t).versions) f.0 f.1
          (subst (Agree s.measures.block_bytes (kept_from v (kept_till k t).versions)) f.2 (held t v)) in
          (x.0, x.1, x.2, f.3 ∙ x.3)

  pub retire_accepted : (t v : ℕ) (x : Kept) (newer : List Kept) → kept_from v (kept_till k t).versions ≡ x ∷ newer → (retire_of b.pool b.table t v).refusal ≡ 0
  unfolding answer_of answer_shown till_named refusal_in shown
  retire_accepted t v x newer e =
      ap refusal_in (answer_is (call_retire t v) refl tt)
      ∙ ap (λ (q : Bool). refusal_in (cond q (retired 3 0) (retire_shown (not_held (shown t).last v) (shown_from v (shown t).versions)))) (held_there t v x newer e)
      ∙ go (shown_from v (shown t).versions) (subst (λ (xs : List Kept). Agree s.measures.block_bytes xs (shown_from v (shown t).versions)) e (held t v))
    where
      go : (hs : List VersionView) → Agree s.measures.block_bytes (x ∷ newer) hs → refusal_in (retire_shown (not_held (shown t).last v) hs) ≡ 0
      go [] a = absurd a
      go (w ∷ ws) a = unfold retire_shown refusal_in in refl

  pub retire_not : (t v : ℕ) → kept_from v (kept_till k t).versions ≡ [] → t < length k → (retire_of b.pool b.table t v).refusal ≡ not_held (kept_till k t).last v
  unfolding answer_of answer_shown till_named refusal_in shown
  retire_not t v e h =
      ap refusal_in (answer_is (call_retire t v) refl tt)
      ∙ ap (λ (q : Bool). refusal_in (cond q (retired 3 0) (retire_shown (not_held (shown t).last v) (shown_from v (shown t).versions)))) (there t h)
      ∙ go (not_held (shown t).last v) (shown_from v (shown t).versions) (none_shown t v e)
      ∙ ap (λ (n : ℕ). not_held n v) (last_is t)
    where
      go : (n : ℕ) (hs : List VersionView) → Agree s.measures.block_bytes [] hs → refusal_in (retire_shown n hs) ≡ n
      go n [] a = unfold retire_shown refusal_in in refl
      go n (w ∷ ws) a = absurd a

  pub backup_last : (era : Era) (t : ℕ) (d : Option ℕ) (image : List ℕ) → (backup_by era b.pool b.table t d image).refusal ≡ 0
      → (backup_by era b.pool b.table t d image).version ≡ (kept_till (fed k (call_backup era t d image) true) t).last
  backup_last era t d image e =
      let g = backup_given era t d image e in
      g.0 ∙ ap suc (last_is t) ∙ sym (fed_last era t d image (omega (arith, leb-false s.capacities.tills t g.1, z.many)))

  sent_same : (t n : ℕ) (fs ms ss : List ℕ) → (backup_sent_of b.pool b.table t n fs ms ss).refusal ≡ 0
      → backup_sent_of b.pool b.table t n fs ms ss ≡ backup_by with_blanks b.pool b.table t none (image_sent (store_of b.pool b.table) t n fs ms ss)
  unfolding backup_sent_of backup_sent_by backup_by
  sent_same t n fs ms ss ok = accepted_is (store_of b.pool b.table) b.pool b.table t n fs ms ss ok

  pub sent_last : (u t n : ℕ) (fs ms ss : List ℕ) → (backup_sent_as b.pool b.table u t n fs ms ss).refusal ≡ 0
      → (backup_sent_as b.pool b.table u t n fs ms ss).version ≡ (kept_till (fed_each k (comes_to b u (call_backup_sent t n fs ms ss))) t).last
  unfolding comes_to fed_each refusal_by answer_by refusal_in
  sent_last u t n fs ms ss e =
      let image : List ℕ = image_sent (store_of b.pool b.table) t n fs ms ss in
      let owners : backup_sent_as b.pool b.table u t n fs ms ss ≡ backup_sent_of b.pool b.table t n fs ms ss = sent_by u t n fs ms ss e in
      let ok : (backup_sent_of b.pool b.table t n fs ms ss).refusal ≡ 0 = sym (ap (λ (a : BackupAnswer). a.refusal) owners) ∙ e in
      let same : backup_sent_of b.pool b.table t n fs ms ss ≡ backup_by with_blanks b.pool b.table t none image = sent_same t n fs ms ss ok in
      ap (λ (a : BackupAnswer). a.version) (owners ∙ same)
      ∙ backup_last with_blanks t none image (sym (ap (λ (a : BackupAnswer). a.refusal) same) ∙ ok)
      ∙ ap (λ (ok : Bool). (kept_till (fed k (call_backup with_blanks t none image) ok) t).last) (sym (eq-eqb (backup_sent_as b.pool b.table u t n fs ms ss).refusal 0 e))
    where
      sent_by : (u t n : ℕ) (fs ms ss : List ℕ) → (backup_sent_as b.pool b.table u t n fs ms ss).refusal ≡ 0 → backup_sent_as b.pool b.table u t n fs ms ss ≡ backup_sent_of b.pool b.table t n fs ms ss
      sent_by u t n fs ms ss e =
          unfold backup_sent_as in
          accepted_same s b st k l z (λ (a : BackupAnswer). a.refusal) (backup_refusal b.pool b.table) (λ n. unfold backup_refusal in refl) u t to_back_up (backup_sent_of b.pool b.table t n fs ms ss) (unfold backup_sent_as in e)

  pub listing_kept : (t : ℕ) → (listing_of b.pool b.table t).refusal ≡ 0
      → ((listing_of b.pool b.table t).oldest ≡ oldest_kept (kept_till k t).versions)
      × ((listing_of b.pool b.table t).newest ≡ newest_kept (kept_till k t).versions)
      × ((listing_of b.pool b.table t).last ≡ (kept_till k t).last)
  unfolding listing_refusal
  listing_kept t =
      subst Kept-by (sym (listing_is t)) (by_test Kept-by (leb s.capacities.tills t) (λ q z. absurd (suc-ne-zero 2 z)) (λ q e. (
        agree_oldest s.measures.block_bytes (kept_till k t).versions (shown t).versions (unfold shown in (z.tills t).1),
        agree_newest s.measures.block_bytes (kept_till k t).versions (shown t).versions (unfold shown in (z.tills t).1),
        last_is t,
      )))
    where
      Kept-by : ListingAnswer → Type 0
      Kept-by r = r.refusal ≡ 0 → (r.oldest ≡ oldest_kept (kept_till k t).versions) × (r.newest ≡ newest_kept (kept_till k t).versions) × (r.last ≡ (kept_till k t).last)
