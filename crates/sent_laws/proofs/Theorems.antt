-- A backup by the two messages of §5 is a backup: for the fingerprints and the segments of one image it answers 20, or what the image's backup answers.
use mathlib.Core.Path.{◌≡◌, refl, sym, ap, ◌∙◌, subst}
use mathlib.Core.Logic.{◌⊎◌, inl, inr}
use mathlib.Core.Bool.{Bool, true, false, cond, not, ◌||◌}
use mathlib.Core.List.{List, [], ◌∷◌, ◌++◌}
use mathlib.Core.Option.{Option, none, some}
use Prim.Native.Nat.{ℕ, ◌*◌, ◌≤◌, ◌<◌}
use native.Mathlib.Nat.{mul-le-mul}
use native.Mathlib.Omega.{arith}
use lib.ListN.{length}
use lib.Dec.{eqb, ltb, leb}
use borrow.Author.Tests.{eq-eqb, le-leb}
use Rattle.lists.specs.Lists.{every, total, all_of}
use Rattle.lists.specs.Rows.{joined, rows}
use Rattle.lists.specs.Each.{Each}
use Rattle.lists.proofs.Tests.{all_true}
use Rattle.lists.proofs.Each.{each_every}
use Rattle.lists.proofs.Rows.{wide_all, length_rows}
use Rattle.sha1_definition.specs.Sha1.{sha1, digest_bytes, bytes_of}
use Rattle.model.specs.Measures.{Shape, parts_for}
use Rattle.model.specs.State.{State, Outcome, refused, done}
use Rattle.model.specs.Image.{with_blanks, image_blocks}
use Rattle.model.specs.Sound.{Store, store_of}
use Rattle.model.specs.Table.{shape_of, state_in}
use Rattle.model.specs.Calls.{till_of, After, newest_day, day_for, place_and_file, backup, backup_answer, backup_in, backup_by, backup_of}
use Rattle.sent.specs.Sent.{Print, segment_bytes, segments_of, contents, zero_segment, sent_fits, made, backup_on, backup_sent, backup_sent_in, backup_sent_by}
use Rattle.sent.specs.Claims.{sent_of, sent_for, known_in, NoneShare, MarksFor, AsWhole, SentIsBackup}
use Rattle.laws.proofs.Image.{length_blocks}
use Rattle.laws.specs.Stores.{Sound, store_read}
use Rattle.laws.proofs.Stores.{read_or_none, fit}
use Rattle.sent_laws.proofs.Segments.{segments_whole, sent_length}
use Rattle.sent_laws.proofs.Gather.{AllHad, assembled_ok}
use Rattle.sent_laws.proofs.Never.{Never19, never_19}

-- four refusals in their order, then what follows
abbrev in_order : {A : Type 0} → Bool → Bool → Bool → Bool → Outcome A → Outcome A
in_order a b c d o = cond a (refused 3) (cond b (refused 4) (cond c (refused 11) (cond d (refused 12) o)))

same_order : (N : Type 0) (s : Shape) (st : State) (t : ℕ) (a b c d : Bool) (o : Outcome After) (q : Outcome (List ℕ))
    → ((backup_on s st t q ≡ refused 20) × N) ⊎ (backup_on s st t q ≡ in_order a b c d o)
    → ((backup_on s st t (in_order a (not (not b)) c d q) ≡ refused 20) × N) ⊎ backup_on s st t (in_order a (not (not b)) c d q) ≡ in_order a b c d o
unfolding backup_on
same_order N s st t true b c d o q h = inr refl
same_order N s st t false true c d o q h = inr refl
same_order N s st t false false true d o q h = inr refl
same_order N s st t false false false true o q h = inr refl
same_order N s st t false false false false o q h = h

module _ (print : Print) (wide : (x : List ℕ) → length (print x) ≡ 20) (s : Shape) (st : State) (image marks : List ℕ) (p : 0 < segment_bytes s.measures)
    (e : length marks ≡ length (segments_of s.measures image)) (b : Each (λ (i : ℕ). i ≤ 1) marks) where
  fits_if : sent_fits s (length image) (rows print (segments_of s.measures image)) marks (joined (sent_of marks (segments_of s.measures image)))
      ≡ not (eqb (length image) 0 || ltb (s.measures.block_bytes * s.capacities.blocks) (length image))
  unfolding sent_fits
  fits_if = go (not (eqb (length image) 0 || ltb (s.measures.block_bytes * s.capacities.blocks) (length image))) _ others
    where
      segs : List (List ℕ)
      segs = segments_of s.measures image

      many : length segs ≡ parts_for (segment_bytes s.measures) (length image)
      many = unfold segments_of image_blocks in length_blocks (segment_bytes s.measures) image 0 (parts_for (segment_bytes s.measures) (length image))

      whole : Each (λ x. length x ≡ segment_bytes s.measures) segs
      whole = unfold segments_of in segments_whole (segment_bytes s.measures) image

      others : all_of
          (eqb (length marks) (parts_for (segment_bytes s.measures) (length image))
          ∷ every (λ i. leb i 1) marks
          ∷ eqb (length (rows print segs)) (20 * length marks)
          ∷ eqb (length (joined (sent_of marks segs))) (total (λ i. i) marks * segment_bytes s.measures)
          ∷ []) ≡ true
      others =
          all_true _ (
            eq-eqb _ _ (e ∙ many),
            (
              each_every (λ (i : ℕ). i ≤ 1) (λ i. leb i 1) (λ i h. le-leb i 1 h) marks b,
              (
                eq-eqb (length (rows print segs)) (20 * length marks) (omega (arith, e, length_rows print 20 segs (wide_all print 20 wide segs))),
                (eq-eqb _ _ (sent_length (segment_bytes s.measures) marks segs e b whole), tt),
              ),
            ),
          )

      go : (x : Bool) (bs : List Bool) → all_of bs ≡ true → all_of (x ∷ bs) ≡ x
      go true bs h = unfold all_of in h
      go false bs h = unfold all_of in refl

  sent_or_20 : (t : ℕ) → NoneShare print (zero_segment s.measures ∷ (contents s.measures st.storage ++ segments_of s.measures image))
      → ((backup_sent print s st t (length image) (rows print (segments_of s.measures image)) marks (joined (sent_of marks (segments_of s.measures image))) ≡ refused 20)
      × (¬ (AllHad print s.measures st.storage (segments_of s.measures image) marks)))
      ⊎ backup_sent print s st t (length image) (rows print (segments_of s.measures image)) marks (joined (sent_of marks (segments_of s.measures image))) ≡ backup with_blanks s st t none image
  unfolding backup_sent made
  sent_or_20 t u =
      rw fits_if
      (unfold backup in
      same_order (¬ (AllHad print s.measures st.storage (segments_of s.measures image) marks)) s st t (leb s.capacities.tills t) (eqb (length image) 0 || ltb (s.measures.block_bytes * s.capacities.blocks) (length image))
      (leb s.capacities.versions (length (till_of st t).versions)) (eqb (till_of st t).last 65535)
      (cond (ltb (day_for none (till_of st t).versions) (newest_day (till_of st t).versions)) (refused 28) (place_and_file with_blanks s st t (day_for none (till_of st t).versions) image (till_of st t))) _
      (on (assembled_ok print wide s.measures st.storage image marks p e u)))
    where
      on : {N : Type 0} {o : Outcome (List ℕ)} → ((o ≡ refused 20) × N) ⊎ (o ≡ done image) → ((backup_on s st t o ≡ refused 20) × N) ⊎ backup_on s st t o ≡ backup with_blanks s st t none image
      on (inl h) = inl (ap (backup_on s st t) h.0 ∙ (unfold backup_on in refl), h.1)
      on (inr h) = inr (ap (backup_on s st t) h ∙ (unfold backup_on in refl))

-- ---- on buffers

some_bytes : (pool table : List ℕ) → store_of pool table ≡ some (store_read pool table) → 0 < segment_bytes (shape_of table).measures
unfolding segment_bytes
some_bytes pool table f =
    let h : Sound pool table = record { is = f } in
    let a : 1 ≤ (shape_of table).measures.segment_blocks = (fit h).proper.blocks in
    let b : 1 ≤ (shape_of table).measures.block_bytes = (fit h).proper.bytes in
    let r : 1 * 1 ≤ (shape_of table).measures.segment_blocks * (shape_of table).measures.block_bytes = mul-le-mul a b in
    omega (arith, r)

pub sent_as_whole : (print : Print) → ((x : List ℕ) → length (print x) ≡ 20) → (pool table : List ℕ) (t : ℕ) (image marks : List ℕ)
    → MarksFor table image marks
    → NoneShare print (known_in (store_of pool table) ++ segments_of (shape_of table).measures image)
    → AsWhole pool table t image (sent_for print pool table t image marks)
unfolding sent_for backup_sent_by backup_of backup_by
sent_as_whole print wide pool table t image marks h u = go (store_of pool table) (read_or_none pool table) (some_bytes pool table) u
  where
    segs : List (List ℕ)
    segs = segments_of (shape_of table).measures image

    less : {N : Type 0} {q o : Outcome After} → ((q ≡ refused 20) × N) ⊎ (q ≡ o) → q ≡ refused 20 ⊎ q ≡ o
    less (inl h) = inl h.0
    less (inr h) = inr h

    either : (o : Outcome After) → Never19 o → (q : Outcome After) → q ≡ refused 20 ⊎ q ≡ o
        → ¬ ((backup_answer pool table (shape_of table) q).refusal ≡ 19)
        × (¬ ((backup_answer pool table (shape_of table) q).refusal ≡ 20) → backup_answer pool table (shape_of table) q ≡ backup_answer pool table (shape_of table) o)
    either o n q (inl f) =
        rw f (unfold backup_answer in ((λ n. absurd (omega (arith, n))), λ n. absurd (n refl)))
    either o n q (inr f) = rw f (never o n, λ n. refl)
      where
        never : (o : Outcome After) → Never19 o → ¬ ((backup_answer pool table (shape_of table) o).refusal ≡ 19)
        never (refused n) h = unfold backup_answer in h
        never (done a) h = unfold backup_answer in (λ n. absurd (omega (arith, n)))

    go : (o : Option Store) → o ≡ none ⊎ o ≡ some (store_read pool table) → (o ≡ some (store_read pool table) → 0 < segment_bytes (shape_of table).measures)
        → NoneShare print (known_in o ++ segs)
        → ¬ ((backup_sent_in print o pool table t (length image) (rows print segs) marks (joined (sent_of marks segs))).refusal ≡ 19)
        × (¬ ((backup_sent_in print o pool table t (length image) (rows print segs) marks (joined (sent_of marks segs))).refusal ≡ 20)
        → backup_sent_in print o pool table t (length image) (rows print segs) marks (joined (sent_of marks segs)) ≡ backup_in with_blanks o pool table t none image)
    go o (inl f) p u = rw f (unfold backup_sent_in backup_in in ((λ n. absurd (omega (arith, n))), λ n. refl))
    go o (inr f) p u =
        rw f
        (unfold backup_sent_in backup_in in
        either (backup with_blanks (shape_of table) (store_read pool table).state t none image) (never_19 with_blanks (shape_of table) (store_read pool table).state t none image) _
        (less (sent_or_20 print wide (shape_of table) (store_read pool table).state image marks (p f) h.0 h.1 t
        (unfold known_in in subst (λ (x : Option Store). NoneShare print (known_in x ++ segs)) f u))))

-- In a sound store, where each segment not sent is marked by the first message, it is the image's backup: no 20 either.
pub sent_if_had : (print : Print) → ((x : List ℕ) → length (print x) ≡ 20) → (pool table : List ℕ) → Sound pool table → (t : ℕ) (image marks : List ℕ)
    → MarksFor table image marks
    → NoneShare print (known_in (store_of pool table) ++ segments_of (shape_of table).measures image)
    → AllHad print (shape_of table).measures (state_in (shape_of table) pool table).storage (segments_of (shape_of table).measures image) marks
    → sent_for print pool table t image marks ≡ backup_of pool table t image
unfolding sent_for backup_sent_by backup_of backup_by
sent_if_had print wide pool table h t image marks mk u c =
    ap (λ (o : Option Store). backup_sent_in print o pool table t (length image) (rows print segs) marks (joined (sent_of marks segs))) h.is
    ∙ inside
    ∙ sym (ap (λ (o : Option Store). backup_in with_blanks o pool table t none image) h.is)
  where
    segs : List (List ℕ)
    segs = segments_of (shape_of table).measures image

    go : {q o : Outcome After} → ((q ≡ refused 20) × (¬ (AllHad print (shape_of table).measures (state_in (shape_of table) pool table).storage segs marks))) ⊎ (q ≡ o) → q ≡ o
    go (inl f) = absurd (f.1 c)
    go (inr f) = f

    inside : backup_sent_in print (some (store_read pool table)) pool table t (length image) (rows print segs) marks (joined (sent_of marks segs))
        ≡ backup_in with_blanks (some (store_read pool table)) pool table t none image
    inside =
        unfold backup_sent_in backup_in in
        ap (backup_answer pool table (shape_of table))
        (go (sent_or_20 print wide (shape_of table) (store_read pool table).state image marks (some_bytes pool table h.is) mk.0 mk.1 t
        (unfold known_in in subst (λ (x : Option Store). NoneShare print (known_in x ++ segs)) h.is u)))

-- ---- the calls of SHA-1

pub sha1_wide : (x : List ℕ) → length (sha1 x) ≡ 20
unfolding sha1 digest_bytes bytes_of
sha1_wide x = refl

pub sent_is_backup : SentIsBackup
sent_is_backup = sent_as_whole sha1 sha1_wide
