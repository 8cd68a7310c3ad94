-- Both messages in turn: what the first marks is had in the second.
use mathlib.Core.Path.{◌≡◌, refl, ap, ◌∙◌, subst}
use mathlib.Core.Logic.{◌⊎◌, inl, inr}
use mathlib.Core.Bool.{Bool, true, false, cond, not}
use mathlib.Core.List.{List, [], ◌∷◌, ◌++◌, map}
use mathlib.Core.Option.{Option, none, some}
use Prim.Native.Nat.{ℕ, suc, ◌≤◌}
use native.Mathlib.Nat.{suc-ne-zero}
use native.Mathlib.Omega.{arith}
use lib.ListN.{length}
use lib.Dec.{eqb, leb, lit<}
use Rattle.lists.specs.Lists.{is_some}
use Rattle.lists.specs.Rows.{rows, chunks}
use Rattle.lists.specs.Each.{Each}
use Rattle.lists.proofs.Each.{each_map, each_all}
use Rattle.lists.proofs.Cuts.{chunks_joined}
use Rattle.sha1_definition.specs.Sha1.{sha1}
use Rattle.model.specs.Measures.{Measures, Shape}
use Rattle.model.specs.State.{Storage, State, refused, done}
use Rattle.model.specs.Table.{shape_of, state_in}
use Rattle.model.specs.Sound.{Store, store_of}
use Rattle.model.specs.Calls.{backup_of}
use Rattle.laws.specs.Stores.{store_read}
use Rattle.laws.proofs.Stores.{read_or_none}
use Rattle.sent.specs.Sent.{Print, segments_of, had, offer_fits, OfferAnswer, offer, offer_answer, offer_in, offer_of}
use Rattle.sent.specs.Claims.{sent_for, known_in, NoneShare, lacking, OfferedIsBackup}
use Rattle.sent_laws.proofs.Gather.{AllHad}
use Rattle.sent_laws.proofs.Theorems.{sent_if_had, sha1_wide}

module _ (print : Print) (wide : (x : List ℕ) → length (print x) ≡ 20) (m : Measures) (storage : Storage) where
  -- the first message's mark of a segment
  abbrev mark_of : List ℕ → ℕ
  mark_of f = cond (is_some (had print m storage [] f)) 1 0

  marked : (segs : List (List ℕ)) → map mark_of (chunks 20 (rows print segs)) ≡ map mark_of (map print segs)
  marked segs = ap (map mark_of) (chunks_joined 20 (map print segs) (each_map (λ x. length x ≡ 20) print segs (each_all (λ x. length (print x) ≡ 20) wide segs)) (lit< tt))

  all_had : (segs : List (List ℕ)) → AllHad print m storage segs (lacking (map mark_of (map print segs)))
  unfolding lacking
  all_had [] = tt
  all_had (x ∷ segs) = go (is_some (had print m storage [] (print x))) refl (all_had segs)
    where
      go : (b : Bool) → is_some (had print m storage [] (print x)) ≡ b → AllHad print m storage segs (map (λ i. cond (eqb i 0) 1 0) (map mark_of (map print segs)))
          → AllHad print m storage (x ∷ segs) (cond (eqb (cond b 1 0) 0) 1 0 ∷ map (λ i. cond (eqb i 0) 1 0) (map mark_of (map print segs)))
      go true e r = (e, r)
      go false e r = r

  right : (segs : List (List ℕ)) → (length (lacking (map mark_of (map print segs))) ≡ length segs) × Each (λ (i : ℕ). i ≤ 1) (lacking (map mark_of (map print segs)))
  unfolding lacking
  right [] = (refl, tt)
  right (x ∷ segs) = let r = right segs in (ap suc r.0, (one (eqb (mark_of (print x)) 0), r.1))
    where
      one : (b : Bool) → cond b 1 0 ≤ 1
      one true = omega arith
      one false = omega arith

-- an accepted first message's marks
given_marks : (print : Print) (s : Shape) (st : State) (t : ℕ) (fs marks : List ℕ) → (offer_answer marks (offer print s st t fs marks)).refusal ≡ 0
    → (offer_answer marks (offer print s st t fs marks)).marks ≡ map (λ f. cond (is_some (had print s.measures st.storage [] f)) 1 0) (chunks 20 fs)
unfolding offer
given_marks print s st t fs marks = go (leb s.capacities.tills t) (not (offer_fits s fs marks))
  where
    given : List ℕ
    given = map (λ f. cond (is_some (had print s.measures st.storage [] f)) 1 0) (chunks 20 fs)

    go : (a b : Bool) → (offer_answer marks (cond a (refused 3) (cond b (refused 4) (done given)))).refusal ≡ 0
        → (offer_answer marks (cond a (refused 3) (cond b (refused 4) (done given)))).marks ≡ given
    go true b e = absurd (suc-ne-zero 2 (unfold offer_answer in e))
    go false true e = absurd (suc-ne-zero 3 (unfold offer_answer in e))
    go false false e = unfold offer_answer in refl

module _ (print : Print) (wide : (x : List ℕ) → length (print x) ≡ 20) (pool table : List ℕ) (t : ℕ) (image marks : List ℕ) where
  abbrev segs : List (List ℕ)
  segs = segments_of (shape_of table).measures image

  abbrev answer : Option Store → OfferAnswer
  answer o = offer_in print o t (rows print segs) marks

  pub offered_as_whole : (answer (store_of pool table)).refusal ≡ 0 → NoneShare print (known_in (store_of pool table) ++ segs)
      → sent_for print pool table t image (lacking (answer (store_of pool table)).marks) ≡ backup_of pool table t image
  offered_as_whole e u = go (store_of pool table) (read_or_none pool table) refl e
    where
      storage : Storage
      storage = (state_in (shape_of table) pool table).storage

      ms : List ℕ
      ms = map (mark_of print wide (shape_of table).measures storage) (map print segs)

      sent : store_of pool table ≡ some (store_read pool table) → sent_for print pool table t image (lacking ms) ≡ backup_of pool table t image
      sent f =
          sent_if_had print wide pool table (record { is = f }) t image (lacking ms) (right print wide (shape_of table).measures storage segs) u
          (all_had print wide (shape_of table).measures storage segs)

      given : (answer (some (store_read pool table))).refusal ≡ 0
          → (answer (some (store_read pool table))).marks ≡ map (mark_of print wide (shape_of table).measures storage) (chunks 20 (rows print segs))
      given = unfold offer_in in given_marks print (shape_of table) (state_in (shape_of table) pool table) t (rows print segs) marks

      go : (o : Option Store) → o ≡ none ⊎ o ≡ some (store_read pool table) → store_of pool table ≡ o → (answer o).refusal ≡ 0
          → sent_for print pool table t image (lacking (answer o).marks) ≡ backup_of pool table t image
      go o (inl q) f e = absurd (suc-ne-zero 9 (unfold offer_in in subst (λ (x : Option Store). (answer x).refusal ≡ 0) q e))
      go o (inr q) f e =
          ap (λ (l : List ℕ). sent_for print pool table t image (lacking l))
          (ap (λ (x : Option Store). (answer x).marks) q
          ∙ given (subst (λ (x : Option Store). (answer x).refusal ≡ 0) q e)
          ∙ marked print wide (shape_of table).measures storage segs)
          ∙ sent (f ∙ q)

pub offered_is_backup : OfferedIsBackup
unfolding offer_of
offered_is_backup = offered_as_whole sha1 sha1_wide
