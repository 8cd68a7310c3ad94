-- A second message of §5 on a till that shows the same in two states: both put it together to the same image, or refuse it alike, if no two different
-- segments that they have or that it sends share a fingerprint.
use mathlib.Core.Path.{◌≡◌, refl, sym, ap, ◌∙◌, subst}
use mathlib.Core.Bool.{Bool, true, false, cond, not, false≢true}
use mathlib.Core.List.{List, [], ◌∷◌, ◌++◌}
use mathlib.Core.Option.{none}
use mathlib.Core.Logic.{◌⊎◌, inl, inr}
use Prim.Native.Nat.{ℕ}
use lib.ListN.{length}
use lib.Dec.{eqb, leb}
use Rattle.lists.specs.Lists.{is_in}
use Rattle.lists.specs.Each.{Each}
use Rattle.lists.proofs.Each.{each_weaken}
use Rattle.sha1_definition.specs.Sha1.{sha1}
use Rattle.model.specs.Measures.{Shape}
use Rattle.model.specs.Image.{with_blanks}
use Rattle.model.specs.State.{State, Outcome, refused, done}
use Rattle.model.specs.Calls.{till_of, outcome_refusal}
use Rattle.sent.specs.Sent.{segment_bytes, contents, zero_segment, assembled, sent_fits, made, backup_on, backup_sent}
use Rattle.sent.specs.Claims.{NoneShare, segments_sent}
use Rattle.sent_laws.proofs.Alike.{assembled_alike}
use Rattle.history.specs.Calls.{call_backup, till_named}
use Rattle.history.proofs.Calls.{answer_in}
use Rattle.history.proofs.View.{TillView, view_of, view_at}
use Rattle.history.specs.Apart.{IsFromTill}
use Rattle.history.proofs.Shown.{views_length}
use Rattle.history.proofs.Local.{outcome_answer}
use Rattle.history.proofs.Same.{plain_same}
use Rattle.history.proofs.Alike.{room_left}

-- ---- segments of which no two different ones share a fingerprint

abbrev pub In : List ℕ → List (List ℕ) → Type 0
In x [] = ⊥
In x (y ∷ ys) = (x ≡ y) ⊎ In x ys

each_in : (P : List ℕ → Type 0) (x : List ℕ) (xs : List (List ℕ)) → Each P xs → In x xs → P x
each_in P x [] h i = absurd i
each_in P x (y ∷ ys) h (inl e) = subst P (sym e) h.0
each_in P x (y ∷ ys) h (inr i) = each_in P x ys h.1 i

pub all_in : (xs : List (List ℕ)) → Each (λ x. In x xs) xs
all_in [] = tt
all_in (x ∷ xs) = (inl refl, each_weaken (λ y. In y xs) (λ y. In y (x ∷ xs)) (λ y i. inr i) xs (all_in xs))

pub each_split : (P : List ℕ → Type 0) (xs ys : List (List ℕ)) → Each P (xs ++ ys) → Each P xs × Each P ys
each_split P [] ys h = (tt, h)
each_split P (x ∷ xs) ys h = let r = each_split P xs ys h.1 in ((h.0, r.0), r.1)

share_one : (xs : List (List ℕ)) → NoneShare sha1 xs → (x y : List ℕ) → In x xs → In y xs → sha1 x ≡ sha1 y → x ≡ y
share_one xs n x y i j =
    each_in (λ x. sha1 x ≡ sha1 y → x ≡ y) x xs (each_in (λ y. Each (λ x. sha1 x ≡ sha1 y → x ≡ y) xs) y xs n j) i

-- ---- a second message on another till

from_pool : (s : Shape) (st : State) (t : ℕ) → IsFromTill (outcome_answer (backup_on s st t (refused 20))) → ⊥
unfolding backup_on outcome_refusal is_in
from_pool s st t f = false≢true (sym f)

module _ (s : Shape) (st st' : State) (t : ℕ) (e : view_at s.measures.block_bytes st t ≡ view_at s.measures.block_bytes st' t) where
  last_same : (till_of st t).last ≡ (till_of st' t).last
  unfolding view_of
  last_same = ap (λ (w : TillView). w.last) e

  many_same : length (till_of st t).versions ≡ length (till_of st' t).versions
  unfolding view_of
  many_same =
      sym (views_length s.measures.block_bytes st.storage (till_of st t).versions) ∙ ap (λ (w : TillView). length w.versions) e
      ∙ views_length s.measures.block_bytes st'.storage (till_of st' t).versions

  module _ (n : ℕ) (fs ms ss : List ℕ) (xs : List (List ℕ)) (share : NoneShare sha1 xs)
      (has : Each (λ x. In x xs) (zero_segment s.measures ∷ contents s.measures st.storage)) (has' : Each (λ x. In x xs) (contents s.measures st'.storage))
      (sends : Each (λ x. In x xs) (segments_sent (segment_bytes s.measures) ms ss)) where
    made_alike : ¬ (made sha1 s st t n fs ms ss ≡ refused 20) → ¬ (made sha1 s st' t n fs ms ss ≡ refused 20) → made sha1 s st t n fs ms ss ≡ made sha1 s st' t n fs ms ss
    unfolding made
    made_alike lack lack' =
        go (leb s.capacities.tills t) (not (sent_fits s n fs ms ss)) (leb s.capacities.versions (length (till_of st t).versions)) (leb s.capacities.versions (length (till_of st' t).versions))
        (ap (leb s.capacities.versions) many_same) (eqb (till_of st t).last 65535) (eqb (till_of st' t).last 65535) (ap (λ (k : ℕ). eqb k 65535) last_same) lack lack'
      where
        go : (gone odd full full' : Bool) → full ≡ full' → (top top' : Bool) → top ≡ top'
            → ¬ (cond gone (refused 3) (cond odd (refused 4) (cond full (refused 11) (cond top (refused 12) (assembled sha1 s.measures st.storage n fs ms ss)))) ≡ refused 20)
            → ¬ (cond gone (refused 3) (cond odd (refused 4) (cond full' (refused 11) (cond top' (refused 12) (assembled sha1 s.measures st'.storage n fs ms ss)))) ≡ refused 20)
            → cond gone (refused 3) (cond odd (refused 4) (cond full (refused 11) (cond top (refused 12) (assembled sha1 s.measures st.storage n fs ms ss))))
            ≡ cond gone (refused 3) (cond odd (refused 4) (cond full' (refused 11) (cond top' (refused 12) (assembled sha1 s.measures st'.storage n fs ms ss))))
        go true odd full full' q top top' r lack lack' = refl
        go false true full full' q top top' r lack lack' = refl
        go false false true true q top top' r lack lack' = refl
        go false false true false q top top' r lack lack' = absurd (false≢true (sym q))
        go false false false true q top top' r lack lack' = absurd (false≢true q)
        go false false false false q true true r lack lack' = refl
        go false false false false q true false r lack lack' = absurd (false≢true (sym r))
        go false false false false q false true r lack lack' = absurd (false≢true r)
        go false false false false q false false r lack lack' =
            assembled_alike sha1 s.measures (λ x. In x xs) (share_one xs share) has.0 st.storage st'.storage has.1 has' n fs ms ss sends lack lack'

    -- so both back up the same image, or refuse alike
    pub sent_same : IsFromTill (outcome_answer (backup_sent sha1 s st t n fs ms ss)) → IsFromTill (outcome_answer (backup_sent sha1 s st' t n fs ms ss))
        → (made sha1 s st t n fs ms ss ≡ made sha1 s st' t n fs ms ss) × (outcome_answer (backup_sent sha1 s st t n fs ms ss) ≡ outcome_answer (backup_sent sha1 s st' t n fs ms ss))
    unfolding backup_sent
    sent_same f f' =
        let is = made_alike (not_20 st f) (not_20 st' f') in
        (is, go (made sha1 s st t n fs ms ss) (made sha1 s st' t n fs ms ss) is f f')
      where
        not_20 : (x : State) → IsFromTill (outcome_answer (backup_on s x t (made sha1 s x t n fs ms ss))) → ¬ (made sha1 s x t n fs ms ss ≡ refused 20)
        not_20 x f q =
            from_pool s x t (subst (λ (o : Outcome (List ℕ)). IsFromTill (outcome_answer (backup_on s x t o))) q f)

        go : (o o' : Outcome (List ℕ)) → o ≡ o' → IsFromTill (outcome_answer (backup_on s st t o)) → IsFromTill (outcome_answer (backup_on s st' t o')) → outcome_answer (backup_on s st t o) ≡ outcome_answer (backup_on s st' t o')
        go o o' q f f' = subst (λ (p : Outcome (List ℕ)). IsFromTill (outcome_answer (backup_on s st' t p)) → outcome_answer (backup_on s st t o) ≡ outcome_answer (backup_on s st' t p)) q (one o f) f'
          where
            one : (o : Outcome (List ℕ)) → IsFromTill (outcome_answer (backup_on s st t o)) → IsFromTill (outcome_answer (backup_on s st' t o)) → outcome_answer (backup_on s st t o) ≡ outcome_answer (backup_on s st' t o)
            one (refused k) f f' = unfold backup_on in refl
            one (done image) f f' = unfold backup_on answer_in till_named in plain_same s st st' 0 (call_backup with_blanks t none image) refl (room_left _ f) (room_left _ f') e
