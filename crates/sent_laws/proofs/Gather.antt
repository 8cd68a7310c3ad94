-- For one image the segments are put together to it, or it is 20.
use mathlib.Core.Path.{◌≡◌, refl, sym, ap, ◌∙◌, subst}
use mathlib.Core.Logic.{◌⊎◌, inl, inr}
use mathlib.Core.Bool.{Bool, true, false, cond, false≢true}
use mathlib.Core.List.{List, [], ◌∷◌, ◌++◌, append_assoc, append-nil}
use mathlib.Core.Option.{Option, none, some}
use Prim.Native.Nat.{ℕ, zero, suc, ◌-◌, ◌<◌}
use native.Mathlib.Omega.{arith}
use lib.ListN.{length, take, drop}
use lib.Seq.{take_at, drop_at}
use Rattle.lists.specs.Lists.{is_some, all_zero, same_numbers}
use Rattle.lists.specs.Rows.{joined, rows}
use Rattle.lists.specs.Each.{Each}
use Rattle.lists.proofs.Tests.{by_test}
use Rattle.lists.proofs.Each.{each_weaken, each_both, each_append}
use Rattle.lists.proofs.Same.{same_refl, same_eq}
use Rattle.model.specs.Measures.{Measures}
use Rattle.model.specs.State.{Storage, Outcome, refused, done}
use Rattle.sent.specs.Sent.{Print, segment_bytes, segments_of, contents, zero_segment, first_with, had, Gathered, go_on, take_sent, go_on_with, take_had, gather, cut_to, assembled}
use Rattle.sent.specs.Claims.{sent_of, NoneShare}
use Rattle.sent_laws.proofs.Segments.{segments_whole, segments_end, put_together, Ends}

-- every segment that is not sent is marked by the first message
abbrev pub AllHad : Print → Measures → Storage → List (List ℕ) → List ℕ → Type 0
AllHad print m storage [] marks = Unit {0}
AllHad print m storage (x ∷ segs) [] = Unit {0}
AllHad print m storage (x ∷ segs) (zero ∷ marks) = (is_some (had print m storage [] (print x)) ≡ true) × AllHad print m storage segs marks
AllHad print m storage (x ∷ segs) (suc i ∷ marks) = AllHad print m storage segs marks

-- ---- lists

each_split : {A : Type 0} (P : A → Type 0) (xs ys : List A) → Each P (xs ++ ys) → Each P xs × Each P ys
each_split P [] ys h = (tt, h)
each_split P (x ∷ xs) ys h = let r = each_split P xs ys h.1 in ((h.0, r.0), r.1)

-- ---- the image is put together, or 20

module _ (print : Print) (wide : (x : List ℕ) → length (print x) ≡ 20) (m : Measures) (storage : Storage) where
  abbrev Alike : List ℕ → List ℕ → Type 0
  Alike y x = print x ≡ print y → x ≡ y

  abbrev FoundIs : List ℕ → Option (List ℕ) → Type 0
  FoundIs seg none = Unit {0}
  FoundIs seg (some x) = x ≡ seg

  first_is : (seg : List ℕ) (xs : List (List ℕ)) → Each (Alike seg) xs → FoundIs seg (first_with print (print seg) xs)
  unfolding first_with
  first_is seg [] h = tt
  first_is seg (x ∷ xs) h =
      by_test (FoundIs seg) (same_numbers (print x) (print seg)) (λ e. h.0 (same_eq (print x) (print seg) e)) (λ e. first_is seg xs h.1)

  -- put together, or 20 where not C
  abbrev IsWhole : Type 0 → List ℕ → Outcome Gathered → Type 0
  IsWhole C whole (refused n) = (n ≡ 20) × (¬ C)
  IsWhole C whole (done g) = g.image ≡ whole

  good_if : (C D : Type 0) → (D → C) → (whole : List ℕ) (o : Outcome Gathered) → IsWhole C whole o → IsWhole D whole o
  good_if C D f whole (refused n) h = (h.0, λ d. h.1 (f d))
  good_if C D f whole (done g) h = h

  refused_20 : (C : Type 0) → ¬ C → (whole : List ℕ) (marks : List ℕ) (left : ℕ) (fingerprints segments : List ℕ) → IsWhole C whole (gather print m storage left (refused 20) marks fingerprints segments)
  unfolding gather take_had take_sent
  refused_20 C h whole [] left fs ss = (refl, h)
  refused_20 C h whole (zero ∷ marks) left fs ss = refused_20 C h whole marks (left - segment_bytes m) (drop 20 fs) ss
  refused_20 C h whole (suc i ∷ marks) left fs ss = refused_20 C h whole marks (left - segment_bytes m) (drop 20 fs) (drop (segment_bytes m) ss)

  go_on_lem : (left : ℕ) (seg : List ℕ) (sent : List (List ℕ)) (g : Gathered) → all_zero (drop left seg) ≡ true
      → go_on left seg sent g ≡ done (record { image = g.image ++ seg; sent = sent })
  unfolding go_on
  go_on_lem left seg sent g e = rw e

  -- one more segment
  abbrev grown : Gathered → List ℕ → List (List ℕ) → Gathered
  grown g x sent = record { image = g.image ++ x; sent = sent }

  -- none among more is none among fewer
  none_less : (f : List ℕ) (us vs : List (List ℕ)) → first_with print f (us ++ vs) ≡ none → first_with print f vs ≡ none
  unfolding first_with is_some
  none_less f [] vs h = h
  none_less f (x ∷ us) vs h = go (same_numbers (print x) f) (none_less f us vs) h
    where
      go : (b : Bool) → (first_with print f (us ++ vs) ≡ none → first_with print f vs ≡ none) → cond b (some x) (first_with print f (us ++ vs)) ≡ none → first_with print f vs ≡ none
      go true r h = absurd (false≢true (sym (ap is_some h)))
      go false r h = r h

  not_had : (sent : List (List ℕ)) (f : List ℕ) → had print m storage sent f ≡ none → ¬ (is_some (had print m storage [] f) ≡ true)
  unfolding had first_with is_some
  not_had sent f = go (same_numbers (print (zero_segment m)) f)
    where
      go : (b : Bool) → cond b (some (zero_segment m)) (first_with print f (sent ++ contents m storage)) ≡ none → ¬ (is_some (cond b (some (zero_segment m)) (first_with print f (contents m storage))) ≡ true)
      go true h = λ e. absurd (false≢true (sym (ap is_some h)))
      go false h = λ e. false≢true (sym (ap is_some (none_less f sent (contents m storage) h)) ∙ e)

  abbrev HadNext : ℕ → List ℕ → Gathered → Outcome Gathered → Type 0
  HadNext left x g o = ((o ≡ refused 20) × (¬ (is_some (had print m storage [] (print x)) ≡ true))) ⊎ (o ≡ done (grown g x g.sent))

  had_next : (left : ℕ) (x : List ℕ) (g : Gathered) → all_zero (drop left x) ≡ true → Each (Alike x) (zero_segment m ∷ contents m storage) → Each (Alike x) g.sent
      → HadNext left x g (take_had print m storage left (print x) (done g))
  unfolding take_had go_on_with
  had_next left x g z known old = go (had print m storage g.sent (print x)) refl is
    where
      is : FoundIs x (had print m storage g.sent (print x))
      is =
          unfold had in
          first_is x (zero_segment m ∷ (g.sent ++ contents m storage)) (known.0, each_append (Alike x) g.sent (contents m storage) old known.1)

      go : (o : Option (List ℕ)) → had print m storage g.sent (print x) ≡ o → FoundIs x o → HadNext left x g (go_on_with left o g)
      go none e f = inl (refl, not_had g.sent (print x) e)
      go (some y) e f = inr (ap (λ (s : List ℕ). go_on left s g.sent g) f ∙ go_on_lem left x g.sent g z)

  sent_next : (left : ℕ) (x : List ℕ) (g : Gathered) → all_zero (drop left x) ≡ true
      → take_sent print left (print x) x (done g) ≡ done (grown g x (g.sent ++ (x ∷ [])))
  unfolding take_sent
  sent_next left x g z = rw (same_refl (print x)) (go_on_lem left x (g.sent ++ (x ∷ [])) g z)

  -- the rest of the segments
  abbrev rest : ℕ → Outcome Gathered → List ℕ → List (List ℕ) → Outcome Gathered
  rest left o marks segs = gather print m storage left o marks (rows print segs) (joined (sent_of marks segs))

  had_step : (left : ℕ) (x : List ℕ) (g : Gathered) (marks : List ℕ) (segs : List (List ℕ))
      → HadNext left x g (take_had print m storage left (print x) (done g))
      → IsWhole (AllHad print m storage segs marks) ((g.image ++ x) ++ joined segs) (rest (left - segment_bytes m) (done (grown g x g.sent)) marks segs)
      → IsWhole (AllHad print m storage (x ∷ segs) (zero ∷ marks)) (g.image ++ (x ++ joined segs)) (rest left (done g) (zero ∷ marks) (x ∷ segs))
  had_step left x g marks segs o r =
      subst (IsWhole (AllHad print m storage (x ∷ segs) (zero ∷ marks)) (g.image ++ (x ++ joined segs))) (sym next) (go o)
    where
      next : rest left (done g) (zero ∷ marks) (x ∷ segs) ≡ rest (left - segment_bytes m) (take_had print m storage left (print x) (done g)) marks segs
      next =
          unfold gather sent_of joined in
          rw (take_at (print x) (rows print segs) 20 (wide x), drop_at (print x) (rows print segs) 20 (wide x))

      go : HadNext left x g (take_had print m storage left (print x) (done g))
          → IsWhole (AllHad print m storage (x ∷ segs) (zero ∷ marks)) (g.image ++ (x ++ joined segs)) (rest (left - segment_bytes m) (take_had print m storage left (print x) (done g)) marks segs)
      go (inl e) =
          subst (λ (q : Outcome Gathered). IsWhole (AllHad print m storage (x ∷ segs) (zero ∷ marks)) (g.image ++ (x ++ joined segs)) (rest (left - segment_bytes m) q marks segs)) (sym e.0)
          (refused_20 (AllHad print m storage (x ∷ segs) (zero ∷ marks)) (λ c. e.1 c.0) (g.image ++ (x ++ joined segs)) marks (left - segment_bytes m) (rows print segs) (joined (sent_of marks segs)))
      go (inr e) =
          subst (λ (q : Outcome Gathered). IsWhole (AllHad print m storage (x ∷ segs) (zero ∷ marks)) (g.image ++ (x ++ joined segs)) (rest (left - segment_bytes m) q marks segs)) (sym e)
          (subst (λ (l : List ℕ). IsWhole (AllHad print m storage (x ∷ segs) (zero ∷ marks)) l (rest (left - segment_bytes m) (done (grown g x g.sent)) marks segs)) (append_assoc g.image x (joined segs))
          (good_if (AllHad print m storage segs marks) (AllHad print m storage (x ∷ segs) (zero ∷ marks)) (λ c. c.1) ((g.image ++ x) ++ joined segs)
          (rest (left - segment_bytes m) (done (grown g x g.sent)) marks segs) r))

  sent_step : (left : ℕ) (x : List ℕ) (g : Gathered) (i : ℕ) (marks : List ℕ) (segs : List (List ℕ)) → length x ≡ segment_bytes m → all_zero (drop left x) ≡ true
      → IsWhole (AllHad print m storage segs marks) ((g.image ++ x) ++ joined segs) (rest (left - segment_bytes m) (done (grown g x (g.sent ++ (x ∷ [])))) marks segs)
      → IsWhole (AllHad print m storage segs marks) (g.image ++ (x ++ joined segs)) (rest left (done g) (suc i ∷ marks) (x ∷ segs))
  sent_step left x g i marks segs w z r =
      subst (IsWhole (AllHad print m storage segs marks) (g.image ++ (x ++ joined segs))) (sym (next ∙ ap (λ (q : Outcome Gathered). rest (left - segment_bytes m) q marks segs) (sent_next left x g z)))
      (subst (λ (l : List ℕ). IsWhole (AllHad print m storage segs marks) l (rest (left - segment_bytes m) (done (grown g x (g.sent ++ (x ∷ [])))) marks segs)) (append_assoc g.image x (joined segs)) r)
    where
      next : rest left (done g) (suc i ∷ marks) (x ∷ segs) ≡ rest (left - segment_bytes m) (take_sent print left (print x) x (done g)) marks segs
      next =
          unfold gather sent_of joined in
          rw (
            take_at (print x) (rows print segs) 20 (wide x),
            drop_at (print x) (rows print segs) 20 (wide x),
            take_at x (joined (sent_of marks segs)) (segment_bytes m) w,
            drop_at x (joined (sent_of marks segs)) (segment_bytes m) w,
          )

  gather_ok : (segs : List (List ℕ)) (marks : List ℕ) → length marks ≡ length segs → Each (λ x. length x ≡ segment_bytes m) segs
      → (left : ℕ) → Ends (segment_bytes m) left segs → (g : Gathered)
      → Each (λ y. Each (Alike y) (zero_segment m ∷ contents m storage)) segs → Each (λ y. Each (Alike y) g.sent) segs → NoneShare print segs
      → IsWhole (AllHad print m storage segs marks) (g.image ++ joined segs) (rest left (done g) marks segs)
  unfolding gather joined sent_of
  gather_ok [] [] e w left z g known old new = sym (append-nil g.image)
  gather_ok [] (i ∷ marks) e w left z g known old new = absurd (omega (arith, e))
  gather_ok (x ∷ segs) [] e w left z g known old new = absurd (omega (arith, e))
  gather_ok (x ∷ segs) (zero ∷ marks) e w left z g known old new =
      had_step left x g marks segs (had_next left x g z.0 known.0 old.0)
      (gather_ok segs marks (omega (arith, e)) w.1 (left - segment_bytes m) z.1 (grown g x g.sent)
      known.1 old.1 (each_weaken (λ y. Each (Alike y) (x ∷ segs)) (λ y. Each (Alike y) segs) (λ y h. h.1) segs new.1))
  gather_ok (x ∷ segs) (suc i ∷ marks) e w left z g known old new =
      sent_step left x g i marks segs w.0 z.0
      (gather_ok segs marks (omega (arith, e)) w.1 (left - segment_bytes m) z.1 (grown g x (g.sent ++ (x ∷ [])))
      known.1
      (each_weaken (λ y. Each (Alike y) g.sent × Each (Alike y) (x ∷ segs)) (λ y. Each (Alike y) (g.sent ++ (x ∷ [])))
      (λ y h. each_append (Alike y) g.sent (x ∷ []) h.0 (h.1.0, tt)) segs
      (each_both (λ y. Each (Alike y) g.sent) (λ y. Each (Alike y) (x ∷ segs)) segs old.1 new.1))
      (each_weaken (λ y. Each (Alike y) (x ∷ segs)) (λ y. Each (Alike y) segs) (λ y h. h.1) segs new.1))

  -- the whole call's image
  module _ (image marks : List ℕ) (p : 0 < segment_bytes m) (e : length marks ≡ length (segments_of m image))
      (u : NoneShare print (zero_segment m ∷ (contents m storage ++ segments_of m image))) where
    pub assembled_ok : ((assembled print m storage (length image) (rows print (segments_of m image)) marks (joined (sent_of marks (segments_of m image))) ≡ refused 20)
        × (¬ (AllHad print m storage (segments_of m image) marks)))
        ⊎ assembled print m storage (length image) (rows print (segments_of m image)) marks (joined (sent_of marks (segments_of m image))) ≡ done image
    unfolding assembled
    assembled_ok = go _ good
      where
        segs : List (List ℕ)
        segs = segments_of m image

        known : List (List ℕ)
        known = zero_segment m ∷ contents m storage

        of_image : Each (λ y. Each (Alike y) known × Each (Alike y) segs) segs
        of_image =
            each_weaken (λ y. Each (Alike y) (known ++ segs)) (λ y. Each (Alike y) known × Each (Alike y) segs) (λ y h. each_split (Alike y) known segs h) segs
            (each_split (λ y. Each (Alike y) (known ++ segs)) known segs u).1

        good : IsWhole (AllHad print m storage segs marks) (joined segs) (rest (length image) (done (record { image = []; sent = [] })) marks segs)
        good =
            unfold segments_of in
            gather_ok segs marks e (segments_whole (segment_bytes m) image) (length image) (segments_end (segment_bytes m) image) (record { image = []; sent = [] })
            (each_weaken (λ y. Each (Alike y) known × Each (Alike y) segs) (λ y. Each (Alike y) known) (λ y h. h.0) segs of_image)
            (each_weaken (λ y. Each (Alike y) known × Each (Alike y) segs) (λ y. Each (Alike y) []) (λ y h. tt) segs of_image)
            (each_weaken (λ y. Each (Alike y) known × Each (Alike y) segs) (λ y. Each (Alike y) segs) (λ y h. h.1) segs of_image)

        go : (o : Outcome Gathered) → IsWhole (AllHad print m storage segs marks) (joined segs) o → ((cut_to (length image) o ≡ refused 20) × (¬ (AllHad print m storage segs marks))) ⊎ cut_to (length image) o ≡ done image
        go (refused n) h = unfold cut_to in inl (ap refused h.0, h.1)
        go (done g) h = unfold cut_to segments_of in inr (ap done (ap (take (length image)) h ∙ put_together (segment_bytes m) image p))
