-- What is had, found by number: the zero segment, else the lowest segment sent, else the lowest record that can match and has the fingerprint.
use mathlib.Core.Path.{◌≡◌, refl, sym, ap, ◌∙◌}
use mathlib.Core.Bool.{Bool, true, false, cond}
use mathlib.Core.List.{List, [], ◌∷◌, ◌++◌, map}
use mathlib.Core.Option.{Option, none, some}
use Prim.Native.Nat.{ℕ, suc, ◌+◌}
use native.Mathlib.Nat.{add-zero, zero-add, suc-add, add-suc}
use lib.ListN.{get_or}
use Rattle.lists.specs.Lists.{keep, first_from, same_numbers}
use Rattle.model.specs.Measures.{Measures}
use Rattle.model.specs.State.{Segment, Storage}
use Rattle.sent.specs.Sent.{Print, can_match, content_in, contents, zero_segment, first_with, had}
use Rattle.sent.specs.Found.{is_printed}

-- the first of two searches that finds
abbrev pub or_else : {A : Type 0} → Option A → Option A → Option A
or_else none o = o
or_else (some x) o = some x

-- what a number stands for
abbrev pub pick : {A : Type 0} → (ℕ → A) → Option ℕ → Option A
pick g none = none
pick g (some k) = some (g k)

module _ (print : Print) (f : List ℕ) where
  first_append : (xs ys : List (List ℕ)) → first_with print f (xs ++ ys) ≡ or_else (first_with print f xs) (first_with print f ys)
  unfolding first_with
  first_append [] ys = refl
  first_append (x ∷ xs) ys = go (same_numbers (print x) f) (first_append xs ys)
    where
      go : (b : Bool) → first_with print f (xs ++ ys) ≡ or_else (first_with print f xs) (first_with print f ys)
          → cond b (some x) (first_with print f (xs ++ ys)) ≡ or_else (cond b (some x) (first_with print f xs)) (first_with print f ys)
      go true r = refl
      go false r = r

  -- the page's order, as three searches
  pub had_is : (m : Measures) (storage : Storage) (earlier : List (List ℕ))
      → had print m storage earlier f
      ≡ cond (same_numbers (print (zero_segment m)) f) (some (zero_segment m)) (or_else (first_with print f earlier) (first_with print f (contents m storage)))
  unfolding had first_with
  had_is m storage earlier = ap (cond (same_numbers (print (zero_segment m)) f) (some (zero_segment m))) (first_append earlier (contents m storage))

  -- segments that have a number: those of `g` from i on
  sent_from : (g : ℕ → List ℕ) (xs : List (List ℕ)) (i : ℕ) → ((j : ℕ) → g (i + j) ≡ get_or xs j [])
      → first_with print f xs ≡ pick g (first_from (λ x. same_numbers (print x) f) i xs)
  unfolding first_with first_from
  sent_from g [] i h = refl
  sent_from g (x ∷ xs) i h = go (same_numbers (print x) f) (sent_from g xs (suc i) (λ j. ap g (suc-add i j ∙ sym (add-suc i j)) ∙ h (suc j)))
    where
      go : (b : Bool) → first_with print f xs ≡ pick g (first_from (λ x. same_numbers (print x) f) (suc i) xs)
          → cond b (some x) (first_with print f xs) ≡ pick g (cond b (some i) (first_from (λ x. same_numbers (print x) f) (suc i) xs))
      go true r = ap some (sym (h 0) ∙ ap g (add-zero i))
      go false r = r

  -- the lowest segment sent
  pub sent_at_lem : (xs : List (List ℕ)) → first_with print f xs ≡ pick (λ k. get_or xs k []) (first_from (λ x. same_numbers (print x) f) 0 xs)
  sent_at_lem xs = sent_from (λ k. get_or xs k []) xs 0 (λ j. ap (λ (k : ℕ). get_or xs k []) (zero-add j))

  module _ (m : Measures) (storage : Storage) where
    abbrev content : Segment → List ℕ
    content seg = content_in m storage seg

    abbrev printed : Segment → Bool
    printed seg = is_printed print m storage f seg

    records_from : (g : ℕ → Segment) (segs : List Segment) (i : ℕ) → ((j : ℕ) → g (i + j) ≡ get_or segs j [])
        → first_with print f (map content (keep (can_match storage) segs)) ≡ pick (λ k. content (g k)) (first_from printed i segs)
    unfolding first_with first_from keep
    records_from g [] i h = refl
    records_from g (seg ∷ segs) i h =
        go (can_match storage seg) (same_numbers (print (content seg)) f) refl (records_from g segs (suc i) (λ j. ap g (suc-add i j ∙ sym (add-suc i j)) ∙ h (suc j)))
      where
        -- the others
        rest : List (List ℕ)
        rest = map content (keep (can_match storage) segs)

        go : (a b : Bool) → same_numbers (print (content seg)) f ≡ b → first_with print f rest ≡ pick (λ k. content (g k)) (first_from printed (suc i) segs)
            → first_with print f (map content (cond a (seg ∷ keep (can_match storage) segs) (keep (can_match storage) segs)))
            ≡ pick (λ k. content (g k)) (cond (cond a b false) (some i) (first_from printed (suc i) segs))
        go true true e r = unfold first_with in (ap (λ (t : Bool). cond t (some (content seg)) (first_with print f rest)) e ∙ ap (λ (x : Segment). some (content x)) (sym (h 0) ∙ ap g (add-zero i)))
        go true false e r = unfold first_with in (ap (λ (t : Bool). cond t (some (content seg)) (first_with print f rest)) e ∙ r)
        go false b e r = r

    -- the lowest record
    pub record_at_lem : first_with print f (contents m storage) ≡ pick (λ k. content_in m storage (get_or storage.records k [])) (first_from (is_printed print m storage f) 0 storage.records)
    unfolding contents
    record_at_lem = records_from (λ k. get_or storage.records k []) storage.records 0 (λ j. ap (λ (k : ℕ). get_or storage.records k []) (zero-add j))
