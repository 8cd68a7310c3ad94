-- An image put together segment by segment, as code does it: after j segments, s of which were sent, the output begins with them.
use mathlib.Core.Path.{◌≡◌, refl, sym, ap, ap₂, ◌∙◌, subst}
use mathlib.Core.Bool.{Bool, true, false, cond}
use mathlib.Core.List.{List, [], ◌∷◌, ◌++◌}
use mathlib.Core.Option.{Option, none, some}
use Prim.Native.Nat.{ℕ, zero, suc, ◌+◌, ◌-◌, ◌*◌, ◌≤◌, ◌<◌}
use native.Mathlib.Nat.{add-zero, sub-zero, zero-mul, not-suc-le-zero, le_of_suc-le-suc}
use native.Mathlib.Omega.{arith}
use lib.ListN.{length, get_or, take, drop}
use lib.Seq.{drop-drop, take-take}
use Rattle.lists.specs.Lists.{total, all_zero, same_numbers}
use Rattle.lists.specs.Rows.{parts}
use Rattle.lists.proofs.Counts.{sum_next}
use Rattle.lists.proofs.Cuts.{parts_next}
use Rattle.lists.proofs.Places.{row_next}
use Rattle.lists.proofs.Slices.{drop_next, drop_end}
use Rattle.lists.proofs.Tests.{by_test}
use Rattle.sha1_definition.specs.Sha1.{sha1}
use Rattle.model.specs.Measures.{Measures, parts_for}
use Rattle.model.specs.State.{Storage, Outcome, refused, done}
use Rattle.laws.proofs.Measures.{parts_enough}
use Rattle.sent.specs.Sent.{segment_bytes, had, Gathered, go_on, take_sent, go_on_with, take_had, gather, cut_to, assembled}
use Rattle.sent.specs.Found.{print_at, Brings, or_twenty, sent_at, source, ended}
use Rattle.sent_laws.proofs.Numbers.{NotZero}

module _ (m : Measures) (storage : Storage) where
  abbrev width : ℕ
  width = segment_bytes m

  -- ---- one segment more

  abbrev grow : List (List ℕ) → Gathered → Outcome (List ℕ) → Outcome Gathered
  grow sent g (refused n) = refused n
  grow sent g (done seg) = done (record { image = g.image ++ seg; sent = sent })

  go_on_grows : (left : ℕ) (seg : List ℕ) (sent : List (List ℕ)) (g : Gathered) → go_on left seg sent g ≡ grow sent g (ended left (done seg))
  unfolding go_on
  go_on_grows left seg sent g = go (all_zero (drop left seg))
    where
      go : (b : Bool) → cond b (done (record { image = g.image ++ seg; sent = sent })) (refused 19) ≡ grow sent g (cond b (done seg) (refused 19))
      go true = refl
      go false = refl

  had_grows : (left : ℕ) (f : List ℕ) (g : Gathered) → take_had sha1 m storage left f (done g) ≡ grow g.sent g (ended left (or_twenty (had sha1 m storage g.sent f)))
  unfolding take_had go_on_with
  had_grows left f g = go (had sha1 m storage g.sent f)
    where
      go : (o : Option (List ℕ)) → go_on_with left o g ≡ grow g.sent g (ended left (or_twenty o))
      go none = unfold go_on_with in refl
      go (some seg) = unfold go_on_with in go_on_grows left seg g.sent g

  sent_grows : (left : ℕ) (f seg : List ℕ) (g : Gathered)
      → take_sent sha1 left f seg (done g) ≡ grow (g.sent ++ (seg ∷ [])) g (ended left (cond (same_numbers (sha1 seg) f) (done seg) (refused 19)))
  unfolding take_sent
  sent_grows left f seg g = go (same_numbers (sha1 seg) f)
    where
      go : (b : Bool) → cond b (go_on left seg (g.sent ++ (seg ∷ [])) g) (refused 19) ≡ grow (g.sent ++ (seg ∷ [])) g (ended left (cond b (done seg) (refused 19)))
      go true = go_on_grows left seg (g.sent ++ (seg ∷ [])) g
      go false = refl

  -- a refusal stays
  gather_refused : (marks : List ℕ) (left n : ℕ) (fs ss : List ℕ) → gather sha1 m storage left (refused n) marks fs ss ≡ refused n
  unfolding gather take_had take_sent
  gather_refused [] left n fs ss = refl
  gather_refused (zero ∷ marks) left n fs ss = gather_refused marks (left - width) n (drop 20 fs) ss
  gather_refused (suc i ∷ marks) left n fs ss = gather_refused marks (left - width) n (drop 20 fs) (drop width ss)

  -- and has a number
  pub source_number : (i s : ℕ) (ss f : List ℕ) → NotZero (source m storage i s ss f)
  source_number zero s ss f = go (had sha1 m storage (parts width s ss) f)
    where
      go : (o : Option (List ℕ)) → NotZero (or_twenty o)
      go none = λ n. absurd (omega (arith, n))
      go (some seg) = tt
  source_number (suc i) s ss f = by_test NotZero (same_numbers (sha1 (sent_at width s ss)) f) (λ e. tt) (λ e n. absurd (omega (arith, n)))

  ended_number : (left : ℕ) (o : Outcome (List ℕ)) → NotZero o → NotZero (ended left o)
  ended_number left (refused n) h = h
  ended_number left (done seg) h = by_test NotZero (all_zero (drop left seg)) (λ e. tt) (λ e n. absurd (omega (arith, n)))

  module _ (bytes : ℕ) (fs marks ss : List ℕ) where
    -- the segments so far
    abbrev so_far : ℕ → ℕ → List ℕ → Gathered
    so_far j s out = record { image = take (j * width) out; sent = parts width s ss }

    abbrev rest : ℕ → ℕ → ℕ → Outcome Gathered → Outcome Gathered
    rest j s left o = gather sha1 m storage left o (drop j marks) (drop (j * 20) fs) (drop (s * width) ss)

    pub record At (j s : ℕ) (out : List ℕ) : Type 0 where
      pub within : j ≤ length marks
      pub follow : s + total (λ i. i) (drop j marks) ≡ total (λ i. i) marks
      pub same : rest j s (bytes - j * width) (done (so_far j s out)) ≡ gather sha1 m storage bytes (done (record { image = []; sent = [] })) marks fs ss

    pub at_start : (out : List ℕ) → At 0 0 out
    unfolding parts
    at_start out = record {
      within = omega arith;
      follow = omega arith;
      same = rw (zero-mul, sub-zero);
    }

    module _ {j s : ℕ} {out : List ℕ} (a : At j s out) (h : j < length marks) (one : get_or marks j 0 ≤ 1) where
      abbrev mark : ℕ
      mark = get_or marks j 0

      -- of the image, so many bytes are left
      abbrev left : ℕ
      left = bytes - j * width

      -- what segment j is
      abbrev pub next : Outcome (List ℕ)
      next = ended left (source m storage mark s ss (print_at fs j))

      step : rest j s left (done (so_far j s out)) ≡ rest (j + 1) (s + mark) (left - width) (grow (parts width (s + mark) ss) (so_far j s out) next)
      step = ap (λ (l : List ℕ). gather sha1 m storage left (done (so_far j s out)) l (drop (j * 20) fs) (drop (s * width) ss)) (drop_next marks j 0 h) ∙ go mark one
        where
          prints : drop 20 (drop (j * 20) fs) ≡ drop ((j + 1) * 20) fs
          prints = drop-drop 20 (j * 20) fs ∙ ap (λ (i : ℕ). drop i fs) (sym (row_next j 20))

          go : (i : ℕ) → i ≤ 1
              → gather sha1 m storage left (done (so_far j s out)) (i ∷ drop (j + 1) marks) (drop (j * 20) fs) (drop (s * width) ss)
              ≡ rest (j + 1) (s + i) (left - width) (grow (parts width (s + i) ss) (so_far j s out) (ended left (source m storage i s ss (print_at fs j))))
          go zero l =
              unfold gather in
              (ap₂ (λ (o : Outcome Gathered) (p : List ℕ). gather sha1 m storage (left - width) o (drop (j + 1) marks) p (drop (s * width) ss)) (had_grows left (print_at fs j) (so_far j s out)) prints
              ∙ ap (λ (k : ℕ). rest (j + 1) k (left - width) (grow (parts width k ss) (so_far j s out) (ended left (source m storage 0 s ss (print_at fs j))))) (sym (add-zero s)))
          go (suc zero) l =
              unfold gather in
              (ap₂ (λ (o : Outcome Gathered) (p : List ℕ). gather sha1 m storage (left - width) o (drop (j + 1) marks) p (drop width (drop (s * width) ss))) (sent_grows left (print_at fs j) (sent_at width s ss) (so_far j s out)) prints
              ∙ ap₂ (λ (ps : List (List ℕ)) (q : List ℕ). gather sha1 m storage (left - width) (grow ps (so_far j s out) (ended left (source m storage 1 s ss (print_at fs j)))) (drop (j + 1) marks) (drop ((j + 1) * 20) fs) q)
              (sym (parts_next width s ss)) (drop-drop width (s * width) ss ∙ ap (λ (i : ℕ). drop i ss) (sym (row_next s width))))
          go (suc (suc i)) l = absurd (not-suc-le-zero (le_of_suc-le-suc l))

      -- it is refused
      pub at_refused : (r : ℕ) (part : List ℕ) → Brings next r part → ¬ (r ≡ 0) → (all : List ℕ) → Brings (assembled sha1 m storage bytes fs marks ss) r all
      unfolding assembled
      at_refused r part b z all = subst (λ (o : Outcome Gathered). Brings (cut_to bytes o) r all) (sym step ∙ a.same) (go next b)
        where
          go : (o : Outcome (List ℕ)) → Brings o r part → Brings (cut_to bytes (rest (j + 1) (s + mark) (left - width) (grow (parts width (s + mark) ss) (so_far j s out) o))) r all
          go (refused n) b = subst (λ (o : Outcome Gathered). Brings (cut_to bytes o) r all) (sym (gather_refused (drop (j + 1) marks) (left - width) n (drop ((j + 1) * 20) fs) (drop ((s + mark) * width) ss))) (unfold cut_to in b)
          go (done seg) b = absurd (z b.0)

      -- it is in its place
      pub at_next : (r : ℕ) (part : List ℕ) → Brings next r part → r ≡ 0
          → (out' : List ℕ) → take ((j + 1) * width) out' ≡ take (j * width) out ++ part → At (j + 1) (s + mark) out'
      at_next r part b z out' e = record {
        within = omega arith;
        follow = sum_next marks j s h a.follow;
        same = go next b (ended_number left (source m storage mark s ss (print_at fs j)) (source_number mark s ss (print_at fs j))) step ∙ a.same;
      }
        where
          l : bytes - (j + 1) * width ≡ left - width
          l = omega (arith, row_next j width)

          go : (o : Outcome (List ℕ)) → Brings o r part → NotZero o
              → rest j s left (done (so_far j s out)) ≡ rest (j + 1) (s + mark) (left - width) (grow (parts width (s + mark) ss) (so_far j s out) o)
              → rest (j + 1) (s + mark) (bytes - (j + 1) * width) (done (so_far (j + 1) (s + mark) out')) ≡ rest j s left (done (so_far j s out))
          go (refused n) b nz q = absurd (nz (sym b ∙ z))
          go (done seg) b nz q =
              ap₂ (λ (k : ℕ) (i : List ℕ). rest (j + 1) (s + mark) k (done (record { image = i; sent = parts width (s + mark) ss }))) l (e ∙ ap (λ (p : List ℕ). take (j * width) out ++ p) b.1) ∙ sym q

    -- all are in their places
    pub at_end : (j s : ℕ) (out : List ℕ) → At j s out → length marks ≤ j → length marks ≡ parts_for width bytes → 0 < width
        → Brings (assembled sha1 m storage bytes fs marks ss) 0 (take bytes out)
    unfolding assembled
    at_end j s out a h n p =
        subst (λ (o : Outcome Gathered). Brings (cut_to bytes o) 0 (take bytes out)) a.same
        (subst (λ (l : List ℕ). Brings (cut_to bytes (gather sha1 m storage (bytes - j * width) (done (so_far j s out)) l (drop (j * 20) fs) (drop (s * width) ss))) 0 (take bytes out)) (sym (drop_end marks j h))
        (unfold gather cut_to in (refl, sym cut)))
      where
        cut : take bytes (take (j * width) out) ≡ take bytes out
        cut =
            let e : j ≡ parts_for width bytes = omega (arith, a.within) in
            let w : bytes ≤ j * width = subst (λ (k : ℕ). bytes ≤ k * width) (sym e) (parts_enough width bytes p) in
            take-take bytes (j * width) out w
