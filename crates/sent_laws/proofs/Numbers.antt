-- Whatever was sent: a refusal has a number other than 0.
use mathlib.Core.Path.{◌≡◌}
use mathlib.Core.Bool.{not}
use mathlib.Core.List.{List, [], ◌∷◌, ◌++◌}
use mathlib.Core.Option.{Option, none, some}
use Prim.Native.Nat.{ℕ, zero, suc, ◌-◌}
use native.Mathlib.Omega.{arith}
use lib.ListN.{length, take, drop}
use lib.Dec.{eqb, leb}
use Rattle.lists.specs.Lists.{all_zero, same_numbers}
use Rattle.lists.proofs.Tests.{by_test}
use Rattle.model.specs.Measures.{Measures, Shape}
use Rattle.model.specs.State.{Storage, State, Outcome, refused, done}
use Rattle.model.specs.Calls.{till_of}
use Rattle.sent.specs.Sent.{Print, segment_bytes, had, Gathered, go_on, take_sent, go_on_with, take_had, gather, cut_to, assembled, sent_fits, made}

abbrev pub NotZero : {A : Type 0} → Outcome A → Type 0
NotZero (refused n) = ¬ (n ≡ 0)
NotZero (done a) = Unit {0}

module _ (print : Print) (m : Measures) (storage : Storage) where
  go_on_not_zero : (left : ℕ) (seg : List ℕ) (sent : List (List ℕ)) (g : Gathered) → NotZero (go_on left seg sent g)
  unfolding go_on
  go_on_not_zero left seg sent g = by_test NotZero (all_zero (drop left seg)) (λ e. tt) (λ e n. absurd (omega (arith, n)))

  takes_sent : (left : ℕ) (f seg : List ℕ) (o : Outcome Gathered) → NotZero o → NotZero (take_sent print left f seg o)
  unfolding take_sent
  takes_sent left f seg (refused n) h = h
  takes_sent left f seg (done g) h = by_test NotZero (same_numbers (print seg) f) (λ e. go_on_not_zero left seg (g.sent ++ (seg ∷ [])) g) (λ e n. absurd (omega (arith, n)))

  takes_had : (left : ℕ) (f : List ℕ) (o : Outcome Gathered) → NotZero o → NotZero (take_had print m storage left f o)
  unfolding take_had
  takes_had left f (refused n) h = h
  takes_had left f (done g) h = go (had print m storage g.sent f)
    where
      go : (o : Option (List ℕ)) → NotZero (go_on_with left o g)
      go none = unfold go_on_with in (λ n. absurd (omega (arith, n)))
      go (some seg) = unfold go_on_with in go_on_not_zero left seg g.sent g

  gathers : (marks : List ℕ) (left : ℕ) (o : Outcome Gathered) (fs ss : List ℕ) → NotZero o → NotZero (gather print m storage left o marks fs ss)
  unfolding gather
  gathers [] left o fs ss h = h
  gathers (zero ∷ marks) left o fs ss h =
      gathers marks (left - segment_bytes m) (take_had print m storage left (take 20 fs) o) (drop 20 fs) ss (takes_had left (take 20 fs) o h)
  gathers (suc i ∷ marks) left o fs ss h =
      gathers marks (left - segment_bytes m) (take_sent print left (take 20 fs) (take (segment_bytes m) ss) o) (drop 20 fs) (drop (segment_bytes m) ss)
      (takes_sent left (take 20 fs) (take (segment_bytes m) ss) o h)

-- every refusal has a number
pub made_or_refused : (print : Print) (s : Shape) (st : State) (t bytes : ℕ) (fs marks ss : List ℕ) → NotZero (made print s st t bytes fs marks ss)
unfolding made assembled
made_or_refused print s st t bytes fs marks ss =
    by_test NotZero (leb s.capacities.tills t) (λ e n. absurd (omega (arith, n))) (λ e.
    by_test NotZero (not (sent_fits s bytes fs marks ss)) (λ e n. absurd (omega (arith, n))) (λ e.
    by_test NotZero (leb s.capacities.versions (length (till_of st t).versions)) (λ e n. absurd (omega (arith, n))) (λ e.
    by_test NotZero (eqb (till_of st t).last 65535) (λ e n. absurd (omega (arith, n))) (λ e.
    cut _ (gathers print s.measures st.storage marks bytes (done (record { image = []; sent = [] })) fs ss tt)))))
  where
    cut : (o : Outcome Gathered) → NotZero o → NotZero (cut_to bytes o)
    cut (refused n) h = unfold cut_to in h
    cut (done g) h = unfold cut_to in tt
