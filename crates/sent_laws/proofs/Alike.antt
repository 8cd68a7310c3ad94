-- Two storages put a second message together to the same image, unless one lacks a segment, if no two different segments that they have or that it sends share
-- a fingerprint.
use mathlib.Core.Path.{◌≡◌, refl, sym, ap, ◌∙◌}
use mathlib.Core.Bool.{Bool, true, false, cond}
use mathlib.Core.List.{List, [], ◌∷◌, ◌++◌}
use mathlib.Core.Option.{Option, none, some}
use Prim.Native.Nat.{ℕ, zero, suc, ◌-◌}
use lib.ListN.{take, drop}
use Rattle.lists.specs.Lists.{all_zero, same_numbers}
use Rattle.lists.specs.Each.{Each}
use Rattle.lists.proofs.Each.{each_append}
use Rattle.lists.proofs.Same.{same_eq}
use Rattle.model.specs.Measures.{Measures}
use Rattle.model.specs.State.{Storage, Outcome, refused, done}
use Rattle.sent.specs.Sent.{Print, segment_bytes, contents, zero_segment, first_with, had, Gathered, go_on, take_sent, go_on_with, take_had, gather, cut_to, assembled}
use Rattle.sent.specs.Claims.{segments_sent}

module _ (print : Print) (m : Measures) (Known : List ℕ → Type 0) (one : (x y : List ℕ) → Known x → Known y → print x ≡ print y → x ≡ y) (none-zero : Known (zero_segment m)) where
  abbrev Found : List ℕ → Option (List ℕ) → Type 0
  Found f none = Unit {0}
  Found f (some x) = Known x × (print x ≡ f)

  found : (f : List ℕ) (xs : List (List ℕ)) → Each Known xs → Found f (first_with print f xs)
  unfolding first_with
  found f [] k = tt
  found f (x ∷ xs) k = go (same_numbers (print x) f) refl (found f xs k.1)
    where
      go : (q : Bool) → same_numbers (print x) f ≡ q → Found f (first_with print f xs) → Found f (cond q (some x) (first_with print f xs))
      go true q r = (k.0, same_eq (print x) f q)
      go false q r = r

  abbrev Sent : Outcome Gathered → Type 0
  Sent (refused n) = Unit {0}
  Sent (done g) = Each Known g.sent

  -- a step that goes on
  on_sent : (left : ℕ) (seg : List ℕ) (sent : List (List ℕ)) (g : Gathered) → Each Known sent → Sent (go_on left seg sent g)
  unfolding go_on
  on_sent left seg sent g k = go (all_zero (drop left seg))
    where
      go : (q : Bool) → Sent (cond q (done (record { image = g.image ++ seg; sent = sent })) (refused 19))
      go true = k
      go false = tt

  module _ (a : Storage) (ka : Each Known (contents m a)) where
    known_had : (g : Gathered) → Each Known g.sent → (f : List ℕ) → Found f (had print m a g.sent f)
    unfolding had
    known_had g k f = found f (zero_segment m ∷ (g.sent ++ contents m a)) (none-zero, each_append Known g.sent (contents m a) k ka)

    gather_refused : (left n : ℕ) (marks fs ss : List ℕ) → gather print m a left (refused n) marks fs ss ≡ refused n
    unfolding gather take_had take_sent
    gather_refused left n [] fs ss = refl
    gather_refused left n (zero ∷ marks) fs ss = gather_refused (left - segment_bytes m) n marks (drop 20 fs) ss
    gather_refused left n (suc i ∷ marks) fs ss = gather_refused (left - segment_bytes m) n marks (drop 20 fs) (drop (segment_bytes m) ss)

  module _ (a b : Storage) (ka : Each Known (contents m a)) (kb : Each Known (contents m b)) where
    -- a segment that is had
    data Had (o q : Outcome Gathered) : Type 0 where
      lacking : o ≡ refused 20 → Had o q
      lacking_too : q ≡ refused 20 → Had o q
      alike : o ≡ q → Sent o → Had o q

    had_alike : (left : ℕ) (f : List ℕ) (o : Outcome Gathered) → Sent o → Had (take_had print m a left f o) (take_had print m b left f o)
    unfolding take_had
    had_alike left f (refused n) k = alike refl tt
    had_alike left f (done g) k = go (had print m a g.sent f) (had print m b g.sent f) (known_had a ka g k f) (known_had b kb g k f)
      where
        go : (x y : Option (List ℕ)) → Found f x → Found f y → Had (go_on_with left x g) (go_on_with left y g)
        go none y p q = lacking (unfold go_on_with in refl)
        go (some x) none p q = lacking_too (unfold go_on_with in refl)
        go (some x) (some y) p q =
            alike (ap (λ (seg : List ℕ). go_on_with left (some seg) g) (one x y p.0 q.0 (p.1 ∙ sym q.1))) (unfold go_on_with in on_sent left x g.sent g k)

    sent_known : (left : ℕ) (f seg : List ℕ) (o : Outcome Gathered) → Known seg → Sent o → Sent (take_sent print left f seg o)
    unfolding take_sent
    sent_known left f seg (refused n) k h = tt
    sent_known left f seg (done g) k h = go (same_numbers (print seg) f)
      where
        go : (q : Bool) → Sent (cond q (go_on left seg (g.sent ++ (seg ∷ [])) g) (refused 19))
        go true = on_sent left seg (g.sent ++ (seg ∷ [])) g (each_append Known g.sent (seg ∷ []) h (k, tt))
        go false = tt

    gather_alike : (marks : List ℕ) (left : ℕ) (o : Outcome Gathered) (fs ss : List ℕ) → Sent o → Each Known (segments_sent (segment_bytes m) marks ss)
        → ¬ (gather print m a left o marks fs ss ≡ refused 20) → ¬ (gather print m b left o marks fs ss ≡ refused 20) → gather print m a left o marks fs ss ≡ gather print m b left o marks fs ss
    unfolding gather segments_sent
    gather_alike [] left o fs ss k ks na nb = refl
    gather_alike (zero ∷ marks) left o fs ss k ks na nb =
        go (had_alike left (take 20 fs) o k)
        (λ h nb'. gather_alike marks (left - segment_bytes m) (take_had print m a left (take 20 fs) o) (drop 20 fs) ss h ks na nb')
      where
        left' : ℕ
        left' = left - segment_bytes m

        go : Had (take_had print m a left (take 20 fs) o) (take_had print m b left (take 20 fs) o)
            → (Sent (take_had print m a left (take 20 fs) o) → ¬ (gather print m b left' (take_had print m a left (take 20 fs) o) marks (drop 20 fs) ss ≡ refused 20)
            → gather print m a left' (take_had print m a left (take 20 fs) o) marks (drop 20 fs) ss ≡ gather print m b left' (take_had print m a left (take 20 fs) o) marks (drop 20 fs) ss)
            → gather print m a left' (take_had print m a left (take 20 fs) o) marks (drop 20 fs) ss ≡ gather print m b left' (take_had print m b left (take 20 fs) o) marks (drop 20 fs) ss
        go (lacking e) r = absurd (na (ap (λ (q : Outcome Gathered). gather print m a left' q marks (drop 20 fs) ss) e ∙ gather_refused a ka left' 20 marks (drop 20 fs) ss))
        go (lacking_too e) r = absurd (nb (ap (λ (q : Outcome Gathered). gather print m b left' q marks (drop 20 fs) ss) e ∙ gather_refused b kb left' 20 marks (drop 20 fs) ss))
        go (alike e h) r =
            r h (λ z. nb (ap (λ (q : Outcome Gathered). gather print m b left' q marks (drop 20 fs) ss) (sym e) ∙ z))
            ∙ ap (λ (q : Outcome Gathered). gather print m b left' q marks (drop 20 fs) ss) e
    gather_alike (suc i ∷ marks) left o fs ss k ks na nb =
        gather_alike marks (left - segment_bytes m) (take_sent print left (take 20 fs) (take (segment_bytes m) ss) o) (drop 20 fs) (drop (segment_bytes m) ss)
        (sent_known left (take 20 fs) (take (segment_bytes m) ss) o ks.0 k) ks.1 na nb

    pub assembled_alike : (bytes : ℕ) (fs marks ss : List ℕ) → Each Known (segments_sent (segment_bytes m) marks ss)
        → ¬ (assembled print m a bytes fs marks ss ≡ refused 20) → ¬ (assembled print m b bytes fs marks ss ≡ refused 20) → assembled print m a bytes fs marks ss ≡ assembled print m b bytes fs marks ss
    unfolding assembled
    assembled_alike bytes fs marks ss ks na nb =
        ap (cut_to bytes) (gather_alike marks bytes (done (record { image = []; sent = [] })) fs ss tt ks (λ e. na (ap (cut_to bytes) e ∙ cut)) (λ e. nb (ap (cut_to bytes) e ∙ cut)))
      where
        cut : cut_to bytes (refused 20) ≡ refused 20
        cut = unfold cut_to in refl
