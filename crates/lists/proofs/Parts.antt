-- A part of a thing whose words stand together among the thing's words: what a function that is lent `&mut ws[a..e]` sees.
use mathlib.Core.Path.{◌≡◌, refl, sym, ap, ◌∙◌}
use mathlib.Core.List.{List, ◌++◌, append_assoc}
use Prim.Native.Nat.{ℕ, suc, ◌<◌}
use native.Mathlib.Omega.{arith}
use lib.ListN.{length, get_or, set, take, drop, length-append}
use lib.Seq.{set-get_or}
use Rattle.lists.specs.Rows.{rows}
use Rattle.lists.proofs.Rows.{row_seam}
use Rattle.lists.proofs.Slices.{mid_is, mid_put}

-- ---- Part

-- the part of s that `get` is: with another in its place, of as many words, the words before and behind it stay
pub record Part {W S A : Type 0} (encS : S → List W) (encA : A → List W) (s : S) : Type 0 where
  pub get : A
  pub put : A → S
  pub before : List W
  pub after : List W
  pub same : put get ≡ s
  pub words : (a : A) → length (encA a) ≡ length (encA get) → encS (put a) ≡ before ++ (encA a ++ after)

pub seam {ℓ} : {W : Type ℓ} (p q r t m : List W) → p ++ ((q ++ (m ++ r)) ++ t) ≡ (p ++ q) ++ (m ++ (r ++ t))
seam p q r t m = simp append_assoc

module _ {W S A B : Type 0} {encS : S → List W} {encA : A → List W} {encB : B → List W} {s : S} where
  -- a part of a part
  abbrev pub within : (P : Part encS encA s) → Part encA encB P.get → Part encS encB s
  within P Q =
      record {
        get = Q.get;
        put = λ b. P.put (Q.put b);
        before = P.before ++ Q.before;
        after = Q.after ++ P.after;
        same = ap P.put Q.same ∙ P.same;
        words = λ b h.
            let old : encA P.get ≡ Q.before ++ (encB Q.get ++ Q.after) = ap encA (sym Q.same) ∙ Q.words Q.get refl in
            let new : encA (Q.put b) ≡ Q.before ++ (encB b ++ Q.after) = Q.words b h in
            let n : length (encA (Q.put b)) ≡ length (encA P.get) =
            rw (new, old) (omega (arith, length-append Q.before (encB b ++ Q.after), length-append Q.before (encB Q.get ++ Q.after), length-append (encB b) Q.after, length-append (encB Q.get) Q.after)) in
            P.words (Q.put b) n ∙ ap (λ (l : List W). P.before ++ (l ++ P.after)) new ∙ seam P.before Q.before Q.after P.after (encB b);
      }

module _ {W S A : Type 0} {encS : S → List W} {encA : A → List W} {s : S} (P : Part encS encA s) (ws : List W) (e : ws ≡ encS s)
    (a k : ℕ) (la : length P.before ≡ a) (lk : length (encA P.get) ≡ k) where
  whole : ws ≡ P.before ++ (encA P.get ++ P.after)
  whole = e ∙ ap encS (sym P.same) ∙ P.words P.get refl

  -- what is lent
  pub lent : take k (drop a ws) ≡ encA P.get
  lent = mid_is P.before (encA P.get) P.after ws a k whole la lk

  -- what comes back
  pub returned : (x : A) → length (encA x) ≡ k → take a ws ++ (encA x ++ drop k (drop a ws)) ≡ encS (P.put x)
  returned x h = mid_put P.before (encA P.get) P.after ws a k whole la lk (encA x) ∙ sym (P.words x (h ∙ sym lk))

-- ---- row_part

-- row i of rows
abbrev pub row_part : {W A : Type 0} (enc : A → List W) (d : A) (xs : List A) (i : ℕ) → i < length xs → Part (rows enc) enc xs
row_part enc d xs i h =
    record {
      get = get_or xs i d;
      put = λ x. set xs i x;
      before = rows enc (take i xs);
      after = rows enc (drop (suc i) xs);
      same = set-get_or xs i d;
      words = λ x n. row_seam enc xs i h x;
    }
