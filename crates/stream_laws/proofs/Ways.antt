-- Parts of a stream read one after another, and one block.
use mathlib.Core.Path.{◌≡◌, refl, sym, ap, ◌∙◌}
use mathlib.Core.Bool.{Bool, true, false, cond, not}
use mathlib.Core.List.{List, [], ◌∷◌, ◌++◌}
use Prim.Native.Nat.{ℕ, zero, suc, ◌-◌, ◌≤◌, ◌<◌}
use native.Mathlib.Omega.{arith}
use lib.ListN.{length, take, drop, take-append-drop, length-replicate, length-append}
use lib.Seq.{length-take-le, take_at, drop_at}
use lib.Dec.{eqb, ltb}
use borrow.Author.Tests.{eqb-true, eq-eqb, ne_eqb, ltb-false, le-ltb}
use Rattle.lists.specs.Lists.{all_zero}
use Rattle.lists.proofs.Same.{zeros_zero, zeros_eq}
use Rattle.lists.proofs.Slices.{drop_same}
use Rattle.lists.proofs.Tests.{clause, all_true}
use Rattle.model.specs.State.{Block}
use Rattle.model.specs.Image.{zero_block}
use Rattle.model.specs.Sound.{is_filled}
use Rattle.stream.specs.Stream.{Read, passed, stopped, and_then, may_stand, read_block}
use Rattle.stream.specs.Pieces.{block_part}

-- ---- one way after another

pub then_done : (a b : Read) → a.refusal ≡ 0 → and_then a b ≡ record { refusal = b.refusal; bytes = a.bytes ++ b.bytes; rest = b.rest }
unfolding and_then
then_done a b e = rw (eq-eqb a.refusal 0 e)

pub then_stop : (a b : Read) → (a.refusal ≡ 0 → ⊥) → and_then a b ≡ stopped a.refusal
unfolding and_then
then_stop a b n = rw (ne_eqb a.refusal 0 n)

-- accepted at the end, so on the way
pub then_first : (a b : Read) → (and_then a b).refusal ≡ 0 → a.refusal ≡ 0
unfolding and_then stopped
then_first a b e = go (eqb a.refusal 0) refl e
  where
    go : (t : Bool) → eqb a.refusal 0 ≡ t → (cond t (record { refusal = b.refusal; bytes = a.bytes ++ b.bytes; rest = b.rest }) (stopped a.refusal)).refusal ≡ 0 → a.refusal ≡ 0
    go true q h = eqb-true a.refusal 0 q
    go false q h = h

pub then_second : (a b : Read) → (and_then a b).refusal ≡ 0 → b.refusal ≡ 0
then_second a b e = sym (ap (λ (x : Read). x.refusal) (then_done a b (then_first a b e))) ∙ e

pub passed_yes : (bytes rest : List ℕ) → (passed bytes rest).refusal ≡ 0
unfolding passed
passed_yes bytes rest = refl

-- after a way that was passed
pub then_passed : (bytes rest : List ℕ) (b : Read) (more end : List ℕ) → b ≡ passed more end → and_then (passed bytes rest) b ≡ passed (bytes ++ more) end
unfolding passed
then_passed bytes rest b more end e = then_done (passed bytes rest) b refl ∙ rw e

-- ---- a block

pub may_filled : (left : ℕ) (b : Block) → may_stand left b ≡ true → is_filled b ≡ true
unfolding may_stand
may_filled left b e = clause (is_filled b ∷ all_zero (drop left b) ∷ []) 0 e

pub may_zero : (left : ℕ) (b : Block) → may_stand left b ≡ true → all_zero (drop left b) ≡ true
unfolding may_stand
may_zero left b e = clause (is_filled b ∷ all_zero (drop left b) ∷ []) 1 e

pub may_stand_lem : (left : ℕ) (b : Block) → is_filled b ≡ true → all_zero (drop left b) ≡ true → may_stand left b ≡ true
unfolding may_stand
may_stand_lem left b n z = all_true (is_filled b ∷ all_zero (drop left b) ∷ []) (n, (z, tt))

-- what an accepted block is: its 64 bytes, zero after the length; its bit says whether it is null
pub record Block-is (bit left : ℕ) (s : List ℕ) (a : Read) : Type 0 where
  pub size : length a.bytes ≡ 64
  pub zero_after : all_zero (drop left a.bytes) ≡ true
  pub stream : s ≡ block_part a.bytes ++ a.rest
  pub marked : bit ≡ cond (is_filled a.bytes) 1 0

pub block_is : (bit left : ℕ) (s : List ℕ) → bit < 2 → (read_block bit left s).refusal ≡ 0 → Block-is bit left s (read_block bit left s)
unfolding read_block passed stopped zero_block
block_is zero left s h e = record {
  size = length-replicate {A = ℕ} 64 0;
  zero_after = rw (drop_same {A = ℕ} 0 left 64) (zeros_zero (64 - left));
  stream = rw (zeros_zero 64);
  marked = rw (zeros_zero 64);
}
block_is (suc bit) left s h e = go (ltb (length s) 64) refl e
  where
    one : (b : Bool) → may_stand left (take 64 s) ≡ b → 64 ≤ length s → (cond b (passed (take 64 s) (drop 64 s)) (stopped 26)).refusal ≡ 0
        → Block-is (suc bit) left s (cond b (passed (take 64 s) (drop 64 s)) (stopped 26))
    one true q l e =
        let n : is_filled (take 64 s) ≡ true = may_filled left (take 64 s) q in
        record {
          size = length-take-le 64 s l;
          zero_after = may_zero left (take 64 s) q;
          stream = rw n (sym (take-append-drop 64 s));
          marked = rw n (omega arith);
        }
    one false q l e = absurd (omega arith)

    go : (b : Bool) → ltb (length s) 64 ≡ b → (cond b (stopped 24) (cond (may_stand left (take 64 s)) (passed (take 64 s) (drop 64 s)) (stopped 26))).refusal ≡ 0
        → Block-is (suc bit) left s (cond b (stopped 24) (cond (may_stand left (take 64 s)) (passed (take 64 s) (drop 64 s)) (stopped 26)))
    go true q e = absurd (omega arith)
    go false q e = one (may_stand left (take 64 s)) refl (ltb-false (length s) 64 q) e

-- a block's own bytes are read back
pub block_back : (b : Block) (left : ℕ) (s : List ℕ) → length b ≡ 64 → all_zero (drop left b) ≡ true
    → read_block (cond (is_filled b) 1 0) left (block_part b ++ s) ≡ passed b s
unfolding read_block zero_block
block_back b left s n z = go (all_zero b) refl
  where
    go : (t : Bool) → all_zero b ≡ t → read_block (cond (not t) 1 0) left (cond (not t) b [] ++ s) ≡ passed b s
    go true q = ap (λ (l : List ℕ). passed l s) (zeros_eq b 64 q n)
    go false q =
        let l : 64 ≤ length (b ++ s) = omega (arith, length-append b s) in
        rw (le-ltb (length (b ++ s)) 64 l, take_at b s 64 n, drop_at b s 64 n, may_stand_lem left b (ap not q) z)
