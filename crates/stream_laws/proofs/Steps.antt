-- The reader's way step by step, as the code's walks take it.
use mathlib.Core.Path.{◌≡◌, refl, sym, ap, ◌∙◌}
use mathlib.Core.Bool.{Bool, true, false, cond}
use mathlib.Core.List.{List, []}
use Prim.Native.Nat.{ℕ, zero, suc, ◌+◌, ◌-◌, ◌/◌, ◌%◌, ◌^◌, ◌≤◌, ◌<◌, min}
use native.Mathlib.Omega.{arith}
use lib.ListN.{length, get_or, take, drop}
use lib.Dec.{ltb}
use borrow.Author.Tests.{lt-ltb, le-ltb, ltb-true, ltb-false, eq-eqb, ne_eqb}
use Rattle.lists.proofs.Slices.{drop_next, drop_end}
use Rattle.model.specs.Measures.{parts_for}
use Rattle.model.specs.Image.{zero_block}
use Rattle.stream.specs.Stream.{Read, passed, stopped, and_then, may_stand, read_block, read_blocks, read_group, read_groups, read_end, read_body}
use Rattle.stream_laws.proofs.Ways.{then_done, then_stop}

-- ---- the same refusal and the same rest

pub record Alike (x y : Read) : Type 0 where
  pub refusal : x.refusal ≡ y.refusal
  pub rest : x.rest ≡ y.rest

pub alike_refl : (x : Read) → Alike x x
alike_refl x = record { refusal = refl; rest = refl }

pub alike_then : {x y z : Read} → Alike x y → Alike y z → Alike x z
alike_then p q = record { refusal = p.refusal ∙ q.refusal; rest = p.rest ∙ q.rest }

-- after a way that was accepted the next one tells; a refusal stays
pub then_alike : (whole a b : Read) → whole ≡ and_then a b → a.refusal ≡ 0 → Alike whole b
then_alike whole a b e z = rw (e, then_done a b z) (record { refusal = refl; rest = refl })

pub then_refused : (whole a b : Read) → whole ≡ and_then a b → (a.refusal ≡ 0 → ⊥) → whole.refusal ≡ a.refusal
unfolding stopped
then_refused whole a b e n = ap (λ (x : Read). x.refusal) (e ∙ then_stop a b n)

-- ---- one step

pub blocks_step : (k bits left : ℕ) (s : List ℕ) → 0 < k
    → read_blocks k bits left s ≡ and_then (read_block (bits % 2) left s) (read_blocks (k - 1) (bits / 2) (left - 64) (read_block (bits % 2) left s).rest)
unfolding read_blocks
blocks_step zero bits left s h = absurd (omega arith)
blocks_step (suc k) bits left s h = let z : suc k - 1 ≡ k = omega arith in rw z

pub blocks_none : (bits left : ℕ) (s : List ℕ) → read_blocks 0 bits left s ≡ passed [] s
unfolding read_blocks
blocks_none bits left s = refl

-- the groups of an image that has `left` bytes left
abbrev pub groups_of : ℕ → List ℕ → Read
groups_of left s = read_groups (parts_for 512 left) left s

pub groups_step : (left : ℕ) (s : List ℕ) → 0 < left → groups_of left s ≡ and_then (read_group left s) (groups_of (left - 512) (read_group left s).rest)
unfolding read_groups parts_for
groups_step left s h = let p : (left + 511) / 512 ≡ suc ((left - 512 + 511) / 512) = omega arith in rw p

pub groups_none : (s : List ℕ) → groups_of 0 s ≡ passed [] s
unfolding read_groups parts_for
groups_none s = refl

-- ---- a block

module _ (bit left : ℕ) (s : List ℕ) where
  pub block_null : bit ≡ 0 → read_block bit left s ≡ passed (zero_block 64) s
  unfolding read_block
  block_null e = rw e

  -- with a bit
  pub block_bit : (bit ≡ 0 → ⊥) → read_block bit left s ≡ cond (ltb (length s) 64) (stopped 24) (cond (may_stand left (take 64 s)) (passed (take 64 s) (drop 64 s)) (stopped 26))
  unfolding read_block
  block_bit n = go bit n
    where
      go : (b : ℕ) → (b ≡ 0 → ⊥) → read_block b left s ≡ cond (ltb (length s) 64) (stopped 24) (cond (may_stand left (take 64 s)) (passed (take 64 s) (drop 64 s)) (stopped 26))
      go zero n = absurd (n refl)
      go (suc b) n = refl

  pub block_short : (bit ≡ 0 → ⊥) → length s < 64 → read_block bit left s ≡ stopped 24
  block_short n h = block_bit n ∙ rw (lt-ltb (length s) 64 h)

  pub block_bad : (bit ≡ 0 → ⊥) → 64 ≤ length s → may_stand left (take 64 s) ≡ false → read_block bit left s ≡ stopped 26
  block_bad n h e = block_bit n ∙ rw (le-ltb (length s) 64 h, e)

  pub block_good : (bit ≡ 0 → ⊥) → 64 ≤ length s → may_stand left (take 64 s) ≡ true → read_block bit left s ≡ passed (take 64 s) (drop 64 s)
  block_good n h e = block_bit n ∙ rw (le-ltb (length s) 64 h, e)

  -- an accepted one
  pub block_taken : (bit ≡ 0 → ⊥) → (read_block bit left s).refusal ≡ 0 → (64 ≤ length s) × (read_block bit left s ≡ passed (take 64 s) (drop 64 s))
  unfolding stopped
  block_taken n e = go (ltb (length s) 64) refl (may_stand left (take 64 s)) refl
    where
      no : (k : ℕ) → 0 < k → read_block bit left s ≡ stopped k → ⊥
      no k h q = omega (arith, h, sym (ap (λ (x : Read). x.refusal) q) ∙ e)

      go : (t : Bool) → ltb (length s) 64 ≡ t → (m : Bool) → may_stand left (take 64 s) ≡ m → (64 ≤ length s) × (read_block bit left s ≡ passed (take 64 s) (drop 64 s))
      go true q m r = absurd (no 24 (omega arith) (block_bit n ∙ rw q))
      go false q true r = (ltb-false (length s) 64 q, block_good n (ltb-false (length s) 64 q) r)
      go false q false r = absurd (no 26 (omega arith) (block_bad n (ltb-false (length s) 64 q) r))

-- ---- the end

pub body_is_then : (n : ℕ) (s : List ℕ) → read_body n s ≡ and_then (groups_of n s) (read_end (groups_of n s).rest)
unfolding read_body
body_is_then n s = refl

pub end_none : (s : List ℕ) → length s ≡ 0 → read_end s ≡ passed [] []
unfolding read_end
end_none s e = rw (eq-eqb (length s) 0 e)

pub end_more : (s : List ℕ) → (length s ≡ 0 → ⊥) → read_end s ≡ stopped 24
unfolding read_end
end_more s n = rw (ne_eqb (length s) 0 n)

-- ---- a group

pub group_none : (left at : ℕ) (s : List ℕ) → length s ≤ at → read_group left (drop at s) ≡ stopped 24
unfolding read_group
group_none left at s h = rw (drop_end s at h)

module _ (left at : ℕ) (s : List ℕ) (h : at < length s) where
  group_first : read_group left (drop at s) ≡ cond (ltb (get_or s at 0) (2 ^ min 8 (parts_for 64 left))) (read_blocks 8 (get_or s at 0) left (drop (at + 1) s)) (stopped 26)
  unfolding read_group
  group_first = rw (drop_next s at 0 h)

  pub group_missing : ltb (get_or s at 0) (2 ^ min 8 (parts_for 64 left)) ≡ false → read_group left (drop at s) ≡ stopped 26
  group_missing e = group_first ∙ rw e

  pub group_blocks : ltb (get_or s at 0) (2 ^ min 8 (parts_for 64 left)) ≡ true → read_group left (drop at s) ≡ read_blocks 8 (get_or s at 0) left (drop (at + 1) s)
  group_blocks e = group_first ∙ rw e

  -- of an accepted one
  pub group_accepted : (read_group left (drop at s)).refusal ≡ 0 → read_group left (drop at s) ≡ read_blocks 8 (get_or s at 0) left (drop (at + 1) s)
  unfolding stopped
  group_accepted e = go (ltb (get_or s at 0) (2 ^ min 8 (parts_for 64 left))) refl
    where
      go : (t : Bool) → ltb (get_or s at 0) (2 ^ min 8 (parts_for 64 left)) ≡ t → read_group left (drop at s) ≡ read_blocks 8 (get_or s at 0) left (drop (at + 1) s)
      go true q = group_blocks q
      go false q = absurd (omega (arith, sym (ap (λ (x : Read). x.refusal) (group_missing q)) ∙ e))

pub group_some : (left at : ℕ) (s : List ℕ) → (read_group left (drop at s)).refusal ≡ 0 → at < length s
unfolding stopped
group_some left at s e = go (ltb at (length s)) refl
  where
    go : (t : Bool) → ltb at (length s) ≡ t → at < length s
    go true q = ltb-true at (length s) q
    go false q = absurd (omega (arith, sym (ap (λ (x : Read). x.refusal) (group_none left at s (ltb-false at (length s) q))) ∙ e))
