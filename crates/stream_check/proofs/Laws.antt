-- The first walk, case by case and step by step.
use mathlib.Core.Path.{◌≡◌, refl, sym, ap, ◌∙◌, subst}
use mathlib.Core.Bool.{Bool, true, false}
use mathlib.Core.List.{List, []}
use Prim.Native.Nat.{ℕ, ◌+◌, ◌-◌, ◌≤◌, ◌<◌, min}
use native.Mathlib.Omega.{arith}
use lib.ListN.{length, take, drop, length-drop}
use lib.Seq.{drop-drop}
use lib.Dec.{leb}
use borrow.Author.Tests.{leb-true, leb-false}
use Rattle.lists.specs.Lists.{all_zero, all_of}
use Rattle.lists.proofs.Tests.{cond_self}
use Rattle.lists.proofs.Slices.{drop_take}
use Rattle.stream.specs.Stream.{Read, passed, stopped, and_then, may_stand, read_block, read_end, read_body}
use Rattle.stream_laws.proofs.Steps.{Alike, alike_then, then_alike, then_refused, groups_of, groups_none, block_null, block_short, block_bad, block_good, body_is_then, end_none, end_more}
use Rattle.stream_check.specs.Answers.{ReadsTo}
use Rattle.std.specs.Prelude.{Ok, Err}
use Rattle.refusals.specs.declared.Refusal.{Refusal}
use Rattle.refusals.specs.declared.Refusal.TheVariants.{Capacity, Lengths, NoSuchTill, ImageLength, ShortOutput, Unsound, TillFull, NumbersSpent, NoRecord, NoRun, NeverGiven, NoLongerHeld, OtherSegment, NoSegment, OverLimit, UnknownUser, NoRight, StreamSize, StreamLength, StreamBits, NoTurn, EarlierDay, NoneSoEarly, HighPrice}
use Rattle.refusals.specs.Refusals.{number_of}

-- ---- where a way ends

-- an accepted call answers 0, and no refusal has that number
pub number_some : (r : Refusal) → 0 < number_of r
number_some Capacity = omega arith
number_some Lengths = omega arith
number_some NoSuchTill = omega arith
number_some ImageLength = omega arith
number_some ShortOutput = omega arith
number_some Unsound = omega arith
number_some TillFull = omega arith
number_some NumbersSpent = omega arith
number_some NoRecord = omega arith
number_some NoRun = omega arith
number_some NeverGiven = omega arith
number_some NoLongerHeld = omega arith
number_some OtherSegment = omega arith
number_some NoSegment = omega arith
number_some OverLimit = omega arith
number_some UnknownUser = omega arith
number_some NoRight = omega arith
number_some StreamSize = omega arith
number_some StreamLength = omega arith
number_some StreamBits = omega arith
number_some NoTurn = omega arith
number_some EarlierDay = omega arith
number_some NoneSoEarly = omega arith
number_some HighPrice = omega arith

pub reaches_stop : (x : Read) (s : List ℕ) (r : Refusal) → x ≡ stopped (number_of r) → ReadsTo x s (Err r)
unfolding stopped
reaches_stop x s r e = record { told = ap (λ (y : Read). y.refusal) (sym e); within = tt; rest = tt }

pub reaches_passed : (x : Read) (s : List ℕ) (at : ℕ) (bytes : List ℕ) → at ≤ length s → x ≡ passed bytes (drop at s) → ReadsTo x s (Ok at)
unfolding passed
reaches_passed x s at bytes h e = record { told = ap (λ (y : Read). y.refusal) (sym e); within = h; rest = ap (λ (y : Read). y.rest) (sym e) }

-- ---- a block

may_not : (left : ℕ) (b : List ℕ) → all_zero b ≡ true → may_stand left b ≡ false
unfolding may_stand all_of
may_not left b e = rw e

may_by : (left : ℕ) (b : List ℕ) → all_zero b ≡ false → may_stand left b ≡ all_zero (drop left b)
unfolding may_stand all_of
may_by left b e = rw e (cond_self (all_zero (drop left b)))

module _ (s : List ℕ) (at bit left : ℕ) (h : at ≤ length s) where
  -- the bytes of the block, and those of them after the length
  abbrev pub the_block : List ℕ
  the_block = take (at + 64 - at) (drop at s)

  abbrev pub the_tail : ℕ → List ℕ
  the_tail after = take (at + 64 - after) (drop after s)

  block_is : the_block ≡ take 64 (drop at s)
  block_is = let z : at + 64 - at ≡ 64 = omega arith in rw z

  tail_is : the_tail (at + min left 64) ≡ drop left (take 64 (drop at s))
  tail_is = go (leb left 64) refl
    where
      go : (t : Bool) → leb left 64 ≡ t → the_tail (at + min left 64) ≡ drop left (take 64 (drop at s))
      go true q =
          let l : left ≤ 64 = leb-true left 64 q in
          let a : at + min left 64 ≡ at + left = omega arith in
          let b : at + 64 - (at + left) ≡ 64 - left = omega arith in
          rw (a, b, drop_take left 64 (drop at s), drop-drop left at s)
      go false q =
          let l : 64 < left = leb-false left 64 q in
          let b : at + 64 - (at + min left 64) ≡ 0 = omega arith in
          let c : 64 - left ≡ 0 = omega arith in
          rw (b, drop_take left 64 (drop at s), c)

  pub reaches_null : bit ≡ 0 → ReadsTo (read_block bit left (drop at s)) s (Ok at)
  reaches_null e = reaches_passed _ s at _ h (block_null bit left (drop at s) e)

  module _ (one : bit ≡ 0 → ⊥) where
    pub reaches_short : length s - at < 64 → ReadsTo (read_block bit left (drop at s)) s (Err StreamSize)
    reaches_short l = reaches_stop _ s StreamSize (block_short bit left (drop at s) one (omega (arith, length-drop at s)))

    module _ (l : 64 ≤ length s - at) where
      long : 64 ≤ length (drop at s)
      long = omega (arith, length-drop at s)

      pub reaches_zero : all_zero the_block ≡ true → ReadsTo (read_block bit left (drop at s)) s (Err StreamBits)
      reaches_zero z = reaches_stop _ s StreamBits (block_bad bit left (drop at s) one long (may_not left (take 64 (drop at s)) (rw block_is at z)))

      -- by the bytes after the length
      may_be : (after : ℕ) → after ≡ at + min left 64 → all_zero the_block ≡ false → (t : Bool) → t ≡ all_zero (the_tail after) → may_stand left (take 64 (drop at s)) ≡ t
      may_be after e z t f = may_by left (take 64 (drop at s)) (rw block_is at z) ∙ ap all_zero (sym tail_is) ∙ ap (λ (k : ℕ). all_zero (the_tail k)) (sym e) ∙ sym f

      pub reaches_after : (after : ℕ) → after ≡ at + min left 64 → all_zero the_block ≡ false → all_zero (the_tail after) ≡ false
          → ReadsTo (read_block bit left (drop at s)) s (Err StreamBits)
      reaches_after after e z f = reaches_stop _ s StreamBits (block_bad bit left (drop at s) one long (may_be after e z false (sym f)))

      pub reaches_good : (after : ℕ) → after ≡ at + min left 64 → all_zero the_block ≡ false → all_zero (the_tail after) ≡ true
          → ReadsTo (read_block bit left (drop at s)) s (Ok (at + 64))
      reaches_good after e z f =
          reaches_passed _ s (at + 64) (take 64 (drop at s)) (omega arith)
          (block_good bit left (drop at s) one long (may_be after e z true (sym f)) ∙ ap (passed (take 64 (drop at s))) (drop-drop 64 at s))

-- ---- steps

module _ (s : List ℕ) (x a whole : Read) (next : List ℕ → Read) (e : whole ≡ and_then a (next a.rest)) (al : Alike x whole) where
  -- an accepted step leaves the rest of the way
  pub step_on : (at : ℕ) → ReadsTo a s (Ok at) → Alike x (next (drop at s))
  step_on at r = alike_then al (subst (λ (l : List ℕ). Alike whole (next l)) (sym r.rest) (then_alike whole a (next a.rest) e (sym r.told)))

  -- a refused one is the answer
  pub step_stop : (k : Refusal) → ReadsTo a s (Err k) → number_of k ≡ x.refusal
  step_stop k r = r.told ∙ sym (then_refused whole a (next a.rest) e (λ z. omega (arith, number_some k, r.told, z))) ∙ sym al.refusal

  pub reaches_stopped : (k : Refusal) → ReadsTo a s (Err k) → ReadsTo x s (Err k)
  reaches_stopped k r = record { told = step_stop k r; within = tt; rest = tt }

-- the last step is done
pub reaches_end : (s : List ℕ) (at : ℕ) (x y : Read) → at ≤ length s → Alike x y → y ≡ passed [] (drop at s) → ReadsTo x s (Ok at)
unfolding passed
reaches_end s at x y h al e = record { told = sym (al.refusal ∙ ap (λ (y : Read). y.refusal) e); within = h; rest = sym (al.rest ∙ ap (λ (y : Read). y.rest) e) }

-- ---- the whole body

module _ (n at : ℕ) (s : List ℕ) where
  -- a refusal on the way
  pub body_stop : (k : Refusal) → number_of k ≡ (groups_of n (drop 4 s)).refusal → number_of k ≡ (read_body n (drop 4 s)).refusal
  body_stop k e = e ∙ sym (then_refused _ _ _ (body_is_then n (drop 4 s)) (λ q. omega (arith, number_some k, e, q)))

  -- all groups are passed
  module _ (h : at ≤ length s) (al : Alike (groups_of n (drop 4 s)) (groups_of 0 (drop at s))) where
    done : (groups_of n (drop 4 s)).refusal ≡ 0
    unfolding passed
    done = al.refusal ∙ ap (λ (x : Read). x.refusal) (groups_none (drop at s))

    rest : (groups_of n (drop 4 s)).rest ≡ drop at s
    unfolding passed
    rest = al.rest ∙ ap (λ (x : Read). x.rest) (groups_none (drop at s))

    ended : (read_body n (drop 4 s)).refusal ≡ (read_end (drop at s)).refusal
    ended = (then_alike _ _ _ (body_is_then n (drop 4 s)) done).refusal ∙ ap (λ (l : List ℕ). (read_end l).refusal) rest

    pub body_excess : at < length s → 24 ≡ (read_body n (drop 4 s)).refusal
    unfolding stopped
    body_excess l = sym (ended ∙ ap (λ (x : Read). x.refusal) (end_more (drop at s) (λ z. omega (arith, z, length-drop at s, l))))

    pub body_whole : length s ≤ at → 0 ≡ (read_body n (drop 4 s)).refusal
    unfolding passed
    body_whole l = sym (ended ∙ ap (λ (x : Read). x.refusal) (end_none (drop at s) (omega (arith, length-drop at s))))
