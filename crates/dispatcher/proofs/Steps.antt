-- What the code's tests and sums say of a turn.
use mathlib.Core.Path.{◌≡◌, sym}
use mathlib.Core.Bool.{true, false}
use mathlib.Core.Option.{some}
use Prim.Native.Nat.{ℕ, ◌+◌, ◌-◌, ◌*◌, ◌/◌, ◌%◌, ◌^◌, ◌≤◌, ◌<◌}
use native.Mathlib.Omega.{arith}
use lib.Pow.{pow_mono, shr_le}
use lib.Count.{count_trailing_zeros}
use lib.Dec.{ltb}
use borrow.Author.Tests.{le-leb, lt-leb, lt-ltb, le-ltb}
use Rattle.lists.specs.Lists.{all_of}
use Rattle.lists.proofs.Masks.{First, trailing_first, bit_le, one_shl}
use Rattle.lists.proofs.Tests.{cond_self}
use Rattle.dispatcher.specs.declared.Turn.{Turn}
use Rattle.dispatcher.specs.declared.Stepped.{Stepped}
use Rattle.dispatcher.specs.Turns.{marks_present, is_turn, next_till, served_turn}
use Rattle.dispatcher.proofs.Marks.{waits_bit}
use Rattle.dispatcher.proofs.Next.{few_tills, few_marks, next_waits, next_present}

-- ---- is_turn, test by test

module _ (r : Turn) where
  pub no_tills : r.tills < 1 → false ≡ is_turn r
  unfolding is_turn all_of
  no_tills a = rw (lt-leb 1 r.tills a)

  pub many_tills : 1 ≤ r.tills → 16 < r.tills → false ≡ is_turn r
  unfolding is_turn all_of
  many_tills a b = rw (le-leb 1 r.tills a, lt-leb r.tills 16 b)

  -- one above the marks of that many tills
  pub limit : r.tills ≤ 16 → 1 * 2 ^ r.tills % 2 ^ 32 ≡ 2 ^ r.tills
  limit b = one_shl r.tills 32 (omega arith)

  pub high_mark : 1 ≤ r.tills → r.tills ≤ 16 → 1 * 2 ^ r.tills % 2 ^ 32 ≤ r.waiting → false ≡ is_turn r
  unfolding is_turn marks_present all_of
  high_mark a b c = rw (le-leb 1 r.tills a, le-leb r.tills 16 b, le-ltb r.waiting (2 ^ r.tills) (omega (arith, limit b)))

  pub by_last : 1 ≤ r.tills → r.tills ≤ 16 → r.waiting < 1 * 2 ^ r.tills % 2 ^ 32 → ltb r.last r.tills ≡ is_turn r
  unfolding is_turn marks_present all_of
  by_last a b c = rw (le-leb 1 r.tills a, le-leb r.tills 16 b, lt-ltb r.waiting (2 ^ r.tills) (omega (arith, limit b))) (sym (cond_self (ltb r.last r.tills)))

-- ---- the till that is next

module _ (r : Turn) (s : is_turn r ≡ true) where
  pub small : r.waiting < 2 ^ 32
  small = omega (arith, few_marks r s, pow_mono {i = r.tills} {j = 16} (few_tills r s))

  -- the mark above the last till
  pub first_after : 0 < r.waiting / 2 ^ (r.last + 1) → First (r.waiting / 2 ^ (r.last + 1)) (count_trailing_zeros 32 (r.waiting / 2 ^ (r.last + 1)))
  first_after p = trailing_first 32 (r.waiting / 2 ^ (r.last + 1)) p (omega (arith, small, shr_le r.waiting (r.last + 1)))

  pub first_of_all : 0 < r.waiting → First r.waiting (count_trailing_zeros 32 r.waiting)
  first_of_all p = trailing_first 32 r.waiting p small

  -- its mark is within the mask
  module _ (t : ℕ) (e : next_till r ≡ some t) where
    pub short : t < 16
    short = omega (arith, next_present r s t e, few_tills r s)

    pub power : 1 * 2 ^ t % 2 ^ 32 ≡ 2 ^ t
    power = one_shl t 32 (omega (arith, short))

    pub marked : 2 ^ t ≤ r.waiting
    marked = bit_le r.waiting t (waits_bit r.waiting t (next_waits r s t e))

    -- the record without it
    pub served_so : ◌≡◌ {A = Stepped} (record {
      answer = record { refusal = 0; served = true; till = t };
      turn = record { tills = r.tills; waiting = r.waiting - 1 * 2 ^ t % 2 ^ 32; last = t };
    }) (served_turn r t)
    unfolding served_turn
    served_so = rw power
