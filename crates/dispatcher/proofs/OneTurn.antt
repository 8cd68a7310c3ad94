-- What holds of each turn.
use mathlib.Core.Path.{◌≡◌, refl, sym, ap, ◌∙◌}
use mathlib.Core.Bool.{Bool, true, false, cond, false≢true}
use mathlib.Core.Option.{Option, none, some}
use Prim.Native.Nat.{ℕ, ◌+◌, ◌-◌, ◌%◌, ◌^◌, ◌≤◌, ◌<◌}
use native.Mathlib.Nat.{mod-lt, mod-eq_of_lt, mod-eq-sub-mod}
use native.Mathlib.Omega.{arith}
use lib.Dec.{ltb, eqb}
use borrow.Author.Tests.{ltb-true, ltb-false, le-leb, lt-ltb, eqb-true, eqb-false}
use Rattle.lists.proofs.Masks.{clear_at, clear_other}
use Rattle.lists.proofs.Search.{Found, found, found_none}
use Rattle.lists.proofs.Tests.{all_true}
use Rattle.dispatcher.specs.declared.Turn.{Turn}
use Rattle.dispatcher.specs.declared.Stepped.{Stepped}
use Rattle.dispatcher.specs.Turns.{is_turn, waits, in_turn, next_till, idle_turn, served_turn, turn_for, turn_of}
use Rattle.dispatcher.specs.Claims.{EachTurn}
use Rattle.dispatcher.proofs.Marks.{bit_waits, bit_rests, waits_bit, rests_bit, lt_marks, waits_below}
use Rattle.dispatcher.proofs.Next.{some_tills_lem, few_tills, few_marks, last_present, next_waits, next_present}

-- ---- the cases of a turn

module _ (r : Turn) where
  pub turn_refused : is_turn r ≡ false → turn_of r ≡ idle_turn 27 r
  unfolding turn_of
  turn_refused s = rw s

  pub turn_idle : is_turn r ≡ true → next_till r ≡ none → turn_of r ≡ idle_turn 0 r
  unfolding turn_of turn_for
  turn_idle s e = rw (s, e)

  pub turn_served : (t : ℕ) → is_turn r ≡ true → next_till r ≡ some t → turn_of r ≡ served_turn r t
  unfolding turn_of turn_for
  turn_served t s e = rw (s, e)

  -- what holds in each case holds of the turn
  by_cases : (P : Stepped → Type 0) → (is_turn r ≡ false → P (idle_turn 27 r)) → (is_turn r ≡ true → next_till r ≡ none → P (idle_turn 0 r))
      → ((t : ℕ) → is_turn r ≡ true → next_till r ≡ some t → P (served_turn r t)) → P (turn_of r)
  by_cases P bad idle good = go (is_turn r) refl (next_till r) refl
    where
      go : (b : Bool) → is_turn r ≡ b → (o : Option ℕ) → next_till r ≡ o → P (turn_of r)
      go false s o e = rw (turn_refused s) (bad s)
      go true s none e = rw (turn_idle s e) (idle s e)
      go true s (some t) e = rw (turn_served t s e) (good t s e)

-- the record of the right tills, marks and last till
pub turn_record : (tills mask last : ℕ) → 1 ≤ tills → tills ≤ 16 → mask < 2 ^ tills → last < tills → is_turn (record { tills = tills; waiting = mask; last = last }) ≡ true
unfolding is_turn
turn_record tills mask last a b c d = all_true _ (le-leb 1 tills a, (le-leb tills 16 b, (lt_marks tills mask c, (lt-ltb last tills d, tt))))

-- how far a present till is ahead of the last one, round the circle
pub ahead : (tills last t : ℕ) → last < tills → t < tills → (j : ℕ) × (j < tills) × ((last + (1 + j)) % tills ≡ t)
ahead tills last t a b = go (ltb last t) refl
  where
    go : (c : Bool) → ltb last t ≡ c → (j : ℕ) × (j < tills) × ((last + (1 + j)) % tills ≡ t)
    go true h =
        let l : last < t = ltb-true last t h in
        let e : last + (1 + (t - last - 1)) ≡ t = omega arith in
        (t - last - 1, omega arith, rw e (mod-eq_of_lt b))
    go false h =
        let l : t ≤ last = ltb-false last t h in
        let e : last + (1 + (t + tills - last - 1)) ≡ t + tills = omega arith in
        let d : t + tills - tills ≡ t = omega arith in
        (t + tills - last - 1, omega arith, rw e (mod-eq-sub-mod {n = t + tills} {m = tills} (omega arith) ∙ rw d (mod-eq_of_lt b)))

-- one of them waits: one is next
pub some_next : (r : Turn) → is_turn r ≡ true → (t : ℕ) → waits r.waiting t ≡ true → next_till r ≡ none → ⊥
unfolding next_till in_turn
some_next r s t w e =
    let a = ahead r.tills r.last t (last_present r s) (waits_below r.waiting r.tills t (few_marks r s) w) in
    let f : Found (waits r.waiting) (λ k. (r.last + k) % r.tills) 1 r.tills a.0 = found (waits r.waiting) (λ k. (r.last + k) % r.tills) 1 r.tills a.0 a.1 (rw a.2 w) in
    let z : ◌≡◌ {A = ℕ} 0 1 = cc (f.is, e) in
    omega arith

-- none of them waits: none is next
pub none_next : (r : Turn) → is_turn r ≡ true → ((t : ℕ) → t < r.tills → waits r.waiting t ≡ false) → next_till r ≡ none
unfolding next_till in_turn
none_next r s h =
    found_none (waits r.waiting) (λ k. (r.last + k) % r.tills) 1 r.tills (λ j l. h ((r.last + (1 + j)) % r.tills) (mod-lt (r.last + (1 + j)) (some_tills_lem r s)))

-- a mark taken off
cleared : (m t u : ℕ) → waits m t ≡ true → waits (m - 2 ^ t) u ≡ cond (eqb u t) false (waits m u)
cleared m t u w = go (eqb u t) refl (waits m u) refl
  where
    go : (b : Bool) → eqb u t ≡ b → (c : Bool) → waits m u ≡ c → waits (m - 2 ^ t) u ≡ cond b false c
    go true h c k = rw (eqb-true u t h) (bit_rests (m - 2 ^ t) t (clear_at m t (waits_bit m t w)))
    go false h true k = bit_waits (m - 2 ^ t) u (clear_other m t u (waits_bit m t w) (eqb-false u t h) ∙ waits_bit m u k)
    go false h false k = bit_rests (m - 2 ^ t) u (clear_other m t u (waits_bit m t w) (eqb-false u t h) ∙ rests_bit m u k)

-- ---- the claims

module _ (r : Turn) where
  abbrev Served-so : (Stepped → Type 0) → Stepped → Type 0
  Served-so P x = x.answer.served ≡ true → P x

  -- of what is served it is enough to look at a till that is served
  if_served : (P : Stepped → Type 0) → ((t : ℕ) → is_turn r ≡ true → next_till r ≡ some t → P (served_turn r t)) → Served-so P (turn_of r)
  unfolding idle_turn
  if_served P f = by_cases r (Served-so P) (λ s e. absurd (false≢true e)) (λ s n e. absurd (false≢true e)) (λ t s n e. f t s n)

  again : (t : ℕ) → is_turn r ≡ true → next_till r ≡ some t → ((served_turn r t).answer.refusal ≡ 0) × (is_turn (served_turn r t).turn ≡ true)
  unfolding served_turn
  again t s n = (refl, turn_record r.tills (r.waiting - 2 ^ t) t (some_tills_lem r s) (few_tills r s) (omega (arith, few_marks r s)) (next_present r s t n))

  pub each_turn : EachTurn r
  unfolding idle_turn served_turn
  each_turn = record {
    refused = λ s. (ap (λ (x : Stepped). x.answer) (turn_refused r s), ap (λ (x : Stepped). x.turn) (turn_refused r s));
    accepted = λ s. by_cases r (λ x. (x.answer.refusal ≡ 0) × (is_turn x.turn ≡ true)) (λ f. absurd (false≢true (sym f ∙ s))) (λ _ n. (refl, s)) again;
    idle = λ s h. (ap (λ (x : Stepped). x.answer) (turn_idle r s (none_next r s h)), ap (λ (x : Stepped). x.turn) (turn_idle r s (none_next r s h)));
    busy = λ s t w. by_cases r (λ x. x.answer.served ≡ true) (λ f. absurd (false≢true (sym f ∙ s))) (λ _ n. absurd (some_next r s t w n)) (λ u _ n. refl);
    present = if_served (λ x. x.answer.till < r.tills) (λ t s n. next_present r s t n);
    waited = if_served (λ x. waits r.waiting x.answer.till ≡ true) (λ t s n. next_waits r s t n);
    last = if_served (λ x. x.turn.last ≡ x.answer.till) (λ t s n. refl);
    marks = if_served (λ x. (u : ℕ) → waits x.turn.waiting u ≡ cond (eqb u x.answer.till) false (waits r.waiting u)) (λ t s n u. cleared r.waiting t u (next_waits r s t n));
    tills = by_cases r (λ x. x.turn.tills ≡ r.tills) (λ _. refl) (λ _ _. refl) (λ _ _ _. refl);
  }
