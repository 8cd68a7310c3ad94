-- Rounds, twenty at a time.
use Rattle.std.proofs.Common.{◌≡◌, ℕ, zero, suc, ◌+◌, ◌-◌, ◌<◌, ◌≤◌, List, get_or, sym, refl, ap, ◌∙◌, add-zero, suc-add, zero-add, arith, le-ltb, lt-ltb}
use Rattle.sha1_definition.specs.declared.State.{State}
use Rattle.sha1_definition.specs.Sha1.{choose, parity, majority, f, k, turned, round, rounds}

module _ (w : List ℕ) where
  pub rounds_more : (t end : ℕ) (s : State) → t < end → rounds w (t + 1) (end - (t + 1)) (round w t s) ≡ rounds w t (end - t) s
  unfolding rounds
  rounds_more t end s h =
      let e : end - t ≡ suc (end - (t + 1)) = omega arith in
      rw e refl

  pub rounds_none : (t end : ℕ) (s : State) → end ≤ t → rounds w t (end - t) s ≡ s
  unfolding rounds
  rounds_none t end s h =
      let e : end - t ≡ 0 = omega arith in
      rw e refl

  rounds_split : (n m t : ℕ) (s : State) → rounds w t (n + m) s ≡ rounds w (t + n) m (rounds w t n s)
  unfolding rounds
  rounds_split zero m t s = rw (zero-add, add-zero)
  rounds_split (suc n) m t s =
      let e : t + 1 + n ≡ t + suc n = omega arith in
      rw suc-add (rounds_split n m (t + 1) (round w t s) ∙ ap (λ (i : ℕ). rounds w i m (rounds w (t + 1) n (round w t s))) e)

  pub four_twenties : (s : State) → rounds w 60 20 (rounds w 40 20 (rounds w 20 20 (rounds w 0 20 s))) ≡ rounds w 0 80 s
  four_twenties s =
      sym (rounds_split 20 60 0 s ∙ rounds_split 20 40 20 (rounds w 0 20 s) ∙ rounds_split 20 20 40 (rounds w 20 20 (rounds w 0 20 s)))

  -- one round more of those up to `end`
  pub next_round : (t end ft kt : ℕ) (s s' : State) → t < end → ft ≡ f t s.b s.c s.d → kt ≡ k t → s' ≡ turned ft (get_or w t 0) kt s → rounds w (t + 1) (end - (t + 1)) s' ≡ rounds w t (end - t) s
  unfolding round
  next_round t end ft kt s s' h ef ek e = rw (e, ef, ek) (rounds_more t end s h)

-- the functions and the constants of the rounds, twenty by twenty
module _ (t b c d : ℕ) where
  pub first_is : t < 20 → (choose b c d ≡ f t b c d) × (0x5A827999 ≡ k t)
  unfolding f k
  first_is h = rw (lt-ltb t 20 h) (refl, refl)

  pub second_is : 20 ≤ t → t < 40 → (parity b c d ≡ f t b c d) × (0x6ED9EBA1 ≡ k t)
  unfolding f k
  second_is h h' = rw (le-ltb t 20 h, lt-ltb t 40 h') (refl, refl)

  pub third_is : 40 ≤ t → t < 60 → (majority b c d ≡ f t b c d) × (0x8F1BBCDC ≡ k t)
  unfolding f k
  third_is h h' = rw (le-ltb t 20 (omega arith), le-ltb t 40 h, lt-ltb t 60 h') (refl, refl)

  pub last_is : 60 ≤ t → (parity b c d ≡ f t b c d) × (0xCA62C1D6 ≡ k t)
  unfolding f k
  last_is h = rw (le-ltb t 20 (omega arith), le-ltb t 40 (omega arith), le-ltb t 60 h) (refl, refl)
