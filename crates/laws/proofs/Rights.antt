-- The word of the rights: read again, below 2 ^ 28, and the word of what is read from it.
use mathlib.Core.Path.{◌≡◌, refl, sym, ap, ap₂, ◌∙◌, subst}
use mathlib.Core.Bool.{Bool, true, false, cond}
use mathlib.Core.List.{List, [], ◌∷◌}
use Prim.Native.Nat.{ℕ, zero, suc, ◌+◌, ◌*◌, ◌/◌, ◌%◌, ◌^◌, ◌≤◌, ◌<◌}
use native.Mathlib.Nat.{pow-suc, mul_assoc, mul_comm}
use native.Mathlib.Omega.{arith}
use lib.ListN.{length, get_or, set}
use lib.Dec.{eqb, lit<}
use lib.Pow.{shr-shr, pow-add}
use borrow.Author.Tests.{eqb-true, eqb-false}
use Rattle.lists.specs.Masks.{mask_of}
use Rattle.lists.proofs.Masks.{bit_le_one}
use Rattle.model.specs.State.{Rights, staff}
use Rattle.model.specs.Table.{rights_bits, rights_word, is_odd, rights_of, rights_in}
use Rattle.model.specs.Calls.{no_rights}

-- ---- one bit

pub odd_is : (b : Bool) (n m : ℕ) → n ≡ cond b 1 0 + 2 * m → is_odd n ≡ b
unfolding is_odd
odd_is true n m e = let h : n % 2 ≡ 1 = omega (arith, e) in rw h refl
odd_is false n m e = let h : n % 2 ≡ 0 = omega (arith, e) in rw h refl

pub odd_bit : (n : ℕ) → cond (is_odd n) 1 0 ≡ n % 2
unfolding is_odd
odd_bit n = go (eqb (n % 2) 1) refl
  where
    go : (b : Bool) → eqb (n % 2) 1 ≡ b → cond b 1 0 ≡ n % 2
    go true e = sym (eqb-true (n % 2) 1 e)
    go false e = omega (arith, eqb-false (n % 2) 1 e)

-- ---- four bits

pub bits_le : (r : Rights) → rights_bits r ≤ 15
unfolding rights_bits mask_of
bits_le r = omega (arith, bit_le_one r.list, bit_le_one r.back_up, bit_le_one r.restore, bit_le_one r.retire)

pub bits_back : (r : Rights) (m : ℕ) → rights_of (rights_bits r + 16 * m) ≡ r
unfolding rights_of rights_bits mask_of
bits_back r m = λ i. record { list = one i; back_up = two i; restore = three i; retire = four i }
  where
    a : ℕ
    a = cond r.list 1 0

    b : ℕ
    b = cond r.back_up 1 0

    c : ℕ
    c = cond r.restore 1 0

    d : ℕ
    d = cond r.retire 1 0

    w : ℕ
    w = a + 2 * (b + 2 * (c + 2 * (d + 2 * 0))) + 16 * m

    small : (a ≤ 1) × (b ≤ 1) × (c ≤ 1) × (d ≤ 1)
    small = (bit_le_one r.list, bit_le_one r.back_up, bit_le_one r.restore, bit_le_one r.retire)

    one : is_odd w ≡ r.list
    one = odd_is r.list w (b + 2 * (c + 2 * (d + 2 * m))) (omega arith)

    two : is_odd (w / 2) ≡ r.back_up
    two = odd_is r.back_up (w / 2) (c + 2 * (d + 2 * m)) (omega (arith, small.0))

    three : is_odd (w / 4) ≡ r.restore
    three = odd_is r.restore (w / 4) (d + 2 * m) (omega (arith, small.0, small.1))

    four : is_odd (w / 8) ≡ r.retire
    four = odd_is r.retire (w / 8) m (omega (arith, small.0, small.1, small.2))

-- the four lowest bits of any word
pub bits_of : (w : ℕ) → rights_bits (rights_of w) ≡ w % 16
unfolding rights_of rights_bits mask_of
bits_of w = rw (odd_bit w, odd_bit (w / 2), odd_bit (w / 4), odd_bit (w / 8)) (sixteenth w)
  where
    to16 : (x : ℕ) → x % 16 ≡ x % 2 + 2 * (x / 2 % 8)
    to16 x = omega arith

    to8 : (x : ℕ) → x % 8 ≡ x % 2 + 2 * (x / 2 % 4)
    to8 x = omega arith

    to4 : (x : ℕ) → x % 4 ≡ x % 2 + 2 * (x / 2 % 2)
    to4 x = omega arith

    twice : (x : ℕ) → x / 4 ≡ x / 2 / 2
    twice x = omega arith

    thrice : (x : ℕ) → x / 8 ≡ x / 2 / 2 / 2
    thrice x = omega arith

    sixteenth : (w : ℕ) → w % 2 + 2 * (w / 2 % 2 + 2 * (w / 4 % 2 + 2 * (w / 8 % 2 + 2 * 0))) ≡ w % 16
    sixteenth w = rw (twice w, thrice w, to16 w, to8 (w / 2), to4 (w / 2 / 2)) (omega arith)

-- ---- the word

pub rights_back : (n : ℕ) (rs : List Rights) → length rs ≡ n → rights_in n (rights_word rs) ≡ rs
unfolding rights_in rights_word
rights_back zero [] e = refl
rights_back zero (r ∷ rs) e = absurd (omega (arith, e))
rights_back (suc n) [] e = absurd (omega (arith, e))
rights_back (suc n) (r ∷ rs) e =
    ap₂ ◌∷◌ (bits_back r (rights_word rs)) (ap (rights_in n) (omega (arith, bits_le r)) ∙ rights_back n rs (omega (arith, e)))

pub word_lt : (rs : List Rights) → rights_word rs < 16 ^ length rs
unfolding rights_word
word_lt [] = lit< tt
word_lt (r ∷ rs) = omega (arith, pow-suc 16 (length rs), word_lt rs, bits_le r)

pub rights_lt : (rs : List Rights) → length rs ≡ staff → rights_word rs < 268435456
rights_lt rs e = subst (λ (n : ℕ). rights_word rs < 16 ^ n) e (word_lt rs)

pub word_back : (n w : ℕ) → w < 16 ^ n → rights_word (rights_in n w) ≡ w
unfolding rights_in rights_word
word_back zero w l = omega (arith, l)
word_back (suc n) w l = omega (arith, bits_of w, word_back n (w / 16) (omega (arith, pow-suc 16 n, l)))

-- ---- one user's, at bit 4 * u

pub rights_at : (n u w : ℕ) → u < n → get_or (rights_in n w) u no_rights ≡ rights_of (w / 2 ^ (4 * u))
unfolding rights_in
rights_at zero u w l = absurd (omega (arith, l))
rights_at (suc n) zero w l = ap rights_of (omega arith)
rights_at (suc n) (suc u) w l =
    let e : 4 + 4 * u ≡ 4 * suc u = omega arith in
    rights_at n u (w / 16) (omega (arith, l)) ∙ ap rights_of (shr-shr w 4 (4 * u) ∙ ap (λ (k : ℕ). w / 2 ^ k) e)

-- other rights for one user
pub word_set : (rs : List Rights) (u : ℕ) (r : Rights) → u < length rs
    → rights_word (set rs u r) + rights_bits (get_or rs u no_rights) * 2 ^ (4 * u) ≡ rights_word rs + rights_bits r * 2 ^ (4 * u)
unfolding rights_word
word_set [] u r l = absurd (omega (arith, l))
word_set (x ∷ rs) zero r l = omega arith
word_set (x ∷ rs) (suc u) r l =
    let e : 4 * suc u ≡ 4 + 4 * u = omega arith in
    let p : 2 ^ (4 * suc u) ≡ 16 * 2 ^ (4 * u) = ap (λ (k : ℕ). 2 ^ k) e ∙ pow-add 2 4 (4 * u) in
    omega (arith, word_set rs u r (omega (arith, l)), times _ (2 ^ (4 * u)) p (rights_bits (get_or rs u no_rights)), times _ (2 ^ (4 * u)) p (rights_bits r))
  where
    times : (k p : ℕ) → k ≡ 16 * p → (b : ℕ) → b * k ≡ 16 * (b * p)
    times k p e b = ap (λ (n : ℕ). b * n) e ∙ sym (mul_assoc b 16 p) ∙ ap (λ (n : ℕ). n * p) (mul_comm b 16) ∙ mul_assoc 16 b p

pub length_rights : (n w : ℕ) → length (rights_in n w) ≡ n
unfolding rights_in
length_rights zero w = refl
length_rights (suc n) w = ap suc (length_rights n (w / 16))

-- in the word itself
pub word_put : (w u : ℕ) (r : Rights) → w < 268435456 → u < staff
    → rights_word (set (rights_in staff w) u r) + w / 2 ^ (4 * u) % 16 * 2 ^ (4 * u) ≡ w + rights_bits r * 2 ^ (4 * u)
word_put w u r b l =
    let old : rights_bits (get_or (rights_in staff w) u no_rights) ≡ w / 2 ^ (4 * u) % 16 = ap rights_bits (rights_at staff u w l) ∙ bits_of (w / 2 ^ (4 * u)) in
    ap (λ (n : ℕ). rights_word (set (rights_in staff w) u r) + n * 2 ^ (4 * u)) (sym old)
    ∙ word_set (rights_in staff w) u r (omega (arith, l, length_rights staff w))
    ∙ ap (λ (n : ℕ). n + rights_bits r * 2 ^ (4 * u)) (word_back staff w b)
