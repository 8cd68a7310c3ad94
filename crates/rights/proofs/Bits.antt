-- A user's bits in a till's word of rights, read and replaced.
use mathlib.Core.Path.{◌≡◌, refl, sym, ap, ◌∙◌, subst}
use mathlib.Core.Bool.{Bool, true, false, cond}
use Prim.Native.Nat.{ℕ, ◌+◌, ◌*◌, ◌-◌, ◌/◌, ◌%◌, ◌^◌, ◌≤◌, ◌<◌}
use native.Mathlib.Nat.{mul-le-mul, mul-le-mul_right}
use native.Mathlib.Omega.{arith}
use lib.ListN.{get_or, set}
use lib.Dec.{eqb, lit≤}
use mir.Val.{bool_byte}
use lib.Pow.{pow_mono, shr-shr, shl_exact, split}
use Rattle.lists.specs.Masks.{mask_of}
use Rattle.model.specs.State.{Rights, staff}
use Rattle.model.specs.Table.{rights_bits, rights_word, is_odd, rights_of, rights_in}
use Rattle.model.specs.Calls.{no_rights}
use Rattle.model.specs.Rights.{Right, to_list, to_back_up, to_restore, to_retire, has}
use Rattle.laws.proofs.Rights.{bits_le, rights_at, word_put}
use Rattle.rights.specs.Answers.{place_of}

-- ---- read

pub place_most : (right : Right) → place_of right ≤ 3
place_most to_list = lit≤ tt
place_most to_back_up = lit≤ tt
place_most to_restore = lit≤ tt
place_most to_retire = lit≤ tt

has_bit : (right : Right) (w : ℕ) → is_odd (w / 2 ^ place_of right) ≡ has right (rights_of w)
unfolding rights_of
has_bit to_list w = ap is_odd (omega arith)
has_bit to_back_up w = refl
has_bit to_restore w = refl
has_bit to_retire w = refl

pub allowed : (right : Right) (w user place : ℕ) → 0 < user → user ≤ staff → place ≡ place_of right
    → eqb (w / 2 ^ (4 * (user - 1) + place) % 2) 1 ≡ has right (get_or (rights_in staff w) (user - 1) no_rights)
unfolding is_odd
allowed right w user place l h e =
    ap (λ (k : ℕ). eqb (w / 2 ^ (4 * (user - 1) + k) % 2) 1) e
    ∙ ap (λ (n : ℕ). eqb (n % 2) 1) (sym (shr-shr w (4 * (user - 1)) (place_of right)))
    ∙ has_bit right (w / 2 ^ (4 * (user - 1)))
    ∙ ap (has right) (sym (rights_at staff (user - 1) w (omega (arith, l, h))))

-- ---- four bits made

pub given_bits : (r : Rights) → bool_byte r.list + 2 * (bool_byte r.back_up + 2 * (bool_byte r.restore + 2 * bool_byte r.retire)) ≡ rights_bits r
unfolding rights_bits mask_of
given_bits r = omega (arith, one r.list, one r.back_up, one r.restore, one r.retire)
  where
    one : (b : Bool) → bool_byte b ≡ cond b 1 0
    one true = refl
    one false = refl

-- ---- replaced

-- the unit of a user's bits
pub record Unit (w u unit old : ℕ) : Type 0 where
  pub is : unit ≡ 2 ^ (4 * u)
  pub most : unit ≤ 16777216
  pub inside : old * unit ≤ w

pub unit_of : (w u : ℕ) → u < staff → Unit w u (1 * 2 ^ (4 * u) % 2 ^ 32) (w / 2 ^ (4 * u) % 16)
unit_of w u l =
    let e : 1 * 2 ^ (4 * u) % 2 ^ 32 ≡ 2 ^ (4 * u) = shl_exact 1 (4 * u) 32 (omega arith) (omega (arith, l)) ∙ omega arith in
    let m : 2 ^ (4 * u) ≤ 2 ^ 24 = pow_mono {i = 4 * u} {j = 24} (omega (arith, l)) in
    let p : w / 2 ^ (4 * u) % 16 * 2 ^ (4 * u) ≤ w / 2 ^ (4 * u) * 2 ^ (4 * u) = mul-le-mul_right (2 ^ (4 * u)) (omega arith) in
    record {
      is = e;
      most = omega (arith, e, m);
      inside = subst (λ (n : ℕ). w / 2 ^ (4 * u) % 16 * n ≤ w) (sym e) (omega (arith, p, split w (4 * u)));
    }

-- few bits
pub bits_few : {w u unit old : ℕ} → Unit w u unit old → (bits : ℕ) (r : Rights) → bits ≡ rights_bits r → bits * unit ≤ 251658240
bits_few h bits r e = let b : bits ≤ 15 = omega (arith, e, bits_le r) in mul-le-mul b h.most

pub replaced : (w u unit bits : ℕ) (r : Rights) → w < 268435456 → u < staff → Unit w u unit (w / 2 ^ (4 * u) % 16) → bits ≡ rights_bits r
    → w - w / 2 ^ (4 * u) % 16 * unit + bits * unit ≡ rights_word (set (rights_in staff w) u r)
replaced w u unit bits r b l h e =
    let q : rights_word (set (rights_in staff w) u r) + w / 2 ^ (4 * u) % 16 * unit ≡ w + bits * unit =
    subst (λ (n : ℕ). rights_word (set (rights_in staff w) u r) + w / 2 ^ (4 * u) % 16 * n ≡ w + bits * n) (sym h.is)
    (word_put w u r b l ∙ ap (λ (n : ℕ). w + n * 2 ^ (4 * u)) (sym e)) in
    omega (arith, q, h.inside)
