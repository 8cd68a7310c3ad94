-- A list written piece by piece.
use mathlib.Core.Path.{◌≡◌, refl, sym, ap, ◌∙◌}
use mathlib.Core.List.{List, [], ◌∷◌, ◌++◌}
use Prim.Native.Nat.{ℕ, ◌+◌, ◌-◌, ◌≤◌, ◌<◌, min}
use native.Mathlib.Numerals.{add-one}
use native.Mathlib.Omega.{arith}
use lib.ListN.{length, set, take, drop, length-take, length-drop, length-append, take-append-drop}
use lib.Seq.{length-take-le, set_split}
use Rattle.lists.specs.Written.{written}
use Rattle.lists.proofs.Slices.{take_both}
use Rattle.lists.proofs.Written.{written_written}

pub length_written : (t : List ℕ) (at : ℕ) (ws : List ℕ) → at + length ws ≤ length t → length (written t at ws) ≡ length t
unfolding written
length_written t at ws h =
    length-append (take at t) (ws ++ drop (at + length ws) t) ∙ omega (arith, length-append ws (drop (at + length ws) t), length-drop (at + length ws) t, length-take-le at t (omega arith))

pub written_none : (t : List ℕ) (at : ℕ) → written t at [] ≡ t
unfolding written
written_none t at = let z : at + 0 ≡ at = omega arith in rw z (take-append-drop at t)

pub written_one : (t : List ℕ) (at v : ℕ) → at < length t → set t at v ≡ written t at (v ∷ [])
unfolding written
written_one t at v h = set_split t at v h ∙ ap (λ (i : ℕ). take at t ++ (v ∷ drop i t)) (sym (add-one at))

-- what is left to write, from a place on, gives what was to be written
pub record Putting (out₀ : List ℕ) (at₀ : ℕ) (all out : List ℕ) (to : ℕ) (rest : List ℕ) : Type 0 where
  pub same : length out ≡ length out₀
  pub room : to + length rest ≡ at₀ + length all
  pub left : written out to rest ≡ written out₀ at₀ all

pub put_start : (out : List ℕ) (at : ℕ) (all : List ℕ) → Putting out at all out at all
put_start out at all = record { same = refl; room = refl; left = refl }

module _ {out₀ all out : List ℕ} {at₀ to : ℕ} (fits : at₀ + length all ≤ length out₀) where
  pub put_room : (a rest : List ℕ) → Putting out₀ at₀ all out to (a ++ rest) → to + length a ≤ length out
  put_room a rest p = omega (arith, p.room, p.same, length-append a rest)

  pub put_next : (a rest : List ℕ) → Putting out₀ at₀ all out to (a ++ rest) → (out' : List ℕ) (to' : ℕ) → to' ≡ to + length a → out' ≡ written out to a
      → Putting out₀ at₀ all out' to' rest
  put_next a rest p out' to' e f =
      let r : to + length a ≤ length out = put_room a rest p in
      record {
        same = ap length f ∙ length_written out to a r ∙ p.same;
        room = omega (arith, e, p.room, length-append a rest);
        left = rw (e, f) (written_written out to a rest r ∙ p.left);
      }

pub put_end : {out₀ all out : List ℕ} {at₀ to : ℕ} {rest : List ℕ} → Putting out₀ at₀ all out to rest → rest ≡ [] → (to ≡ at₀ + length all) × (out ≡ written out₀ at₀ all)
put_end {out = out} {to = to} p e =
    (omega (arith, p.room, ap length e), sym (written_none out to) ∙ ap (written out to) (sym e) ∙ p.left)

-- one part more, where what is left to write has w elements of b first; the list's end cuts it
pub written_next : (xs : List ℕ) (to w : ℕ) (b c : List ℕ) → length b ≡ w → to ≤ length xs
    → written (written xs to (take (length xs - to) b)) (to + min w (length xs - to)) (take (length xs - (to + min w (length xs - to))) c)
    ≡ written xs to (take (length xs - to) (b ++ c))
written_next xs to w b c e h =
    let r : ℕ = length xs - to in
    let l : length (take r b) ≡ min w r = length-take r b ∙ omega (arith, e) in
    let z : length xs - (to + min w r) ≡ r - w = omega arith in
    rw (z, ← l) (written_written xs to (take r b) (take (r - w) c) (omega (arith, l)) ∙ ap (written xs to) (sym (take_both r w b c e)))
