-- The occupied cells, the cells that are not zero and the cells that a direct pointer leads to are the same ones, and a tally counts them.
use mathlib.Core.Path.{◌≡◌, refl, sym, ap, ap₂, ◌∙◌, subst}
use mathlib.Core.Logic.{◌↔◌}
use mathlib.Core.Bool.{Bool, true, false, cond, false≢true}
use mathlib.Core.List.{List, [], ◌∷◌, map}
use Prim.Native.Nat.{ℕ, suc, ◌<◌}
use native.Mathlib.Nat.{not-suc-le-zero}
use native.Mathlib.Omega.{arith}
use lib.ListN.{get_or}
use lib.Dec.{ltb}
use borrow.Author.Tests.{eqb-true, ltb-true, ltb-false}
use Rattle.lists.specs.Lists.{every, count, rises, is_in}
use Rattle.lists.specs.Rows.{joined}
use Rattle.lists.proofs.Counts.{count_append}
use Rattle.lists.proofs.Rises.{rises_first}
use Rattle.lists.proofs.Tests.{clause, every_head, every_tail}
use Rattle.lists.proofs.Uses.{in_uses, uses_in}
use Rattle.model.specs.Measures.{Shape}
use Rattle.model.specs.State.{Pointer, null_pointer, blank_pointer, direct, indirect, null_position, Segment, Storage, Version, Till, State}
use Rattle.model.specs.Records.{cell_of, named_cells, position_at}
use Rattle.model.specs.Sound.{is_sound, is_till, is_numbered, leads_to, next_pointers, all_pointers}
use Rattle.model.specs.Calls.{empty_till, till_of, held_from}
use Rattle.laws.proofs.Sweep.{count_in, named_one}
use Rattle.laws.proofs.Counts.{held_positive}
use Rattle.laws.proofs.Place.{held_named}
use Rattle.laws.proofs.Named.{record_of, position_of_lem}
use Rattle.laws.proofs.Serves.{pointers_of, Valid, sound_valid}
use Rattle.laws.proofs.Tills.{held_here, held_later}
use Rattle.history.specs.Demand.{pointers_held, LedTo}

-- ---- occupied and led to

-- the pointer, the version and the till that lead to a position
leads_is : (k i : ℕ) (p : Pointer) → leads_to k i p ≡ true → p ≡ direct k i
leads_is k i null_pointer h = absurd (false≢true h)
leads_is k i blank_pointer h = absurd (false≢true h)
leads_is k i (direct k' i') h = ap₂ direct (sym (eqb-true k k' (clause _ 0 h))) (sym (eqb-true i i' (clause _ 1 h)))
leads_is k i (indirect n) h = absurd (false≢true h)

pointer_of_lem : (k i : ℕ) (ps : List Pointer) → 0 < count (leads_to k i) ps → (n : ℕ) × (get_or ps n null_pointer ≡ direct k i)
unfolding count
pointer_of_lem k i [] h = absurd (not-suc-le-zero h)
pointer_of_lem k i (p ∷ ps) h = go (leads_to k i p) refl (λ l. pointer_of_lem k i ps l)
  where
    go : (t : Bool) → leads_to k i p ≡ t → (0 < count (leads_to k i) ps → (n : ℕ) × (get_or ps n null_pointer ≡ direct k i))
        → (n : ℕ) × (get_or (p ∷ ps) n null_pointer ≡ direct k i)
    go true e r = (0, leads_is k i p e)
    go false e r = let z = r (omega (arith, h, ap {B = ℕ} (λ (t : Bool). cond t 1 0) e)) in (suc z.0, z.1)

version_of : (k i : ℕ) (vs : List Version) (low high : ℕ) → rises low high (map (λ (v : Version). v.number) vs) ≡ true → 0 < count (leads_to k i) (pointers_of vs)
    → (v : ℕ) × (j : ℕ) × (low < v) × (get_or (next_pointers (held_from v vs)) j null_pointer ≡ direct k i)
unfolding joined
version_of k i [] low high h c = unfold count in absurd (not-suc-le-zero c)
version_of k i (w ∷ vs) low high h c =
    let r = rises_first low high w.number (map (λ (v : Version). v.number) vs) h in
    go (ltb 0 (count (leads_to k i) w.pointers)) refl r.above (λ l. version_of k i vs w.number high r.rest l)
  where
    first : (w : Version) (vs : List Version) (j : ℕ) → get_or (next_pointers (w ∷ vs)) j null_pointer ≡ get_or w.pointers j null_pointer
    first w vs j = unfold next_pointers in refl

    go : (t : Bool) → ltb 0 (count (leads_to k i) w.pointers) ≡ t → low < w.number
        → (0 < count (leads_to k i) (pointers_of vs) → (v : ℕ) × (j : ℕ) × (w.number < v) × (get_or (next_pointers (held_from v vs)) j null_pointer ≡ direct k i))
        → (v : ℕ) × (j : ℕ) × (low < v) × (get_or (next_pointers (held_from v (w ∷ vs))) j null_pointer ≡ direct k i)
    go true q l r =
        let z = pointer_of_lem k i w.pointers (ltb-true 0 _ q) in
        (w.number, z.0, l, ap (λ (l : List Version). get_or (next_pointers l) z.0 null_pointer) (held_here w.number w vs refl) ∙ first w vs z.0 ∙ z.1)
    go false q l r =
        let z = r (omega (arith, c, ltb-false 0 (count (leads_to k i) w.pointers) q, count_append (leads_to k i) w.pointers (pointers_of vs))) in (
          z.0,
          z.1,
          omega (arith, l, z.2),
          ap (λ (l : List Version). get_or (next_pointers l) z.1 null_pointer) (held_later z.0 w vs (λ y. omega (arith, y, z.2))) ∙ z.3,
        )

till_of_lem : (s : Shape) (a : Storage) (k i : ℕ) (ts : List Till) → every (is_till s a) ts ≡ true → 0 < count (leads_to k i) (all_pointers ts)
    → (t : ℕ) × (v : ℕ) × (j : ℕ) × (get_or (next_pointers (held_from v (get_or ts t empty_till).versions)) j null_pointer ≡ direct k i)
unfolding all_pointers joined
till_of_lem s a k i [] h c = unfold count in absurd (not-suc-le-zero c)
till_of_lem s a k i (x ∷ ts) h c = go (ltb 0 (count (leads_to k i) (pointers_of x.versions))) refl (λ l. till_of_lem s a k i ts (every_tail (is_till s a) x ts h) l)
  where
    numbers : rises 0 x.last (map (λ (v : Version). v.number) x.versions) ≡ true
    numbers = unfold is_till is_numbered in clause _ 2 (clause _ 0 (every_head (is_till s a) x ts h))

    go : (q : Bool) → ltb 0 (count (leads_to k i) (pointers_of x.versions)) ≡ q
        → (0 < count (leads_to k i) (all_pointers ts)
        → (t : ℕ) × (v : ℕ) × (j : ℕ) × (get_or (next_pointers (held_from v (get_or ts t empty_till).versions)) j null_pointer ≡ direct k i))
        → (t : ℕ) × (v : ℕ) × (j : ℕ) × (get_or (next_pointers (held_from v (get_or (x ∷ ts) t empty_till).versions)) j null_pointer ≡ direct k i)
    go true q r =
        let z = version_of k i x.versions 0 x.last numbers (ltb-true 0 _ q) in
        (0, z.0, z.1, z.3)
    go false q r =
        let z = r (unfold all_pointers in omega (
          arith,
          c,
          ltb-false 0 (count (leads_to k i) (pointers_of x.versions)) q,
          count_append (leads_to k i) (pointers_of x.versions) (joined (map (λ (t : Till). joined (map (λ (v : Version). v.pointers) t.versions)) ts)),
        )) in
        (suc z.0, z.1, z.2, z.3)

module _ (s : Shape) (st : State) (h : is_sound s st ≡ true) where
  valid : Valid s st
  valid = sound_valid s st h

  named_led : (c : ℕ) → is_in c (named_cells st.storage.records) ≡ true → LedTo st c
  unfolding is_sound pointers_held till_of position_at
  named_led c e =
      let r = record_of c st.storage.records (in_uses c (named_cells st.storage.records) e) in
      let p = position_of_lem c (get_or st.storage.records r.0 []) r.1 in
      let positive : 0 < count_in st.storage r.0 p.0 = held_positive (all_pointers st.tills) 0 st.storage.records (clause _ 5 h) r.0 p.0 p.1 in
      let z = till_of_lem s st.storage r.0 p.0 st.tills valid.tills (subst (λ (n : ℕ). 0 < n) (valid.counts r.0 p.0) positive) in
      record {
        till = z.0;
        version = z.1;
        block = z.2;
        segment = r.0;
        position = p.0;
        there = z.3;
        is_here = p.1;
        cell = p.2;
      }

  led_named : (c : ℕ) → LedTo st c → is_in c (named_cells st.storage.records) ≡ true
  unfolding position_at
  led_named c l =
      let seg : Segment = get_or st.storage.records l.segment [] in
      ap (λ (n : ℕ). is_in n (named_cells st.storage.records)) (sym l.cell)
      ∙ uses_in (cell_of (get_or seg l.position null_position)) (named_cells st.storage.records)
      (omega (arith, held_named seg l.position l.is_here, named_one (cell_of (get_or seg l.position null_position)) st.storage.records l.segment))

  pub named_leads : (c : ℕ) → (is_in c (named_cells st.storage.records) ≡ true) ↔ LedTo st c
  named_leads c = (named_led c, led_named c)
