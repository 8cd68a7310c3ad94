-- A version goes from between its neighbours: what its older neighbour takes over, and that every other version is traced to the same ends as before.
use mathlib.Core.Path.{◌≡◌, refl, sym, ap, ◌∙◌}
use mathlib.Core.Bool.{Bool, true, false, cond, not, false≢true}
use mathlib.Core.List.{List, [], ◌∷◌, ◌++◌, map}
use Prim.Native.Nat.{ℕ, ◌+◌, ◌<◌}
use native.Mathlib.Nat.{suc-ne-zero}
use native.Mathlib.Omega.{arith}
use lib.ListN.{length, get_or, length-map, get_or-map}
use lib.Dec.{eqb}
use Rattle.lists.specs.Lists.{every, count, last_of}
use Rattle.lists.specs.Rows.{joined}
use Rattle.lists.specs.Each.{Each}
use Rattle.lists.proofs.Tests.{all_true, clause}
use Rattle.model.specs.Measures.{Shape, parts_for}
use Rattle.model.specs.State.{Pointer, null_pointer, blank_pointer, direct, indirect, Storage, Version, with_pointers}
use Rattle.model.specs.Trace.{end_via, end_of, block_at, traced_block}
use Rattle.model.specs.Sound.{is_null, resolves, leads_to, next_pointers, has_length, are_traceable}
use Rattle.model.specs.Calls.{held_from, held_before, newest_pointers, with_newest_pointers, take_over, taken, close_up}
use Rattle.laws.proofs.Counts.{pointer_counted}
use Rattle.laws.proofs.Serves.{pointers_of}
use Rattle.laws.proofs.Newest.{versions_append, newest_count}
use Rattle.laws.proofs.Turn.{lead_at, every_map, every_same, ends_same}

-- ---- the version named, and those before it

pub record Between (n : ℕ) (vs : List Version) (v : Version) (newer : List Version) : Type 0 where
  pub split : vs ≡ held_before n vs ++ (v ∷ newer)
  pub others : Each (λ (w : Version). eqb w.number n ≡ false) (held_before n vs)
  pub named : eqb v.number n ≡ true

pub between : (n : ℕ) (vs : List Version) (v : Version) (newer : List Version) → held_from n vs ≡ v ∷ newer → Between n vs v newer
unfolding held_from held_before
between n [] v newer e = absurd (suc-ne-zero (length newer) (ap length (sym e)))
between n (w ∷ ws) v newer e = go (eqb w.number n) refl e (λ q. between n ws v newer q)
  where
    first : List Version → Version
    first [] = w
    first (x ∷ xs) = x

    go : (t : Bool) → eqb w.number n ≡ t → cond t (w ∷ ws) (held_from n ws) ≡ v ∷ newer → (held_from n ws ≡ v ∷ newer → Between n ws v newer) → Between n (w ∷ ws) v newer
    go true q e r = unfold held_before in record {
      split = rw q e;
      others = rw q tt;
      named = ap (λ (x : Version). eqb x.number n) (sym (ap first e)) ∙ q;
    }
    go false q e r =
        let z = r e in
        unfold held_before in record {
          split = rw q (ap {B = List Version} (λ l. w ∷ l) z.split);
          others = rw q (q, z.others);
          named = z.named;
        }

-- ---- pointers

end_same : (p : Pointer) (f g : ℕ → Pointer) → ((j : ℕ) → f j ≡ g j) → end_via p f ≡ end_via p g
unfolding end_via
end_same null_pointer f g h = refl
end_same blank_pointer f g h = refl
end_same (direct k i) f g h = refl
end_same (indirect n) f g h = h n

module _ (gone : List Pointer) where
  pub take_at : (ps : List Pointer) (n : ℕ) → get_or (map (take_over gone) ps) n null_pointer ≡ take_over gone (get_or ps n null_pointer)
  take_at ps n = get_or-map (take_over gone) ps n null_pointer

  take_end : (p : Pointer) (f : ℕ → Pointer) → end_via (take_over gone p) f ≡ end_via p (λ k. end_via (get_or gone k null_pointer) f)
  unfolding end_via
  take_end null_pointer f = refl
  take_end blank_pointer f = refl
  take_end (direct k i) f = refl
  take_end (indirect n) f = refl

  taken_resolves : (a : Storage) (next : List Pointer) → every (resolves a next) gone ≡ true → (p : Pointer) → resolves a gone p ≡ true → resolves a next (take_over gone p) ≡ true
  taken_resolves a next h null_pointer l = refl
  taken_resolves a next h blank_pointer l = refl
  taken_resolves a next h (direct k i) l = l
  taken_resolves a next h (indirect n) l = lead_at a next gone h n

  take_null : (a : Storage) (p : Pointer) → resolves a gone p ≡ true → is_null (take_over gone p) ≡ is_null p
  take_null a null_pointer l = refl
  take_null a blank_pointer l = refl
  take_null a (direct k i) l = refl
  take_null a (indirect n) l = go (is_null (get_or gone n null_pointer)) l
    where
      go : (b : Bool) → not b ≡ true → b ≡ false
      go true e = absurd (false≢true e)
      go false e = refl

  -- the counts rise by the pointers taken over
  pub take_count : (k i : ℕ) (ps : List Pointer) → count (leads_to k i) (map (take_over gone) ps) ≡ count (leads_to k i) ps + count (leads_to k i) (map (taken gone) ps)
  unfolding count
  take_count k i [] = refl
  take_count k i (null_pointer ∷ ps) = omega (arith, take_count k i ps)
  take_count k i (blank_pointer ∷ ps) = omega (arith, take_count k i ps)
  take_count k i (direct k' i' ∷ ps) = omega (arith, take_count k i ps)
  take_count k i (indirect n ∷ ps) = omega (arith, take_count k i ps)

  -- which are the retired version's
  pub taken_gone : (k i : ℕ) (ps : List Pointer) → 0 < count (leads_to k i) (map (taken gone) ps) → 0 < count (leads_to k i) gone
  unfolding count
  taken_gone k i [] h = absurd (omega (arith, h))
  taken_gone k i (null_pointer ∷ ps) h = taken_gone k i ps (omega (arith, h))
  taken_gone k i (blank_pointer ∷ ps) h = taken_gone k i ps (omega (arith, h))
  taken_gone k i (direct k' i' ∷ ps) h = taken_gone k i ps (omega (arith, h))
  taken_gone k i (indirect n ∷ ps) h = go (leads_to k i (get_or gone n null_pointer)) refl (λ l. taken_gone k i ps l)
    where
      go : (t : Bool) → leads_to k i (get_or gone n null_pointer) ≡ t → (0 < count (leads_to k i) (map (taken gone) ps) → 0 < count (leads_to k i) gone) → 0 < count (leads_to k i) gone
      go true e r = pointer_counted k i gone n e
      go false e r = r (omega (arith, h, ap {B = ℕ} (λ (t : Bool). cond t 1 0) e))

-- ---- versions

module _ (v : Version) (newer : List Version) where
  -- the ends are the same
  pub close_ends : (u : Version) (older : List Version) (n : ℕ) → end_of (close_up (u ∷ older) v newer) n ≡ end_of (u ∷ (older ++ (v ∷ newer))) n
  unfolding end_of close_up with_newest_pointers last_of newest_pointers
  close_ends u [] n =
      ap (λ (p : Pointer). end_via p (λ b. end_of newer b)) (take_at v.pointers u.pointers n)
      ∙ take_end v.pointers (get_or u.pointers n null_pointer) (λ b. end_of newer b)
  close_ends u (w ∷ older) n =
      end_same (get_or u.pointers n null_pointer) (λ b. end_of (close_up (w ∷ older) v newer) b) (λ b. end_of (w ∷ (older ++ (v ∷ newer))) b) (close_ends w older)

  pub close_traced : (bytes : ℕ) (a : Storage) (u : Version) (older : List Version) (n : ℕ)
      → traced_block bytes a (close_up (u ∷ older) v newer) n ≡ traced_block bytes a (u ∷ (older ++ (v ∷ newer))) n
  unfolding traced_block
  close_traced bytes a u older n = ap (block_at bytes a) (close_ends u older n)

  pub close_count : (k i : ℕ) (older : List Version)
      → count (leads_to k i) (pointers_of (close_up older v newer))
      ≡ count (leads_to k i) (pointers_of older) + count (leads_to k i) (map (taken v.pointers) (newest_pointers older)) + count (leads_to k i) (pointers_of newer)
  unfolding close_up
  close_count k i [] = unfold with_newest_pointers last_of newest_pointers count joined in omega arith
  close_count k i (u ∷ older) =
      omega (
        arith,
        versions_append k i (with_newest_pointers (u ∷ older) (map (take_over v.pointers) (newest_pointers (u ∷ older)))) newer,
        newest_count k i u older (map (take_over v.pointers) (newest_pointers (u ∷ older))),
        take_count v.pointers k i (newest_pointers (u ∷ older)),
      )

  module _ (s : Shape) (a : Storage) where
    next_null : (u : Version) (older : List Version) → are_traceable s.measures.block_bytes s.capacities.blocks a (u ∷ (older ++ (v ∷ newer))) ≡ true → (n : ℕ)
        → is_null (get_or (next_pointers (close_up (u ∷ older) v newer)) n null_pointer) ≡ is_null (get_or u.pointers n null_pointer)
    unfolding close_up with_newest_pointers last_of newest_pointers next_pointers are_traceable
    next_null u [] h n =
        ap is_null (take_at v.pointers u.pointers n) ∙ take_null v.pointers a (get_or u.pointers n null_pointer) (lead_at a v.pointers u.pointers (clause _ 1 h) n)
    next_null u (w ∷ older) h n = refl

    close_some : (u : Version) (older : List Version) → are_traceable s.measures.block_bytes s.capacities.blocks a (u ∷ (older ++ (v ∷ newer))) ≡ true
        → are_traceable s.measures.block_bytes s.capacities.blocks a (close_up (u ∷ older) v newer) ≡ true
    unfolding close_up with_newest_pointers last_of newest_pointers next_pointers are_traceable has_length
    close_some u [] h =
        all_true _ (
          all_true _ (
            clause _ 0 (clause _ 0 h),
            (ap (λ (n : ℕ). eqb n (parts_for s.measures.block_bytes u.length)) (length-map u.pointers (take_over v.pointers)) ∙ clause _ 1 (clause _ 0 h), tt),
          ),
          (
            every_map a (take_over v.pointers) v.pointers (next_pointers newer) (taken_resolves v.pointers a (next_pointers newer) (clause _ 1 (clause _ 3 h))) u.pointers (clause _ 1 h),
            (
              ends_same s.measures a u (with_pointers u (map (take_over v.pointers) u.pointers)) (v ∷ newer) newer refl
                  (length-map u.pointers (take_over v.pointers)) (close_traced s.measures.block_bytes a u []) (clause _ 2 h),
              (clause _ 3 (clause _ 3 h), tt),
            ),
          ),
        )
    close_some u (w ∷ older) h =
        all_true _ (
          clause _ 0 h,
          (
            every_same a w.pointers (next_pointers (close_up (w ∷ older) v newer)) (next_null w older (clause _ 3 h)) u.pointers (clause _ 1 h),
            (
              ends_same s.measures a u u (w ∷ (older ++ (v ∷ newer))) (close_up (w ∷ older) v newer) refl refl (close_traced s.measures.block_bytes a u (w ∷ older)) (clause _ 2 h),
              (close_some w older (clause _ 3 h), tt),
            ),
          ),
        )

    -- the versions that stay are traceable
    pub close_traceable : (older : List Version) → are_traceable s.measures.block_bytes s.capacities.blocks a (older ++ (v ∷ newer)) ≡ true
        → are_traceable s.measures.block_bytes s.capacities.blocks a (close_up older v newer) ≡ true
    close_traceable [] h = unfold close_up with_newest_pointers are_traceable in clause _ 3 h
    close_traceable (u ∷ older) h = close_some u older h
