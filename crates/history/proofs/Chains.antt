-- Chains of a sound store: none for a till's newest version, and for another at most one hop for each newer one held.
use mathlib.Core.Path.{◌≡◌, refl, sym, ap, ◌∙◌, subst}
use mathlib.Core.Bool.{Bool, true, false, false≢true}
use mathlib.Core.List.{List, [], ◌∷◌}
use Prim.Native.Nat.{ℕ, suc, ◌≤◌, zero-le, suc-le-suc}
use native.Mathlib.Nat.{suc-ne-zero}
use native.Mathlib.Omega.{arith}
use lib.ListN.{length, get_or, get_or-eq_default}
use lib.Dec.{eqb, ltb}
use borrow.Author.Tests.{ltb-true, ltb-false}
use Rattle.lists.proofs.Counted.{largest_most}
use Rattle.lists.proofs.Tests.{by_test, clause}
use Rattle.model.specs.Measures.{Shape}
use Rattle.model.specs.State.{Pointer, null_pointer, blank_pointer, direct, indirect, Storage, Version, Till, State}
use Rattle.model.specs.Trace.{hops_via, hops, longest_chain}
use Rattle.model.specs.Sound.{is_sound, resolves, next_pointers, are_traceable}
use Rattle.model.specs.Calls.{empty_till, till_of, held_from}
use Rattle.laws.proofs.Fits.{Proper}
use Rattle.laws.proofs.Turn.{lead_at}
use Rattle.history.proofs.View.{VersionView, view_versions, view_of, view_at, chain_shown, shown_from}
use Rattle.history.proofs.Shown.{from_same, chain_is, views_length}
use Rattle.history.proofs.Traced.{till_ok}

-- with no newer version no pointer is indirect
plain_hops : (a : Storage) (p : Pointer) (f : ℕ → ℕ) → resolves a [] p ≡ true → hops_via p f ≤ 0
unfolding hops_via
plain_hops a null_pointer f h = zero-le
plain_hops a blank_pointer f h = zero-le
plain_hops a (direct k i) f h = zero-le
plain_hops a (indirect n) f h = absurd (false≢true h)

next_hops : (p : Pointer) (f : ℕ → ℕ) (m : ℕ) → ((n : ℕ) → f n ≤ m) → hops_via p f ≤ suc m
unfolding hops_via
next_hops null_pointer f m h = zero-le
next_hops blank_pointer f m h = zero-le
next_hops (direct k i) f m h = zero-le
next_hops (indirect n) f m h = suc-le-suc (h n)

module _ (s : Shape) (a : Storage) where
  hops_most : (v : Version) (newer : List Version) → are_traceable s.measures.block_bytes s.capacities.blocks a (v ∷ newer) ≡ true → (n : ℕ) → hops (v ∷ newer) n ≤ length newer
  unfolding hops are_traceable next_pointers
  hops_most v [] h n = plain_hops a (get_or v.pointers n null_pointer) (λ k. 0) (lead_at a [] v.pointers (clause _ 1 h) n)
  hops_most v (w ∷ newer) h n = next_hops (get_or v.pointers n null_pointer) (λ k. hops (w ∷ newer) k) (length newer) (hops_most w newer (clause _ 3 h))

  longest_most : (v : Version) (newer : List Version) → are_traceable s.measures.block_bytes s.capacities.blocks a (v ∷ newer) ≡ true → longest_chain (v ∷ newer) ≤ length newer
  unfolding longest_chain
  longest_most v newer h = largest_most (length newer) (hops (v ∷ newer)) (hops_most v newer h) 0 (length v.pointers)

  pub from_traceable : (n : ℕ) (vs : List Version) → are_traceable s.measures.block_bytes s.capacities.blocks a vs ≡ true
      → are_traceable s.measures.block_bytes s.capacities.blocks a (held_from n vs) ≡ true
  unfolding are_traceable held_from
  from_traceable n [] h = refl
  from_traceable n (w ∷ vs) h =
      by_test (λ (l : List Version). are_traceable s.measures.block_bytes s.capacities.blocks a l ≡ true) (eqb w.number n) (λ e. h) (λ e. from_traceable n vs (clause _ 3 h))

module _ (s : Shape) (pr : Proper s.measures) (st : State) (h : is_sound s st ≡ true) where
  pub all_traceable : (t : ℕ) → are_traceable s.measures.block_bytes s.capacities.blocks st.storage (till_of st t).versions ≡ true
  all_traceable t = go (ltb t (length st.tills)) refl
    where
      go : (b : Bool) → ltb t (length st.tills) ≡ b → are_traceable s.measures.block_bytes s.capacities.blocks st.storage (till_of st t).versions ≡ true
      go true q = till_ok s pr st h t (ltb-true t (length st.tills) q)
      go false q =
          let gone : till_of st t ≡ empty_till = unfold till_of in get_or-eq_default st.tills empty_till (ltb-false t (length st.tills) q) in
          subst (λ (x : Till). are_traceable s.measures.block_bytes s.capacities.blocks st.storage x.versions ≡ true) (sym gone) (unfold empty_till are_traceable in refl)

  -- the longest chain of a version that a till shows, with the newer ones
  pub chain_most : (t n : ℕ) (w : VersionView) (ws : List VersionView) → shown_from n (view_at s.measures.block_bytes st t).versions ≡ w ∷ ws → chain_shown (w ∷ ws) ≤ length ws
  unfolding view_of
  chain_most t n w ws e =
      go (held_from n (till_of st t).versions) (from_traceable s st.storage n (till_of st t).versions (all_traceable t))
      (sym (from_same s.measures.block_bytes st.storage n (till_of st t).versions) ∙ e)
    where
      go : (hs : List Version) → are_traceable s.measures.block_bytes s.capacities.blocks st.storage hs ≡ true → view_versions s.measures.block_bytes st.storage hs ≡ w ∷ ws
          → chain_shown (w ∷ ws) ≤ length ws
      go [] tr q = unfold view_versions in absurd (suc-ne-zero (length ws) (ap length (sym q)))
      go (v ∷ newer) tr q =
          omega (
            arith,
            longest_most s st.storage v newer tr,
            chain_is s.measures.block_bytes st.storage (v ∷ newer),
            ap chain_shown q,
            ap length q,
            views_length s.measures.block_bytes st.storage (v ∷ newer),
          )
