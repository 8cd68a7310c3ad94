-- The previous version's pointers turn: every older version is traced to the same blocks as before.
use mathlib.Core.Path.{◌≡◌, refl, sym, ap, ap₂, ◌∙◌, subst}
use mathlib.Core.Bool.{Bool, true, false, cond, not, false≢true}
use mathlib.Core.List.{List, [], ◌∷◌, ◌++◌, map}
use mathlib.Core.Option.{Option, none, some}
use Prim.Native.Nat.{ℕ, zero, suc, ◌+◌, ◌-◌, ◌*◌, ◌<◌}
use native.Mathlib.Nat.{zero-add}
use native.Mathlib.Omega.{arith}
use lib.ListN.{length, get_or, drop, length-map, get_or-map, get_or-eq_default}
use lib.Dec.{eqb, ltb}
use borrow.Author.Tests.{ltb-true, ltb-false}
use Rattle.lists.specs.Lists.{every, keep, count, first_from, same_numbers, all_zero, is_some, last_of}
use Rattle.lists.specs.Each.{Each}
use Rattle.model.specs.Measures.{Measures, Shape, parts_for}
use Rattle.model.specs.State.{Block, Pointer, null_pointer, blank_pointer, direct, indirect, Storage, Version, with_pointers}
use Rattle.model.specs.Image.{Era, is_blank, is_bare}
use Rattle.model.specs.Records.{is_held, cell_of, cell_at, position_at}
use Rattle.model.specs.Turn.{indirect_at, turns_to, target, found_or, turn, turning}
use Rattle.model.specs.Trace.{end_via, end_of, block_at, traced_block}
use Rattle.model.specs.Sound.{is_null, resolves, leads_to, next_pointers, ends_zero, has_length, are_traceable}
use Rattle.model.specs.Calls.{newest_pointers, with_newest_pointers}
use Rattle.laws.proofs.Sweep.{block_in, named_one}
use Rattle.laws.specs.Storage.{Exact}
use Rattle.laws.proofs.Clean.{HasBytes}
use Rattle.laws.proofs.Counts.{at}
use Rattle.laws.proofs.Bare.{blank_eq, is_indirect, is_bare_pointer}
use Rattle.laws.proofs.Place.{held_named, bit_one}
use Rattle.lists.proofs.Each.{each_at}
use Rattle.lists.proofs.First.{Lowest, first_lowest}
use Rattle.lists.proofs.Same.{same_eq}
use Rattle.lists.proofs.Tests.{by_test, all_true, clause, every_head, every_tail}

-- the new version's pointers, on the storage with its segments placed
pub record NewOk (era : Era) (m : Measures) (p : Storage) (bs : List Block) (new : List Pointer) : Type 0 where
  pub traced : (j : ℕ) → j < length bs → block_at m.block_bytes p (get_or new j null_pointer) ≡ get_or bs j []
  pub nulls : (j : ℕ) → j < length bs → is_null (get_or new j null_pointer) ≡ all_zero (get_or bs j [])
  pub bares : (j : ℕ) → j < length bs → is_bare_pointer (get_or new j null_pointer) ≡ is_bare era (get_or bs j [])
  pub plain : (j : ℕ) → is_indirect (get_or new j null_pointer) ≡ false
  pub cells : Each (HasBytes m) p.cells

module _ (era : Era) (m : Measures) (p : Storage) (x : Exact p) (bs : List Block) where
  -- what a pointer at a block turns into: blank, as the block is, or indirect to an equal one
  abbrev TurnOk : Block → Option Pointer → Type 0
  TurnOk b none = Unit {0}
  TurnOk b (some null_pointer) = ⊥
  TurnOk b (some blank_pointer) = is_blank era b ≡ true
  TurnOk b (some (direct k i)) = ⊥
  TurnOk b (some (indirect j)) = (j < length bs) × (b ≡ get_or bs j [])

  turns_ok : (b : Block) → TurnOk b (turns_to era bs b)
  unfolding turns_to
  turns_ok b = by_test (TurnOk b) (is_blank era b) (λ e. e) (λ e. go (first_from (same_numbers b) 0 bs) (first_lowest (same_numbers b) [] 0 bs))
    where
      go : (o : Option ℕ) → Lowest (same_numbers b) [] 0 bs o → TurnOk b (indirect_at o)
      go none h = tt
      go (some j) h =
          let e : j ≡ h.0 = h.1 ∙ zero-add h.0 in
          (subst (λ (n : ℕ). n < length bs) (sym e) h.2, same_eq _ _ h.3 ∙ ap (λ (n : ℕ). get_or bs n []) (sym e))

  target_ok : (q : Pointer) → TurnOk (block_at m.block_bytes p q) (target era p bs q)
  unfolding target block_at
  target_ok null_pointer = tt
  target_ok blank_pointer = tt
  target_ok (direct k i) = turns_ok (cell_at p (cell_of (position_at p k i)))
  target_ok (indirect n) = tt

  unfoldable pub turned : Pointer → Pointer
  turned q = found_or q (target era p bs q)

  pub turn_count : (k i : ℕ) (ps : List Pointer) → count (leads_to k i) ps ≡ count (leads_to k i) (turning era p bs ps) + count (leads_to k i) (turn era p bs ps)
  unfolding turn turning keep count is_some
  turn_count k i [] = refl
  turn_count k i (q ∷ ps) = go (target era p bs q) (target_ok q) (turn_count k i ps)
    where
      rs : List Pointer
      rs = keep (λ r. is_some (target era p bs r)) ps

      ts : List Pointer
      ts = map (λ r. found_or r (target era p bs r)) ps

      go : (o : Option Pointer) → TurnOk (block_at m.block_bytes p q) o → count (leads_to k i) ps ≡ count (leads_to k i) rs + count (leads_to k i) ts
          → cond (leads_to k i q) 1 0 + count (leads_to k i) ps
          ≡ count (leads_to k i) (cond (is_some o) (q ∷ rs) rs) + (cond (leads_to k i (found_or q o)) 1 0 + count (leads_to k i) ts)
      go none t e = omega (arith, e)
      go (some null_pointer) t e = absurd t
      go (some blank_pointer) t e = omega (arith, e)
      go (some (direct k' i')) t e = absurd t
      go (some (indirect n)) t e = omega (arith, e)

  pub turn_at : (ps : List Pointer) (n : ℕ) → get_or (turn era p bs ps) n null_pointer ≡ turned (get_or ps n null_pointer)
  unfolding turn turned target
  turn_at ps n = get_or-map (λ q. found_or q (target era p bs q)) ps n null_pointer

  turned_null : (q : Pointer) → is_null (turned q) ≡ is_null q
  unfolding turned target
  turned_null null_pointer = refl
  turned_null blank_pointer = refl
  turned_null (direct k i) = go (target era p bs (direct k i)) (target_ok (direct k i))
    where
      go : (o : Option Pointer) → TurnOk (block_at m.block_bytes p (direct k i)) o → is_null (found_or (direct k i) o) ≡ false
      go none t = refl
      go (some null_pointer) t = absurd t
      go (some blank_pointer) t = refl
      go (some (direct k' i')) t = absurd t
      go (some (indirect n)) t = refl
  turned_null (indirect n) = refl

  pub held_full : (k i : ℕ) → is_held (at p.records k i) ≡ true → all_zero (block_in p k i) ≡ false
  held_full k i h =
      let c : ℕ = cell_of (at p.records k i) in
      bit_one (get_or p.cells c []) (omega (arith, x c, held_named (get_or p.records k []) i h, named_one c p.records k))

  held_whole : Each (HasBytes m) p.cells → (k i : ℕ) → is_held (at p.records k i) ≡ true → HasBytes m (block_in p k i)
  held_whole w k i h = go (ltb c (length p.cells)) refl
    where
      c : ℕ
      c = cell_of (at p.records k i)

      go : (t : Bool) → ltb c (length p.cells) ≡ t → HasBytes m (get_or p.cells c [])
      go true e = each_at (HasBytes m) [] p.cells w c (ltb-true c (length p.cells) e)
      go false e =
          absurd (false≢true (sym (held_full k i h)
          ∙ ap all_zero (get_or-eq_default p.cells [] (ltb-false c (length p.cells) e)) ∙ (unfold all_zero every in refl)))

  -- what leads from the newest version leads from it when it is the previous one
  turned_resolves : (new : List Pointer) → NewOk era m p bs new → (q : Pointer) → resolves p [] q ≡ true → resolves p new (turned q) ≡ true
  unfolding turned target position_at
  turned_resolves new ok null_pointer h = refl
  turned_resolves new ok blank_pointer h = refl
  turned_resolves new ok (direct k i) h = go (target era p bs (direct k i)) (target_ok (direct k i))
    where
      go : (o : Option Pointer) → TurnOk (block_at m.block_bytes p (direct k i)) o → resolves p new (found_or (direct k i) o) ≡ true
      go none t = h
      go (some null_pointer) t = absurd t
      go (some blank_pointer) t = refl
      go (some (direct k' i')) t = absurd t
      go (some (indirect j)) t = unfold block_at cell_at in (ap not (ok.nulls j t.0 ∙ ap all_zero (sym t.1) ∙ held_full k i h))
  turned_resolves new ok (indirect n) h = absurd (false≢true h)

  -- a turned pointer of the newest version ends at the same block
  turned_block : (new : List Pointer) → NewOk era m p bs new → (f : ℕ → Pointer) → ((j : ℕ) → f j ≡ get_or new j null_pointer) → (q : Pointer) → resolves p [] q ≡ true
      → block_at m.block_bytes p (end_via (turned q) f) ≡ block_at m.block_bytes p q
  unfolding turned target end_via
  turned_block new ok f g null_pointer h = refl
  turned_block new ok f g blank_pointer h = refl
  turned_block new ok f g (direct k i) h = go (target era p bs (direct k i)) (target_ok (direct k i))
    where
      go : (o : Option Pointer) → TurnOk (block_at m.block_bytes p (direct k i)) o
          → block_at m.block_bytes p (end_via (found_or (direct k i) o) f) ≡ block_at m.block_bytes p (direct k i)
      go none t = refl
      go (some null_pointer) t = absurd t
      go (some blank_pointer) t = unfold block_at cell_at position_at in blank_eq era m (block_in p k i) t (held_whole ok.cells k i h)
      go (some (direct k' i')) t = absurd t
      go (some (indirect j)) t = ap (block_at m.block_bytes p) (g j) ∙ ok.traced j t.0 ∙ sym t.1
  turned_block new ok f g (indirect n) h = absurd (false≢true h)

-- ---- the till's versions with the new one

pub turn_length : (era : Era) (p : Storage) (bs : List Block) (ps : List Pointer) → length (turn era p bs ps) ≡ length ps
unfolding turn
turn_length era p bs ps = length-map ps (λ q. found_or q (target era p bs q))

-- a pointer of the newest version is not indirect
pub last_plain : (storage : Storage) (q : Pointer) → resolves storage [] q ≡ true → is_indirect q ≡ false
last_plain storage null_pointer e = refl
last_plain storage blank_pointer e = refl
last_plain storage (direct k i) e = refl
last_plain storage (indirect b) e = absurd (false≢true e)

pub plain_end : (q : Pointer) (f : ℕ → Pointer) → is_indirect q ≡ false → end_via q f ≡ q
unfolding end_via
plain_end null_pointer f h = refl
plain_end blank_pointer f h = refl
plain_end (direct k i) f h = refl
plain_end (indirect n) f h = absurd (false≢true (sym h))

pub lead_at : (p : Storage) (next ps : List Pointer) → every (resolves p next) ps ≡ true → (n : ℕ) → resolves p next (get_or ps n null_pointer) ≡ true
lead_at p next [] h n = refl
lead_at p next (q ∷ ps) h zero = every_head (resolves p next) q ps h
lead_at p next (q ∷ ps) h (suc n) = lead_at p next ps (every_tail (resolves p next) q ps h) n

pub every_map : (p : Storage) (f : Pointer → Pointer) (next next' : List Pointer) → ((q : Pointer) → resolves p next q ≡ true → resolves p next' (f q) ≡ true)
    → (ps : List Pointer) → every (resolves p next) ps ≡ true → every (resolves p next') (map f ps) ≡ true
unfolding every
every_map p f next next' g [] h = refl
every_map p f next next' g (q ∷ ps) h = rw (g q (every_head (resolves p next) q ps h)) (every_map p f next next' g ps (every_tail (resolves p next) q ps h))

pub every_same : (p : Storage) (next next' : List Pointer) → ((n : ℕ) → is_null (get_or next' n null_pointer) ≡ is_null (get_or next n null_pointer))
    → (ps : List Pointer) → every (resolves p next) ps ≡ true → every (resolves p next') ps ≡ true
unfolding every
every_same p next next' g [] h = refl
every_same p next next' g (q ∷ ps) h =
    rw (one q (every_head (resolves p next) q ps h)) (every_same p next next' g ps (every_tail (resolves p next) q ps h))
  where
    one : (q : Pointer) → resolves p next q ≡ true → resolves p next' q ≡ true
    one null_pointer e = refl
    one blank_pointer e = refl
    one (direct k i) e = e
    one (indirect n) e = ap not (g n) ∙ e

same_ends : (m : Measures) (p : Storage) (q : Pointer) (f g : ℕ → Pointer) → ((j : ℕ) → block_at m.block_bytes p (f j) ≡ block_at m.block_bytes p (g j)) → block_at m.block_bytes p (end_via q f) ≡ block_at m.block_bytes p (end_via q g)
unfolding end_via
same_ends m p null_pointer f g h = refl
same_ends m p blank_pointer f g h = refl
same_ends m p (direct k i) f g h = refl
same_ends m p (indirect n) f g h = h n

pub ends_same : (m : Measures) (p : Storage) (v v' : Version) (newer newer' : List Version) → v'.length ≡ v.length → length v'.pointers ≡ length v.pointers
    → ((n : ℕ) → traced_block m.block_bytes p (v' ∷ newer') n ≡ traced_block m.block_bytes p (v ∷ newer) n) → ends_zero m.block_bytes p v newer ≡ true → ends_zero m.block_bytes p v' newer' ≡ true
unfolding ends_zero
ends_same m p v v' newer newer' l n t h =
    ap₂ (λ (a b : ℕ). all_zero (drop (a - m.block_bytes * (b - 1)) (traced_block m.block_bytes p (v' ∷ newer') (b - 1)))) l n
    ∙ ap (λ (b : Block). all_zero (drop (v.length - m.block_bytes * (length v.pointers - 1)) b)) (t (length v.pointers - 1)) ∙ h

module _ (era : Era) (s : Shape) (p : Storage) (x : Exact p) (bs : List Block) (new_v : Version) (ok : NewOk era s.measures p bs new_v.pointers) where
  unfoldable pub extended : List Version → List Version
  extended vs = with_newest_pointers vs (turn era p bs (newest_pointers vs)) ++ (new_v ∷ [])

  new_end : (j : ℕ) → end_of (new_v ∷ []) j ≡ get_or new_v.pointers j null_pointer
  unfolding end_of
  new_end j = plain_end (get_or new_v.pointers j null_pointer) _ (ok.plain j)

  pub traced_same : (v : Version) (vs : List Version) → are_traceable s.measures.block_bytes s.capacities.blocks p (v ∷ vs) ≡ true → (n : ℕ)
      → block_at s.measures.block_bytes p (end_of (extended (v ∷ vs)) n) ≡ block_at s.measures.block_bytes p (end_of (v ∷ vs) n)
  unfolding extended with_newest_pointers last_of newest_pointers end_of are_traceable next_pointers
  traced_same v [] h n =
      let q : Pointer = get_or v.pointers n null_pointer in
      let l : resolves p [] q ≡ true = lead_at p [] v.pointers (clause _ 1 h) n in
      ap (λ (r : Pointer). block_at s.measures.block_bytes p (end_via r (λ b. end_of (new_v ∷ []) b))) (turn_at era s.measures p x bs v.pointers n)
      ∙ turned_block era s.measures p x bs new_v.pointers ok (λ b. end_of (new_v ∷ []) b) new_end q l
      ∙ ap (block_at s.measures.block_bytes p) (sym (plain_end q _ (last_plain p q l)))
  traced_same v (w ∷ vs) h n =
      same_ends s.measures p (get_or v.pointers n null_pointer) (λ b. end_of (extended (w ∷ vs)) b) (λ b. end_of (w ∷ vs) b) (λ j. traced_same w vs (clause _ 3 h) j)

  next_null : (v : Version) (vs : List Version) (n : ℕ)
      → is_null (get_or (next_pointers (extended (v ∷ vs))) n null_pointer) ≡ is_null (get_or v.pointers n null_pointer)
  unfolding extended with_newest_pointers last_of newest_pointers next_pointers
  next_null v [] n = ap is_null (turn_at era s.measures p x bs v.pointers n) ∙ turned_null era s.measures p x bs (get_or v.pointers n null_pointer)
  next_null v (w ∷ vs) n = refl

  module _ (len : has_length s.measures.block_bytes s.capacities.blocks new_v ≡ true) (lead : every (resolves p []) new_v.pointers ≡ true) (end : ends_zero s.measures.block_bytes p new_v [] ≡ true) where
    pub extended_traceable : (vs : List Version) → are_traceable s.measures.block_bytes s.capacities.blocks p vs ≡ true → are_traceable s.measures.block_bytes s.capacities.blocks p (extended vs) ≡ true
    unfolding extended with_newest_pointers last_of newest_pointers are_traceable next_pointers has_length turn turned traced_block
    extended_traceable [] h = all_true _ (len, (lead, (end, (refl, tt))))
    extended_traceable (v ∷ []) h =
        all_true _ (
          all_true _ (clause _ 0 (clause _ 0 h), (ap (λ (n : ℕ). eqb n (parts_for s.measures.block_bytes v.length)) (turn_length era p bs v.pointers) ∙ clause _ 1 (clause _ 0 h), tt)),
          (
            every_map p (turned era s.measures p x bs) [] new_v.pointers (turned_resolves era s.measures p x bs new_v.pointers ok) v.pointers (clause _ 1 h),
            (
              ends_same s.measures p v (with_pointers v (turn era p bs v.pointers)) [] (new_v ∷ []) refl
                  (turn_length era p bs v.pointers) (traced_same v [] h) (clause _ 2 h),
              (all_true _ (len, (lead, (end, (refl, tt)))), tt),
            ),
          ),
        )
    extended_traceable (v ∷ w ∷ vs) h =
        all_true _ (
          clause _ 0 h,
          (
            every_same p w.pointers (next_pointers (extended (w ∷ vs))) (next_null w vs) v.pointers (clause _ 1 h),
            (
              ends_same s.measures p v v (w ∷ vs) (extended (w ∷ vs)) refl refl (traced_same v (w ∷ vs) h) (clause _ 2 h),
              (extended_traceable (w ∷ vs) (clause _ 3 h), tt),
            ),
          ),
        )
