-- Demand 3 whole, as one term.
use mathlib.Core.Path.{◌≡◌, refl, sym, ap, ap₂, ◌∙◌, subst}
use mathlib.Core.Bool.{true, false≢true}
use mathlib.Core.List.{List, [], ◌∷◌, map}
use mathlib.Core.Option.{Option}
use Prim.Native.Nat.{ℕ, ◌*◌, ◌<◌}
use lib.ListN.{length, get_or, get_or-map}
use Rattle.lists.specs.Lists.{rises}
use Rattle.lists.specs.Rows.{chunks}
use Rattle.lists.proofs.Cuts.{chunks_joined}
use Rattle.model.specs.Measures.{Shape}
use Rattle.model.specs.State.{Pointer, null_pointer, blank_pointer, direct, indirect, Storage, Version, State}
use Rattle.model.specs.Image.{image_blocks}
use Rattle.model.specs.Table.{state_to_bytes, cells_in}
use Rattle.model.specs.Sound.{Store, store_of, next_pointers}
use Rattle.model.specs.Calls.{empty_state, TallyAnswer, tally_in, tally_of, till_of, held_from}
use Rattle.model.specs.Rights.{owner_refusal, unless, tally_refusal, tally_as}
use Rattle.laws.proofs.Serves.{sound_valid}
use Rattle.laws.proofs.Named.{named_full, named_inside, named_count}
use Rattle.bill.proofs.Exact.{bill_is_exact}
use Rattle.laws.proofs.Unless.{unless_none, accepted_none}
use Rattle.history.specs.Calls.{Buffers}
use Rattle.history.specs.Users.{buffers_after_all, state_after_all}
use Rattle.history.specs.Keeper.{Kept, Keeper, fresh_keeper, fed_all, kept_from, kept_till}
use Rattle.history.proofs.PointerKinds.{kind_of}
use Rattle.history.proofs.View.{view_versions, view_of, view_at}
use Rattle.history.specs.Demand.{IsDirect, Shares, Cells, Holds, laid_out_in, Demand3, pointers_held}
use Rattle.history.proofs.Shown.{from_same, shown_numbers}
use Rattle.history.proofs.Kept.{is_direct_kind, Agree, agree_from, agree_numbers}
use Rattle.history.proofs.Fed.{Stands, stands_fresh, stands_all}
use Rattle.history.proofs.Steps.{Represents, left_laid, left_store}
use Rattle.history.proofs.Users.{left_all, answers_same}
use Rattle.history.proofs.Cells.{named_leads}
use Rattle.history.proofs.Bullets.{restores}
use Rattle.history.proofs.Answered.{answers}
use Rattle.history.proofs.Days.{Dated, dated_empty, dated_all, days}
use Rattle.history.proofs.Streams.{streams}
use Rattle.history.proofs.Keys.{keys}

-- ---- a block that a version shares with one taken while it was the newest

direct_kind_lem : (p : Pointer) → IsDirect p → is_direct_kind (kind_of p) ≡ true
unfolding is_direct_kind
direct_kind_lem null_pointer h = absurd h
direct_kind_lem blank_pointer h = absurd h
direct_kind_lem (direct k i) h = refl
direct_kind_lem (indirect n) h = absurd h

shared_not_direct : (bytes : ℕ) (a : Storage) (x y : Kept) (newer : List Kept) (vs : List Version) (n i : ℕ) → Agree bytes (x ∷ y ∷ newer) (view_versions bytes a vs)
    → y.previous ≡ x.number → n < length (image_blocks bytes x.image) → i < length (image_blocks bytes y.image)
    → get_or (image_blocks bytes x.image) n [] ≡ get_or (image_blocks bytes y.image) i [] → ¬ IsDirect (get_or (next_pointers vs) n null_pointer)
unfolding view_versions next_pointers
shared_not_direct bytes a x y newer [] n i g p ln li same d = absurd g
shared_not_direct bytes a x y newer (v ∷ vs) n i g p ln li same d =
    false≢true
    (sym (g.0.shared.1 p n i ln li same)
    ∙ ap is_direct_kind (get_or-map kind_of v.pointers n null_pointer) ∙ direct_kind_lem (get_or v.pointers n null_pointer) d)

-- ---- a store that stands for a state that calls reach

module _ (s : Shape) (b : Buffers) (st : State) (k : Keeper) (l : Represents s b st) (z : Stands s k st) (d : Dated s st) where
  -- of versions held and shown
  held : (t v : ℕ) → Agree s.measures.block_bytes (kept_from v (kept_till k t).versions) (view_versions s.measures.block_bytes st.storage (held_from v (till_of st t).versions))
  unfolding view_of
  held t v =
      subst (Agree s.measures.block_bytes (kept_from v (kept_till k t).versions)) (from_same s.measures.block_bytes st.storage v (till_of st t).versions)
      (agree_from s.measures.block_bytes v (kept_till k t).versions (view_at s.measures.block_bytes st t).versions (z.tills t).1)

  shares : Shares s.measures.block_bytes st k b
  unfolding pointers_held
  shares = record {
    not_direct = λ t v x y newer n i q p ln li full same d.
        shared_not_direct s.measures.block_bytes st.storage x y newer (held_from v (till_of st t).versions) n i
        (subst (λ (xs : List Kept). Agree s.measures.block_bytes xs (view_versions s.measures.block_bytes st.storage (held_from v (till_of st t).versions))) q (held t v)) p ln li same d;
  }

  numbers : (t : ℕ) → rises 0 (kept_till k t).last (map (λ (x : Kept). x.number) (kept_till k t).versions) ≡ true
  numbers t =
      ap₂ (rises 0) (sym (z.tills t).0) (sym (agree_numbers s.measures.block_bytes (kept_till k t).versions (view_at s.measures.block_bytes st t).versions (z.tills t).1))
      ∙ shown_numbers s st l.sound t

  pool_cells : cells_in s.measures.block_bytes b.pool ≡ st.storage.cells
  unfolding cells_in state_to_bytes
  pool_cells =
      ap (chunks s.measures.block_bytes) l.pool
      ∙ chunks_joined s.measures.block_bytes st.storage.cells (sound_valid s st l.sound).fits.cells l.fit.proper.bytes

  cells : Cells s.measures.block_bytes st k b s
  unfolding tally_as tally_of tally_in
  cells = record {
    in_pool = pool_cells;
    non_zero = named_full st.storage (sound_valid s st l.sound).exact;
    led = named_leads s st l.sound;
    inside = named_inside s st l.sound;
    billed = λ u price e.
        bill_is_exact b.pool b.table (record { shape = s; state = st }) u price (left_store s b st l) e ∙ ap (λ (n : ℕ). price * n) (named_count s st l.sound);
    counts = λ u e. ap (λ (a : TallyAnswer). a.cells) (tally_accepted (owner_refusal (store_of b.pool b.table) u) e) ∙ ap (λ (o : Option Store). (tally_in o).cells) (left_store s b st l) ∙ named_count s st l.sound;
  }
    where
      tally_accepted : (n : ℕ) → (unless n tally_refusal (tally_in (store_of b.pool b.table))).refusal ≡ 0 → unless n tally_refusal (tally_in (store_of b.pool b.table)) ≡ tally_in (store_of b.pool b.table)
      tally_accepted n e = unless_none tally_refusal n (tally_in (store_of b.pool b.table)) (accepted_none tally_refusal (λ (a : TallyAnswer). a.refusal) (λ n. unfold tally_refusal in refl) n (tally_in (store_of b.pool b.table)) e)

  pub holds : Holds s.measures.block_bytes st k b s
  holds = record {
    is_store = left_store s b st l;
    pool = l.pool;
    table = l.table;
    numbers = numbers;
    restores = restores s b st k l z;
    streams = streams s b st k l z;
    answers = answers s b st k l z;
    days = days s b st k l z d;
    keys = keys s b st k l z;
    shares = shares;
    cells = cells;
  }

-- ---- the theorem

-- Demand 3, for every setting in one argument.
pub demand_3 : Demand3
demand_3 s pool table calls accepted refusals =
    let b : Buffers = laid_out_in s pool table in
    let start : Represents s b (empty_state s) = left_laid s pool table accepted in
    let end : Represents s (buffers_after_all b calls) (state_after_all s (empty_state s) calls) = left_all s calls b (empty_state s) start refusals in
    record {
      answers = answers_same s calls b (empty_state s) start refusals;
      after =
          holds s (buffers_after_all b calls) (state_after_all s (empty_state s) calls) (fed_all (fresh_keeper s.capacities) b calls) end
          (stands_all s calls b (empty_state s) (fresh_keeper s.capacities) start (stands_fresh s) refusals)
          (dated_all s calls b (empty_state s) start (dated_empty s) refusals);
    }
