-- What a function of the sweep needs and leaves, in the code's terms.
use mathlib.Core.Path.{◌≡◌, refl, sym, ap, ◌∙◌, subst}
use mathlib.Core.Bool.{Bool, cond}
use mathlib.Core.List.{List, [], ◌∷◌, map}
use mathlib.Core.Option.{Option, some}
use Prim.Native.Nat.{ℕ, zero, suc, ◌+◌, ◌-◌, ◌≤◌, ◌<◌}
use native.Mathlib.Omega.{arith}
use lib.Count.{ones}
use lib.ListN.{length, get_or, length-map, length-replicate}
use Rattle.lists.specs.Lists.{keep}
use Rattle.lists.specs.Masks.{mask_of}
use Rattle.lists.proofs.Masks.{ones_mask, mask_lt}
use Rattle.model.specs.Measures.{Measures}
use Rattle.model.specs.Records.{is_held, cell_of, free_segment, cells_of}
use Rattle.model.specs.Runs.{Run}
use Rattle.model.specs.State.{Position, null_position, blank_position, held, removed, Segment, Storage}
use Rattle.model.specs.Sound.{is_filled}
use Rattle.model.specs.Sweep.{is_unreferenced, is_referenced, struck, moved}
use Rattle.model.specs.Table.{storage_in, records_in}
use Rattle.laws.proofs.Runs.{RunOk, Free, FoundOk, find_ok}
use Rattle.laws.proofs.Uses.{referenced, referenced_count}
use Rattle.records.specs.Records.{Formed, positions, record_of}
use Rattle.records.specs.declared.Record.{Record}
use Rattle.records.proofs.Records.{positions_of, formed_of, held_small, moved_struck, length_moved}
use Rattle.storage.proofs.Read.{count_at}
use Rattle.lists.specs.Rows.{fill}
use Rattle.lists.proofs.Rows.{get_d_fill}
use Rattle.pool.proofs.Pool.{along_fill}
use Rattle.pool.specs.Pool.{along, clear_at, free_at, copy_to, take_at}
use Rattle.sweep_laws.specs.Marked.{StoredMarked, Loaded, EncodesMarked}
use Rattle.sweep_laws.specs.Ways.{segment_at, referenced_at, freed, struck_only, compacted, Chosen}
use Rattle.sweep_laws.proofs.Frees.{cell_range}
use Rattle.sweep_laws.proofs.Removes.{cells_inside, row_put, free_encodes, strike_encodes, move_encodes, run_room}
use Rattle.sweep_laws.proofs.Walks.{length_picked, referenced_picked}

-- ---- masks: the held positions go or stay

split_bit : (p : Position) → ◌≡◌ {A = ℕ} (cond (is_held p) 1 0) (cond (is_unreferenced p) 1 0 + cond (is_referenced p) 1 0)
split_bit null_position = refl
split_bit blank_position = refl
split_bit (held c zero) = refl
split_bit (held c (suc n)) = refl
split_bit removed = refl

pub split_mask : (seg : Segment) → mask_of is_held seg ≡ mask_of is_unreferenced seg + mask_of is_referenced seg
unfolding mask_of
split_mask [] = refl
split_mask (p ∷ ps) = omega (arith, split_bit p, split_mask ps)

-- what the code needs of a loaded record
pub record RecordPre (l n : ℕ) (r : Record) (unreferenced : ℕ) : Type 0 where
  pub formed : Formed r
  pub count : length (positions r) ≡ n
  pub gone : unreferenced ≡ mask_of is_unreferenced (positions r)
  pub small : r.held < 65536
  pub few : unreferenced < 65536
  pub within : unreferenced ≤ r.held
  pub cells : (j : ℕ) → get_or r.cells j 0 < l

module _ (m : Measures) (pool words : List ℕ) (marks : List Bool) (k : ℕ) (r : Record) (unreferenced : ℕ) (kept : StoredMarked m pool words marks) (l : Loaded m.segment_blocks words k r unreferenced) where
  abbrev n : ℕ
  n = m.segment_blocks

  abbrev sh : Storage
  sh = storage_in m pool words

  abbrev seg : Segment
  seg = segment_at n words k

  hk : k < length sh.records
  unfolding storage_in
  hk = l.inside

  seg_n : length seg ≡ n
  unfolding storage_in
  seg_n = count_at n words (records_in n words) kept.encodes_marked.encodes.records k l.inside

  seg_few : length seg ≤ 16
  seg_few = omega (arith, seg_n, kept.measured.most_blocks)

  marks_length : length marks ≡ length sh.cells
  marks_length = ap length kept.encodes_marked.marked ∙ length-map sh.cells is_filled

  seg_is : positions r ≡ seg
  seg_is = ap positions l.is ∙ positions_of seg seg_few

  held_is : r.held ≡ mask_of is_held seg
  unfolding record_of
  held_is = ap (λ (x : Record). x.held) l.is

  cells_is : r.cells ≡ fill 16 (map cell_of seg)
  unfolding record_of
  cells_is = ap (λ (x : Record). x.cells) l.is

  -- a walk over the record's cells is one over those of its positions
  walk_is : {S : Type 0} (step : S → ℕ → ℕ → S) (f : Position → Bool) (at : ℕ) (s : S)
      → along step (mask_of f seg) at r.cells s ≡ along step (mask_of f seg) at (map cell_of seg) s
  walk_is step f at s =
      ap (λ (cs : List ℕ). along step (mask_of f seg) at cs s) cells_is
      ∙ along_fill step 16 (mask_of f seg) at (map cell_of seg) s (rw (length-map seg cell_of) (mask_lt f seg)) (omega (arith, length-map seg cell_of, seg_few))

  referenced_mask : r.held - unreferenced ≡ mask_of is_referenced seg
  referenced_mask = omega (arith, split_mask seg, held_is, l.gone)

  pub need_ones : ones (r.held - unreferenced) ≡ referenced_at n words k
  unfolding referenced
  need_ones = rw referenced_mask (ones_mask is_referenced seg ∙ sym (length_picked is_referenced seg) ∙ ap length (sym (referenced_picked seg)) ∙ (omega (arith, referenced_count seg)))

  range : (j : ℕ) → get_or (map cell_of seg) j 0 < length marks
  unfolding storage_in
  range = cell_range (length marks) kept.some seg (rw marks_length (cells_inside m pool words marks sh kept.encodes_marked kept.exact k l.inside))

  pub record_pre : RecordPre (length marks) n r unreferenced
  record_pre =
      let f : Formed r = formed_of r seg l.is seg_few in
      record {
        formed = f;
        count = ap length seg_is ∙ seg_n;
        gone = l.gone ∙ ap (mask_of is_unreferenced) (sym seg_is);
        small = held_small r f;
        few = omega (arith, split_mask seg, held_is, l.gone, held_small r f);
        within = omega (arith, split_mask seg, held_is, l.gone);
        cells = λ j. rw (cells_is, get_d_fill 16 (map cell_of seg) j (omega (arith, length-map seg cell_of, seg_few))) (range j);
      }

  free_few : length (free_segment n) ≤ 16
  free_few = unfold free_segment in omega (arith, length-replicate n null_position, kept.measured.most_blocks)

  struck_few : length (map struck seg) ≤ 16
  struck_few = omega (arith, length-map seg struck, seg_few)

  module _ (p w : List ℕ) (o : List Bool) (new : Record) where
    -- record k's words are those of another
    put : (s : Segment) → length s ≤ 16 → new ≡ record_of s → w ≡ row_put n words k (positions new) → w ≡ row_put n words k s
    put s h en ew = ew ∙ ap (row_put n words k) (ap positions en ∙ positions_of s h)

    pub free_done : p ≡ along (clear_at m.block_bytes) r.held 0 r.cells pool → new ≡ record_of (free_segment n) → w ≡ row_put n words k (positions new)
        → o ≡ along free_at r.held 0 r.cells marks → EncodesMarked m p w o (freed m pool words k)
    unfolding storage_in
    free_done ep en ew eo =
        rw (ep, put (free_segment n) free_few en ew, eo, held_is, walk_is (clear_at m.block_bytes) is_held 0 pool, walk_is free_at is_held 0 marks) (free_encodes m pool words marks sh kept.encodes_marked kept.exact k l.inside)

    pub strike_done : p ≡ along (clear_at m.block_bytes) unreferenced 0 r.cells pool → new ≡ record_of (map struck (positions r)) → w ≡ row_put n words k (positions new)
        → o ≡ along free_at unreferenced 0 r.cells marks → EncodesMarked m p w o (struck_only m pool words k)
    unfolding storage_in
    strike_done ep en ew eo =
        rw (ep, put (map struck seg) struck_few (en ∙ ap (λ (s : Segment). record_of (map struck s)) seg_is) ew, eo, l.gone, walk_is (clear_at m.block_bytes) is_unreferenced 0 pool, walk_is free_at is_unreferenced 0 marks)
        (strike_encodes m pool words marks sh kept.encodes_marked kept.exact k l.inside)

  module _ (start : ℕ) (ch : Chosen m pool words k start) where
    stay_length : referenced_at n words k ≡ length (cells_of (keep is_referenced seg))
    unfolding referenced
    stay_length = omega (arith, referenced_count seg)

    ok : RunOk (Free sh) (length (cells_of (keep is_referenced seg))) ch.run
    ok =
        let f : FoundOk (Free sh) (referenced_at n words k) (some ch.run) =
        subst (λ (o : Option Run). FoundOk (Free sh) (referenced_at n words k) o) ch.found (find_ok sh (referenced_at n words k)) in
        subst (λ (i : ℕ). RunOk (Free sh) i ch.run) stay_length f

    some_stay : 0 < length (cells_of (keep is_referenced seg))
    some_stay = rw (← stay_length) ch.needed

    pub start_room : start + ones (r.held - unreferenced) ≤ length marks
    unfolding storage_in
    start_room =
        omega (arith, need_ones, stay_length, ch.at, marks_length, run_room m pool words marks sh kept.encodes_marked kept.exact k l.inside ch.run ok some_stay)

    pub move_done : (p w : List ℕ) (o : List Bool) (mid new : Record)
        → p ≡ along (clear_at m.block_bytes) r.held 0 r.cells (along (copy_to m.block_bytes) (r.held - unreferenced) start r.cells pool)
        → mid ≡ record_of (map struck (positions r)) → new ≡ record_of (moved start (positions mid)) → w ≡ row_put n words k (positions new)
        → o ≡ along free_at r.held 0 r.cells (along take_at (r.held - unreferenced) start r.cells marks)
        → EncodesMarked m p w o (compacted m pool words k)
    unfolding storage_in
    move_done p w o mid new ep em en ew eo =
        let s : positions mid ≡ map struck seg = ap positions (em ∙ ap (λ (s : Segment). record_of (map struck s)) seg_is) ∙ positions_of (map struck seg) struck_few in
        let q : moved start (positions mid) ≡ moved start seg = ap (moved start) s ∙ moved_struck start seg in
        let ew' : w ≡ row_put n words k (moved start seg) = put p w o new (moved start seg) (omega (arith, length_moved start seg, seg_few)) (en ∙ ap record_of q) ew in
        rw (ep, ew', eo, held_is, referenced_mask', walk_is (copy_to m.block_bytes) is_referenced start pool, walk_is take_at is_referenced start marks, walk_is (clear_at m.block_bytes) is_held 0, walk_is free_at is_held 0, ← ch.at, ch.found)
        (move_encodes m pool words marks sh kept.encodes_marked kept.exact k l.inside ch.run ok some_stay)
      where
        referenced_mask' : mask_of is_held seg - unreferenced ≡ mask_of is_referenced seg
        referenced_mask' = omega (arith, split_mask seg, l.gone)
