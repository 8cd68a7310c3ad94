-- What the code leaves of the pool, the words and the marks, for each way of removal.
use mathlib.Core.Path.{◌≡◌, refl, ◌∙◌}
use mathlib.Core.Bool.{Bool, true}
use mathlib.Core.List.{List, [], ◌∷◌, ◌++◌, map}
use mathlib.Core.Option.{some}
use Prim.Native.Nat.{ℕ, ◌+◌, ◌-◌, ◌*◌, ◌≤◌, ◌<◌}
use native.Mathlib.Omega.{arith}
use lib.ListN.{length, get_or, take, drop, length-map, length-replicate}
use lib.Seq.{sets, length-sets}
use Rattle.lists.specs.Each.{Each}
use Rattle.lists.specs.Lists.{keep, uses}
use Rattle.lists.specs.Masks.{mask_of}
use Rattle.lists.proofs.Each.{each_at, each_weaken}
use Rattle.lists.proofs.Uses.{each_used}
use Rattle.model.specs.Measures.{Measures, record_words}
use Rattle.model.specs.Records.{cells_of, cell_of, is_held, cell_at, named_cells, free_segment}
use Rattle.model.specs.Runs.{Run}
use Rattle.model.specs.State.{Segment, Storage, Block, Position, null_position}
use Rattle.model.specs.Sound.{is_filled}
use Rattle.model.specs.Sweep.{is_unreferenced, is_referenced, struck, moved, clear_cells, free_record, strike_only, compact}
use Rattle.model.specs.Table.{record_to_words}
use Rattle.laws.proofs.Runs.{RunOk, Free}
use Rattle.laws.specs.Storage.{Exact}
use Rattle.laws.proofs.Uses.{unreferenced, referenced, uses_split}
use Rattle.records.proofs.Records.{length_moved}
use Rattle.storage.proofs.Read.{store_at}
use Rattle.pool.specs.Pool.{along, clear_at, free_at, copy_to, take_at}
use Rattle.sweep_laws.specs.Marked.{EncodesMarked}
use Rattle.sweep_laws.proofs.Frees.{Named, named_cell}
use Rattle.sweep_laws.proofs.Walks.{picked, along_picked, fold_clear, fold_free, held_picked, unreferenced_picked, referenced_picked, sized_clear, fold_copy, fold_take, sized_sets, Source, Sized, bytes}

-- a record's words put in the place of record k's
abbrev pub row_put : ℕ → List ℕ → ℕ → Segment → List ℕ
row_put n ws k seg = take (k * record_words n) ws ++ (record_to_words seg ++ drop (record_words n) (drop (k * record_words n) ws))

module _ (m : Measures) (pool words : List ℕ) (marks : List Bool) (sh : Storage) (d : EncodesMarked m pool words marks sh) (x : Exact sh) (k : ℕ) (hk : k < length sh.records) where
  abbrev n : ℕ
  n = m.segment_blocks

  abbrev size : ℕ
  size = m.block_bytes

  abbrev seg : Segment
  seg = get_or sh.records k []

  seg_n : length seg ≡ n
  seg_n = each_at (λ (s : Segment). length s ≡ n) [] sh.records d.encodes.records.sized k hk

  pub all_named : Each (Named sh) (cells_of seg)
  all_named = each_used (Named sh) (cells_of seg) (λ c h. named_cell sh x k c h)

  unreferenced_named : Each (Named sh) (cells_of (keep is_unreferenced seg))
  unreferenced_named = each_used (Named sh) (cells_of (keep is_unreferenced seg)) (λ c h. named_cell sh x k c (unfold unreferenced in (omega (arith, h, uses_split c seg))))

  referenced_named : Each (Named sh) (cells_of (keep is_referenced seg))
  referenced_named = each_used (Named sh) (cells_of (keep is_referenced seg)) (λ c h. named_cell sh x k c (unfold referenced in (omega (arith, h, uses_split c seg))))

  inside : (cs : List ℕ) → Each (Named sh) cs → Each (λ (c : ℕ). c < length sh.cells) cs
  inside cs e = each_weaken (Named sh) (λ (c : ℕ). c < length sh.cells) (λ c n. n.inside) cs e

  pub cells_inside : Each (λ (c : ℕ). c < length sh.cells) (cells_of seg)
  cells_inside = inside (cells_of seg) all_named

  -- cells cleared and freed, on top of other cells
  cleared : (f : Position → Bool) (cs : List ℕ) → cs ≡ picked f seg → Each (λ (c : ℕ). c < length sh.cells) cs
      → (p : List ℕ) (os : List Bool) (cells : List Block) → length cells ≡ length sh.cells → Sized size cells → p ≡ bytes cells → os ≡ map is_filled cells
      → (along (clear_at size) (mask_of f seg) 0 (map cell_of seg) p ≡ bytes (clear_cells size cells cs)) × (along free_at (mask_of f seg) 0 (map cell_of seg) os ≡ map is_filled (clear_cells size cells cs))
  cleared f cs e i p os cells l z ep eo = (
    rw (along_picked (clear_at size) f seg 0 p, ← e, ep) (fold_clear size (length sh.cells) cs cells 0 l z i),
    rw (along_picked free_at f seg 0 os, ← e, eo) (fold_free size cs cells 0),
  )

  pub free_encodes : EncodesMarked m (along (clear_at size) (mask_of is_held seg) 0 (map cell_of seg) pool) (row_put n words k (free_segment n))
      (along free_at (mask_of is_held seg) 0 (map cell_of seg) marks) (free_record m sh k seg)
  unfolding free_record
  free_encodes =
      let c = cleared is_held (cells_of seg) (held_picked seg) cells_inside pool marks sh.cells refl d.encodes.cells.blocks d.encodes.cells.joins d.marked in
      record {
        encodes = record { cells = record { blocks = sized_clear size (cells_of seg) sh.cells d.encodes.cells.blocks; joins = c.0 }; records = store_at n words sh.records d.encodes.records k hk (free_segment n) (unfold free_segment in (length-replicate n null_position)) };
        marked = c.1;
      }

  pub strike_encodes : EncodesMarked m (along (clear_at size) (mask_of is_unreferenced seg) 0 (map cell_of seg) pool) (row_put n words k (map struck seg))
      (along free_at (mask_of is_unreferenced seg) 0 (map cell_of seg) marks) (strike_only m sh k seg)
  unfolding strike_only
  strike_encodes =
      let cs : List ℕ = cells_of (keep is_unreferenced seg) in
      let c = cleared is_unreferenced cs (unreferenced_picked seg) (inside cs unreferenced_named) pool marks sh.cells refl d.encodes.cells.blocks d.encodes.cells.joins d.marked in
      record {
        encodes = record { cells = record { blocks = sized_clear size cs sh.cells d.encodes.cells.blocks; joins = c.0 }; records = store_at n words sh.records d.encodes.records k hk (map struck seg) (length-map seg struck ∙ seg_n) };
        marked = c.1;
      }

  module _ (run : Run) (ok : RunOk (Free sh) (length (cells_of (keep is_referenced seg))) run) (some_stay : 0 < length (cells_of (keep is_referenced seg))) where
    abbrev cs : List ℕ
    cs = cells_of (keep is_referenced seg)

    abbrev first : List Block
    first = map (λ c. get_or sh.cells c []) cs

    pub run_room : run.start + length cs ≤ length sh.cells
    run_room =
        let f : Free sh (run.start + (length cs - 1)) = ok.free (length cs - 1) (omega (arith, ok.enough)) in
        omega (arith, f.inside)

    source : (c : ℕ) → Named sh c → Source sh.cells sh.cells run.start (length cs) c
    source c n = record {
      inside = n.inside;
      same = refl;
      apart = λ j h e.
          let f : Free sh (run.start + j) = ok.free j (omega (arith, ok.enough)) in
          let g : uses c (named_cells sh.records) ≡ 0 = rw e f.unnamed in
          omega (arith, n.used, g);
    }

    sized_first : (ds : List ℕ) → Each (Named sh) ds → Sized size (map (λ c. get_or sh.cells c []) ds)
    sized_first [] e = tt
    sized_first (c ∷ ds) e = (each_at (λ (b : Block). length b ≡ size) [] sh.cells d.encodes.cells.blocks c e.0.inside, sized_first ds e.1)

    full_first : (ds : List ℕ) → Each (Named sh) ds → Each (λ (b : Block). is_filled b ≡ true) (map (λ c. get_or sh.cells c []) ds)
    full_first [] e = tt
    full_first (c ∷ ds) e = (e.0.full, full_first ds e.1)

    copied : along (copy_to size) (mask_of is_referenced seg) run.start (map cell_of seg) pool ≡ bytes (sets sh.cells run.start first)
    copied =
        rw (along_picked (copy_to size) is_referenced seg run.start pool, ← referenced_picked seg, d.encodes.cells.joins)
        (fold_copy size sh.cells cs sh.cells run.start d.encodes.cells.blocks
        (each_weaken (Named sh) (Source sh.cells sh.cells run.start (length cs)) source cs referenced_named) run_room)

    taken : along take_at (mask_of is_referenced seg) run.start (map cell_of seg) marks ≡ map is_filled (sets sh.cells run.start first)
    taken =
        rw (along_picked take_at is_referenced seg run.start marks, ← referenced_picked seg, d.marked)
        (fold_take cs first sh.cells run.start (length-map cs (λ c. get_or sh.cells c [])) (full_first cs referenced_named))

    pub move_encodes : EncodesMarked m (along (clear_at size) (mask_of is_held seg) 0 (map cell_of seg) (along (copy_to size) (mask_of is_referenced seg) run.start (map cell_of seg) pool))
        (row_put n words k (moved run.start seg))
        (along free_at (mask_of is_held seg) 0 (map cell_of seg) (along take_at (mask_of is_referenced seg) run.start (map cell_of seg) marks)) (compact m sh k seg (some run))
    unfolding compact cell_at
    move_encodes =
        let new : List Block = sets sh.cells run.start first in
        let z : Sized size new = sized_sets size first sh.cells run.start d.encodes.cells.blocks (sized_first cs referenced_named) in
        let c = cleared is_held (cells_of seg) (held_picked seg) cells_inside _ _ new (length-sets sh.cells run.start first) z copied taken in
        record {
          encodes = record { cells = record { blocks = sized_clear size (cells_of seg) new z; joins = c.0 }; records = store_at n words sh.records d.encodes.records k hk (moved run.start seg) (length_moved run.start seg ∙ seg_n) };
          marked = c.1;
        }
