-- A record's turn in the sweep, and the whole.
use mathlib.Core.Path.{◌≡◌, refl, sym, ap, ◌∙◌, subst}
use mathlib.Core.Bool.{Bool, not}
use mathlib.Core.List.{List, map}
use mathlib.Core.Option.{none}
use Prim.Native.Nat.{ℕ, suc, ◌+◌, ◌-◌, ◌*◌, ◌/◌, ◌≤◌, ◌<◌}
use native.Mathlib.Numerals.{add-one}
use native.Mathlib.Omega.{arith}
use lib.Count.{ones}
use lib.ListN.{length, take, drop}
use borrow.Author.Tests.{eq-eqb, ne_eqb, lt-ltb, le-ltb}
use Rattle.lists.specs.Lists.{count}
use Rattle.lists.specs.Masks.{mask_of}
use Rattle.lists.proofs.Counts.{count_most}
use Rattle.lists.proofs.Masks.{ones_mask}
use Rattle.model.specs.Measures.{Measures, record_words}
use Rattle.model.specs.Records.{is_held}
use Rattle.model.specs.Runs.{find_run, scan}
use Rattle.model.specs.State.{Segment, Storage}
use Rattle.model.specs.Sweep.{is_unreferenced, remove_from, sweep_record, compact, sweep_from, sweep}
use Rattle.model.specs.Table.{records_in, storage_in}
use Rattle.laws.proofs.Sweep.{record_keeps}
use Rattle.laws.specs.Storage.{Exact}
use Rattle.laws.proofs.Uses.{referenced_count}
use Rattle.records.specs.Records.{record_in, record_of, Formed, positions}
use Rattle.records.specs.declared.Record.{Record}
use Rattle.records.proofs.Records.{formed_of, positions_of}
use Rattle.records.proofs.Words.{record_words_lem}
use Rattle.runs.specs.Runs.{as_run}
use Rattle.runs.specs.declared.Run.{Run as RunStruct}
use Rattle.runs.proofs.Runs.{run_some, run_none}
use Rattle.storage.specs.Stored.{EncodesRecords}
use Rattle.storage.proofs.Read.{row_at, count_at, room_at, storage_read, records_count, records_of}
use Rattle.sweep_laws.specs.Marked.{StoredMarked, Loaded, EncodesMarked}
use Rattle.sweep_laws.specs.Ways.{segment_at, unreferenced_at, held_at, removed_at, freed, struck_only, compacted, referenced_at, Chosen}
use Rattle.sweep_laws.proofs.Frees.{find_same}

-- ---- record k, loaded

module _ (n : ℕ) (few : n ≤ 16) (words : List ℕ) (d : EncodesRecords n words (records_in n words)) (k : ℕ) (h : k < length (records_in n words)) where
  abbrev seg : Segment
  seg = segment_at n words k

  seg_n : length seg ≡ n
  seg_n = count_at n words (records_in n words) d k h

  seg_few : length seg ≤ 16
  seg_few = omega (arith, seg_n)

  pub record_at_lem : (r : Record) → r ≡ record_in n (take (record_words n) (drop (k * record_words n) words)) → r ≡ record_of seg
  record_at_lem r e = e ∙ ap (record_in n) (row_at n words (records_in n words) d k h) ∙ record_words_lem n seg seg_n

  pub held_most : held_at n words k ≤ 16
  held_most = omega (arith, count_most is_held seg, seg_few)

  pub held_count : (r : Record) (unreferenced s : ℕ) → Loaded n words k r unreferenced → s ≡ count is_held (positions r) → s ≡ held_at n words k
  held_count r unreferenced s l e = e ∙ ap (count is_held) (ap positions l.is ∙ positions_of seg seg_few)

  module _ (r : Record) (e : r ≡ record_in n (take (record_words n) (drop (k * record_words n) words))) where
    pub loaded_formed : Formed r
    loaded_formed = formed_of r seg (record_at_lem r e) seg_few

    pub loaded : (unreferenced : ℕ) → unreferenced ≡ mask_of is_unreferenced (positions r) → Loaded n words k r unreferenced
    loaded unreferenced eg =
        let is : r ≡ record_of seg = record_at_lem r e in
        record {
          inside = h;
          room = room_at n words (records_in n words) d k h;
          is = is;
          gone = eg ∙ ap (mask_of is_unreferenced) (ap positions is ∙ positions_of seg seg_few);
        }

pub encodes_records : {m : Measures} {pool words : List ℕ} {marks : List Bool} → StoredMarked m pool words marks → EncodesRecords m.segment_blocks words (records_in m.segment_blocks words)
unfolding storage_in
encodes_records kept = kept.encodes_marked.encodes.records

pub unreferenced_ones : (n : ℕ) (words : List ℕ) (k : ℕ) (r : Record) (unreferenced : ℕ) → Loaded n words k r unreferenced → ones unreferenced ≡ unreferenced_at n words k
unreferenced_ones n words k r unreferenced l = ap ones l.gone ∙ ones_mask is_unreferenced (segment_at n words k)

pub unreferenced_within : (n : ℕ) (words : List ℕ) (k : ℕ) → unreferenced_at n words k ≤ held_at n words k
unreferenced_within n words k = omega (arith, referenced_count (segment_at n words k))

-- ---- the ways

module _ (m : Measures) (pool words : List ℕ) (k : ℕ) where
  abbrev n : ℕ
  n = m.segment_blocks

  pub removed_none : unreferenced_at n words k ≡ 0 → removed_at m pool words k ≡ storage_in m pool words
  unfolding remove_from
  removed_none e = rw (eq-eqb (unreferenced_at n words k) 0 e)

  pub removed_all : (unreferenced_at n words k ≡ 0 → ⊥) → unreferenced_at n words k ≡ held_at n words k → removed_at m pool words k ≡ freed m pool words k
  unfolding remove_from
  removed_all z e = rw (ne_eqb (unreferenced_at n words k) 0 z, eq-eqb (unreferenced_at n words k) (held_at n words k) e)

  pub removed_few : (unreferenced_at n words k ≡ 0 → ⊥) → (unreferenced_at n words k ≡ held_at n words k → ⊥) → 100 * unreferenced_at n words k < m.rebuild_percent * held_at n words k
      → removed_at m pool words k ≡ struck_only m pool words k
  unfolding remove_from
  removed_few z e h = rw (ne_eqb (unreferenced_at n words k) 0 z, ne_eqb (unreferenced_at n words k) (held_at n words k) e, lt-ltb (100 * unreferenced_at n words k) (m.rebuild_percent * held_at n words k) h)

  pub removed_many : (unreferenced_at n words k ≡ 0 → ⊥) → (unreferenced_at n words k ≡ held_at n words k → ⊥) → m.rebuild_percent * held_at n words k ≤ 100 * unreferenced_at n words k
      → removed_at m pool words k ≡ compacted m pool words k
  unfolding remove_from
  removed_many z e h = rw (ne_eqb (unreferenced_at n words k) 0 z, ne_eqb (unreferenced_at n words k) (held_at n words k) e, le-ltb (100 * unreferenced_at n words k) (m.rebuild_percent * held_at n words k) h)

  pub removed_is : removed_at m pool words k ≡ sweep_record m (storage_in m pool words) k
  unfolding sweep_record storage_in
  removed_is = refl

  -- with no run, only the freed cells are cleared
  compacted_none : find_run (storage_in m pool words) (referenced_at n words k) ≡ none → compacted m pool words k ≡ struck_only m pool words k
  unfolding compact
  compacted_none e = rw e

-- the run that the code finds
module _ (m : Measures) (pool words : List ℕ) (marks : List Bool) (kept : StoredMarked m pool words marks) (k need : ℕ) (en : need ≡ referenced_at m.segment_blocks words k)
    (run : RunStruct) (er : as_run run ≡ scan need (map not marks) 0 0 none) where
  found : find_run (storage_in m pool words) (referenced_at m.segment_blocks words k) ≡ as_run run
  found =
      find_same (storage_in m pool words) kept.exact (referenced_at m.segment_blocks words k) marks kept.encodes_marked.marked (as_run run)
      (er ∙ ap (λ (n : ℕ). scan n (map not marks) 0 0 none) en)

  pub run_chosen : 0 < referenced_at m.segment_blocks words k → (run.size ≡ 0 → ⊥) → Chosen m pool words k run.start.0
  run_chosen n z = record {
    run = record { start = run.start.0; cells = run.size };
    found = found ∙ run_some run.start.0 run.size z;
    at = refl;
    needed = n;
  }

  pub run_missing : run.size ≡ 0 → compacted m pool words k ≡ struck_only m pool words k
  run_missing z = compacted_none m pool words k (found ∙ run_none run.start.0 run.size z)

-- a storage by another name
pub recoded : {m : Measures} {p w : List ℕ} {o : List Bool} {s t : Storage} → t ≡ s → EncodesMarked m p w o s → EncodesMarked m p w o t
recoded {m} {p} {w} {o} e d = subst (λ (x : Storage). EncodesMarked m p w o x) (sym e) d

-- ---- the next record's turn

module _ (m : Measures) (pool words : List ℕ) (marks : List Bool) (kept : StoredMarked m pool words marks) (k : ℕ) (h : k < length (records_in m.segment_blocks words))
    (p w : List ℕ) (o : List Bool) (lp : length p ≡ length pool) (lw : length w ≡ length words) (lo : length o ≡ length marks)
    (d : EncodesMarked m p w o (sweep_record m (storage_in m pool words) k)) where
  next_storage : storage_in m p w ≡ sweep_record m (storage_in m pool words) k
  next_storage = storage_read m kept.measured p w (sweep_record m (storage_in m pool words) k) d.encodes

  inside : k < length (storage_in m pool words).records
  unfolding storage_in
  inside = h

  next_kept : StoredMarked m p w o
  next_kept = record {
    measured = kept.measured;
    encodes_marked = subst (λ (s : Storage). EncodesMarked m p w o s) (sym next_storage) d;
    exact = subst (λ (s : Storage). Exact s) (sym next_storage) (record_keeps m (storage_in m pool words) kept.exact k inside).exact;
    some = omega (arith, kept.some);
    few = omega (arith, kept.few);
    bytes = lp ∙ kept.bytes ∙ ap (λ (i : ℕ). i * m.block_bytes) (sym lo);
    short = omega (arith, kept.short);
  }

sweep_next : (m : Measures) (sh : Storage) (n k : ℕ) → k < n → sweep_from m (sweep_record m sh k) (k + 1) (n - (k + 1)) ≡ sweep_from m sh k (n - k)
unfolding sweep_from
sweep_next m sh n k h =
    let e : n - k ≡ suc (n - (k + 1)) = omega arith in
    rw (e, add-one k)

-- the loop over the records
pub record Swept (m : Measures) (pool₀ words₀ : List ℕ) (marks₀ : List Bool) (n : ℕ) (pool words : List ℕ) (marks : List Bool) (k : ℕ) : Type 0 where
  pub kept : StoredMarked m pool words marks
  pub lp : length pool ≡ length pool₀
  pub lw : length words ≡ length words₀
  pub lo : length marks ≡ length marks₀
  pub inside : k ≤ n
  pub all : n ≡ length words₀ / record_words m.segment_blocks
  pub rest : sweep_from m (storage_in m pool words) k (n - k) ≡ sweep_from m (storage_in m pool₀ words₀) 0 n

pub swept_start : (m : Measures) (pool words : List ℕ) (marks : List Bool) (n : ℕ) → StoredMarked m pool words marks → n ≡ length words / record_words m.segment_blocks → Swept m pool words marks n pool words marks 0
swept_start m pool words marks n kept e = record {
  kept = kept;
  lp = refl;
  lw = refl;
  lo = refl;
  inside = omega arith;
  all = e;
  rest = let z : n - 0 ≡ n = omega arith in ap (λ (i : ℕ). sweep_from m (storage_in m pool words) 0 i) z;
}

module _ (m : Measures) (pool₀ words₀ : List ℕ) (marks₀ : List Bool) (n : ℕ) (pool words : List ℕ) (marks : List Bool) (k : ℕ) (s : Swept m pool₀ words₀ marks₀ n pool words marks k) where
  pub swept_inside : k < n → k < length (records_in m.segment_blocks words)
  swept_inside h = rw (records_count m.segment_blocks words, s.lw) (omega (arith, s.all))

  pub swept_next : k < n → (p w : List ℕ) (o : List Bool) → length p ≡ length pool → length w ≡ length words → length o ≡ length marks
      → EncodesMarked m p w o (sweep_record m (storage_in m pool words) k) → Swept m pool₀ words₀ marks₀ n p w o (k + 1)
  swept_next h p w o lp lw lo d =
      let i = swept_inside h in
      record {
        kept = next_kept m pool words marks s.kept k i p w o lp lw lo d;
        lp = lp ∙ s.lp;
        lw = lw ∙ s.lw;
        lo = lo ∙ s.lo;
        inside = omega arith;
        all = s.all;
        rest =
            ap (λ (x : Storage). sweep_from m x (k + 1) (n - (k + 1))) (next_storage m pool words marks s.kept k i p w o lp lw lo d)
            ∙ sweep_next m (storage_in m pool words) n k h ∙ s.rest;
      }

  pub swept_all : n ≤ k → EncodesMarked m pool words marks (sweep m (storage_in m pool₀ words₀))
  unfolding sweep sweep_from
  swept_all h =
      let z : n - k ≡ 0 = omega arith in
      let e : storage_in m pool words ≡ sweep_from m (storage_in m pool₀ words₀) 0 n =
      ap (λ (i : ℕ). sweep_from m (storage_in m pool words) k i) (sym z) ∙ s.rest in
      let c : length (storage_in m pool₀ words₀).records ≡ length words₀ / record_words m.segment_blocks = ap length (records_of m pool₀ words₀) ∙ records_count m.segment_blocks words₀ in
      let f : storage_in m pool words ≡ sweep_from m (storage_in m pool₀ words₀) 0 (length (storage_in m pool₀ words₀).records) =
      e ∙ ap (λ (i : ℕ). sweep_from m (storage_in m pool₀ words₀) 0 i) (s.all ∙ sym c) in
      subst (λ (x : Storage). EncodesMarked m pool words marks x) f s.kept.encodes_marked
