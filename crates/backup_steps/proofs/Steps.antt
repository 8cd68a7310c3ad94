-- The three steps, joined.
use mathlib.Core.Path.{◌≡◌, refl, sym, ap, ◌∙◌, subst}
use mathlib.Core.Bool.{Bool, true, false, cond}
use mathlib.Core.List.{List, map}
use Prim.Native.Nat.{ℕ, ◌≤◌, ◌<◌}
use native.Mathlib.Omega.{arith}
use lib.ListN.{length, get_or, take}
use lib.Dec.{lit<}
use Rattle.lists.specs.Each.{Each}
use Rattle.model.specs.Image.{image_blocks, image_segments, with_blanks}
use Rattle.model.specs.Measures.{Measures}
use Rattle.model.specs.Place.{Placed}
use Rattle.model.specs.Runs.{free_cells}
use Rattle.model.specs.State.{Block, Pointer, Segment, Storage, Outcome, refused, done}
use Rattle.model.specs.Table.{records_in, storage_in, pointer_word, word_to_pointer}
use Rattle.model.specs.Turn.{turn, turning}
use Rattle.laws.proofs.Remaining.{turning_suffices}
use Rattle.laws.specs.Storage.{Suffices}
use Rattle.place.specs.All.{placed_in, segments_in, PlaceResult}
use Rattle.place.proofs.Along.{few_segments}
use Rattle.place_undo.specs.Undo.{undo_upto}
use Rattle.backup_laws.proofs.Newest.{words_fit, words_back, turning_good}
use Rattle.backup_laws.proofs.Placed.{placed_stored, placed_words, placed_storage, placed_enough, refusal_positive}
use Rattle.storage.specs.Fits.{WithinRecords}
use Rattle.storage.specs.Stored.{Countable, Encodes}
use Rattle.storage.proofs.Read.{records_of}
use Rattle.turn.specs.Turn.{WordFits, Followable}
use Rattle.backup_steps.specs.Limit.{beyond, limited, RemovePre, RemoveResult}
use Rattle.backup_steps.specs.Steps.{Pointed, TurnPre, TurnResultIf, TurnResult, StorePre, StoreResult}

pub prev_fits : (n l : ℕ) (ws : List ℕ) → Pointed n l ws → (j : ℕ) → j < length ws → WordFits n l (get_or ws j 0)
prev_fits n l ws p j h =
    subst (λ (x : List ℕ). WordFits n l (get_or x j 0)) (sym p.canonical)
    (words_fit n l (map word_to_pointer ws) p.good j (subst (λ (x : List ℕ). j < length x) p.canonical h))

module _ (m : Measures) (image pool ws prev placed : List ℕ) (t : TurnPre m image pool ws prev placed) (out : List ℕ) (count segments : ℕ) where
  abbrev blocks : List Block
  blocks = image_blocks m.block_bytes image

  abbrev storage : Storage
  storage = storage_in m pool ws

  abbrev ps : List Pointer
  ps = turning with_blanks storage blocks (map word_to_pointer prev)

  good : Each (Followable m.segment_blocks (length ws)) ps
  good = turning_good m.segment_blocks (length ws) storage blocks (map word_to_pointer prev) t.pointers.good

  module _ (e : take count out ≡ map pointer_word ps) (q : segments ≡ segments_in m image) where
    -- those that turn are the first of the list
    gone_is : map word_to_pointer (take count out) ≡ ps
    gone_is = ap (map word_to_pointer) e ∙ words_back m.segment_blocks (length ws) ps good

    lead : (i : ℕ) → i < length (take count out) → WithinRecords m.segment_blocks (length ws) (word_to_pointer (get_or (take count out) i 0))
    lead i h =
        subst (λ (x : List ℕ). WithinRecords m.segment_blocks (length ws) (word_to_pointer (get_or x i 0))) (sym e)
        (words_fit m.segment_blocks (length ws) ps good i (subst (λ (x : List ℕ). i < length x) e h)).fits

    -- they can be let go, and claimed back
    pub turned_settling : count ≤ length prev → length out ≡ 1024 → RemovePre m pool ws out count placed segments
    turned_settling h l = record {
      stored = t.stored;
      few = omega (arith, h, t.pointers.few);
      within = omega (arith, h, l, t.pointers.few);
      resolves = lead;
      suffices = subst (Suffices (records_in m.segment_blocks ws)) (sym gone_is) (turning_suffices with_blanks storage blocks (records_in m.segment_blocks ws) (map word_to_pointer prev) t.suffices);
      counts = t.counts;
      inside = omega (arith, q, few_segments m image t.stored.measured t.short, t.placings);
    }

    pub turned_settled : (others most r : ℕ) (pool' ws' prev' : List ℕ)
        → RemoveResult (beyond others most m storage (map word_to_pointer (take count out))) m storage (map word_to_pointer (take count out)) (undo_upto m placed segments storage) r pool' ws'
        → prev' ≡ map pointer_word (turn with_blanks storage blocks (map word_to_pointer prev)) → TurnResult others most m image storage (map word_to_pointer prev) placed r pool' ws' prev'
    turned_settled others most r pool' ws' prev' d w =
        go (beyond others most m storage ps)
        (subst (λ (k : ℕ). RemoveResult (beyond others most m storage ps) m storage ps (undo_upto m placed k storage) r pool' ws') q
        (subst (λ (qs : List Pointer). RemoveResult (beyond others most m storage qs) m storage qs (undo_upto m placed segments storage) r pool' ws') gone_is d))
      where
        go : (b : Bool) → RemoveResult b m storage ps (undo_upto m placed (segments_in m image) storage) r pool' ws' → TurnResultIf b m storage blocks (map word_to_pointer prev) (undo_upto m placed (segments_in m image) storage) r pool' ws' prev'
        go true x = x
        go false x = (x.0, record { encodes = x.1; words = w })

-- ---- after placing

module _ (m : Measures) (image pool ws words prev : List ℕ) (h : StorePre m image pool ws words prev) (others most : ℕ) where
  abbrev o : Outcome Placed
  o = placed_in m image pool ws

  abbrev qs : List Pointer
  qs = map word_to_pointer prev

  abbrev bs : List Block
  bs = image_blocks m.block_bytes image

  module _ (r : ℕ) (pool' ws' placed' words' : List ℕ) (free' : List Bool) (d : PlaceResult m image o r pool ws pool' ws' placed' words' free') where
    pub turnable_so : r ≡ 0 → length placed' ≡ 256 → TurnPre m image pool' ws' prev placed'
    turnable_so z l = go o refl d
      where
        go : (x : Outcome Placed) → o ≡ x → PlaceResult m image x r pool ws pool' ws' placed' words' free' → TurnPre m image pool' ws' prev placed'
        go (refused n) e q = absurd (omega (arith, z, q.0, refusal_positive (storage_in m pool ws) (image_segments m.block_bytes m.segment_blocks image) n e))
        go (done p) e q =
            let is : records_in m.segment_blocks ws' ≡ p.storage.records = sym (records_of m pool' ws') ∙ ap (λ (x : Storage). x.records) (placed_storage m image pool ws h.ready.stored h.fits p e pool' ws' q.1.encodes) in
            record {
              short = h.ready.most;
              stored = placed_stored m image pool ws h.ready.stored h.fits p e pool' ws' q.1.encodes;
              pointers = subst (λ (l : ℕ). Pointed m.segment_blocks l prev) (sym (placed_words m image pool ws h.ready.stored h.fits p e pool' ws' q.1.encodes)) h.pointers;
              suffices = subst (λ (x : List Segment). Suffices x qs) (sym is) (placed_enough m image pool ws h.ready.stored h.fits p e qs (rw (records_of m pool ws) h.suffices));
              counts = subst (Countable 2147483904) (sym is) q.1.counts;
              placings = l;
            }

    -- the free cells are known for the sweep
    pub free_so : r ≡ 0 → free' ≡ free_cells (storage_in m pool' ws')
    free_so z = go o refl d
      where
        go : (x : Outcome Placed) → o ≡ x → PlaceResult m image x r pool ws pool' ws' placed' words' free' → free' ≡ free_cells (storage_in m pool' ws')
        go (refused n) e q = absurd (omega (arith, z, q.0, refusal_positive (storage_in m pool ws) (image_segments m.block_bytes m.segment_blocks image) n e))
        go (done p) e q = q.1.cells ∙ ap free_cells (sym (placed_storage m image pool ws h.ready.stored h.fits p e pool' ws' q.1.encodes))

    pub stored_so : r ≡ 0 → (r' : ℕ) (pool'' ws'' prev'' : List ℕ) → TurnResult others most m image (storage_in m pool' ws') qs placed' r' pool'' ws'' prev''
        → StoreResult m image qs (limited others most m bs qs o) r' pool ws pool'' ws'' words' prev''
    stored_so z r' pool'' ws'' prev'' t = go o refl d
      where
        go : (x : Outcome Placed) → o ≡ x → PlaceResult m image x r pool ws pool' ws' placed' words' free' → StoreResult m image qs (limited others most m bs qs x) r' pool ws pool'' ws'' words' prev''
        go (refused n) e q = absurd (omega (arith, z, q.0, refusal_positive (storage_in m pool ws) (image_segments m.block_bytes m.segment_blocks image) n e))
        go (done p) e q =
            either (beyond others most m p.storage (turning with_blanks p.storage bs qs))
            (subst (λ (s : Storage). TurnResult others most m image s qs placed' r' pool'' ws'' prev'') (placed_storage m image pool ws h.ready.stored h.fits p e pool' ws' q.1.encodes) t)
          where
            either : (b : Bool) → TurnResultIf b m p.storage bs qs (undo_upto m placed' (segments_in m image) p.storage) r' pool'' ws'' prev''
                → StoreResult m image qs (cond b (refused 21) (done p)) r' pool ws pool'' ws'' words' prev''
            either true x =
                let b : Encodes m pool'' ws'' (storage_in m pool ws) = subst (Encodes m pool'' ws'') q.1.back x.1 in
                (x.0, lit< tt, b.cells.joins ∙ sym h.ready.stored.encodes.cells.joins, b.records.words ∙ sym h.ready.stored.encodes.records.words)
            either false x = (x.0, x.1, q.1.pointers)
