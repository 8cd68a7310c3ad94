-- Demand 3: what holds after every list of calls. One type, `Demand3`, with a field for each sentence of the page; proofs/Demand.antt has its proof.
use Rattle.std.specs.Prelude.{ℕ, ◌*◌, ◌≤◌, ◌<◌, ◌≡◌, ◌↔◌, true, false, cond, ◌||◌, List, [], ◌∷◌, ◌++◌, map, length, get_or, drop, eqb, leb, ltb}
use Rattle.std.proofs.Math.Option.{some, Option}
use Rattle.lists.specs.Lists.{counted, count, total, rises, is_in, all_zero}
use Rattle.lists.specs.Rows.{fill}
use Rattle.lists.specs.Each.{Each}
use Rattle.model.specs.Measures.{Shape}
use Rattle.model.specs.State.{Block, Pointer, null_pointer, blank_pointer, direct, indirect, Version, Rights, staff, State}
use Rattle.model.specs.Image.{Era, with_blanks, is_bare, image_blocks}
use Rattle.model.specs.Records.{named_cells, cell_at, position_at, cell_of, is_held}
use Rattle.model.specs.Trace.{longest_chain}
use Rattle.model.specs.Table.{state_to_words, state_to_bytes, cells_in}
use Rattle.model.specs.Sound.{store_of, next_pointers}
use Rattle.model.specs.Calls.{layout_of, BackupAnswer, RestoreAnswer, RetireAnswer, ListingAnswer, VersionOnAnswer, empty_state, till_of, held_from, not_held}
use Rattle.model.specs.Rights.{Right, to_list, to_restore, to_retire, user_refusal, not_owner, unless, backup_as, restore_as, retire_as, listing_as, version_on_as, tally_as, set_rights_of}
use Rattle.stream.specs.Stream.{StreamAnswer, stream_of, read_stream}
use Rattle.stream.specs.Version.{write_stream_as}
use Rattle.sent.specs.Sent.{backup_sent_as}
use Rattle.bill.specs.Bill.{bill_as}
use Rattle.closing.specs.Closing.{images_in, AllAnswer, backup_all_as}
use Rattle.history.specs.Calls.{Call, call_backup, call_backup_sent, Buffers, till_named}
use Rattle.history.specs.Users.{UserCall, right_for, refusal_by, buffers_after_all, answers_of, refused_layouts, state_after_all, answers_in}
use Rattle.history.specs.Keeper.{Kept, Keeper, fresh_keeper, kept_till, fed, fed_each, numbers_given, comes_to, fed_all, kept_from, kept_not_after, oldest_kept, newest_kept}

-- the pointers of a till's version of that number; `next_pointers` gives those of the first version of a list
unfoldable pub pointers_held : State → ℕ → ℕ → List Pointer
pointers_held st t v = next_pointers (held_from v (till_of st t).versions)

abbrev pub IsDirect : Pointer → Type 0
IsDirect null_pointer = ⊥
IsDirect blank_pointer = ⊥
IsDirect (direct k i) = Unit {0}
IsDirect (indirect n) = ⊥

abbrev pub NeverFall : List ℕ → Type 0
NeverFall [] = Unit {0}
NeverFall (day ∷ days) = Each (λ later. day ≤ later) days × NeverFall days

-- a cell that some held version's direct pointer leads to
pub record LedTo (st : State) (c : ℕ) : Type 0 where
  pub till : ℕ
  pub version : ℕ
  pub block : ℕ
  pub segment : ℕ
  pub position : ℕ
  pub there : get_or (pointers_held st till version) block null_pointer ≡ direct segment position
  pub is_here : is_held (position_at st.storage segment position) ≡ true
  pub cell : cell_of (position_at st.storage segment position) ≡ c

-- After a list: the state `st`, the keeper `k` and the buffers `b`, for blocks of that many bytes.
module _ (bytes : ℕ) (st : State) (k : Keeper) (b : Buffers) where
  -- version `v` of till `t` is held, by the keeper: it is `x`, and `newer` are the newer ones, the next newer first
  abbrev pub IsKept : ℕ → ℕ → Kept → List Kept → Type 0
  IsKept t v x newer = kept_from v (kept_till k t).versions ≡ x ∷ newer

  -- §9: the refusal of user `u` on till `t`, by the rights that are kept, 0 if there is none; and that user `u` may: 3 comes before the rights, so anyone
  -- may on a till that is not there
  abbrev pub kept_refusal : ℕ → ℕ → Right → ℕ
  kept_refusal u t right = user_refusal (leb (length k) t) (kept_till k t).rights u right

  abbrev pub May : ℕ → ℕ → Right → Type 0
  May u t right = kept_refusal u t right ≡ 0

  abbrev pub restoring : ℕ → ℕ → ℕ → List ℕ → RestoreAnswer
  restoring u t v output = restore_as b.pool b.table u t v output

  pub record Restores : Type 0 where
    -- "A restore of a held version, with an output long enough, gets none of 10, 3, 17, 18 and 5": it is accepted, "answers the image's length and writes the
    -- image; later bytes of the output stay"; and its longest chain is "the most so followed for any one block"
    pub given : (u t v : ℕ) (x : Kept) (newer : List Kept) (output : List ℕ) → May u t to_restore → IsKept t v x newer → length x.image ≤ length output
        → ((restoring u t v output).refusal ≡ 0)
        × ((restoring u t v output).length ≡ length x.image)
        × ((restoring u t v output).output ≡ x.image ++ drop (length x.image) output)
        × ((restoring u t v output).hops ≡ longest_chain (held_from v (till_of st t).versions))
    pub short : (u t v : ℕ) (x : Kept) (newer : List Kept) (output : List ℕ) → May u t to_restore → IsKept t v x newer → length output < length x.image
        → (restoring u t v output).refusal ≡ 5
    -- "A restore of a version not held is refused": of a till that is there, with 17 or 18 as the keeper's last number says
    pub not_held : (u t v : ℕ) (output : List ℕ) → May u t to_restore → kept_from v (kept_till k t).versions ≡ [] → t < length k → (restoring u t v output).refusal ≡ not_held (kept_till k t).last v
    pub no_till : (u t v : ℕ) (output : List ℕ) → length k ≤ t → (restoring u t v output).refusal ≡ 3
    -- "The longest chain that restore answers … is 0 for a till's newest version and for another at most the number of newer ones held": both in one
    pub chain : (u t v : ℕ) (x : Kept) (newer : List Kept) (output : List ℕ) → May u t to_restore → IsKept t v x newer → (restoring u t v output).hops ≤ length newer

  abbrev pub writing : ℕ → ℕ → ℕ → List ℕ → StreamAnswer
  writing u t v output = write_stream_as b.pool b.table u t v output

  pub record Streams : Type 0 where
    -- "A version is written out as a stream": a held one, with an output long enough, as its image's. The call "answers the stream's length"; later bytes of
    -- the output stay.
    pub given : (u t v : ℕ) (x : Kept) (newer : List Kept) (output : List ℕ) → May u t to_restore → IsKept t v x newer → length (stream_of x.image) ≤ length output
        → ((writing u t v output).refusal ≡ 0)
        × ((writing u t v output).length ≡ length (stream_of x.image))
        × ((writing u t v output).output ≡ stream_of x.image ++ drop (length (stream_of x.image)) output)
    -- "with 5 for an output shorter than the stream"
    pub short : (u t v : ℕ) (x : Kept) (newer : List Kept) (output : List ℕ) → May u t to_restore → IsKept t v x newer → length output < length (stream_of x.image)
        → (writing u t v output).refusal ≡ 5
    -- a version not held is refused, as a restore of it is
    pub not_held : (u t v : ℕ) (output : List ℕ) → May u t to_restore → kept_from v (kept_till k t).versions ≡ [] → t < length k → (writing u t v output).refusal ≡ not_held (kept_till k t).last v
    pub no_till : (u t v : ℕ) (output : List ℕ) → length k ≤ t → (writing u t v output).refusal ≡ 3
    -- "reading it gives the image"
    pub read_again : (t v : ℕ) (x : Kept) (newer : List Kept) (output : List ℕ) → IsKept t v x newer → length x.image ≤ length output
        → read_stream (stream_of x.image) output ≡ record { refusal = 0; length = length x.image; output = x.image ++ drop (length x.image) output }

  abbrev pub listing_at : ℕ → ℕ → ListingAnswer
  listing_at u t = listing_as b.pool b.table u t

  abbrev pub backing_up : Era → ℕ → ℕ → Option ℕ → List ℕ → BackupAnswer
  backing_up era u t d image = backup_as era b.pool b.table u t d image

  abbrev pub sending : ℕ → ℕ → ℕ → List ℕ → List ℕ → List ℕ → BackupAnswer
  sending u t bytes fingerprints marks segments = backup_sent_as b.pool b.table u t bytes fingerprints marks segments

  abbrev pub closing : ℕ → List ℕ → List ℕ → List ℕ → AllAnswer
  closing u tills lengths images = (backup_all_as b.pool b.table u tills lengths images).answer

  abbrev pub retiring : ℕ → ℕ → ℕ → RetireAnswer
  retiring u t v = retire_as b.pool b.table u t v

  pub record Answers : Type 0 where
    -- "An accepted listing answers the keeper's oldest, newest (0 and 0 if none is held) and last number"
    pub listing : (u t : ℕ) → (listing_at u t).refusal ≡ 0
        → ((listing_at u t).oldest ≡ oldest_kept (kept_till k t).versions)
        × ((listing_at u t).newest ≡ newest_kept (kept_till k t).versions)
        × ((listing_at u t).last ≡ (kept_till k t).last)
    -- "an accepted backup the keeper's new last number"
    pub backup : (era : Era) (u t : ℕ) (d : Option ℕ) (image : List ℕ) → (backing_up era u t d image).refusal ≡ 0
        → (backing_up era u t d image).version ≡ (kept_till (fed k (call_backup era t d image) true) t).last
    -- and so does an accepted second message of §5, which the keeper is fed as the backup of the image put together
    pub backup_sent : (u t bytes : ℕ) (fingerprints marks segments : List ℕ) → (sending u t bytes fingerprints marks segments).refusal ≡ 0
        → (sending u t bytes fingerprints marks segments).version
        ≡ (kept_till (fed_each k (comes_to b u (call_backup_sent t bytes fingerprints marks segments))) t).last
    -- and so does each accepted image of a closing of §7, one after the other; a refused one answers 0
    pub backup_all : (u : ℕ) (tills lengths images : List ℕ) → (closing u tills lengths images).refusal ≡ 0
        → (closing u tills lengths images).versions ≡ fill 16 (numbers_given k (images_in tills lengths images) (closing u tills lengths images).refusals)
    -- a held version "now goes", whichever it is
    pub goes : (u t v : ℕ) (x : Kept) (newer : List Kept) → May u t to_retire → IsKept t v x newer → (retiring u t v).refusal ≡ 0
    -- and one not held is refused, of a till that is there with 17 or 18 as the keeper's last number says
    pub not_held : (u t v : ℕ) → May u t to_retire → kept_from v (kept_till k t).versions ≡ [] → t < length k → (retiring u t v).refusal ≡ not_held (kept_till k t).last v
    -- "an accepted retire the struck image's length"
    pub retire : (u t v : ℕ) → (retiring u t v).refusal ≡ 0
        → (x : Kept) × (newer : List Kept) × (IsKept t v x newer) × ((retiring u t v).length ≡ length x.image)

  abbrev pub version_on : ℕ → ℕ → ℕ → VersionOnAnswer
  version_on u t day = version_on_as b.pool b.table u t day

  -- §13: "what is said about the images of held versions covers their days too, as the version record keeps them and lookup goes by them"
  pub record Days : Type 0 where
    pub kept : (t : ℕ) → map (λ (v : Version). v.day) (till_of st t).versions ≡ map (λ (x : Kept). x.day) (kept_till k t).versions
    -- a day is "equal to or later than that of the till's newest held version": from older to newer they never fall
    pub ordered : (t : ℕ) → NeverFall (map (λ (x : Kept). x.day) (kept_till k t).versions)
    -- "Lookup by day gives the newest held version not after the day"
    pub given : (u t day : ℕ) (x : Kept) (xs : List Kept) → May u t to_list → kept_not_after day (kept_till k t).versions ≡ x ∷ xs
        → ((version_on u t day).refusal ≡ 0) × ((version_on u t day).version ≡ newest_kept (x ∷ xs))
    pub none : (u t day : ℕ) → May u t to_list → kept_not_after day (kept_till k t).versions ≡ [] → t < length k → (version_on u t day).refusal ≡ 29
    pub no_till : (u t day : ℕ) → length k ≤ t → (version_on u t day).refusal ≡ 3

  -- block `n` of a kept image
  abbrev pub block_of : Kept → ℕ → Block
  block_of x n = get_or (image_blocks bytes x.image) n []

  pub record Shares : Type 0 where
    -- "If a … block of an image equals a block of the next newer version's image, its pointer is not direct", where the older "was the till's newest when
    -- the newer one was taken"; "the blocks exempt from sharing are the null and the blank"
    pub not_direct : (t v : ℕ) (x y : Kept) (newer : List Kept) (n i : ℕ) → IsKept t v x (y ∷ newer) → y.previous ≡ x.number
        → n < length (image_blocks bytes x.image) → i < length (image_blocks bytes y.image) → ¬ (is_bare with_blanks (block_of x n) ≡ true) → block_of x n ≡ block_of y i
        → ¬ IsDirect (get_or (pointers_held st t v) n null_pointer)

  -- "The occupied cells (those that positions name), the cells with a byte other than zero, and the cells that some held version's direct pointer leads
  -- to are the same ones; an accepted tally's first number counts them"
  pub record Cells (s : Shape) : Type 0 where
    pub in_pool : cells_in bytes b.pool ≡ st.storage.cells
    pub non_zero : (c : ℕ) → (is_in c (named_cells st.storage.records) ≡ true) ↔ (all_zero (cell_at st.storage c) ≡ false)
    pub led : (c : ℕ) → (is_in c (named_cells st.storage.records) ≡ true) ↔ LedTo st c
    pub inside : (c : ℕ) → is_in c (named_cells st.storage.records) ≡ true → c < s.capacities.cells
    -- §14: "The sums together are exactly p × occupied cells, whatever has been backed up or retired"
    pub billed : (u price : ℕ) → (bill_as b.pool b.table u price).refusal ≡ 0
        → total (λ n. n) (bill_as b.pool b.table u price).sums ≡ price * count (λ c. is_in c (named_cells st.storage.records)) (counted (λ c. c) 0 s.capacities.cells)
    pub counts : (u : ℕ) → (tally_as b.pool b.table u).refusal ≡ 0
        → (tally_as b.pool b.table u).cells ≡ count (λ c. is_in c (named_cells st.storage.records)) (counted (λ c. c) 0 s.capacities.cells)

  -- §9, by the rights that are kept, which are those last set
  pub record Keys : Type 0 where
    pub kept : (t : ℕ) → (till_of st t).rights ≡ (kept_till k t).rights
    -- "22 for an unknown user …, then 23 for a missing right, both after 3": of every call that needs a right on its till
    pub refused : (u : ℕ) (call : Call) (right : Right) → right_for call ≡ some right → ¬ May u (till_named call) right → refusal_by b u call ≡ kept_refusal u (till_named call) right
    -- "The tally belongs to the owner"
    pub tally : (u : ℕ) → (tally_as b.pool b.table u).refusal ≡ not_owner u
    -- and so does the bill: "30 for a price above 10,000, after 10 and the rights, which are the owner's only"
    pub bill : (u price : ℕ) → (bill_as b.pool b.table u price).refusal ≡ unless (not_owner u) (λ n. n) (cond (ltb 10000 price) 30 0)
    -- "The owner … sets the others"; 22 is also "for … a change to user 0's rights"
    pub set : (u subject t : ℕ) (r : Rights) → (set_rights_of b.pool b.table u subject t r).refusal
        ≡ cond (leb (length k) t) 3 (cond (ltb staff u || (eqb subject 0 || ltb staff subject)) 22 (cond (ltb 0 u) 23 0))

  pub record Holds (s : Shape) : Type 0 where
    -- "the store [is the one] that the calls … give call by call from the empty store"
    pub is_store : store_of b.pool b.table ≡ some (record { shape = s; state = st })
    pub pool : b.pool ≡ state_to_bytes st
    pub table : b.table ≡ state_to_words s st
    -- the keeper's numbers rise, each at least 1 and at most the last given: newer in the list is newer by number
    pub numbers : (t : ℕ) → rises 0 (kept_till k t).last (map (λ (x : Kept). x.number) (kept_till k t).versions) ≡ true
    pub restores : Restores
    pub streams : Streams
    pub answers : Answers
    pub days : Days
    pub keys : Keys
    pub shares : Shares
    pub cells : Cells s

-- a list of calls from a store laid out in `b`
pub record Demands (s : Shape) (b : Buffers) (calls : List UserCall) : Type 0 where
  -- "the answers … are those that the calls … give call by call from the empty store"
  pub answers : answers_of b calls ≡ answers_in s (empty_state s) calls
  pub after : Holds s.measures.block_bytes (state_after_all s (empty_state s) calls) (fed_all (fresh_keeper s.capacities) b calls) (buffers_after_all b calls) s

unfoldable pub laid_out_in : Shape → List ℕ → List ℕ → Buffers
laid_out_in s pool table = record { pool = (layout_of s pool table).pool; table = (layout_of s pool table).table }

-- The single claim: from any accepted lay out, with any capacities, after every list of calls, with any arguments, whose lay outs are refused.
abbrev pub Demand3 : Type 0
Demand3 =
    (s : Shape) (pool table : List ℕ) (calls : List UserCall) → (layout_of s pool table).refusal ≡ 0 → refused_layouts (laid_out_in s pool table) calls
    → Demands s (laid_out_in s pool table) calls
