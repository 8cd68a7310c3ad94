-- Streams computed from the definitions: every refusal of the reader and the order in which they are met, streams of images, and what the writer answers on
-- stores of two measures. One theorem, `rows_hold`.
use mathlib.Core.Path.{◌≡◌, refl}
use mathlib.Core.Bool.{Bool, true}
use mathlib.Core.List.{List, [], ◌∷◌, ◌++◌}
use mathlib.Core.Option.{Option, none, some}
use Prim.Native.Nat.{ℕ}
use lib.ListN.{length, take, drop, replicate}
use lib.Dec.{eqb}
use Rattle.lists.specs.Lists.{counted, every, keep, all_zero, all_of, same_numbers, largest}
use Rattle.lists.specs.Rows.{joined, fill}
use Rattle.lists.specs.Masks.{mask_of}
use Rattle.model.specs.Measures.{is_within, parts_for}
use Rattle.model.specs.State.{direct, held, null_position, State}
use Rattle.model.specs.Image.{zero_block, block_from, blocks_from, segments_from, image_segments}
use Rattle.model.specs.Records.{cell_at, position_at}
use Rattle.model.specs.Trace.{hops_via, end_via, hops, end_of, block_at, traced_block, traced_blocks, image_of, longest_chain}
use Rattle.model.specs.Sound.{Store}
use Rattle.model.specs.Calls.{till_of, held_from, restore_refusal, restore_from, restore, restore_in, held_before, first_of, not_held, look_up}
use Rattle.stream.specs.Stream.{StreamAnswer, stream_refusal, has_stream, four_bytes, group_bytes, stream_of, write_stream, passed, stopped, and_then, may_stand, read_block, read_blocks, read_group, read_groups, read_end, read_body, length_in, delivered, read_stream}
use Rattle.stream.specs.Version.{longest_output, write_restored}

data Row : Type 0 where
  -- a reading: the stream, the room for the image, the refusal, and the image, none if refused
  read : (stream : List ℕ) (room refusal : ℕ) (image : List ℕ) → Row
  -- an image and its stream
  stream : (image bytes : List ℕ) → Row
  -- a writing of an image's stream: the room, the refusal, and the stream, none if refused
  put : (image : List ℕ) (room refusal : ℕ) (bytes : List ℕ) → Row
  -- a writing of version v of till t: the room, the refusal, and the stream, none if refused
  write : (store : Option Store) (t v room refusal : ℕ) (bytes : List ℕ) → Row

-- The answer has that refusal and these bytes' length; they stand in front, and the output behind them is untouched, all of it if there are none.
gives : StreamAnswer → ℕ → ℕ → List ℕ → Bool
gives a room refusal bytes =
    all_of (eqb a.refusal refusal ∷ eqb a.length (length bytes) ∷ same_numbers a.output (bytes ++ drop (length bytes) (replicate room 170)) ∷ [])

holds : Row → Bool
holds (read s room refusal image) = gives (read_stream s (replicate room 170)) room refusal image
holds (stream image bytes) = same_numbers (stream_of image) bytes
holds (put image room refusal bytes) = gives (write_stream image (replicate room 170)) room refusal bytes
holds (write store t v room refusal bytes) = gives (write_restored (restore_in store t v longest_output) (replicate room 170)) room refusal bytes

-- ---- an image of 65 bytes

image : List ℕ
image = replicate 64 12 ++ (11 ∷ [])

-- The length, the map, the byte that fills the first block, the second block's second and last byte. Its first byte is 11, the others are 0.
two : ℕ → ℕ → ℕ → ℕ → ℕ → List ℕ
two n map first second last = (n ∷ 0 ∷ 0 ∷ 0 ∷ map ∷ replicate 64 first) ++ ((11 ∷ second ∷ replicate 61 0) ++ (last ∷ []))

sound : List ℕ
sound = two 65 3 12 0 0

-- the same as version 3 of till 0, in a store of 64-byte blocks and in one of 128-byte blocks
store_with : ℕ → ℕ → State → Option Store
store_with bytes blocks st = some (record {
  shape = record {
    measures = record { block_bytes = bytes; segment_blocks = 4; rebuild_percent = 20 };
    capacities = record { tills = 1; versions = 2; blocks = blocks; records = 1; cells = 2 };
  };
  state = st;
})

small : Option Store
small =
    store_with 64 2 (record {
      tills = record { last = 3; rights = []; versions = record { number = 3; length = 65; day = 0; pointers = direct 0 0 ∷ direct 0 1 ∷ [] } ∷ [] } ∷ [];
      storage = record { records = (held 0 1 ∷ held 1 1 ∷ null_position ∷ null_position ∷ []) ∷ []; cells = replicate 64 12 ∷ (11 ∷ replicate 63 0) ∷ [] };
    })

large : Option Store
large =
    store_with 128 1 (record {
      tills = record { last = 3; rights = []; versions = record { number = 3; length = 65; day = 0; pointers = direct 0 0 ∷ [] } ∷ [] } ∷ [];
      storage = record { records = (held 1 1 ∷ null_position ∷ null_position ∷ null_position ∷ []) ∷ []; cells = replicate 128 0 ∷ (replicate 64 12 ++ (11 ∷ replicate 63 0)) ∷ [] };
    })

rows : List Row
rows =
    -- an output shorter than the stream, and a longer one; no store
    put image 132 5 []
    ∷ put image 135 0 sound
    ∷ write none 0 3 133 10 []
    -- readings
    ∷ read sound 65 0 image
    ∷ read sound 67 0 image
    -- no length; a length that no image has, at both ends; right after it an output too short
    ∷ read (take 3 sound) 65 24 []
    ∷ read (take 4 (two 0 3 12 0 0)) 0 25 []
    ∷ read (1 ∷ 0 ∷ 1 ∷ 0 ∷ []) 65 25 []
    ∷ read (0 ∷ 0 ∷ 1 ∷ 0 ∷ []) 65 5 []
    ∷ read (two 65 255 0 1 1) 64 5 []
    ∷ read (take 4 sound) 64 5 []
    -- no map; a block cut short, whatever its bytes
    ∷ read (take 4 sound) 65 24 []
    ∷ read (take 68 sound) 65 24 []
    ∷ read (take 68 (two 65 3 0 0 0)) 65 24 []
    ∷ read (take 132 (two 65 3 12 1 1)) 65 24 []
    -- a bit on a null block, before a block cut short and before an excess
    ∷ read (two 65 3 0 0 0) 65 26 []
    ∷ read (take 100 (two 65 3 0 0 0)) 65 26 []
    ∷ read (two 65 3 0 0 0 ++ (0 ∷ [])) 65 26 []
    ∷ read (two 65 3 0 0 0 ++ replicate 400 0) 65 26 []
    -- a byte after the length, the first and the last
    ∷ read (two 65 3 12 1 0) 65 26 []
    ∷ read (two 65 3 12 0 1) 65 26 []
    -- a bit on a missing block, which stands in the map, before a block cut short
    ∷ read (two 65 7 12 0 0) 65 26 []
    ∷ read (take 68 (two 65 131 12 0 0)) 65 26 []
    -- an excess comes last
    ∷ read (sound ++ (0 ∷ [])) 65 24 []
    -- a null block has no bit, one of 255s has
    ∷ stream image sound
    ∷ stream (replicate 130 0) (130 ∷ 0 ∷ 0 ∷ 0 ∷ 0 ∷ [])
    ∷ stream (replicate 64 0 ++ replicate 64 255) (128 ∷ 0 ∷ 0 ∷ 0 ∷ 2 ∷ replicate 64 255)
    -- the ninth block begins a second group
    ∷ stream (replicate 512 0 ++ (7 ∷ [])) (1 ∷ 2 ∷ 0 ∷ 0 ∷ 0 ∷ 1 ∷ 7 ∷ replicate 63 0)
    -- the writer: 3, 17, 18, 5, and the same stream from both stores
    ∷ write small 1 3 133 3 []
    ∷ write small 0 4 132 17 []
    ∷ write small 0 2 132 18 []
    ∷ write small 0 3 132 5 []
    ∷ write small 0 3 135 0 sound
    ∷ write large 0 3 133 0 sound
    ∷ []

rows_hold : every holds rows ≡ true
unfolding rows holds gives image two sound store_with small large
    read_stream delivered stream_refusal has_stream is_within all_of length_in read_body read_groups read_group read_blocks read_block and_then passed stopped may_stand read_end parts_for
    stream_of write_stream four_bytes group_bytes joined mask_of keep image_segments segments_from blocks_from block_from fill zero_block all_zero every same_numbers
    write_restored longest_output restore_in restore restore_from restore_refusal till_of held_from held_before first_of not_held look_up image_of traced_blocks traced_block block_at end_of end_via hops hops_via longest_chain
    cell_at position_at counted largest
rows_hold = refl
