-- A record's content, taken position by position.
use mathlib.Core.Path.{◌≡◌, refl, sym, ap, ◌∙◌}
use mathlib.Core.Bool.{cond}
use mathlib.Core.List.{List, [], ◌++◌}
use Prim.Native.Nat.{ℕ, ◌+◌, ◌*◌, ◌/◌, ◌%◌, ◌≤◌, ◌<◌}
use native.Mathlib.Nat.{mul_assoc}
use native.Mathlib.Omega.{arith}
use lib.ListN.{length, get_or, drop, replicate, length-drop, length-replicate}
use lib.Seq.{length-take-le}
use Rattle.lists.specs.Masks.{mask_of}
use Rattle.lists.specs.Rows.{joined, rows}
use Rattle.lists.proofs.Each.{each_of}
use Rattle.lists.proofs.Rows.{length_rows}
use Rattle.lists.proofs.Slices.{drop_next, drop_end}
use Rattle.lists.proofs.Walks.{mask_here, mask_after}
use Rattle.model.specs.Measures.{Measures}
use Rattle.model.specs.State.{Position, null_position, blank_position, held, removed, Segment, Storage}
use Rattle.model.specs.Image.{zero_block, blank_block}
use Rattle.model.specs.Records.{is_held, is_blank_position, cell_of}
use Rattle.model.specs.Table.{cells_in, record_to_words}
use Rattle.sha1_definition.specs.declared.State.{State}
use Rattle.sha1_definition.specs.Sha1.{absorb, absorbed, start, digest}
use Rattle.sha1_definition.specs.Chunks.{finished}
use Rattle.sha1_definition.proofs.Absorb.{absorbed_append}
use Rattle.sha1_definition.proofs.Messages.{by_parts}
use Rattle.storage.proofs.Free.{held_is, blank_is}
use Rattle.storage.proofs.Inside.{cell_is}
use Rattle.storage.proofs.Row.{cell_word}
use Rattle.sent.specs.Sent.{segment_bytes, content_of, zero_segment}

-- ---- lengths

-- a position's content is a block
content_length : (bytes : ℕ) (pool : List ℕ) (s : Storage) → s.cells ≡ cells_in bytes pool → 0 < bytes
    → (p : Position) → cell_of p * bytes + bytes ≤ length pool → length (content_of bytes s p) ≡ bytes
unfolding zero_block blank_block
content_length bytes pool s e z null_position room = length-replicate {A = ℕ} bytes 0
content_length bytes pool s e z blank_position room = length-replicate {A = ℕ} bytes 255
content_length bytes pool s e z (held c n) room =
    ap length (sym (cell_is bytes pool c z room s e)) ∙ length-take-le bytes (drop (c * bytes) pool) (omega (arith, length-drop (c * bytes) pool))
content_length bytes pool s e z removed room = length-replicate {A = ℕ} bytes 0

-- n blocks are whole chunks
whole_chunks : (n bytes : ℕ) → bytes % 64 ≡ 0 → n * bytes ≡ 64 * (n * bytes / 64)
whole_chunks n bytes e =
    let q : bytes ≡ bytes / 64 * 64 = omega (arith, e) in
    let p : n * bytes ≡ n * (bytes / 64) * 64 = ap (λ (b : ℕ). n * b) q ∙ sym (mul_assoc n (bytes / 64) 64) in
    omega (arith, p)

-- a segment of zeros
pub zeros_are : (m : Measures) → m.block_bytes % 64 ≡ 0 → (width : ℕ) → width ≡ m.segment_blocks * m.block_bytes → replicate {A = ℕ} (64 * (width / 64)) 0 ≡ zero_segment m
unfolding zero_segment segment_bytes zero_block
zeros_are m e width q = rw q (ap (λ (n : ℕ). replicate {A = ℕ} n 0) (sym (whole_chunks m.segment_blocks m.block_bytes e)))

-- ---- the record

-- what its words tell
pub record Given (bytes : ℕ) (pool row : List ℕ) (s : Storage) (seg : Segment) : Type 0 where
  pub cells : s.cells ≡ cells_in bytes pool
  pub words : row ≡ record_to_words seg
  pub room : (i : ℕ) → i < length seg → get_or row (3 + i) 0 * bytes + bytes ≤ length pool
  pub some : 64 ≤ bytes
  pub pieces : bytes % 64 ≡ 0

pub given : (bytes n : ℕ) (pool row : List ℕ) (s : Storage) (seg : Segment) → s.cells ≡ cells_in bytes pool → length seg ≡ n → row ≡ record_to_words seg
    → ((i : ℕ) → i < n → get_or row (3 + i) 0 * bytes + bytes ≤ length pool) → 64 ≤ bytes → bytes % 64 ≡ 0 → Given bytes pool row s seg
given bytes n pool row s seg e l q r z p = record { cells = e; words = q; room = λ i h. r i (omega (arith, l, h)); some = z; pieces = p }

-- i positions are taken: what is left, and its masks
pub record DigestTo (bytes : ℕ) (s : Storage) (seg : Segment) (h : State) (held blank i : ℕ) : Type 0 where
  pub held_mask : held ≡ mask_of is_held (drop i seg)
  pub blank_mask : blank ≡ mask_of is_blank_position (drop i seg)
  pub left : absorbed h (rows (content_of bytes s) (drop i seg)) ≡ absorbed start (rows (content_of bytes s) seg)

module _ {bytes : ℕ} {pool row : List ℕ} {s : Storage} {seg : Segment} (g : Given bytes pool row s seg) where
  wide_here : (i : ℕ) → i < length seg → length (content_of bytes s (get_or seg i null_position)) ≡ bytes
  wide_here i l =
      content_length bytes pool s g.cells (omega (arith, g.some)) (get_or seg i null_position)
      (rw (g.words, cell_word seg i l) at (g.room i l))

  pub digest_start : (h : State) → h ≡ start → DigestTo bytes s seg h (get_or row 0 0) (get_or row 2 0) 0
  digest_start h e = record {
    held_mask = held_is seg row g.words;
    blank_mask = blank_is seg row g.words;
    left = ap (λ (t : State). absorbed t (rows (content_of bytes s) seg)) e;
  }

  module _ {h : State} {held blank i : ℕ} (t : DigestTo bytes s seg h held blank i) where
    -- after one more, of which its bits and its cell word tell
    pub digest_next : i < length seg → (r : State)
        → ((p : Position) → held % 2 ≡ cond (is_held p) 1 0 → blank % 2 ≡ cond (is_blank_position p) 1 0 → get_or row (3 + i) 0 ≡ cell_of p → r ≡ absorbed h (content_of bytes s p))
        → DigestTo bytes s seg r (held / 2) (blank / 2) (i + 1)
    digest_next l r f =
        let p : Position = get_or seg i null_position in
        let here : r ≡ absorbed h (content_of bytes s p) =
        f p (rw t.held_mask (mask_here is_held seg i null_position l)) (rw t.blank_mask (mask_here is_blank_position seg i null_position l)) (rw g.words (cell_word seg i l)) in
        record {
          held_mask = rw t.held_mask (mask_after is_held seg i null_position l);
          blank_mask = rw t.blank_mask (mask_after is_blank_position seg i null_position l);
          left =
              ap (λ (u : State). absorbed u (rows (content_of bytes s) (drop (i + 1) seg))) here
              ∙ sym (absorbed_append (bytes / 64) h (content_of bytes s p) (rows (content_of bytes s) (drop (i + 1) seg)) (omega (arith, wide_here i l, g.pieces)))
              ∙ sym (split l)
              ∙ t.left;
        }
      where
        split : (l : i < length seg) → absorbed h (rows (content_of bytes s) (drop i seg)) ≡ absorbed h (content_of bytes s (get_or seg i null_position) ++ rows (content_of bytes s) (drop (i + 1) seg))
        split l = unfold joined in ap (λ (ps : Segment). absorbed h (rows (content_of bytes s) ps)) (drop_next seg i null_position l)

    pub digest_end : (n chunks : ℕ) → length seg ≡ n → n ≤ i → chunks ≡ n * bytes / 64 → finished h [] chunks ≡ digest (rows (content_of bytes s) seg)
    digest_end n chunks e l q =
        let all : List ℕ = rows (content_of bytes s) seg in
        let w : length all ≡ length seg * bytes =
        length_rows (content_of bytes s) bytes seg (each_of (λ p. length (content_of bytes s p) ≡ bytes) null_position seg wide_here) in
        let k : length all ≡ 64 * chunks = w ∙ ap (λ (m : ℕ). m * bytes) e ∙ whole_chunks n bytes g.pieces ∙ ap (λ (m : ℕ). 64 * m) (sym q) in
        ap (λ (u : State). finished u [] chunks)
        (sym (none h) ∙ ap (λ (ps : Segment). absorbed h (rows (content_of bytes s) ps)) (sym (drop_end seg i (omega arith))) ∙ t.left)
        ∙ by_parts all chunks k
      where
        none : (h : State) → absorbed h (rows (content_of bytes s) []) ≡ h
        none h = unfold absorbed absorb joined in refl
