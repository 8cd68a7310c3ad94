-- A record's content, put together position by position.
use mathlib.Core.Path.{◌≡◌, sym, ap, ◌∙◌}
use mathlib.Core.List.{List, [], ◌∷◌, ◌++◌, append-nil}
use mathlib.Core.Bool.{cond}
use Prim.Native.Nat.{ℕ, ◌+◌, ◌*◌, ◌/◌, ◌%◌, ◌≤◌, ◌<◌}
use native.Mathlib.Nat.{zero-mul}
use native.Mathlib.Omega.{arith}
use lib.ListN.{length, get_or, take, drop}
use lib.Seq.{take_all}
use Rattle.lists.specs.Masks.{mask_of}
use Rattle.lists.specs.Rows.{rows, joined}
use Rattle.lists.proofs.Places.{row_next}
use Rattle.lists.proofs.Rows.{rows_append}
use Rattle.lists.proofs.Slices.{front_more, take_next}
use Rattle.lists.proofs.Walks.{mask_after, mask_here}
use Rattle.model.specs.State.{Position, null_position, Segment, Storage}
use Rattle.model.specs.Records.{is_held, is_blank_position, cell_of}
use Rattle.model.specs.Table.{cells_in, record_to_words}
use Rattle.storage.proofs.Inside.{cell_is}
use Rattle.storage.proofs.Row.{blank_word, cell_word, held_word}
use Rattle.sent.specs.Sent.{content_of}
use Rattle.sent_laws.proofs.Content.{content_held}

module _ (bytes : ℕ) (pool : List ℕ) (s : Storage) (c : ℕ) (e : s.cells ≡ cells_in bytes pool) (z : 0 < bytes) (room : c * bytes + bytes ≤ length pool) where
  -- a held position's content is its cell's bytes
  pub held_bytes : (p : Position) (h : ℕ) → h ≡ cond (is_held p) 1 0 → h ≡ 1 → c ≡ cell_of p → take bytes (drop (c * bytes) pool) ≡ content_of bytes s p
  held_bytes p h q o r = cell_is bytes pool c z room s e ∙ content_held bytes s p h c q o r

-- the contents of the first i positions are at the front, and the masks are those of the others
pub record PutTo (bytes : ℕ) (s : Storage) (seg : Segment) (out : List ℕ) (h b i : ℕ) : Type 0 where
  pub mask : h ≡ mask_of is_held (drop i seg)
  pub blank : b ≡ mask_of is_blank_position (drop i seg)
  pub front : take (i * bytes) out ≡ rows (content_of bytes s) (take i seg)

pub put_start : (bytes : ℕ) (s : Storage) (seg : Segment) (out row : List ℕ) → row ≡ record_to_words seg → PutTo bytes s seg out (get_or row 0 0) (get_or row 2 0) 0
put_start bytes s seg out row e = record {
  mask = ap (λ (l : List ℕ). get_or l 0 0) e ∙ held_word seg;
  blank = ap (λ (l : List ℕ). get_or l 2 0) e ∙ blank_word seg;
  front = unfold joined in (ap (λ (i : ℕ). take i out) (zero-mul bytes));
}

module _ {bytes : ℕ} {s : Storage} {seg : Segment} {out : List ℕ} {h b i : ℕ} (t : PutTo bytes s seg out h b i) where
  module _ (l : i < length seg) (row : List ℕ) (e : row ≡ record_to_words seg) where
    abbrev p : Position
    p = get_or seg i null_position

    pub put_next : (ys : List ℕ) → length ys ≡ length out → i * bytes + bytes ≤ length out
        → ((p : Position) → h % 2 ≡ cond (is_held p) 1 0 → b % 2 ≡ cond (is_blank_position p) 1 0 → get_or row (3 + i) 0 ≡ cell_of p → ys ≡ take (i * bytes) out ++ (content_of bytes s p ++ drop (i * bytes + bytes) out))
        → PutTo bytes s seg ys (h / 2) (b / 2) (i + 1)
    put_next ys n room f =
        let is : ys ≡ take (i * bytes) out ++ (content_of bytes s p ++ drop (i * bytes + bytes) out) =
        f p (rw t.mask (mask_here is_held seg i null_position l)) (rw t.blank (mask_here is_blank_position seg i null_position l)) (rw e (cell_word seg i l)) in
        record {
          mask = rw t.mask (mask_after is_held seg i null_position l);
          blank = rw t.blank (mask_after is_blank_position seg i null_position l);
          front =
              ap (λ (k : ℕ). take k ys) (row_next i bytes)
              ∙ front_more out (content_of bytes s p) ys (i * bytes) bytes is n room
              ∙ ap (λ (l : List ℕ). l ++ content_of bytes s p) t.front
              ∙ sym (ap (rows (content_of bytes s)) (take_next seg i null_position l) ∙ rows_append (content_of bytes s) (take i seg) (p ∷ []) ∙ one);
        }
      where
        one : rows (content_of bytes s) (take i seg) ++ rows (content_of bytes s) (p ∷ []) ≡ rows (content_of bytes s) (take i seg) ++ content_of bytes s p
        one = unfold joined in ap (λ (l : List ℕ). rows (content_of bytes s) (take i seg) ++ l) (append-nil (content_of bytes s p))

  pub put_end : (n : ℕ) → length seg ≡ n → length out ≡ n * bytes → i ≡ n → out ≡ rows (content_of bytes s) seg
  put_end n e l q =
      let z : length out ≤ i * bytes = rw q (omega (arith, l)) in
      sym (take_all (i * bytes) out z) ∙ t.front ∙ ap (rows (content_of bytes s)) (take_all i seg (omega (arith, e, q)))

-- a piece that was put is another's equal
pub put_same : (out ys b : List ℕ) (at k : ℕ) {c : List ℕ} → ys ≡ take at out ++ (b ++ drop (at + k) out) → b ≡ c → ys ≡ take at out ++ (c ++ drop (at + k) out)
put_same out ys b at k e q = e ∙ ap (λ (l : List ℕ). take at out ++ (l ++ drop (at + k) out)) q
