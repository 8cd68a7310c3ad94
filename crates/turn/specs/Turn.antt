-- The words of pointers that turn.
use Rattle.std.specs.Prelude.{◌≡◌, cond, List, [], ◌∷◌, ℕ, eqb}
use Rattle.std.proofs.Math.Option.{Option, none, some}
use Rattle.model.specs.Image.{image_blocks, with_blanks}
use Rattle.model.specs.Measures.{Measures}
use Rattle.model.specs.State.{Pointer}
use Rattle.model.specs.Table.{pointer_word, storage_in, word_to_pointer}
use Rattle.model.specs.Turn.{target}
use Rattle.storage.specs.Fits.{WithinRecords}

-- the word is that of a pointer, which can be followed into the records' `l` words, of `n` positions each
pub record WordFits (n l w : ℕ) : Type 0 where
  pub canonical : pointer_word (word_to_pointer w) ≡ w
  pub fits : WithinRecords n l (word_to_pointer w)

-- a pointer that its word gives back, and that can be followed there
pub record Followable (n l : ℕ) (p : Pointer) : Type 0 where
  pub back : word_to_pointer (pointer_word p) ≡ p
  pub fits : WithinRecords n l p

-- a pointer's word once the pointer has turned, if it does
unfoldable pub target_word : ℕ → Option Pointer → ℕ
target_word w none = w
target_word w (some q) = pointer_word q

-- what a pointer's word turns into, as a word
unfoldable pub target_of : Measures → List ℕ → List ℕ → List ℕ → ℕ → ℕ
target_of m image pool ws w = target_word w (target with_blanks (storage_in m pool ws) (image_blocks m.block_bytes image) (word_to_pointer w))

-- those of the words whose target is another
unfoldable pub released_of : List ℕ → List ℕ → List ℕ
released_of [] ts = []
released_of (w ∷ ws) [] = []
released_of (w ∷ ws) (t ∷ ts) = let r = released_of ws ts in cond (eqb t w) r (w ∷ r)

abbrev pub word_if : ℕ → ℕ → List ℕ
word_if w t = cond (eqb t w) [] (w ∷ [])
