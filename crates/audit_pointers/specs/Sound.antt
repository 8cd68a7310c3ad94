-- What is asked of a version's pointer words.
use Rattle.std.specs.Prelude.{true, ◌≡◌, List, map, ℕ}
use Rattle.lists.specs.Lists.{every}
use Rattle.lists.specs.Each.{Each}
use Rattle.model.specs.State.{Storage}
use Rattle.model.specs.Table.{word_to_pointer}
use Rattle.model.specs.Sound.{resolves}
use Rattle.audit_words.specs.Words.{IsPointerWord}

-- the word says a pointer, which leads to a held position or to a block of the newer version that is not null
pub record PointerSound (storage : Storage) (newer : List ℕ) (w : ℕ) : Type 0 where
  pub canonical : IsPointerWord w
  pub resolves : resolves storage (map word_to_pointer newer) (word_to_pointer w) ≡ true

-- each does
pub record PointersSound (storage : Storage) (newer words : List ℕ) : Type 0 where
  pub canonical : Each IsPointerWord words
  pub resolves : every (resolves storage (map word_to_pointer newer)) (map word_to_pointer words) ≡ true
