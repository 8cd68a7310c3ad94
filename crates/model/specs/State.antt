-- "What the store holds". Cells, blocks and records are numbered from 0, as are tills.
use Rattle.std.specs.Prelude.{ℕ, Bool, List}

-- the bytes of a block or a cell
abbrev pub Block : Type 0
Block = List ℕ

-- A version's pointer for one of its blocks: the block is all zero; or all 255s; or it is a position of a segment record; or it is the block of that
-- number of the same till's next newer held version.
pub data Pointer : Type 0 where
  null_pointer : Pointer
  blank_pointer : Pointer
  direct : (segment position : ℕ) → Pointer
  indirect : (block : ℕ) → Pointer

-- A position of a segment record: null, blank, held (its cell, and the count of direct pointers to it), or removed.
pub data Position : Type 0 where
  null_position : Position
  blank_position : Position
  held : (cell count : ℕ) → Position
  removed : Position

-- A segment record is its positions, as many as a segment has blocks. All are null in a free record.
abbrev pub Segment : Type 0
Segment = List Position

-- The segment records and the cells, which all tills share.
pub record Storage : Type 0 where
  pub records : List Segment
  pub cells : List Block

-- its number, its length in bytes, its day, and one pointer for each block
pub record Version : Type 0 where
  pub number : ℕ
  pub length : ℕ
  pub day : ℕ
  pub pointers : List Pointer

-- a version with other pointers
abbrev pub with_pointers : Version → List Pointer → Version
with_pointers v ps = record { number = v.number; length = v.length; day = v.day; pointers = ps }

-- §9: how many users there are beside the owner, who is user 0: they are users 1 to 7
abbrev pub staff : ℕ
staff = 7

-- what a user may do with a till
pub record Rights : Type 0 where
  pub list : Bool
  pub back_up : Bool
  pub restore : Bool
  pub retire : Bool

-- the last number given; the rights of users 1 to 7; and the held versions, the oldest first
pub record Till : Type 0 where
  pub last : ℕ
  pub rights : List Rights
  pub versions : List Version

pub record State : Type 0 where
  pub tills : List Till
  pub storage : Storage

-- what a step gives: the number of the refusal, or its result
pub data Outcome {ℓ} (A : Type ℓ) : Type ℓ where
  refused : ℕ → Outcome A
  done : A → Outcome A
