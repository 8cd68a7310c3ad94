-- A till's words with room for its slots, and a till with a version more.
use Rattle.std.specs.Prelude.{◌≡◌, List, [], ◌∷◌, ◌++◌, ℕ, suc, ◌+◌, ◌*◌, ◌-◌, ◌≤◌, ◌<◌, length, get_or}
use Rattle.lists.specs.Each.{Each}
use Rattle.model.specs.Measures.{parts_for}
use Rattle.model.specs.State.{Pointer, Version, Till}
use Rattle.model.specs.Calls.{with_newest_pointers}

-- where the newest held version's slot begins
abbrev pub newest_at : ℕ → List ℕ → ℕ
newest_at b till = 4 + (get_or till 1 0 - 1) * (3 + b)

-- the held versions' slots, for images of b blocks, are there
pub record Room (b : ℕ) (till : List ℕ) : Type 0 where
  pub small : b ≤ 1024
  pub four : 4 ≤ length till
  pub long : length till ≤ 65732
  pub slots : 4 + get_or till 1 0 * (3 + b) ≤ length till

-- the newest version is an image's, and has at most b blocks of so many bytes
abbrev pub FewBlocks : ℕ → ℕ → List ℕ → Type 0
FewBlocks bytes b till =
    0 < get_or till 1 0 → (get_or till (newest_at b till + 1) 0 ≤ 65536) × (parts_for bytes (get_or till (newest_at b till + 1) 0) ≤ b)

-- as many pointers as the length has blocks
pub record HasPointers (bytes b : ℕ) (u : Version) : Type 0 where
  pub blocks : length u.pointers ≡ parts_for bytes u.length
  pub most : length u.pointers ≤ b

pub record VersionsFit (bytes v b : ℕ) (t : Till) : Type 0 where
  pub most : length t.versions ≤ v
  pub versions : Each (HasPointers bytes b) t.versions

abbrev pub turned_till : Till → List Pointer → Till
turned_till t ps = record { last = t.last; rights = t.rights; versions = with_newest_pointers t.versions ps }

abbrev pub added_till : Till → ℕ → ℕ → List Pointer → Till
added_till t bytes day ps = record { last = suc t.last; rights = t.rights; versions = t.versions ++ (record { number = suc t.last; length = bytes; day = day; pointers = ps } ∷ []) }

-- the two words of the head, and the length, are as they were
pub record SameHead (old new : List ℕ) : Type 0 where
  pub size : length new ≡ length old
  pub last : get_or new 0 0 ≡ get_or old 0 0
  pub held : get_or new 1 0 ≡ get_or old 1 0

-- there is room for one slot more, and the last number given is at most 65,535
pub record HasFreeSlot (b : ℕ) (till : List ℕ) : Type 0 where
  pub slot : 4 + (get_or till 1 0 + 1) * (3 + b) ≤ length till
  pub number : get_or till 0 0 ≤ 65535
