-- "Storage billed to the tenth of a cent" (§14): the price of every occupied cell, divided among the tills that refer to it. Prices and sums are tenths of
-- a cent.
use Rattle.std.specs.Prelude.{ℕ, zero, suc, ◌+◌, ◌*◌, ◌/◌, ◌%◌, ◌≡◌, Bool, true, false, cond, List, [], ◌∷◌, map, length, replicate, eqb, ltb}
use Rattle.std.proofs.Math.Option.{Option, none, some}
use Rattle.lists.specs.Lists.{count, total, all_of}
use Rattle.lists.specs.Rows.{rows, fill}
use Rattle.model.specs.State.{Pointer, null_pointer, blank_pointer, direct, indirect, Storage, Version, Till, State}
use Rattle.model.specs.Records.{is_held, cell_of, position_at, named_cells}
use Rattle.model.specs.Sound.{Store, store_of}
use Rattle.model.specs.Rights.{owner_refusal, unless}

-- a direct reference to cell `c`
abbrev pub refers_to : Storage → ℕ → Pointer → Bool
refers_to storage c null_pointer = false
refers_to storage c blank_pointer = false
refers_to storage c (direct k i) = all_of (is_held (position_at storage k i) ∷ eqb (cell_of (position_at storage k i)) c ∷ [])
refers_to storage c (indirect n) = false

-- a till with a direct reference to the cell, however many it has
unfoldable pub pays : Storage → ℕ → Till → Bool
pays storage c till = ltb 0 (count (refers_to storage c) (rows (λ (v : Version). v.pointers) till.versions))

-- "each gets the whole quotient, and the remaining tenths go one each to the lowest": of quotient `q` and `r` tenths left, to those of the tills that pay
unfoldable pub shares : ℕ → ℕ → List Bool → List ℕ
shares q r [] = []
shares q r (false ∷ pay) = 0 ∷ shares q r pay
shares q zero (true ∷ pay) = q ∷ shares q zero pay
shares q (suc r) (true ∷ pay) = suc q ∷ shares q r pay

-- "A price p per occupied cell … is divided among the tills with a direct reference to it"
unfoldable pub divided : ℕ → List Bool → List ℕ
divided p pay = shares (p / count (λ b. b) pay) (p % count (λ b. b) pay) pay

unfoldable pub added : List ℕ → List ℕ → List ℕ
added [] sums = sums
added (x ∷ xs) [] = x ∷ xs
added (x ∷ xs) (y ∷ ys) = (x + y) ∷ added xs ys

-- every till's sum over some cells
unfoldable pub bill_for : ℕ → State → List ℕ → List ℕ
bill_for p st [] = replicate (length st.tills) 0
bill_for p st (c ∷ cells) = added (divided p (map (pays st.storage c) st.tills)) (bill_for p st cells)

-- over the occupied cells
unfoldable pub bill : ℕ → State → List ℕ
bill p st = bill_for p st (named_cells st.storage.records)

-- ---- the call: 10, 22, 23, 30; the bill is the owner's

-- the sums of 16 tills, 0 past the last
pub record BillAnswer : Type 0 where
  pub refusal : ℕ
  pub sums : List ℕ

unfoldable pub bill_refused : ℕ → BillAnswer
bill_refused n = record { refusal = n; sums = fill 16 [] }

unfoldable pub bill_in : Option Store → ℕ → BillAnswer
bill_in none p = bill_refused 10
bill_in (some store) p = cond (ltb 10000 p) (bill_refused 30) (record { refusal = 0; sums = fill 16 (bill p store.state) })

-- for the owner, and for any user
unfoldable pub bill_of : List ℕ → List ℕ → ℕ → BillAnswer
bill_of pool table p = bill_in (store_of pool table) p

unfoldable pub bill_as : List ℕ → List ℕ → ℕ → ℕ → BillAnswer
bill_as pool table user p = unless (owner_refusal (store_of pool table) user) bill_refused (bill_of pool table p)

-- ---- the claim

-- "The sums together are exactly p × occupied cells", on every sound store, hence "whatever has been backed up or retired"
abbrev pub BillIsExact : Type 0
BillIsExact =
    (pool table : List ℕ) (store : Store) (user p : ℕ) → store_of pool table ≡ some store → (bill_as pool table user p).refusal ≡ 0
    → total (λ n. n) (bill_as pool table user p).sums ≡ p * length (named_cells store.state.storage.records)
