-- The two passes of a bill: the tills with a direct pointer to a position are the bits of its mark, and the price is divided among them.
use Rattle.std.specs.Prelude.{ℕ, zero, suc, ◌+◌, ◌*◌, ◌-◌, ◌/◌, ◌%◌, ◌^◌, ◌≤◌, ◌<◌, Bool, cond, not, List, [], ◌∷◌, length, get_or, set, take, drop, replicate, eqb, ltb}
use Rattle.std.specs.Int.Count.{ones}
use Rattle.lists.specs.Lists.{every}
use Rattle.lists.specs.Walk.{walk}
use Rattle.model.specs.Table.{kind_unit}
use Rattle.audit_tills.specs.Sound.{till_pointers}
use Rattle.bill.specs.Bill.{BillAnswer}

-- ---- the marks

-- a mark with a bit that none of its bits is above
unfoldable pub with_bit : ℕ → ℕ → ℕ
with_bit bit mark = cond (ltb mark bit) (mark + bit) mark

-- the marks after one more word: a direct pointer puts the bit into the mark of its position, if there is one
unfoldable pub mark_word : ℕ → ℕ → List ℕ → List ℕ
mark_word bit w marks = cond (eqb (w / kind_unit) 1) (set marks (w % kind_unit) (with_bit bit (get_or marks (w % kind_unit) 0))) marks

unfoldable pub mark_words : ℕ → List ℕ → List ℕ → List ℕ
mark_words bit [] marks = marks
mark_words bit (w ∷ ws) marks = mark_words bit ws (mark_word bit w marks)

-- no word is a direct pointer to a position below 65,536
unfoldable pub none_direct : List ℕ → Bool
none_direct ws = every (λ w. not (eqb (w / 65536) 256)) ws

-- till t of those of `width` words each
abbrev pub till_row : ℕ → List ℕ → ℕ → List ℕ
till_row width tills t = take width (drop (t * width) tills)

-- after the first `n` tills: bit t is till t's
unfoldable pub mark_tills : ℕ → ℕ → ℕ → List ℕ → ℕ → List ℕ → List ℕ
mark_tills bytes b width tills zero marks = marks
mark_tills bytes b width tills (suc t) marks = mark_words (2 ^ t) (till_pointers bytes b (till_row width tills t)) (mark_tills bytes b width tills t marks)

-- the slots in use of `count` tills lie within their words
pub record TillRows (width count b : ℕ) (tills : List ℕ) : Type 0 where
  pub inside : count * width ≤ length tills
  pub few : (t : ℕ) → t < count → get_or (till_row width tills t) 1 0 ≤ 64
  pub room : (t : ℕ) → t < count → 4 + get_or (till_row width tills t) 1 0 * (3 + b) ≤ width

-- ---- the sums

-- what a till gets, by its bit, of a quotient and the tenths that are left
abbrev pub part_of : ℕ → ℕ → ℕ → ℕ
part_of q zero left = 0
part_of q (suc bit) zero = q
part_of q (suc bit) (suc left) = q + 1

abbrev pub out_part : ℕ → ℕ → ℕ → ℕ → ℕ
out_part q bit left sum = sum + part_of q bit left

abbrev pub next_part : ℕ → ℕ → ℕ
next_part bit left = left - bit

-- to the tills of a mark
abbrev pub share_out : ℕ → ℕ → ℕ → List ℕ → List ℕ
share_out q mark left sums = walk (out_part q) next_part mark left sums

abbrev pub shared : ℕ → ℕ → List ℕ → List ℕ
shared p mark sums = share_out (p / ones mark) mark (p % ones mark) sums

unfoldable pub share_all : ℕ → List ℕ → List ℕ → List ℕ
share_all p [] sums = sums
share_all p (mark ∷ marks) sums = share_all p marks (shared p mark sums)

-- a mark for each position that a pointer can name
unfoldable pub no_marks : List ℕ
no_marks = replicate 65536 0

abbrev pub billed_tills : ℕ → ℕ → ℕ → List ℕ → ℕ → ℕ → ℕ → BillAnswer
billed_tills bytes b width tills count records p = record { refusal = 0; sums = share_all p (take (records * 16) (mark_tills bytes b width tills count no_marks)) (replicate 16 0) }
