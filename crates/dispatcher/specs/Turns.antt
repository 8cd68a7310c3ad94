-- §12 of the requests: the turn record of three numbers, and a turn.
use Rattle.std.specs.Prelude.{ℕ, ◌+◌, ◌-◌, ◌/◌, ◌%◌, ◌^◌, Bool, true, false, cond, List, [], ◌∷◌, leb, ltb, eqb}
use Rattle.std.proofs.Math.Option.{Option, none, some}
use Rattle.lists.specs.Lists.{all_of, counted}
use Rattle.lists.specs.Search.{first_that}
use Rattle.dispatcher.specs.declared.Turn.{Turn}
use Rattle.dispatcher.specs.declared.Stepped.{Stepped}

-- till t has a mark: bit t of the mask
unfoldable pub waits : ℕ → ℕ → Bool
waits mask t = eqb (mask / 2 ^ t % 2) 1

-- no mark at or above the till count
unfoldable pub marks_present : ℕ → ℕ → Bool
marks_present tills mask = ltb mask (2 ^ tills)

-- a turn record: 1 to 16 tills, no mark at or above their count, and the till served last below it
unfoldable pub is_turn : Turn → Bool
is_turn r = all_of (leb 1 r.tills ∷ leb r.tills 16 ∷ marks_present r.tills r.waiting ∷ ltb r.last r.tills ∷ [])

-- the tills in the order of their turns: those after the last served, round the circle, that one at the end
unfoldable pub in_turn : ℕ → ℕ → List ℕ
in_turn tills last = counted (λ k. (last + k) % tills) 1 tills

-- the first waiting till after the last served, if one waits
unfoldable pub next_till : Turn → Option ℕ
next_till r = first_that (waits r.waiting) (in_turn r.tills r.last)

-- ---- a turn: its answer, and the record after it

-- none is served, and the record stays
unfoldable pub idle_turn : ℕ → Turn → Stepped
idle_turn refusal r = record { answer = record { refusal = refusal; served = false; till = 0 }; turn = r }

-- the one served becomes the last and loses its mark
unfoldable pub served_turn : Turn → ℕ → Stepped
served_turn r t = record {
  answer = record { refusal = 0; served = true; till = t };
  turn = record { tills = r.tills; waiting = r.waiting - 2 ^ t; last = t };
}

unfoldable pub turn_for : Turn → Option ℕ → Stepped
turn_for r none = idle_turn 0 r
turn_for r (some t) = served_turn r t

-- what is no turn record is refused with 27
unfoldable pub turn_of : Turn → Stepped
turn_of r = cond (is_turn r) (turn_for r (next_till r)) (idle_turn 27 r)
