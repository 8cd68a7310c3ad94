-- What §12 says of turns: of each one, of the marks, and of a run of them. The proofs are in proofs/OneTurn.antt and proofs/Fairness.antt.
use Rattle.std.specs.Prelude.{ℕ, ◌≤◌, ◌<◌, ◌≡◌, ◌↔◌, Bool, true, false, cond, List, [], ◌∷◌, length, get_or, take, eqb}
use Rattle.lists.specs.Lists.{every}
use Rattle.dispatcher.specs.declared.Turn.{Turn}
use Rattle.dispatcher.specs.declared.Served.{Served}
use Rattle.dispatcher.specs.Turns.{waits, marks_present, is_turn, turn_of}

-- ---- one turn

pub record EachTurn (r : Turn) : Type 0 where
  -- what is no turn record is refused, and comes back as it was
  pub refused : is_turn r ≡ false → ((turn_of r).answer ≡ record { refusal = 27; served = false; till = 0 }) × ((turn_of r).turn ≡ r)
  -- a turn record is accepted, and is one again
  pub accepted : is_turn r ≡ true → ((turn_of r).answer.refusal ≡ 0) × (is_turn (turn_of r).turn ≡ true)
  -- none waits: the turn says so, and the record stays
  pub idle : is_turn r ≡ true → ((t : ℕ) → t < r.tills → waits r.waiting t ≡ false) → ((turn_of r).answer ≡ record { refusal = 0; served = false; till = 0 }) × ((turn_of r).turn ≡ r)
  -- one waits: one is served
  pub busy : is_turn r ≡ true → (t : ℕ) → waits r.waiting t ≡ true → (turn_of r).answer.served ≡ true
  -- the one served is present and waited; it becomes the last and loses its mark; the other marks and the till count stay
  pub present : (turn_of r).answer.served ≡ true → (turn_of r).answer.till < r.tills
  pub waited : (turn_of r).answer.served ≡ true → waits r.waiting (turn_of r).answer.till ≡ true
  pub last : (turn_of r).answer.served ≡ true → (turn_of r).turn.last ≡ (turn_of r).answer.till
  pub marks : (turn_of r).answer.served ≡ true → (t : ℕ) → waits (turn_of r).turn.waiting t ≡ cond (eqb t (turn_of r).answer.till) false (waits r.waiting t)
  pub tills : (turn_of r).turn.tills ≡ r.tills

-- `marks_present` says what it is to say: no till at or above the count has a mark
abbrev pub MarksBelow : Type 0
MarksBelow = (tills mask : ℕ) → (marks_present tills mask ≡ true) ↔ ((t : ℕ) → tills ≤ t → waits mask t ≡ false)

-- ---- a run of turns

-- the record with other marks; till count and last till stay
unfoldable pub with_marks : Turn → ℕ → Turn
with_marks r mask = record { tills = r.tills; waiting = mask; last = r.last }

-- the answers of a run of turns, a mask for each: the marks change as they may, till count and last till stay as the turn before left them
unfoldable pub answers_for : Turn → List ℕ → List Served
answers_for r [] = []
answers_for r (mask ∷ masks) = let s = turn_of (with_marks r mask) in s.answer ∷ answers_for s.turn masks

unfoldable pub serves : ℕ → Served → Bool
serves t a = cond a.served (eqb a.till t) false

-- one of the answers serves till t
unfoldable pub is_served : ℕ → List Served → Bool
is_served t [] = false
is_served t (a ∷ answers) = let r = is_served t answers in cond (serves t a) true r

-- till t keeps waiting: each turn finds its mark, unless one before has served it
abbrev pub KeepsWaiting : ℕ → Turn → List ℕ → Type 0
KeepsWaiting t r masks = (i : ℕ) → i < length masks → is_served t (take i (answers_for r masks)) ≡ false → waits (get_or masks i 0) t ≡ true

-- "A till that keeps waiting is served within as many turns as there are tills, however the marks of the others present change, till count and last till
-- staying as the turn before left them."
abbrev pub Fair : Type 0
Fair = (r : Turn) (t : ℕ) (masks : List ℕ)
    → is_turn r ≡ true
    → length masks ≡ r.tills
    → every (marks_present r.tills) masks ≡ true
    → KeepsWaiting t r masks
    → is_served t (answers_for r masks) ≡ true
