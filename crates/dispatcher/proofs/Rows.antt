-- Turns computed from the definitions: the record found and what the turn leaves, and runs of turns. One theorem, `rows_hold`.
use Prim.Native.Nat.{ℕ}
use mathlib.Core.Path.{◌≡◌, refl}
use mathlib.Core.Bool.{Bool, true, false, cond, not}
use mathlib.Core.List.{List, [], ◌∷◌}
use lib.Dec.{eqb}
use Rattle.lists.specs.Lists.{all_of, counted, every}
use Rattle.lists.specs.Search.{first_that}
use Rattle.dispatcher.specs.Turns.{waits, marks_present, is_turn, in_turn, next_till, idle_turn, served_turn, turn_for, turn_of}
use Rattle.dispatcher.specs.Claims.{with_marks, answers_for, serves, is_served}

data Row : Type 0 where
  -- a turn: the record, the answer, and the mask and the last till after it
  turn : (tills waiting last refusal : ℕ) (served : Bool) (till after lastAfter : ℕ) → Row
  -- a run of turns with these masks serves till t, or not
  run : (tills last : ℕ) (masks : List ℕ) (t : ℕ) (served : Bool) → Row

same : Bool → Bool → Bool
same a b = cond a b (not b)

holds : Row → Bool
holds (turn tills waiting last refusal served till after lastAfter) =
    let s = turn_of (record { tills = tills; waiting = waiting; last = last }) in
    all_of (eqb s.answer.refusal refusal
    ∷ same s.answer.served served
    ∷ eqb s.answer.till till
    ∷ eqb s.turn.tills tills
    ∷ eqb s.turn.waiting after
    ∷ eqb s.turn.last lastAfter
    ∷ [])
holds (run tills last masks t served) = same (is_served t (answers_for (record { tills = tills; waiting = 0; last = last }) masks)) served

rows : List Row
rows =
    -- the first after the last served, and round the circle; the till served last comes last
    turn 4 15 1 0 true 2 11 2
    ∷ turn 4 11 2 0 true 3 3 3
    ∷ turn 4 3 3 0 true 0 2 0
    ∷ turn 4 6 3 0 true 1 4 1
    ∷ turn 4 2 1 0 true 1 0 1
    -- till 0 is served, and it is not that none waits
    ∷ turn 4 1 0 0 true 0 0 0
    ∷ turn 4 0 3 0 false 0 0 3
    -- one till, and sixteen
    ∷ turn 1 1 0 0 true 0 0 0
    ∷ turn 16 32768 15 0 true 15 0 15
    ∷ turn 16 65535 15 0 true 0 65534 0
    -- no till, too many, a mark and a last till at the count
    ∷ turn 0 0 0 27 false 0 0 0
    ∷ turn 17 1 0 27 false 0 1 0
    ∷ turn 4 16 0 27 false 0 16 0
    ∷ turn 4 17 0 27 false 0 17 0
    ∷ turn 4 1 4 27 false 0 1 4
    -- till 1 waits among others that come and go; one turn less is not always enough
    ∷ run 4 1 (15 ∷ 11 ∷ 7 ∷ 14 ∷ []) 1 true
    ∷ run 4 1 (15 ∷ 15 ∷ 15 ∷ []) 1 false
    ∷ []

rows_hold : every holds rows ≡ true
unfolding rows holds same is_served serves answers_for with_marks turn_of turn_for served_turn idle_turn next_till in_turn is_turn marks_present waits first_that all_of counted every
rows_hold = refl
