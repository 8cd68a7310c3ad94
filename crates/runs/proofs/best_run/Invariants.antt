use Rattle.std.proofs.Common.{◌≡◌, ◌*◌, ◌≤◌, length, drop, map}
use Rattle.std.proofs.Math.Option.{none}
use Rattle.std.specs.Slice.Iter.{chunks_exact_rest, chunks_exact_size}
use Rattle.model.specs.Runs.{scan}
use Rattle.runs.specs.Runs.{free_if, found_at_end}
use Rattle.runs.proofs.best_run.Given as goal

-- the iterator has the marks that the search has not passed
abbrev pub invariant-loop-piece : goal.invariant-loop-piece
invariant-loop-piece l =
    (goal.iterator-loop-piece).can_next l.piece-iterator
    × (goal.iterator-loop-piece).is_finite l.piece-iterator
    × (chunks_exact_size l.piece-iterator ≡ 64)
    × (chunks_exact_rest l.piece-iterator ≡ drop l.search.at l.marks)
    × (l.search.at ≡ 64 * length l.yielded)
    × (l.search.at ≤ length l.marks)
    × (l.search.run ≤ l.search.at)
    × (found_at_end l.free l.need l.marks l.search ≡ scan l.need (map (free_if l.free) l.marks) 0 0 none)
