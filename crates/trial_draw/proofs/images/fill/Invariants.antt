use Rattle.std.proofs.Common.{◌≡◌, ◌⊎◌, ℕ, ◌≤◌, ◌<◌, get_or}
use Rattle.trial_draw.proofs.images.fill.Given as goal

abbrev pub invariant-loop-i : goal.invariant-loop-i
invariant-loop-i l = (k : ℕ) → k < l.i → l.p.letter ≤ 9 → (get_or l.image k 0 ≤ 8) ⊎ (get_or l.image k 0 ≡ 255)
