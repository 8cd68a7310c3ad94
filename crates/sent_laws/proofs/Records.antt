-- A record can match if it is equal to its own content, as a backup's test has it.
use mathlib.Core.Path.{◌≡◌, refl}
use mathlib.Core.Bool.{Bool, true, false, cond, not}
use mathlib.Core.List.{[], ◌∷◌, map}
use Prim.Native.Nat.{ℕ}
use lib.Dec.{eqb}
use Rattle.lists.specs.Lists.{every, all_zero}
use Rattle.lists.proofs.Tests.{every_replicate}
use Rattle.lists.proofs.Same.{same_refl}
use Rattle.model.specs.State.{null_position, blank_position, held, removed, Segment, Storage}
use Rattle.model.specs.Image.{with_blanks, is_blank, zero_block, blank_block}
use Rattle.model.specs.Records.{cell_at, equals}
use Rattle.sent.specs.Sent.{lets, content_of}

pub lets_equals : (bytes : ℕ) (storage : Storage) (seg : Segment) → equals with_blanks storage (map (content_of bytes storage) seg) seg ≡ every (lets storage) seg
unfolding equals every zero_block blank_block is_blank all_zero
lets_equals bytes storage [] = refl
lets_equals bytes storage (null_position ∷ ps) = rw (every_replicate (λ x. eqb x 0) bytes 0 refl) (lets_equals bytes storage ps)
lets_equals bytes storage (blank_position ∷ ps) =
    rw (every_replicate (λ x. eqb x 255) bytes 255 refl) (lets_equals bytes storage ps)
lets_equals bytes storage (held c n ∷ ps) =
    rw (same_refl (cell_at storage c), lets_equals bytes storage ps) (flip (is_blank with_blanks (cell_at storage c)) (every (lets storage) ps))
  where
    flip : (b r : Bool) → cond (cond b false true) r false ≡ cond (not b) r false
    flip true r = refl
    flip false r = refl
lets_equals bytes storage (removed ∷ ps) = refl
