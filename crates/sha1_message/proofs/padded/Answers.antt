use Rattle.std.proofs.Common.{ℕ, List, ◌++◌, length, drop, set, replicate, refl, ap, sym, ◌∙◌, arith}
use lib.Seq.{take_all}
use Rattle.lists.proofs.Copies.{mark_end}
use Rattle.sha1_message.proofs.padded.Goals as goal

pub returns : goal.returns
returns c = let s = c.args.tail.now in
    ap (λ (l : List ℕ). set (l ++ drop (length s) (replicate {A = ℕ} 64 0)) (length s) 128) (c.copy_from_slice.ensures.after ∙ sym (take_all (length s) s (omega arith)))
    ∙ mark_end s 64 (length s) 128 refl (omega arith)
