use Rattle.std.proofs.Common.{ℕ, ◌+◌, ◌*◌, ◌/◌, ◌%◌, List, ◌∷◌, ◌++◌, length, replicate, refl, ap, ◌∙◌, ap₂, arith, length-drop}
use Rattle.sha1_definition.specs.declared.State.{State}
use Rattle.sha1_definition.specs.Sha1.{bytes_of, absorbed, zeros, digest_in}
use Rattle.lists.proofs.Slices.{tail_all}
use Rattle.sha1_message.proofs.Ends.{finish_is}
use Rattle.sha1_message.proofs.finish.Goals as goal

pub close-r-requires : goal.close-r-requires
close-r-requires c = let r = c.args.rest.now in
    let at : ℕ = length r / 64 * 64 in
    rw (tail_all r at) (omega (arith, length-drop at r))

pub returns : goal.returns
unfolding digest_in
returns c = let r = c.args.rest.now in
    let n : ℕ = length r in
    let total : ℕ = (c.args.chunks + n / 64) % 18446744073709551616 in
    let high : ℕ = total / 8388608 % 4294967296 in
    let low : ℕ = total % 8388608 * 512 + n % 64 * 8 in
    ap digest_in
    (c.close-r.ensures
    ∙ ap₂ (λ (s : State) (l : List ℕ). absorbed s (l ++ (128 ∷ (replicate (zeros (length l)) 0 ++ (bytes_of high ++ bytes_of low)))))
    c.absorb_all-s.ensures
    (tail_all r (n / 64 * 64)))
    ∙ finish_is c.args.h r c.args.chunks high low
    refl
    refl
