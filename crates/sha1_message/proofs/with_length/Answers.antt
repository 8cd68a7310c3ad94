use Rattle.std.proofs.Common.{ℕ, refl, rules, arith, length-append, length-drop}
use lib.ListN.{length-take}
use Rattle.sha1_definition.specs.Sha1.{bytes_of}
use Rattle.sha1_message.proofs.Ends.{two_parts}
use Rattle.sha1_message.proofs.with_length.Goals as goal

pub slice_bounds-out-end-2 : goal.slice_bounds-out-end-2
slice_bounds-out-end-2 c = omega (arith, length-append {A = ℕ}, length-take {A = ℕ}, length-drop {A = ℕ}, c.copy_from_slice.ensures.len)

pub returns : goal.returns
unfolding bytes_of
returns c = rw (c.copy_from_slice.ensures.after, c.to_be_bytes.ensures, c.copy_from_slice-2.ensures.after, c.to_be_bytes-2.ensures)
    (two_parts c.args.chunk (bytes_of c.args.high) (bytes_of c.args.low) (search rules) refl refl)
