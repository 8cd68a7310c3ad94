use mathlib.Core.Path.{sym}
use Rattle.retire.proofs.Cases.{zeros_long}
use Rattle.retire.proofs.retire_held.Goals as goal

pub slice_bounds-retire_with-end : goal.slice_bounds-retire_with-end
slice_bounds-retire_with-end c = sym (zeros_long 1024)

pub slice_bounds-retire_with-end-2 : goal.slice_bounds-retire_with-end-2
slice_bounds-retire_with-end-2 c = sym (zeros_long 1024)

pub slice_bounds-retire_with-end-3 : goal.slice_bounds-retire_with-end-3
slice_bounds-retire_with-end-3 c = sym (zeros_long 1024)

pub retire_with-requires : goal.retire_with-requires
retire_with-requires c = (c.requires.0, zeros_long 1024, zeros_long 1024, zeros_long 1024, c.requires.1)

pub returns : goal.returns
returns c = c.retire_with.ensures
