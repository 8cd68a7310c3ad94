use Rattle.restore.proofs.Lent.{first_fits}
use Rattle.restore.proofs.Lent.{too_short, restored}
use native.Mathlib.Omega.{arith}
use Rattle.restore.proofs.restore_slots.Goals as goal

pub overflow_cast-length : goal.overflow_cast-length
overflow_cast-length c = let p = c.requires in record { fits = first_fits _ _ _ _ p.stored.measured p.blocks (p.traceable.fits 0) p.traceable.small }

pub returns-then-output-length : goal.returns-then-output-length
returns-then-output-length c = too_short _ _ _ _ _ _ c.requires.traceable.some c.if-output-length.true

pub restore_image-hops-requires : goal.restore_image-hops-requires
restore_image-hops-requires c = record { stored = c.requires.stored; traceable = (c.requires.traceable, c.requires.fit); slots_len = (c.requires.blocks, omega (arith, c.if-output-length.false)) }

pub returns : goal.returns
returns c = restored _ _ _ _ _ _ c.requires.traceable.some _ _ (omega (arith, c.if-output-length.false)) c.restore_image-hops.ensures.hops c.restore_image-hops.ensures.bytes
