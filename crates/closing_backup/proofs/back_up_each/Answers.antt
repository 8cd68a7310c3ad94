use native.Mathlib.Omega.{arith}
use borrow.Author.Rules.{rules}
use mathlib.Core.Path.{◌≡◌, refl, sym, ap, ◌∙◌}
use Rattle.std.proofs.Common.{ℕ, List, Result, Ok, Err}
use Rattle.std.specs.Result.{result_unwrap_or}
use Rattle.model.specs.Calls.{BackupAnswer}
use Rattle.refusals.specs.declared.Refusal.{Refusal}
use Rattle.refusals.specs.Refusals.{refusal_of}
use Rattle.backup.specs.Call.{backup_result}
use Prim.Native.Nat.{◌-◌}
use lib.ListN.{length}
use Rattle.closing_backup.proofs.Fits.{fits_are}
use Rattle.closing_backup.proofs.Going.{going_start, going_more, going_end, image_in, refusals_long, versions_long}
use Rattle.closing_backup.proofs.back_up_each.Goals as goal

-- an image's answer, by its two numbers
fields : (r : Result ℕ Refusal) (pool table : List ℕ)
    → ◌≡◌ {A = BackupAnswer} (record { refusal = refusal_of r; version = result_unwrap_or r 0; pool = pool; table = table }) (backup_result r pool table)
fields (Ok version) pool table = refl
fields (Err r) pool table = refl

pub loop-i-init : goal.loop-i-init
loop-i-init c = let a = c.args in
    let p = c.requires in
    (going_start _ _ _ _ _ _ _ _ _ _ p.0 (fits_are a.tills.now a.lengths.now a.images.now p.1) p.2 p.3, search rules, search rules)

pub bounds-lengths-i : goal.bounds-lengths-i
bounds-lengths-i c = omega (arith, c.loop-i.invariant.0.fit.same)

pub overflow_cast-end : goal.overflow_cast-end
overflow_cast-end c = omega (arith, c.shared_slice_known-in-loop-i-1.given c.loop-i.i)

pub overflow_add-end : goal.overflow_add-end
overflow_add-end c = omega (arith, image_in c.loop-i.invariant.0 (omega arith))

pub slice_bounds-backup-end : goal.slice_bounds-backup-end
slice_bounds-backup-end c = omega (arith, image_in c.loop-i.invariant.0 (omega arith))

pub backup-r-requires : goal.backup-r-requires
backup-r-requires c = (c.loop-i.invariant.0.sound, c.requires.4)

pub bounds-refusals-i : goal.bounds-refusals-i
bounds-refusals-i c = omega (arith, refusals_long c.loop-i.invariant.0, c.loop-i.invariant.0.fit.few)

pub bounds-versions-i : goal.bounds-versions-i
bounds-versions-i c = omega (arith, versions_long c.loop-i.invariant.0, c.loop-i.invariant.0.fit.few)

pub loop-i-preserved : goal.loop-i-preserved
loop-i-preserved c = (going_more c.loop-i.invariant.0 (omega arith) _ _ _ _ (rw (c.unwrap_or.ensures, c.answered.ensures) (fields _ _ _ ∙ c.backup-r.ensures)), omega arith, omega arith)

pub shape_of-refusals : goal.shape_of-refusals
shape_of-refusals c = refusals_long c.loop-i.invariant.0 ∙ sym (ap length c.requires.2)

pub shape_of-versions : goal.shape_of-versions
shape_of-versions c = versions_long c.loop-i.invariant.0 ∙ sym (ap length c.requires.3)

pub returns : goal.returns
returns c = going_end c.loop-i.invariant.0 (omega arith)
