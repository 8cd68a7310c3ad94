use Rattle.std.proofs.Common.{arith, ap, ap₂, sym, ◌∙◌, ◌≡◌, ◌<◌, ℕ, Bool, true, List, [], length, map}
use Rattle.std.proofs.Math.Option.{Option, none, some}
use mathlib.Core.List.{map-id}
use lib.Count.{ones}
use Rattle.lists.specs.Lists.{first_from}
use Rattle.lists.proofs.Puts.{as_none, as_some, first_found}
use Rattle.model.specs.Image.{blocks_from, with_blanks}
use Rattle.model.specs.Place.{stored_blocks}
use Rattle.model.specs.Records.{is_free}
use Rattle.model.specs.Runs.{Run, scan}
use Rattle.model.specs.State.{Segment}
use Rattle.model.specs.Table.{records_in}
use Rattle.numbers.specs.Measures.{measures_of}
use Rattle.place_free.specs.Found.{found}
use Rattle.place_segment.specs.Conditions.{Masked}
use Rattle.place_segment.proofs.Results.{did_full, did_tight, few_marks}
use Rattle.place_segment.proofs.Need.{need_few, need_is, need_some}
use Rattle.runs.specs.Runs.{free_if, run_found}
use Rattle.storage.proofs.Read.{stored_records}
use Rattle.place_segment.proofs.write_segment.Goals as goal

-- a free record that is found is one of the records
one_of : (segs : List Segment) (k : ℕ) → some k ≡ first_from is_free 0 segs → k < length segs
one_of segs k e = (first_found [] is_free segs k (sym e)).0

-- what the search is for
sought : (r : Option Run) (n need : ℕ) (free : List Bool) → need ≡ n → r ≡ scan need (map (free_if true) free) 0 0 none → r ≡ scan n free 0 0 none
sought r n need free e s = s ∙ ap₂ (λ (k : ℕ) (fs : List Bool). scan k fs 0 0 none) e (map-id free)

pub free_record-requires : goal.free_record-requires
free_record-requires c = let st = c.requires.0.stored in (st.measured.most_blocks, stored_records _ st, st.short)

pub returns-in_default : goal.returns-in_default
returns-in_default c =
    let n = length (records_in c.args.m.blocks c.args.records.now) in
    did_full c.requires.0 c.requires.1 c.requires.2 n (omega arith) (as_none n n (omega arith) ∙ sym (ap found c.in_default.is) ∙ c.free_record.ensures)

pub best_run-requires : goal.best_run-requires
best_run-requires c = (need_some (measures_of c.args.m) c.args.image.now c.args.from c.args.masks.stored c.args.masks.blank c.requires.1, omega (arith, few_marks c.requires.0))

pub returns-in_default-best_run : goal.returns-in_default-best_run
returns-in_default-best_run c =
    let segs = records_in c.args.m.blocks c.args.records.now in
    let below = one_of segs c.in-Some.k.0 c.in-Some.ensures in
    let need = need_is (measures_of c.args.m) c.args.image.now c.args.from c.args.masks.stored c.args.masks.blank c.requires.1 in
    did_tight c.requires.0 c.requires.1 c.requires.2 c.in-Some.k.0 below (as_some (length segs) c.in-Some.k.0 below ∙ c.in-Some.ensures)
    (sym (sought _ _ _ c.args.free.now need c.best_run.ensures) ∙ ap run_found c.in_default-best_run.is)

pub write_record-requires-clause-k_in_bounds : goal.write_record-requires-clause-k_in_bounds
write_record-requires-clause-k_in_bounds c =
    let segs = records_in c.args.m.blocks c.args.records.now in
    let below = one_of segs c.in-Some.k.0 c.in-Some.ensures in
    (below, as_some (length segs) c.in-Some.k.0 below ∙ c.in-Some.ensures)

pub write_record-requires-clause-run_is : goal.write_record-requires-clause-run_is
write_record-requires-clause-run_is c =
    let need = need_is (measures_of c.args.m) c.args.image.now c.args.from c.args.masks.stored c.args.masks.blank c.requires.1 in
    sought _ _ _ c.args.free.now need c.in-Some-best_run.ensures
