use native.Mathlib.Omega.{arith}
use mathlib.Core.Path.{ap, ◌∙◌}
use mathlib.Core.List.{List}
use Prim.Native.Nat.{ℕ, ◌+◌, ◌≤◌}
use lib.ListN.{length}
use Rattle.audit_counts.specs.Counters.{counts_after}
use Rattle.audit_padding.proofs.Blocks.{slot_fits}
use Rattle.audit_tills.proofs.Slots.{two_fit, few_words, mine_words, newer_none, newer_some, points_of}
use borrow.Author.Rules.{rules}
use borrow.Author.Rules.{rules}
use Rattle.audit_tills.proofs.slot_pointers_sound.Goals as goal

pub slice_bounds-pointer_count-end : goal.slice_bounds-pointer_count-end
slice_bounds-pointer_count-end c =
    let one : 3 + c.args.blocks ≤ length c.args.slots.now = (slot_fits c.args.blocks c.args.count _ c.requires.1 c.requires.4) in
    omega (arith, one)

pub slice_bounds-pointers_sound-end-then-count-lt2 : goal.slice_bounds-pointers_sound-end-then-count-lt2
slice_bounds-pointers_sound-end-then-count-lt2 c =
    let one : 3 + c.args.blocks ≤ length c.args.slots.now = (slot_fits c.args.blocks c.args.count _ c.requires.1 c.requires.4) in
    omega (arith, one, c.pointer_count-mine.ensures.1)

pub pointers_sound-requires : goal.pointers_sound-requires
pointers_sound-requires c = (search rules, λ k. omega (arith, c.requires.5 k, few_words c.args.slots.now _ c.args.blocks c.pointer_count-mine.ensures.1))

pub returns-then-count-lt2 : goal.returns-then-count-lt2
returns-then-count-lt2 c = let a = c.args in
    let w = mine_words a.m.bytes a.blocks a.count a.slots.now _ c.pointer_count-mine.ensures.0 c.pointer_count-mine.ensures.1 in
    let e = c.pointers_sound.ensures in
    (λ storage q. points_of a.m.bytes a.blocks a.count a.slots.now storage _ _ (newer_none a.m.bytes a.blocks a.count a.slots.now (search rules)) w (e.0 storage q), λ t. e.1 t ∙ ap (λ (ws : List ℕ). counts_after ws a.counts.now) w)

pub slice_bounds-pointer_count-end-2 : goal.slice_bounds-pointer_count-end-2
slice_bounds-pointer_count-end-2 c =
    let two : 3 + c.args.blocks + (3 + c.args.blocks) ≤ length c.args.slots.now = (two_fit c.args.blocks c.args.count _ (search rules) c.requires.4) in
    omega (arith, two)

pub slice_bounds-pointers_sound-end-2 : goal.slice_bounds-pointers_sound-end-2
slice_bounds-pointers_sound-end-2 c =
    let two : 3 + c.args.blocks + (3 + c.args.blocks) ≤ length c.args.slots.now = (two_fit c.args.blocks c.args.count _ (search rules) c.requires.4) in
    omega (arith, two, c.pointer_count.ensures.1)

pub slice_bounds-pointers_sound-end-3 : goal.slice_bounds-pointers_sound-end-3
slice_bounds-pointers_sound-end-3 c =
    let two : 3 + c.args.blocks + (3 + c.args.blocks) ≤ length c.args.slots.now = (two_fit c.args.blocks c.args.count _ (search rules) c.requires.4) in
    omega (arith, two, c.pointer_count-mine.ensures.1)

pub pointers_sound-requires-2 : goal.pointers_sound-requires-2
pointers_sound-requires-2 c = (search rules, λ k. omega (arith, c.requires.5 k, few_words c.args.slots.now _ c.args.blocks c.pointer_count-mine.ensures.1))

pub returns : goal.returns
returns c = let a = c.args in
    let w = mine_words a.m.bytes a.blocks a.count a.slots.now _ c.pointer_count-mine.ensures.0 c.pointer_count-mine.ensures.1 in
    let e = c.pointers_sound-2.ensures in
    (λ storage q. points_of a.m.bytes a.blocks a.count a.slots.now storage _ _ (newer_some a.m.bytes a.blocks a.count a.slots.now _ (search rules) c.pointer_count.ensures.0 c.pointer_count.ensures.1) w (e.0 storage q), λ t. e.1 t ∙ ap (λ (ws : List ℕ). counts_after ws a.counts.now) w)
