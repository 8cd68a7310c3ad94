use Rattle.std.proofs.Common.{◌≡◌, ℕ, ◌+◌, ◌*◌, ◌-◌, ◌%◌, List, length, drop, length-append, length-drop, refl, sym, ap, ◌∙◌, arith}
use Rattle.audit_words.proofs.Chunks.{behind, one_more}
use Rattle.bill_sums.specs.Marks.{mark_words}
use Rattle.bill_sums.proofs.Passes.{words_append}
use Rattle.bill_sums.proofs.mark_words.Goals as goal

pub mark_group-requires : goal.mark_group-requires
mark_group-requires c = (c.loop-group.invariant.kept ∙ c.requires.0, c.requires.1)

pub loop-group-preserved : goal.loop-group-preserved
loop-group-preserved c = let s = c.in-Some.ensures.steps in
    let v = c.loop-group.invariant in
    let a = c.args in
    let k = length c.loop-group.yielded in
    let l = s.1.1 ∙ v.size in
    rw (one_more c.loop-group.yielded c.in-Some.group) (record {
      can_next = omega (arith, s.0, v.can_next);
      is_finite = tt;
      size = s.0 ∙ v.size;
      inside = omega (arith, l, length-drop (k * 32) a.words.now, ap length (v.left ∙ s.1.0), length-append c.in-Some.group.now c.next.new.self.rest.now, v.inside);
      left = behind _ _ _ k 32 (v.left ∙ s.1.0) l;
      kept = c.mark_group.auto.marks ∙ v.kept;
      marked =
          ap (mark_words a.bit c.next.new.self.rest.now) c.mark_group.ensures
          ∙ sym (words_append a.bit c.in-Some.group.now c.next.new.self.rest.now c.loop-group.marks)
          ∙ ap (λ (ws : List ℕ). mark_words a.bit ws c.loop-group.marks) (sym s.1.0) ∙ v.marked;
    })

pub mark_group-requires-2 : goal.mark_group-requires-2
mark_group-requires-2 c = (c.loop-group.invariant.kept ∙ c.requires.0, c.requires.1)

pub shape_of-marks : goal.shape_of-marks
shape_of-marks c = c.mark_group-2.auto.marks ∙ c.loop-group.invariant.kept

pub returns : goal.returns
returns c =
    let v = c.loop-group.invariant in
    let a = c.args in
    let n = length a.words.now in
    let k = length c.loop-group.yielded in
    let at : n - n % 32 ≡ k * 32 = omega (arith, v.inside, v.size, c.in-None.ensures.steps.1.0, ap length v.left, length-drop (k * 32) a.words.now) in
    let rest = c.remainder-rest.ensures ∙ c.chunks_exact-groups.ensures.remainder ∙ ap (λ (i : ℕ). drop i a.words.now) at ∙ v.left in
    c.mark_group-2.ensures ∙ ap (λ (ws : List ℕ). mark_words a.bit ws c.loop-group.marks) rest ∙ v.marked
